use Rattle.wx_rebuild.proofs.AskedLemmas.{replay_asks}
use Rattle.wx_rebuild.proofs.laws.replays_ask_for_causes.Goals as goal

pub returns : goal.returns
returns c = replay_asks
