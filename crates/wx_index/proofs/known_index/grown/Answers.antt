use Rattle.wx_index.proofs.AskedLemmas.{indexed_some}
use Rattle.wx_index.proofs.known_index.grown.Goals as goal

pub returns-in-Ok : goal.returns-in-Ok
returns-in-Ok c = λ ks is. c.in-Ok.ensures ks (indexed_some ks c.args.index c.in-Some.index c.in-Some.is is)
