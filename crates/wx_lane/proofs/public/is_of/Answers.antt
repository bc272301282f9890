use Rattle.std.proofs.Common.{rules}
use Rattle.wx_lane.proofs.PublicLemmas.{told_of}
use Rattle.wx_lane.proofs.public.is_of.Goals as goal

pub returns : goal.returns
returns c = told_of c.args.root.now c.args.folder.now c.args.path.now c.met-at.result c.is_of_met.result (search rules) c.is_of_met.ensures
