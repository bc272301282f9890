use Rattle.std.proofs.Common.{refl}
use Rattle.wx_file_turns.proofs.stepping.rebuild_where.Goals as goal

pub returns-then-asked-clause-rebuilds : goal.returns-then-asked-clause-rebuilds
returns-then-asked-clause-rebuilds g c = rw c.if-asked.true c.rebuild.ensures.rebuilds

pub returns-clause-rebuilds : goal.returns-clause-rebuilds
returns-clause-rebuilds g c = rw c.if-asked.false (refl, refl)
