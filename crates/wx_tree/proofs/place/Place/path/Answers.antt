use Rattle.std.proofs.Common.{arith, sym}
use Rattle.std.proofs.lemmas.Grind.{common_steps}
use Rattle.wx_tree.proofs.PlaceLemmas.{spelled_back}
use Rattle.wx_tree.proofs.place.Place.path.Goals as goal

pub returns-clause-back : goal.returns-clause-back
returns-clause-back c = spelled_back c.args.self.now c.new.result (rw (sym c.self.view_is) c.self.invariant) (grind (arith, common_steps))
