use Rattle.std.proofs.Math.Logic.{∥∥₁_map}
use Rattle.std.proofs.Common.{refl}
use Rattle.wx_holding.specs.Holding.{state_of}
use Rattle.wx_recursor.specs.Rebuilds.{lent}
use Rattle.wx_fs.proofs.Keeping.{lent_kept, rests_lent}
use Rattle.wx_fs.proofs.recursor.Recursor.lend.Goals as goal

pub invariant_of-self : goal.invariant_of-self
invariant_of-self g c =
    let s = state_of c.args.self.now.held in
    record { keeps = ∥∥₁_map c.args.self.now.keeps (λ k e. lent_kept s (lent s) refl (k e)); rests = rests_lent s (lent s) c.args.self.now.spent c.args.self.now.at_rest refl c.args.self.now.rests }
