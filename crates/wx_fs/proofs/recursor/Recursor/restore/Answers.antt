use Rattle.std.proofs.Math.Logic.{∥∥₁_map}
use Rattle.std.proofs.Common.{refl}
use Rattle.wx_holding.specs.Holding.{state_of}
use Rattle.wx_recursor.specs.Rebuilds.{installed}
use Rattle.wx_fs.proofs.Keeping.{installed_kept, rests_installed}
use Rattle.wx_fs.proofs.recursor.Recursor.restore.Goals as goal

pub invariant_of-self : goal.invariant_of-self
invariant_of-self g c =
    let s = state_of c.args.self.now.held in
    record { keeps = ∥∥₁_map c.args.self.now.keeps (λ k e. installed_kept s (installed s) refl (k e)); rests = rests_installed s (installed s) c.args.self.now.spent c.args.self.now.at_rest refl c.args.self.now.rests }
