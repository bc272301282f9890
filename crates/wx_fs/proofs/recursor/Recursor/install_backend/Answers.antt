use Rattle.wx_holding.specs.Holding.{state_of}
use Rattle.wx_fs.proofs.Keeping.{installed_kept, restless, unspent_keeps}
use Rattle.wx_fs.proofs.recursor.Recursor.install_backend.Goals as goal

pub invariant_of-self : goal.invariant_of-self
invariant_of-self g c =
    let s = state_of c.args.self.now.held in
    let t = state_of c.install.new.held in
    record { keeps = unspent_keeps s t c.args.self.now.spent c.args.self.now.spent c.if-self.false c.args.self.now.keeps (installed_kept s t c.install.ensures); rests = restless t c.args.self.now.spent }
