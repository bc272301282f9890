use Rattle.wx_holding.specs.Holding.{state_of}
use Rattle.wx_recursor.specs.Calls.{rescanned}
use Rattle.wx_fs.proofs.Keeping.{either_keeps, rescanned_kept, restless, unspent_keeps}
use Rattle.wx_fs.proofs.recursor.Recursor.rescan.Goals as goal

pub invariant_of-self : goal.invariant_of-self
invariant_of-self g c =
    let s = state_of c.args.self.now.held in
    let t = state_of c.rescan.new.self in
    record { keeps = unspent_keeps s t c.args.self.now.spent c.args.self.now.spent c.if-self.false c.args.self.now.keeps (either_keeps c.rescan.result s t (rescanned s) c.rescan.ensures.state c.rescan.ensures.unchanged (rescanned_kept s t)); rests = restless t c.args.self.now.spent }
