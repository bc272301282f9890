use Rattle.wx_holding.specs.Holding.{state_of}
use Rattle.wx_recursor.specs.Calls.{renamed}
use Rattle.wx_fs.proofs.Keeping.{either_keeps, renamed_kept, restless, unspent_keeps}
use Rattle.wx_fs.proofs.recursor.Recursor.topology_rename.Goals as goal

pub invariant_of-self : goal.invariant_of-self
invariant_of-self g c =
    let s = state_of c.args.self.now.held in
    let t = state_of c.rename.new.held in
    record { keeps = unspent_keeps s t c.args.self.now.spent c.args.self.now.spent c.if-self.false c.args.self.now.keeps (either_keeps c.rename.result s t (renamed c.in_ok-left.left c.in_ok-reached.reached s) c.rename.ensures.state c.rename.ensures.unchanged (renamed_kept c.in_ok-left.left c.in_ok-reached.reached s t)); rests = restless t c.args.self.now.spent }
