use Rattle.wx_holding.specs.Holding.{state_of}
use Rattle.wx_recursor.specs.Calls.{removed}
use Rattle.wx_fs.proofs.Keeping.{either_keeps, removed_kept, restless, unspent_keeps}
use Rattle.wx_fs.proofs.recursor.Recursor.topology_remove.Goals as goal

pub invariant_of-self : goal.invariant_of-self
invariant_of-self g c =
    let s = state_of c.args.self.now.held in
    let t = state_of c.remove.new.held in
    record { keeps = unspent_keeps s t c.args.self.now.spent c.args.self.now.spent c.if-self.false c.args.self.now.keeps (either_keeps c.remove.result s t (removed c.in_ok-place.place s) c.remove.ensures.state c.remove.ensures.unchanged (removed_kept c.in_ok-place.place s t)); rests = restless t c.args.self.now.spent }
