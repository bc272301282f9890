use Rattle.std.proofs.Common.{false}
use Rattle.wx_holding.specs.Holding.{state_of}
use Rattle.wx_fs.proofs.Keeping.{prepared_kept, restless, unspent_keeps}
use Rattle.wx_fs.proofs.recursor.Recursor.prepare_backend_rebuild.Goals as goal

pub invariant_of-self-2 : goal.invariant_of-self-2
invariant_of-self-2 g c =
    let s = state_of c.args.self.now.held in
    let t = state_of c.prepare.new.held in
    record { keeps = unspent_keeps s t c.args.self.now.spent false c.if-self.false c.args.self.now.keeps (prepared_kept s t c.in_ok-prepare.ensures); rests = restless t false }
