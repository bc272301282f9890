use Rattle.std.proofs.Common.{refl}
use Rattle.wx_topology.specs.Drafts.{drafted}
use Rattle.wx_topology.proofs.Drafting.{lifts}
use Rattle.wx_topology.proofs.drafts.Draft.lift.Goals as goal

pub returns : goal.returns
returns c s =
    lifts (drafted s c.args.self.now) c.args.path.now c.in_ok-copy.field-0 c.args.self.now.lifted.items c.push.new.self.items s.tombstones c.args.self.now.tombstones.items c.lift_one.new.tombstones.items
    refl c.in_ok-push.ensures.items c.in_ok-copy.ensures c.lift_one.ensures
