use Rattle.std.proofs.Common.{refl}
use Rattle.wx_topology.specs.Drafts.{drafted}
use Rattle.wx_topology.proofs.Drafting.{clears}
use Rattle.wx_topology.proofs.drafts.Draft.clear.Goals as goal

pub returns : goal.returns
returns c s = clears (drafted s c.args.self.now) c.args.path.now c.in_ok-copy.field-0 c.args.self.now.cleared.items c.push.new.self.items s.owners refl c.in_ok-push.ensures.items c.in_ok-copy.ensures
