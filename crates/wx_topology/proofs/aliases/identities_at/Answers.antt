use Rattle.wx_topology.proofs.Standing.{all_identities}
use Rattle.wx_topology.proofs.aliases.identities_at.Goals as goal

pub returns : goal.returns
returns c =
    all_identities c.args.path.now c.in_ok-copy.field-0 c.args.known.now c.args.guards.now c.new-out.result.items c.push.new.self.items c.put_identities_of.new.out.items _
    c.new-out.ensures.items c.in_ok-copy.ensures c.in_ok-push.ensures.items c.in_ok-put_identities_of.ensures c.in_ok-put_identities_of-2.ensures
