use Rattle.wx_follow.proofs.ActedLaws.{made_create}
use Rattle.wx_follow.proofs.script_hooks.create.Goals as goal

pub returns-in-Ok-clause-made : goal.returns-in-Ok-clause-made
returns-in-Ok-clause-made c =
    rw (c.push_reserved.ensures.items, c.in-Ok.ensures.created) (made_create c.args.handler.now.past c.reserve.new.self.items c.args.handler.now.acts c.in-Ok.job c.in-Ok.field-0-0 c.in_ok-copy.field-0 c.in-Ok.ensures.handle (rw c.reserve.ensures.items c.requires.made))
