use Rattle.std.proofs.Common.{List, ◌∷◌, [], ◌++◌, ap, ◌∙◌}
use Rattle.wx_pass.specs.Asked.{Handle}
use Rattle.wx_live_run.proofs.Given.{front_of}
use Rattle.wx_live_run.proofs.live_run.take_in.Goals as goal

pub returns : goal.returns
returns g c = front_of c.args.pass c.from_vec.result c.args.items.made c.in-Ok.given.given c.args.items.given c.in-Ok.given.left c.in-Ok.given.sent
    (c.from_vec.ensures ∙ c.push_reserved.ensures.items ∙ ap (λ (l : List Handle). l ++ c.args.pass ∷ []) c.requires.room.0)
    c.requires.one.0 c.requires.one.1 c.in-Ok.ensures.sent.1 c.in-Ok.ensures.delivered c.in-Ok.ensures.only c.in-Ok.ensures.given
