use Rattle.std.proofs.Common.{◌≡◌, arith, ◌∙◌}
use Rattle.std.proofs.lemmas.Grind.{common_steps}
use Rattle.std.proofs.lemmas.Result.{IfOk-weaker}
use Rattle.wx_tree.specs.Places.{place}
use Rattle.wx_topology.proofs.Standing.{entry_place}
use Rattle.wx_topology.proofs.aliases.entry_in.Goals as goal

pub returns : goal.returns
returns c =
    IfOk-weaker c.new-3.result (λ p. p ≡ place c.new.result) _
    (λ p h. h ∙ entry_place c.args.path.now c.args.directory.now c.in_ok-path.field-0 c.new.result c.requires.parts c.requires.below c.in_ok-path.ensures.spelled c.in_ok-path.ensures.back (grind (arith, common_steps)))
    c.new-3.ensures
