use Rattle.std.proofs.Common.{◌∙◌, ap, arith}
use Rattle.wx_tree.specs.Places.{place, spelled}
use Rattle.wx_mem_tree.proofs.Listed.{root_listed, with_below}
use Rattle.wx_mem_tree.proofs.children.Children.with.Goals as goal

pub returns-then-depth-eq0 : goal.returns-then-depth-eq0
returns-then-depth-eq0 c = λ es e is same len. root_listed es e c.args.path.now c.args.self is same (omega (arith, c.depth.ensures, c.if-depth-eq0.true))

pub returns : goal.returns
returns c =
    let bytes = c.text.ensures ∙ c.in_ok-parent.ensures.spelled in
    let back = ap place c.text.ensures ∙ c.in_ok-parent.ensures.back in
    with_below c.below.result c.args.path.now c.text.result.now c.args.at c.args.self (λ h. omega (arith, h, c.depth.ensures, c.if-depth-eq0.false)) (bytes ∙ ap spelled c.in_ok-up.ensures) (back ∙ c.in_ok-up.ensures) c.below.ensures
