use Rattle.std.proofs.Common.{◌≡◌, arith, drop, sym, ◌∙◌}
use Rattle.std.proofs.lemmas.Grind.{common_steps}
use Rattle.std.proofs.lemmas.Bool.{and_right, and_left}
use Rattle.wx_recursor.specs.Steps.{owns_parent}
use Rattle.wx_step.proofs.Sought.{owns_first, owns_rest}
use Rattle.wx_step.proofs.probing.owns_parent.Goals as goal
use Rattle.wx_step.proofs.probing.owns_parent.Goals.{else-is_same-via-then-is_same+else-has_entry, else-is_same-via-else-is_same}

pub returns-then-has_entry : goal.returns-then-has_entry
returns-then-has_entry c =
    sym (owns_first c.args.root.now c.args.path.now c.loop-rest.rest.now c.first-item.result c.in-len1-up.len_at_least c.first-item.is (sym c.is_same.ensures ∙ c.if-is_same.true) (sym c.has_entry.ensures ∙ c.if-has_entry.true)) ∙ c.loop-rest.invariant

pub loop-rest-preserved : goal.loop-rest-preserved
loop-rest-preserved c =
    elim c.else-is_same.branch [
      | else-is_same-via-then-is_same+else-has_entry w ↦
          let e : owns_parent c.args.root.now c.args.path.now (drop 1 c.loop-rest.rest.now) ≡ owns_parent c.args.root.now c.args.path.now c.loop-rest.rest.now =
          owns_rest c.args.root.now c.args.path.now c.loop-rest.rest.now c.first-item.result c.in-len1-up.len_at_least c.first-item.is (and_right _ _ (sym w.has_entry.ensures ∙ w.if-has_entry.false)) in
          grind (arith, common_steps)
      | else-is_same-via-else-is_same w ↦
          let e : owns_parent c.args.root.now c.args.path.now (drop 1 c.loop-rest.rest.now) ≡ owns_parent c.args.root.now c.args.path.now c.loop-rest.rest.now =
          owns_rest c.args.root.now c.args.path.now c.loop-rest.rest.now c.first-item.result c.in-len1-up.len_at_least c.first-item.is (and_left _ _ (sym c.is_same.ensures ∙ w.if-is_same.false)) in
          grind (arith, common_steps)
    ]
