use Rattle.std.proofs.Common.{◌≡◌, ◌∷◌, false, replicate}
use Rattle.wx_patterns.proofs.rows.new_row.Given as goal

abbrev pub invariant-loop-i : goal.invariant-loop-i
invariant-loop-i l = l.row.items ≡ l.first ∷ replicate l.i false
