-- Who owns the parent of a path.
use Rattle.std.proofs.Common.{◌≡◌, ◌≤◌, true, false, List, [], ◌∷◌, length, drop, get_or, arith, refl, sym, ◌∙◌}
use Rattle.std.specs.Prelude.{◌&&◌}
use Rattle.wx_tree.specs.Paths.{Path, has_entry}
use Rattle.wx_tree.specs.Roots.{same_root}
use Rattle.wx_tree.specs.declared.root.Root.{Root}
use Rattle.wx_recursor.specs.Steps.{owns_parent}
use Rattle.wx_recursor.specs.declared.owner.Owner.{Owner}
use Rattle.wx_recursor.proofs.OwnerLemmas.{owns_more}

-- what the first of them says

pub owns_first : (r : Root) (p : Path) (os : List Owner) (o : Owner) → 1 ≤ length os → o ≡ get_or os 0 o → same_root r o.root ≡ true → has_entry o.path p ≡ true → owns_parent r p os ≡ true
owns_first r p [] o h e f g = absurd (omega arith)
owns_first r p (x ∷ os) o h e f g = owns_more r p x os ∙ rw (sym e) (rw (f, g) refl)

pub owns_rest : (r : Root) (p : Path) (os : List Owner) (o : Owner) → 1 ≤ length os → o ≡ get_or os 0 o → (same_root r o.root && has_entry o.path p) ≡ false → owns_parent r p (drop 1 os) ≡ owns_parent r p os
owns_rest r p [] o h e f = absurd (omega arith)
owns_rest r p (x ∷ os) o h e f = sym (owns_more r p x os ∙ rw (sym e) (rw f refl))
