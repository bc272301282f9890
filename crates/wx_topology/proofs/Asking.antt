-- Who owns the parent of a path, where what is cleared is owned no more.
use Rattle.std.proofs.Common.{◌≡◌, ◌≤◌, true, false, not, ◌&&◌, ◌||◌, List, [], ◌∷◌, length, drop, get_or, arith, refl, sym, ◌∙◌, inl, inr}
use Rattle.std.proofs.lemmas.Bool.{cases_Bool}
use Rattle.wx_tree.specs.Paths.{Path, has_entry}
use Rattle.wx_tree.specs.Roots.{same_root}
use Rattle.wx_tree.specs.declared.root.Root.{Root}
use Rattle.wx_recursor.specs.Rebuilds.{is_under_any}
use Rattle.wx_recursor.specs.Steps.{owns_parent}
use Rattle.wx_recursor.specs.declared.owner.Owner.{Owner}
use Rattle.wx_recursor.proofs.OwnerLemmas.{owns_more}
use Rattle.wx_topology.specs.Drafts.{spared}

spared_owns : (r : Root) (p : Path) (cs : List Path) (o : Owner) (os : List Owner) → owns_parent r p (spared cs (o ∷ os)) ≡ ((not (is_under_any o.path cs) && (same_root r o.root && has_entry o.path p)) || owns_parent r p (spared cs os))
spared_owns r p cs o os =
    elim (cases_Bool (is_under_any o.path cs)) [
      | inl e ↦ rw e refl
      | inr e ↦ rw e (owns_more r p o (spared cs os))
    ]

pub asked_first : (r : Root) (p : Path) (cs : List Path) (os : List Owner) (o : Owner) → 1 ≤ length os → o ≡ get_or os 0 o → (not (is_under_any o.path cs) && (same_root r o.root && has_entry o.path p)) ≡ true → owns_parent r p (spared cs os) ≡ true
asked_first r p cs [] o h e f = absurd (omega arith)
asked_first r p cs (x ∷ os) o h e f = spared_owns r p cs x os ∙ rw (sym e) (rw f refl)

pub asked_rest : (r : Root) (p : Path) (cs : List Path) (os : List Owner) (o : Owner) → 1 ≤ length os → o ≡ get_or os 0 o → (not (is_under_any o.path cs) && (same_root r o.root && has_entry o.path p)) ≡ false → owns_parent r p (spared cs (drop 1 os)) ≡ owns_parent r p (spared cs os)
asked_rest r p cs [] o h e f = absurd (omega arith)
asked_rest r p cs (x ∷ os) o h e f = sym (spared_owns r p cs x os ∙ rw (sym e) (rw f refl))
