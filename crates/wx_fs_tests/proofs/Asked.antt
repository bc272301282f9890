-- What a step may ask about.
use Rattle.std.proofs.Common.{◌≡◌, true, false, Bool, List, [], ◌∷◌, inl, inr, subst}
use Rattle.std.specs.Prelude.{◌||◌, not}
use Rattle.std.proofs.lemmas.Bool.{and_parts}
use Rattle.wx_tree.specs.Lists.{In}
use Rattle.wx_tree.specs.Paths.{Path}
use Rattle.wx_tree.specs.declared.root.Root.{Root}
use Rattle.wx_recursor.specs.Owners.{has_path}
use Rattle.wx_recursor.proofs.OwnerLemmas.{has_path_in}
use Rattle.wx_step.specs.Asking.{AreAllowed}
use Rattle.wx_fs_tests.specs.Allowed.{all_allowed}

one_allowed : (recursive has : Bool) → (not recursive || has) ≡ true → recursive ≡ true → has ≡ true
one_allowed false has h e = absurd cc
one_allowed true has h e = h

pub allowed : (under : List Path) (roots : List Root) → all_allowed under roots ≡ true → AreAllowed under roots
allowed under [] h = λ r m. absurd m
allowed under (x ∷ xs) h =
    let a = and_parts (not x.recursive || has_path x.path under) (all_allowed under xs) h in
    λ r m e. elim m [
      | inl b ↦ (let k : x.recursive ≡ true = rw b e in subst (λ y. In y.path under) b (has_path_in x.path under (one_allowed x.recursive (has_path x.path under) a.0 k)))
      | inr b ↦ allowed under xs a.1 r b e
    ]
