-- What all paths begin with is spelled by components, which are read again.
use Rattle.std.proofs.Common.{◌≡◌, true, false, cond, ℕ, ◌<◌, List, [], ◌∷◌, length, map, refl, sym, ap, subst, ◌∙◌, Option, arith}
use Rattle.std.specs.Prelude.{◌==◌}
use Rattle.std.specs.List.{fold}
use Rattle.std.proofs.lemmas.Bool.{ne_eqb}
use Rattle.std.specs.Str.{bytes_eq}
use Rattle.wx_paths.specs.Paths.{components, both_begin, all_begin, some_path, common_prefix, shared_components, IsLongestFront}
use Rattle.wx_paths.specs.FrontLaws.{all_begin-longest}
use Rattle.wx_paths.proofs.SpellLemmas.{AreNames}
use Rattle.wx_paths.proofs.ComponentLemmas.{AreComponents, components_are, components-path_of}

pub names_both : (ps qs : List (List ℕ)) → AreNames ps → AreNames (both_begin ps qs)
names_both [] qs h = tt
names_both (p ∷ ps) [] h = tt
names_both (p ∷ ps) (q ∷ qs) h = elim (bytes_eq p q) as (λ b. AreNames (cond b (p ∷ both_begin ps qs) [])) [ true ↦ (h.0, names_both ps qs h.1) | false ↦ tt ]

pub components_both : (ps qs : List (List ℕ)) → AreComponents ps → AreComponents (both_begin ps qs)
components_both [] qs h = tt
components_both (p ∷ ps) [] h = tt
components_both (p ∷ ps) (q ∷ qs) h = elim (bytes_eq p q) as (λ b. AreComponents (cond b (p ∷ both_begin ps qs) [])) [ true ↦ (h.0, names_both ps qs h.1) | false ↦ tt ]

pub components_fold : (ps : List (List ℕ)) (lists : List (List (List ℕ))) → AreComponents ps → AreComponents (fold both_begin ps lists)
components_fold ps [] h = h
components_fold ps (qs ∷ lists) h = components_fold (both_begin ps qs) lists (components_both ps qs h)

pub shared_again : (list : List (List ℕ)) → AreComponents list → shared_components (some_path list) ≡ list
shared_again [] h = refl
shared_again (part ∷ list) h =
    let some : (length (part ∷ list) == 0) ≡ false = ne_eqb _ _ (λ f. omega (arith, f)) in
    rw some (components-path_of (part ∷ list) h)

pub shared_longest : (paths : List (List ℕ)) (common : Option (List ℕ)) → common ≡ common_prefix paths → 0 < length paths → IsLongestFront (map components paths) (shared_components common)
shared_longest [] common e some = absurd (omega (arith, some))
shared_longest (path ∷ paths) common e some =
    let P : List (List ℕ) → Type 0 = λ list. IsLongestFront (map components (path ∷ paths)) list in
    let again : shared_components common ≡ all_begin (map components (path ∷ paths)) = ap shared_components e ∙ shared_again _ (components_fold (components path) (map components paths) (components_are path)) in
    subst P (sym again) (all_begin-longest (components path) (map components paths))
