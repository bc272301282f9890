-- What registered paths cover, one after the other.
use Rattle.std.proofs.Common.{◌≡◌, ℕ, Bool, true, false, List, [], ◌∷◌, ◌++◌, refl, ap, sym, ◌∙◌, inl, inr}
use Rattle.std.specs.Prelude.{◌&&◌, ◌||◌, not, is_some}
use Rattle.std.proofs.lemmas.Bool.{cases_Bool}
use Rattle.wx_tree.specs.Paths.{same_part}
use Rattle.wx_tree.proofs.PathLemmas.{same_part-true}
use Rattle.wx_scan.specs.Backings.{is_registered, unregister}
use Rattle.wx_poller.specs.Covering.{covers, is_covered}
use Rattle.wx_poller.specs.Listings.{Sight, seen_at}
use Rattle.wx_poller.proofs.Sights.{registered_last}

pub covered_first : (seen : List Sight) (e r : List ℕ) (rs : List (List ℕ)) (p : List ℕ)
    → is_covered seen (unregister e (r ∷ rs)) p ≡ ((not (same_part r e) && covers seen r p) || is_covered seen (unregister e rs) p)
covered_first seen e r rs p = elim (cases_Bool (same_part r e)) [ inl a ↦ rw a refl | inr a ↦ rw a refl ]

-- a path that is sought is kept, another one isn't
pub lone_more : (sought : List ℕ → Bool) (s : Sight) (rest : List Sight) (ks : List (List ℕ)) (p : List ℕ) → sought s.0 ≡ true
    → (is_registered p (ks ++ s.0 ∷ []) || (sought p && is_some (seen_at rest p))) ≡ (is_registered p ks || (sought p && is_some (seen_at (s ∷ rest) p)))
lone_more sought s rest ks p h =
    elim (cases_Bool (same_part s.0 p)) [
      | inl a ↦ (let e : sought p ≡ true = ap sought (sym (same_part-true s.0 p a)) ∙ h in rw (registered_last p s.0 ks, a, e) (all (is_registered p ks) (is_some (seen_at rest p))))
      | inr a ↦ rw (registered_last p s.0 ks, a) (none (is_registered p ks) (sought p && is_some (seen_at rest p)))
    ]
  where
    all : (a b : Bool) → ((a || true) || (true && b)) ≡ (a || (true && true))
    all true b = refl
    all false b = refl

    none : (a b : Bool) → ((a || false) || b) ≡ (a || b)
    none true b = refl
    none false b = refl

pub lone_same : (sought : List ℕ → Bool) (s : Sight) (rest : List Sight) (ks : List (List ℕ)) (p : List ℕ) → sought s.0 ≡ false
    → (is_registered p ks || (sought p && is_some (seen_at rest p))) ≡ (is_registered p ks || (sought p && is_some (seen_at (s ∷ rest) p)))
lone_same sought s rest ks p h =
    elim (cases_Bool (same_part s.0 p)) [
      | inl a ↦ (let e : sought p ≡ false = ap sought (sym (same_part-true s.0 p a)) ∙ h in rw (a, e) refl)
      | inr a ↦ rw a refl
    ]

pub lone_end : (a b : Bool) → (a || (b && false)) ≡ a
lone_end true b = refl
lone_end false true = refl
lone_end false false = refl
