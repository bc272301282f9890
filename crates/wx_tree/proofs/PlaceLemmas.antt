-- The bytes of a path lead back to it, and the place that bytes name has parts.
use Rattle.std.proofs.Common.{◌≡◌, ℕ, zero, suc, true, false, List, [], ◌∷◌, ◌++◌, refl, ap, sym, ◌∙◌, inl, inr, append_assoc}
use Rattle.std.specs.Prelude.{◌==◌, not, drop, take}
use Rattle.std.proofs.lemmas.Bool.{cases_Bool, and_parts, and_from}
use Rattle.std.proofs.lemmas.List.{append-nil}
use Rattle.wx_tree.specs.Paths.{Part, Path}
use Rattle.wx_tree.specs.Places.{slash, push_part, place_from, place, parts_spelled, spelled, has_no_slash, is_part, AreParts}

pub part-read : (x bytes part : List ℕ) (path : Path) → has_no_slash x ≡ true → place_from (x ++ bytes) part path ≡ place_from bytes (part ++ x) path
part-read [] bytes part path h = ap (λ c. place_from bytes c path) (sym (append-nil part))
part-read (b ∷ x) bytes part path h =
    let a = and_parts (not (b == slash)) (has_no_slash x) h in
    elim (cases_Bool (b == slash)) [
      | inl e ↦ absurd (let k : not (b == slash) ≡ true = a.0 in let m : not true ≡ true = (rw e at k) in cc)
      | inr e ↦ rw e (part-read x bytes (part ++ b ∷ []) path a.1 ∙ ap (λ c. place_from bytes c path) (append_assoc part (b ∷ []) x))
    ]

pub part-pushed : (x : Part) (path : Path) → is_part x ≡ true → push_part x path ≡ x ∷ path
part-pushed [] path h = cc
part-pushed (b ∷ x) path h = refl

pub part-clean : (x : Part) → is_part x ≡ true → has_no_slash x ≡ true
part-clean [] h = cc
part-clean (b ∷ x) h = h

parts-read : (p : Path) (bytes : List ℕ) → AreParts p → place_from (parts_spelled p ++ slash ∷ bytes) [] [] ≡ place_from bytes [] p
parts-read [] bytes g = refl
parts-read (x ∷ p) bytes g =
    let a : (parts_spelled p ++ slash ∷ x) ++ slash ∷ bytes ≡ parts_spelled p ++ slash ∷ (x ++ slash ∷ bytes) = append_assoc (parts_spelled p) (slash ∷ x) (slash ∷ bytes) in
    rw a (parts-read p (x ++ slash ∷ bytes) g.1 ∙ (part-read x (slash ∷ bytes) [] p (part-clean x g.0) ∙ ap (λ q. place_from bytes [] q) (part-pushed x p g.0)))

pub place_spelled : (p : Path) → AreParts p → place (spelled p) ≡ p
place_spelled [] g = refl
place_spelled (x ∷ p) g =
    let a : has_no_slash x ≡ true = part-clean x g.0 in
    let b : place_from (x ++ []) [] p ≡ place_from [] x p = part-read x [] [] p a in
    parts-read p x g.1 ∙ (ap (λ y. place_from y [] p) (sym (append-nil x)) ∙ (b ∙ part-pushed x p g.0))

clean-more : (x : Part) (b : ℕ) → has_no_slash x ≡ true → (b == slash) ≡ false → has_no_slash (x ++ b ∷ []) ≡ true
clean-more [] b h e = rw e refl
clean-more (a ∷ x) b h e =
    let c = and_parts (not (a == slash)) (has_no_slash x) h in
    and_from (not (a == slash)) (has_no_slash (x ++ b ∷ [])) c.0 (clean-more x b c.1 e)

pub parts-pushed : (x : Part) (path : Path) → has_no_slash x ≡ true → AreParts path → AreParts (push_part x path)
parts-pushed [] path h k = k
parts-pushed (b ∷ x) path h k = (h, k)

parts-from : (bytes : List ℕ) (part : Part) (path : Path) → has_no_slash part ≡ true → AreParts path → AreParts (place_from bytes part path)
parts-from [] part path h k = parts-pushed part path h k
parts-from (b ∷ bytes) part path h k =
    elim (cases_Bool (b == slash)) [
      | inl e ↦ rw e (parts-from bytes [] (push_part part path) refl (parts-pushed part path h k))
      | inr e ↦ rw e (parts-from bytes (part ++ b ∷ []) path (clean-more part b h e) k)
    ]

-- the place that bytes name has parts
pub place_parts : (bytes : List ℕ) → AreParts (place bytes)
place_parts bytes = parts-from bytes [] [] refl (tt)

-- what lies above a place has parts
pub parts-above : (n : ℕ) (p : Path) → AreParts p → AreParts (drop n p)
parts-above zero p h = h
parts-above (suc n) [] h = h
parts-above (suc n) (x ∷ p) h = parts-above n p h.1

pub parts-taken : (n : ℕ) (p : Path) → AreParts p → AreParts (take n p)
parts-taken zero p h = tt
parts-taken (suc n) [] h = tt
parts-taken (suc n) (x ∷ p) h = (h.0, parts-taken n p h.1)

-- bytes that spell a place lead back to it
pub spelled_back : (p : Path) (bytes : List ℕ) → AreParts p → bytes ≡ spelled p → place bytes ≡ p
spelled_back p bytes g e = rw e (place_spelled p g)
