-- Which paths lie strictly below the root of a candidate, and what is asked about.
use Rattle.std.proofs.Common.{◌≡◌, ℕ, zero, suc, ◌+◌, ◌<◌, ◌≤◌, Bool, true, false, List, [], ◌∷◌, length, drop, get_or, arith, refl, ap, sym, ◌∙◌, inl, inr, subst}
use Rattle.std.specs.Prelude.{◌&&◌}
use Rattle.std.proofs.lemmas.Bool.{cases_Bool, or_cases, and_right, and_left, or_left, or_right}
use Rattle.wx_tree.specs.Lists.{In}
use Rattle.wx_tree.specs.Paths.{Path, holds, holds_below, same}
use Rattle.wx_tree.specs.Places.{place}
use Rattle.wx_tree.specs.declared.root.Root.{Root}
use Rattle.wx_tree.proofs.PathLemmas.{holds-length, same-true}
use Rattle.wx_scan.specs.Checks.{is_below_any}
use Rattle.wx_recursor.specs.Owners.{has_path}
use Rattle.wx_recursor.specs.Seen.{passes}
use Rattle.wx_recursor.specs.declared.answers.Found.TheVariants.{Here, Rejected}
use Rattle.wx_recursor.specs.declared.known.Identity.{Identity}
use Rattle.wx_recursor.specs.declared.work.Item.{Item}
use Rattle.wx_recursor.specs.declared.work.Item.TheVariants.{Candidate}
use Rattle.wx_recursor.specs.declared.work.Work.{Work}
use Rattle.wx_recursor.specs.declared.work.Work.TheVariants.{Plain}
use Rattle.wx_recursor.proofs.OwnerLemmas.{has_path_in}
use Rattle.wx_step.specs.Asking.{FirstAsksBelow, WorkAsksBelow}
use Rattle.wx_step.specs.Calmly.{judged_found}

deeper_below : (r p : Path) (n : ℕ) → holds r p ≡ true → n + length r < length p → holds_below r (drop n p) ≡ true
deeper_below r [] n h k = absurd (omega arith)
deeper_below r (x ∷ p) zero h k =
    elim (or_cases (same r (x ∷ p)) (holds r p) h) [
      | inl a ↦ let e : length r ≡ length (x ∷ p) = ap length (same-true r (x ∷ p) a) in absurd (omega arith)
      | inr b ↦ b
    ]
deeper_below r (x ∷ p) (suc n) h k =
    elim (or_cases (same r (x ∷ p)) (holds r p) h) [
      | inl a ↦ let e : length r ≡ length (x ∷ p) = ap length (same-true r (x ∷ p) a) in absurd (omega arith)
      | inr b ↦ deeper_below r p n b (omega arith)
    ]

below_any : (under : List Path) (r q : Path) → In r under → holds_below r q ≡ true → is_below_any under q ≡ true
below_any [] r q m h = absurd m
below_any (y ∷ ys) r q (inl e) h = or_left (holds_below y q) (is_below_any ys q) (rw e h)
below_any (y ∷ ys) r q (inr m) h = or_right (holds_below y q) (is_below_any ys q) (below_any ys r q m h)

-- what is asked about lies strictly below the root
pub asks_below : (under : List Path) (r p q : Path) (bytes : List ℕ) (n : ℕ) → In r under → holds r p ≡ true → q ≡ drop n p → place bytes ≡ q → n + length r < length p → is_below_any under (place bytes) ≡ true
asks_below under r p q bytes n m h e f k = rw f (rw e (below_any under r (drop n p) m (deeper_below r p n h k)))

-- what the first asks, the queue asks
front_asks : (under : List Path) (q : List Work) (w : Work) → 0 < length q → w ≡ get_or q 0 w → WorkAsksBelow under w → FirstAsksBelow under q
front_asks under [] w h e k = absurd (omega arith)
front_asks under (x ∷ q) w h e k = subst (WorkAsksBelow under) e k

pub candidate_first : (under : List Path) (q : List Work) (w : Work) (i : Item) (r : Root) (p : Path) → 0 < length q → w ≡ get_or q 0 w → w ≡ Plain i → i ≡ Candidate r p → holds r.path p ≡ true → has_path r.path under ≡ true → FirstAsksBelow under q
candidate_first under q w i r p h e is as_candidate f g =
    let a : WorkAsksBelow under (Plain (Candidate r p)) = (f, has_path_in r.path under g) in
    front_asks under q w h e (subst (WorkAsksBelow under) (sym (is ∙ ap Plain as_candidate)) a)

-- what the answers say

-- the root itself passes
pub passes_root : (ok : Path → Bool) (r : Root) (p : Path) (n : ℕ) → holds r.path p ≡ true → n + length r.path ≡ length p → passes ok r (drop n p) ≡ true
passes_root ok r [] zero h e = refl
passes_root ok r [] (suc n) h e = absurd (omega arith)
passes_root ok r (x ∷ p) zero h e =
    elim (or_cases (same r.path (x ∷ p)) (holds r.path p) h) [
      | inl a ↦ rw a refl
      | inr b ↦ let le : length r.path ≤ length p = holds-length r.path p b in absurd (omega arith)
    ]
passes_root ok r (x ∷ p) (suc n) h e =
    elim (or_cases (same r.path (x ∷ p)) (holds r.path p) h) [
      | inl a ↦ let k : length r.path ≡ length (x ∷ p) = ap length (same-true r.path (x ∷ p) a) in absurd (omega arith)
      | inr b ↦ passes_root ok r p n b (omega arith)
    ]

-- a path below it passes where it is accepted, and the one above it passes
passes_one : (ok : Path → Bool) (r : Root) (p : Path) (n : ℕ) → n + length r.path < length p → passes ok r (drop n p) ≡ (ok (drop n p) && passes ok r (drop (suc n) p))
passes_one ok r [] n h = absurd (omega arith)
passes_one ok r (x ∷ p) zero h =
    elim (cases_Bool (same r.path (x ∷ p))) [
      | inl a ↦ let k : length r.path ≡ length (x ∷ p) = ap length (same-true r.path (x ∷ p) a) in absurd (omega arith)
      | inr b ↦ rw b refl
    ]
passes_one ok r (x ∷ p) (suc n) h = passes_one ok r p n (omega arith)

-- what is below one that doesn't pass doesn't
none_passes : (ok : Path → Bool) (r : Root) (p : Path) (n : ℕ) → n + length r.path < length p → passes ok r (drop n p) ≡ false → passes ok r p ≡ false
none_passes ok r p zero h f = f
none_passes ok r [] (suc n) h f = absurd (omega arith)
none_passes ok r (x ∷ p) (suc n) h f = passes_one ok r (x ∷ p) zero (omega arith) ∙ and_right (ok (x ∷ p)) (passes ok r p) (none_passes ok r p n (omega arith) f)

pub accepted : (ok : Path → Bool) (r : Root) (p q : Path) (bytes : List ℕ) (n level : ℕ) → q ≡ drop n p → place bytes ≡ q → n + length r.path < length p → level ≡ suc n → true ≡ ok (place bytes) → passes ok r (drop level p) ≡ true → passes ok r (drop n p) ≡ true
accepted ok r p q bytes n level e f h is y k =
    let a : ok (drop n p) ≡ true = sym (y ∙ ap ok (f ∙ e)) in
    let b : passes ok r (drop (suc n) p) ≡ true = subst (λ l. passes ok r (drop l p) ≡ true) is k in
    passes_one ok r p n h ∙ rw (a, b) refl

pub rejected : (ok : Path → Bool) (r : Root) (p q : Path) (i : Identity) (bytes : List ℕ) (n : ℕ) → q ≡ drop n p → place bytes ≡ q → n + length r.path < length p → false ≡ ok (place bytes) → Rejected ≡ judged_found ok r p i
rejected ok r p q i bytes n e f h y =
    let a : ok (drop n p) ≡ false = sym (y ∙ ap ok (f ∙ e)) in
    let b : passes ok r p ≡ false = none_passes ok r p n h (passes_one ok r p n h ∙ and_left (ok (drop n p)) (passes ok r (drop (suc n) p)) a) in
    rw b refl

pub passed : (ok : Path → Bool) (r : Root) (p : Path) (i : Identity) (n : ℕ) → n ≡ 0 → passes ok r (drop n p) ≡ true → Here i ≡ judged_found ok r p i
passed ok r p i n is h =
    let b : passes ok r p ≡ true = subst (λ m. passes ok r (drop m p) ≡ true) is h in
    rw b refl
