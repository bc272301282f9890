-- Where entries stand in their list, and that an index finds them.
use Rattle.std.proofs.Common.{Bor, Ordering, Less, Equal, Greater, ◌≡◌, ℕ, zero, suc, ◌+◌, ◌<◌, true, false, cond, Option, Some, None, List, [], ◌∷◌, ◌++◌, length, take, slice_get, option_map, inl, inr, arith, refl, sym, ap, ◌∙◌}
use Rattle.std.specs.Prelude.{IfNone, IfSome, not}
use Rattle.std.specs.Slice.{IsItemAt}
use Rattle.std.proofs.lemmas.Bool.{cases_Bool, both_ways, and_parts, not-true, or_parts}
use Rattle.std.proofs.lemmas.Option.{same_Some, slice_get_read}
use Rattle.std.proofs.lemmas.Map.Lookups.{exact_bytes}
use Rattle.std.specs.BTreeMap.{BTreeMap, get, Updates}
use Rattle.std.specs.Cmp.Lexicographic.{slice_cmp}
use Rattle.std.specs.Ordering.{is_eq, nat_cmp}
use Rattle.wx_tree.specs.Paths.{Path, same, same_part}
use Rattle.wx_tree.specs.Places.{place, spelled}
use Rattle.wx_tree.specs.declared.node.Node.{Node}
use Rattle.wx_tree.proofs.PathLemmas.{same-true, same-refl, same_part-refl, same_part-true}
use Rattle.wx_mem_tree.specs.declared.entry.MemEntry.{MemEntry}
use Rattle.wx_mem_tree.specs.declared.index.EntryIndex.{EntryIndex}
use Rattle.wx_mem_tree.specs.Entries.{are_once, found_at, is_at, put_node}
use Rattle.wx_mem_tree.specs.Indexed.{AreIndexed, place_of}

-- it stands behind the first
pub later : (o : Option ℕ) (k : ℕ) → option_map suc o ≡ Some k → (j : ℕ) × (o ≡ Some j) × (k ≡ suc j)
later None k h = absurd cc
later (Some j) k h = (j, refl, sym (same_Some (suc j) k h))

pub nowhere : (o : Option ℕ) → option_map suc o ≡ None → o ≡ None
nowhere None h = refl
nowhere (Some j) h = absurd cc

pub placed_found : (p : Path) (es : List MemEntry) (k : ℕ) → place_of p es ≡ Some k → found_at p es ≡ slice_get es k
placed_found p [] k h = absurd cc
placed_found p (e ∷ es) k h =
    elim (cases_Bool (same e.path p)) [
      | inl a ↦ (let f : 0 ≡ k = same_Some 0 k (rw a at h) in rw (a, ← f) refl)
      | inr a ↦ (let j = later (place_of p es) k (rw a at h) in rw (a, j.2) (placed_found p es j.0 j.1))
    ]

pub placed_none : (p : Path) (es : List MemEntry) → place_of p es ≡ None → found_at p es ≡ None
placed_none p [] h = refl
placed_none p (e ∷ es) h =
    elim (cases_Bool (same e.path p)) [
      | inl a ↦ (let f : Some 0 ≡ None = (rw a at h) in absurd cc)
      | inr a ↦ rw a (placed_none p es (nowhere (place_of p es) (rw a at h)))
    ]

pub placed_within : (p : Path) (es : List MemEntry) (k : ℕ) → place_of p es ≡ Some k → k < length es
placed_within p [] k h = absurd cc
placed_within p (e ∷ es) k h =
    elim (cases_Bool (same e.path p)) [
      | inl a ↦ (let f : 0 ≡ k = same_Some 0 k (rw a at h) in omega (arith, f))
      | inr a ↦ (let j = later (place_of p es) k (rw a at h) in let w = placed_within p es j.0 j.1 in omega (arith, j.2, w))
    ]

-- a node in place of another one moves nothing
pub placed_put : (q p : Path) (n : Node) (es : List MemEntry) (k : ℕ) → place_of p es ≡ Some k → place_of q (put_node p n es) ≡ place_of q es
placed_put q p n [] k h = absurd cc
placed_put q p n (e ∷ es) k h =
    elim (cases_Bool (same e.path p)) [
      | inl a ↦ rw a refl
      | inr a ↦
          let j = later (place_of p es) k (rw a at h) in
          rw a (ap (λ o. cond (same e.path q) (Some 0) (option_map suc o)) (placed_put q p n es j.0 j.1))
    ]

-- one more at the end
placed_other : (q : Path) (es : List MemEntry) (e : MemEntry) → same e.path q ≡ false → place_of q (es ++ e ∷ []) ≡ place_of q es
placed_other q [] e d = rw d refl
placed_other q (x ∷ es) e d = ap (λ o. cond (same x.path q) (Some 0) (option_map suc o)) (placed_other q es e d)

placed_last : (q : Path) (es : List MemEntry) (e : MemEntry) → same e.path q ≡ true → place_of q es ≡ None → place_of q (es ++ e ∷ []) ≡ Some (length es)
placed_last q [] e s h = rw s refl
placed_last q (x ∷ es) e s h =
    elim (cases_Bool (same x.path q)) [
      | inl a ↦ (let f : Some 0 ≡ None = (rw a at h) in absurd cc)
      | inr a ↦ rw a (ap (option_map suc) (placed_last q es e s (nowhere (place_of q es) (rw a at h))))
    ]

is_eq-true : (o : Ordering) → is_eq o ≡ true → o ≡ Equal
is_eq-true Less h = cc
is_eq-true Equal h = refl
is_eq-true Greater h = cc

pub apart_at : (k q : List ℕ) → (q ≡ k → ⊥) → is_eq (slice_cmp nat_cmp k q) ≡ false
apart_at k q apart =
    elim (cases_Bool (is_eq (slice_cmp nat_cmp k q))) [
      | inl a ↦ absurd (apart (sym (exact_bytes k q (is_eq-true (slice_cmp nat_cmp k q) a))))
      | inr a ↦ a
    ]

abbrev pub FoundBy : List MemEntry → (List ℕ → Option ℕ) → Type 0
FoundBy es f = (bytes : List ℕ) → spelled (place bytes) ≡ bytes → f bytes ≡ place_of (place bytes) es

pub added : (es : List MemEntry) (e : MemEntry) (key : List ℕ) (at : ℕ) (old new : BTreeMap (List ℕ) ℕ) → FoundBy es (get (slice_cmp nat_cmp) old) → key ≡ spelled e.path → place key ≡ e.path → place_of e.path es ≡ None → at ≡ length es
    → Updates (slice_cmp nat_cmp) old new key (Some at) → FoundBy (es ++ e ∷ []) (get (slice_cmp nat_cmp) new)
added es e key at old new is k b none len up = λ bytes back.
    elim (cases_Bool (same_part bytes key)) [
      | inl a ↦
          let f : bytes ≡ key = same_part-true bytes key a in
          rw (f, b) (up.1 ∙ (ap Some len ∙ sym (placed_last e.path es e (same-refl e.path) none)))
      | inr a ↦
          let apart : bytes ≡ key → ⊥ = λ f. both_ways (same_part bytes key) a (rw f (same_part-refl key)) in
          let other : same e.path (place bytes) ≡ false =
          elim (cases_Bool (same e.path (place bytes))) [
            | inl c ↦ absurd (apart (sym back ∙ (ap spelled (sym (same-true e.path (place bytes) c)) ∙ sym k)))
            | inr c ↦ c
          ] in
          up.2 bytes (apart_at key bytes apart) ∙ (is bytes back ∙ sym (placed_other (place bytes) es e other))
    ]

-- what stands behind has another path
apart_behind : (x e : MemEntry) (es : List MemEntry) (i : ℕ) → is_at x.path es ≡ false → slice_get es i ≡ Some e → same x.path e.path ≡ false
apart_behind x e [] i h g = absurd cc
apart_behind x e (y ∷ es) zero h g =
    let f : y ≡ e = same_Some y e g in
    let o = or_parts (same y.path x.path) (is_at x.path es) h in
    elim (cases_Bool (same x.path e.path)) [
      | inl a ↦
          let m : x.path ≡ y.path = same-true x.path e.path a ∙ ap (λ (z : MemEntry). z.path) (sym f) in
          absurd (both_ways (same y.path x.path) o.0 (rw m (same-refl y.path)))
      | inr a ↦ a
    ]
apart_behind x e (y ∷ es) (suc i) h g = apart_behind x e es i (or_parts (same y.path x.path) (is_at x.path es) h).1 g

-- none before it has its path
pub new_there : (es : List MemEntry) (e : MemEntry) (i : ℕ) → are_once es ≡ true → slice_get es i ≡ Some e → place_of e.path (take i es) ≡ None
new_there [] e i h g = absurd cc
new_there (x ∷ es) e zero h g = refl
new_there (x ∷ es) e (suc i) h g =
    let a = and_parts (not (is_at x.path es)) (are_once es) h in
    rw (apart_behind x e es i (not-true (is_at x.path es) a.0) g, new_there es e i a.1 g) refl

-- so many are looked at: one more
pub taken : (es : List MemEntry) (e : MemEntry) (i : ℕ) → slice_get es i ≡ Some e → take (i + 1) es ≡ take i es ++ e ∷ []
taken es e i g = (let n : i + 1 ≡ suc i = omega arith in ap (λ k. take k es) n ∙ taken_suc es e i g)
  where
    taken_suc : (es : List MemEntry) (e : MemEntry) (i : ℕ) → slice_get es i ≡ Some e → take (suc i) es ≡ take i es ++ e ∷ []
    taken_suc [] e i g = absurd cc
    taken_suc (x ∷ es) e zero g = rw (same_Some x e g) refl
    taken_suc (x ∷ es) e (suc i) g = ap (λ ys. x ∷ ys) (taken_suc es e i g)

pub passed : (p : Path) (es : List MemEntry) (e : MemEntry) (i : ℕ) → place_of p (take i es) ≡ None → slice_get es i ≡ Some e → same e.path p ≡ false → place_of p (take (i + 1) es) ≡ None
passed p es e i h g d = rw (taken es e i g) (placed_other p (take i es) e d ∙ h)

pub placed_here : (p : Path) (es : List MemEntry) (e : MemEntry) (i : ℕ) → place_of p (take i es) ≡ None → slice_get es i ≡ Some e → same e.path p ≡ true → place_of p es ≡ Some i
placed_here p [] e i h g s = absurd cc
placed_here p (x ∷ es) e zero h g s = rw (same_Some x e g, s) refl
placed_here p (x ∷ es) e (suc i) h g s =
    elim (cases_Bool (same x.path p)) [
      | inl a ↦ (let f : Some 0 ≡ None = (rw a at h) in absurd cc)
      | inr a ↦ rw (a, placed_here p es e i (nowhere (place_of p (take i es)) (rw a at h)) g s) refl
    ]

pub grown_taken : (es : List MemEntry) (e : MemEntry) (i : ℕ) (index : Option EntryIndex) → slice_get es i ≡ Some e → AreIndexed (take i es ++ e ∷ []) index → AreIndexed (take (i + 1) es) index
grown_taken es e i index g h = rw (taken es e i g) h

-- what is read at the place is what is found
pub read_none : (p : Path) (es : List MemEntry) (k : ℕ) (r : Option (Bor MemEntry)) → place_of p es ≡ Some k → IsItemAt es k r → IfNone r (found_at p es ≡ None)
read_none p es k None h is = (let w = placed_within p es k h in absurd (omega (arith, w, is.3)))
read_none p es k (Some b) h is = tt

pub read_some : (p : Path) (es : List MemEntry) (k : ℕ) (r : Option (Bor MemEntry)) → place_of p es ≡ Some k → IsItemAt es k r → IfSome r (λ e. found_at p es ≡ Some e.now)
read_some p es k None h is = tt
read_some p es k (Some b) h is = placed_found p es k h ∙ slice_get_read es (length es) k b.now refl (placed_within p es k h) is.1
