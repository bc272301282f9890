-- How owners are found, and what lies above them.
use Rattle.std.proofs.Common.{Equal, ◌≡◌, ℕ, zero, suc, ◌+◌, ◌≤◌, ◌<◌, get_or, take, drop, Bool, true, false, cond, Option, Some, None, List, [], ◌∷◌, ◌++◌, length, map, filter, slice_get, slice_set, slice_index_or, inl, inr, arith, refl, sym, ap, ◌∙◌}
use Rattle.std.proofs.Common.{Result, Ok, Err}
use Rattle.std.specs.Prelude.{◌&&◌, ◌||◌, not, IfSome, OnOk}
use Rattle.std.specs.BTreeSet.{BTreeSet, contains}
use Rattle.std.proofs.lemmas.Bool.{cases_Bool, cases_lt, and_parts, or_cases}
use Rattle.std.proofs.lemmas.List.{length-append, map-append}
use Rattle.std.proofs.lemmas.Option.{slice_get_within, slice_get-map, same_Some}
use Rattle.wx_tree.specs.Paths.{Path, holds, holds_below, same}
use Rattle.wx_tree.specs.Places.{spelled}
use Rattle.wx_tree.specs.Roots.{same_root}
use Rattle.wx_tree.specs.declared.root.Root.{Root}
use Rattle.wx_tree.proofs.PathLemmas.{below-holds, same-true, same_root-true}
use Rattle.wx_recursor.specs.Owners.{disown, is_owner, own, unseen}
use Rattle.wx_recursor.specs.declared.owner.Owner.{Owner}
use Rattle.wx_index.specs.Chained.{AreFound, Key, first_at}
use Rattle.wx_index.specs.Owned.{AreOwned, AreOwnersIndexed, HasAbove, HaveAbove, has_key, is_any_below, owner_key, owner_path}
use Rattle.wx_index.specs.declared.owner_index.OwnerIndex.{OwnerIndex}
use Rattle.wx_index.proofs.AskedLemmas.{taken_more}
use Rattle.wx_index.proofs.ChainLemmas.{get-below, get-last}
use Rattle.wx_index.proofs.KnownLemmas.{bool_apart}

-- what holds a path is that path some levels up
pub holds_drop : (p q : Path) → holds p q ≡ true → (n : ℕ) × (n ≤ length q) × (p ≡ drop n q)
holds_drop p [] h = (0, omega arith, same-true p [] h)
holds_drop p (x ∷ q) h =
    elim (or_cases (same p (x ∷ q)) (holds p q) h) [
      | inl a ↦ (0, omega arith, same-true p (x ∷ q) a)
      | inr a ↦ (let b = holds_drop p q a in (suc b.0, omega (arith, b.1), b.2))
    ]

pub above_from : (q : Path) (keys : BTreeSet Key) → ((n : ℕ) → n ≤ length q → has_key (spelled (drop n q)) keys ≡ true) → HasAbove q keys
above_from q keys all p h = (let a = holds_drop p q h in rw a.2 (all a.0 a.1))

-- each level up to there
pub level_more : (q : Path) (old new : BTreeSet Key) (i : ℕ) → ((n : ℕ) → n < i → has_key (spelled (drop n q)) old ≡ true) → ((k : Key) → has_key k old ≡ true → has_key k new ≡ true) → has_key (spelled (drop i q)) new ≡ true → (n : ℕ) → n < i + 1 → has_key (spelled (drop n q)) new ≡ true
level_more q old new i all kept added n lt =
    elim (cases_lt n i) [
      | inl a ↦ kept (spelled (drop n q)) (all n a)
      | inr a ↦ (let e : n ≡ i = omega arith in rw e added)
    ]

pub have_more : (ps : List Path) (p : Path) (old new : BTreeSet Key) → ((k : Key) → has_key k old ≡ true → has_key k new ≡ true) → HasAbove p new → HaveAbove ps old → HaveAbove (ps ++ p ∷ []) new
have_more ps p old new kept added have at q e =
    elim (cases_lt at (length ps)) [
      | inl a ↦ λ r h. kept (spelled r) (have at q (sym (get-below ps p at a) ∙ e) r h)
      | inr a ↦
          let len = length-append ps (p ∷ []) in
          let within : at < length (ps ++ p ∷ []) = slice_get_within (ps ++ p ∷ []) at q e in
          let is_last : at ≡ length ps = omega arith in
          let f : Some p ≡ Some q = sym (get-last ps p) ∙ (ap (λ n. slice_get (ps ++ p ∷ []) n) (sym is_last) ∙ e) in
          rw (← same_Some p q f) added
    ]

pub owned_more : (os : List Owner) (o : Owner) (old new : BTreeSet Key) → ((k : Key) → has_key k old ≡ true → has_key k new ≡ true) → HasAbove o.path new → HaveAbove (map owner_path os) old → HaveAbove (map owner_path (os ++ o ∷ [])) new
owned_more os o old new kept added have = rw (map-append owner_path os (o ∷ [])) (have_more (map owner_path os) o.path old new kept added have)

pub owners_some : (os : List Owner) (i : Option OwnerIndex) (index : OwnerIndex) → i ≡ Some index → AreOwnersIndexed os i → AreOwned os index
owners_some os None index e h = cc
owners_some os (Some i) index e h = (let f = same_Some i index e in rw (← f) h)

pub owners_taken : (os : List Owner) (i : ℕ) (o : Owner) (index : Option OwnerIndex) → i < length os → o ≡ get_or os i o → AreOwnersIndexed (take i os ++ o ∷ []) index → AreOwnersIndexed (take (i + 1) os) index
owners_taken os i o index lt e h = rw (taken_more os i o lt e) h

-- where nothing is there of a path, nothing is owned at it or below
pub none_below : (p : Path) (os : List Owner) (keys : BTreeSet Key) → has_key (spelled p) keys ≡ false → HaveAbove (map owner_path os) keys → is_any_below p os ≡ false
none_below p [] keys none have = refl
none_below p (o ∷ os) keys none have =
    elim (cases_Bool (holds p o.path)) [
      | inl a ↦ absurd (bool_apart (has_key (spelled p) keys) (have 0 o.path refl p a) none)
      | inr a ↦ rw a (none_below p os keys none (λ at q e. have (suc at) q e))
    ]

pub disown_none : (r : Root) (p : Path) (os : List Owner) → is_any_below p os ≡ false → os ≡ disown r p os
disown_none r p [] none = refl
disown_none r p (o ∷ os) none =
    elim (cases_Bool (holds p o.path)) [
      | inl a ↦ (let f : is_any_below p (o ∷ os) ≡ true = (rw a refl) in absurd (bool_apart (is_any_below p (o ∷ os)) f none))
      | inr a ↦ (let f : is_any_below p (o ∷ os) ≡ is_any_below p os = (rw a refl) in
          elim (cases_Bool (same_root r o.root)) [
            | inl b ↦ rw (b, a) (ap (λ ys. o ∷ ys) (disown_none r p os (sym f ∙ none)))
            | inr b ↦ rw b (ap (λ ys. o ∷ ys) (disown_none r p os (sym f ∙ none)))
          ])
    ]

pub disown_below_none : (r : Root) (p : Path) (os : List Owner) → is_any_below p os ≡ false → os ≡ filter (λ o. not (same_root r o.root && holds_below p o.path)) os
disown_below_none r p [] none = refl
disown_below_none r p (o ∷ os) none =
    elim (cases_Bool (holds p o.path)) [
      | inl a ↦ (let f : is_any_below p (o ∷ os) ≡ true = (rw a refl) in absurd (bool_apart (is_any_below p (o ∷ os)) f none))
      | inr a ↦ (let f : is_any_below p (o ∷ os) ≡ is_any_below p os = (rw a refl) in
          elim (cases_Bool (holds_below p o.path)) [
            | inl c ↦ absurd (bool_apart (holds p o.path) (below-holds p o.path c) a)
            | inr c ↦ elim (cases_Bool (same_root r o.root)) [
              | inl b ↦ rw (b, c) (ap (λ ys. o ∷ ys) (disown_below_none r p os (sym f ∙ none)))
              | inr b ↦ rw b (ap (λ ys. o ∷ ys) (disown_below_none r p os (sym f ∙ none)))
            ]
          ])
    ]

pub disown_all_none : (p : Path) (os : List Owner) → is_any_below p os ≡ false → os ≡ filter (λ o. not (holds p o.path)) os
disown_all_none p [] none = refl
disown_all_none p (o ∷ os) none =
    elim (cases_Bool (holds p o.path)) [
      | inl a ↦ (let f : is_any_below p (o ∷ os) ≡ true = (rw a refl) in absurd (bool_apart (is_any_below p (o ∷ os)) f none))
      | inr a ↦ (let f : is_any_below p (o ∷ os) ≡ is_any_below p os = (rw a refl) in rw a (ap (λ ys. o ∷ ys) (disown_all_none p os (sym f ∙ none))))
    ]

-- owners of the same paths are found alike
keys_of_paths : (os : List Owner) → map owner_key os ≡ map spelled (map owner_path os)
keys_of_paths [] = refl
keys_of_paths (o ∷ os) = ap (λ ys. spelled o.path ∷ ys) (keys_of_paths os)

owned_same : (xs ys : List Owner) (index : OwnerIndex) → map owner_path xs ≡ map owner_path ys → AreOwned xs index → AreOwned ys index
owned_same xs ys index e h =
    let keys : map owner_key xs ≡ map owner_key ys = keys_of_paths xs ∙ (ap (map spelled) e ∙ sym (keys_of_paths ys)) in
    (rw (← keys) h.0, rw (← e) h.1)

pub indexed_same : (xs ys : List Owner) (index : Option OwnerIndex) → map owner_path xs ≡ map owner_path ys → AreOwnersIndexed xs index → AreOwnersIndexed ys index
indexed_same xs ys None e h = tt
indexed_same xs ys (Some index) e h = owned_same xs ys index e h

pub unseen_paths : (os : List Owner) → map owner_path os ≡ map owner_path (unseen os)
unseen_paths [] = refl
unseen_paths (o ∷ os) = ap (λ ys. o.path ∷ ys) (unseen_paths os)

abbrev pub owner_of : Root → Path → Owner
owner_of r p = record { root = r; path = p; seen = true }

seen_again : (r : Root) (p : Path) (o : Owner) → is_owner r p o ≡ true → owner_of o.root o.path ≡ owner_of r p
seen_again r p o h =
    let a = and_parts (same_root r o.root) (same p o.path) h in
    ap (λ s. owner_of s o.path) (sym (same_root-true r o.root a.0)) ∙ ap (λ q. owner_of r q) (sym (same-true p o.path a.1))

pub own_first : (r : Root) (p : Path) (xs : List Owner) (d : Owner) → first_at (is_owner r p) xs < length xs → slice_set xs (first_at (is_owner r p) xs) (owner_of (get_or xs (first_at (is_owner r p) xs) d).root (get_or xs (first_at (is_owner r p) xs) d).path) ≡ own r p xs
own_first r p [] d lt = absurd (omega arith)
own_first r p (o ∷ xs) d lt =
    elim (cases_Bool (is_owner r p o)) [
      | inl a ↦ rw a (ap (λ y. y ∷ xs) (seen_again r p o a))
      | inr a ↦
          let f : first_at (is_owner r p) (o ∷ xs) ≡ suc (first_at (is_owner r p) xs) = (rw a refl) in
          let within : first_at (is_owner r p) xs < length xs = omega (arith, f, lt) in
          rw a (ap (λ ys. o ∷ ys) (own_first r p xs d within))
    ]

pub own_at : (r : Root) (p : Path) (xs : List Owner) (n : ℕ) (d : Owner) → n ≡ first_at (is_owner r p) xs → n < length xs → d ≡ get_or xs n d → slice_set xs n (record { root = d.root; path = d.path; seen = true }) ≡ own r p xs
own_at r p xs n d e lt at =
    let within : first_at (is_owner r p) xs < length xs = omega (arith, e, lt) in
    let k = own_first r p xs d within in
    let f : get_or xs (first_at (is_owner r p) xs) d ≡ d = ap (λ i. get_or xs i d) (sym e) ∙ sym at in
    ap (λ i. slice_set xs i (owner_of d.root d.path)) e ∙ (ap (λ o. slice_set xs (first_at (is_owner r p) xs) (owner_of o.root o.path)) (sym f) ∙ k)

pub own_end : (r : Root) (p : Path) (xs : List Owner) → length xs ≤ first_at (is_owner r p) xs → xs ++ record { root = r; path = p; seen = true } ∷ [] ≡ own r p xs
own_end r p [] le = refl
own_end r p (o ∷ xs) le =
    elim (cases_Bool (is_owner r p o)) [
      | inl a ↦
          let f : first_at (is_owner r p) (o ∷ xs) ≡ 0 = (rw a refl) in
          absurd (omega (arith, f, le))
      | inr a ↦
          let f : first_at (is_owner r p) (o ∷ xs) ≡ suc (first_at (is_owner r p) xs) = (rw a refl) in
          rw a (ap (λ ys. o ∷ ys) (own_end r p xs (omega (arith, f, le))))
    ]

pub own_paths : (r : Root) (p : Path) (xs : List Owner) → first_at (is_owner r p) xs < length xs → map owner_path xs ≡ map owner_path (own r p xs)
own_paths r p [] lt = absurd (omega arith)
own_paths r p (o ∷ xs) lt =
    elim (cases_Bool (is_owner r p o)) [
      | inl a ↦ (let b = and_parts (same_root r o.root) (same p o.path) a in rw a (ap (λ q. q ∷ map owner_path xs) (sym (same-true p o.path b.1))))
      | inr a ↦
          let f : first_at (is_owner r p) (o ∷ xs) ≡ suc (first_at (is_owner r p) xs) = (rw a refl) in
          rw a (ap (λ ys. o.path ∷ ys) (own_paths r p xs (omega (arith, f, lt))))
    ]

pub none_key : (p : Path) (os : List Owner) (keys : BTreeSet Key) (bytes : Key) (b : Bool) → bytes ≡ spelled p → b ≡ has_key bytes keys → b ≡ false → HaveAbove (map owner_path os) keys → is_any_below p os ≡ false
none_key p os keys bytes b e f none have = none_below p os keys (ap (λ k. has_key k keys) (sym e) ∙ (sym f ∙ none)) have

pub above_ok : {A E : Type 0} (r : Result A E) (q : Path) (old new : BTreeSet Key) (d : ℕ) → ((n : ℕ) → n < d → has_key (spelled (drop n q)) old ≡ true) → d ≡ length q → OnOk r (has_key (spelled (drop d q)) new ≡ true) → OnOk r ((k : Key) → has_key k old ≡ true → has_key k new ≡ true) → OnOk r (HasAbove q new)
above_ok (Ok a) q old new d all e added kept = above_from q new (λ n le. level_more q old new d all kept added n (omega (arith, e, le)))
above_ok (Err x) q old new d all e added kept = tt

pub own_opened : (r : Root) (p : Path) (xs ys : List Owner) (n : ℕ) (d : Owner) → ys ≡ xs → n ≡ first_at (is_owner r p) xs → n < length ys → d ≡ get_or ys n d → slice_set ys n (record { root = d.root; path = d.path; seen = true }) ≡ own r p xs
own_opened r p xs ys n d e f lt at =
    let same_length : length ys ≡ length xs = ap length e in
    let read : d ≡ get_or xs n d = at ∙ ap (λ zs. get_or zs n d) e in
    ap (λ zs. slice_set zs n (owner_of d.root d.path)) e ∙ own_at r p xs n d f (omega (arith, lt, same_length)) read

pub own_indexed : (r : Root) (p : Path) (xs ys : List Owner) (n : ℕ) (d : Owner) (i j : Option OwnerIndex) → ys ≡ xs → n ≡ first_at (is_owner r p) xs → n < length ys → d ≡ get_or ys n d → j ≡ i → AreOwnersIndexed ys i → AreOwnersIndexed (slice_set ys n (record { root = d.root; path = d.path; seen = true })) j
own_indexed r p xs ys n d i j e f lt at same_index is =
    let same_length : length ys ≡ length xs = ap length e in
    let within : first_at (is_owner r p) xs < length xs = omega (arith, lt, same_length, f) in
    let paths : map owner_path ys ≡ map owner_path (own r p xs) = ap (map owner_path) e ∙ own_paths r p xs within in
    rw (own_opened r p xs ys n d e f lt at, same_index) (indexed_same ys (own r p xs) i paths is)

pub own_pushed : (r r' : Root) (p p' : Path) (xs zs : List Owner) → r' ≡ r → p' ≡ p → length xs ≤ first_at (is_owner r p) xs → zs ≡ xs ++ record { root = r'; path = p'; seen = true } ∷ [] → zs ≡ own r p xs
own_pushed r r' p p' xs zs e f le pushed = rw (pushed, e, f) (own_end r p xs le)

pub own_ok : {A E : Type 0} (o : Result A E) (r r' : Root) (p p' : Path) (xs zs : List Owner) → r' ≡ r → p' ≡ p → length xs ≤ first_at (is_owner r p) xs → OnOk o (zs ≡ xs ++ record { root = r'; path = p'; seen = true } ∷ []) → OnOk o (zs ≡ own r p xs)
own_ok (Ok a) r r' p p' xs zs e f le pushed = own_pushed r r' p p' xs zs e f le pushed
own_ok (Err x) r r' p p' xs zs e f le pushed = tt

pub unseen_indexed : (xs ys : List Owner) (i j : Option OwnerIndex) → ys ≡ unseen xs → j ≡ i → AreOwnersIndexed xs i → AreOwnersIndexed ys j
unseen_indexed xs ys i j e f is = rw (e, f) (indexed_same xs (unseen xs) i (unseen_paths xs) is)
