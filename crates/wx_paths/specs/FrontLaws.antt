-- What lists begin with.
use Rattle.std.proofs.Common.{◌≡◌, ℕ, Bool, true, false, cond, List, [], ◌∷◌, map, refl, sym, ap, ◌∙◌}
use Rattle.std.specs.Prelude.{◌||◌, not}
use Rattle.std.specs.List.{All, fold, list_any}
use Rattle.std.specs.Str.{bytes_eq}
use Rattle.std.proofs.lemmas.Bool.{and_parts}
use Rattle.std.proofs.lemmas.List.Elements.{All-nil, All-cons, All-head, All-tail}
use Rattle.wx_words.specs.LineLaws.{bytes_same, bytes_again}
use Rattle.wx_paths.specs.Paths.{begins_with, both_begin, all_begin, components, IsLongestFront, some_path, common_prefix}

-- what is in one of these lists is in the other, as each test of it says
abbrev pub HaveTheSame : {X : Type 0} → List X → List X → Type 0
HaveTheSame {X} xs ys = (p : X → Bool) → list_any p xs ≡ list_any p ys

pub begins_with-same : (ps : List (List ℕ)) → begins_with ps ps ≡ true
begins_with-same [] = refl
begins_with-same (p ∷ ps) = rw (bytes_again p) (begins_with-same ps)

pub begins_with-trans : (ps qs rs : List (List ℕ)) → begins_with ps qs ≡ true → begins_with qs rs ≡ true → begins_with ps rs ≡ true
begins_with-trans ps qs [] e f = refl
begins_with-trans ps [] (r ∷ rs) e f = absurd cc
begins_with-trans [] (q ∷ qs) (r ∷ rs) e f = absurd cc
begins_with-trans (p ∷ ps) (q ∷ qs) (r ∷ rs) e f =
    let g = and_parts (bytes_eq p q) (begins_with ps qs) e in
    let h = and_parts (bytes_eq q r) (begins_with qs rs) f in
    let k : p ≡ r = bytes_same p q g.0 ∙ bytes_same q r h.0 in
    rw (← k, bytes_again p) (begins_with-trans ps qs rs g.1 h.1)

pub begins_with-both : (ps qs : List (List ℕ)) → begins_with ps qs ≡ true → begins_with qs ps ≡ true → ps ≡ qs
begins_with-both [] [] e f = refl
begins_with-both [] (q ∷ qs) e f = absurd cc
begins_with-both (p ∷ ps) [] e f = absurd cc
begins_with-both (p ∷ ps) (q ∷ qs) e f =
    let g = and_parts (bytes_eq p q) (begins_with ps qs) e in
    let h = and_parts (bytes_eq q p) (begins_with qs ps) f in
    let k : p ≡ q = bytes_same p q g.0 in
    let m : ps ≡ qs = begins_with-both ps qs g.1 h.1 in cc

-- the first piece of what both begin with, by whether the first ones are equal
abbrev first_both : Bool → List ℕ → List (List ℕ) → List (List ℕ) → List (List ℕ)
first_both b p ps qs = cond b (p ∷ both_begin ps qs) []

pub both_begin-left : (ps qs : List (List ℕ)) → begins_with ps (both_begin ps qs) ≡ true
both_begin-left [] qs = refl
both_begin-left (p ∷ ps) [] = refl
both_begin-left (p ∷ ps) (q ∷ qs) =
    elim (bytes_eq p q) as (λ b. begins_with (p ∷ ps) (first_both b p ps qs) ≡ true) [
      | true ↦ rw (bytes_again p) (both_begin-left ps qs)
      | false ↦ refl
    ]

pub both_begin-right : (ps qs : List (List ℕ)) → begins_with qs (both_begin ps qs) ≡ true
both_begin-right [] qs = refl
both_begin-right (p ∷ ps) [] = refl
both_begin-right (p ∷ ps) (q ∷ qs) =
    let P : Bool → Type 0 = λ b. bytes_eq p q ≡ b → begins_with (q ∷ qs) (first_both b p ps qs) ≡ true in
    elim (bytes_eq p q) as P [
      | true ↦ λ e. rw (bytes_same p q e, bytes_again q) (both_begin-right ps qs)
      | false ↦ λ e. refl
    ] refl

pub both_begin-longest : (ps qs rs : List (List ℕ)) → begins_with ps rs ≡ true → begins_with qs rs ≡ true → begins_with (both_begin ps qs) rs ≡ true
both_begin-longest ps qs [] e f = refl
both_begin-longest [] qs (r ∷ rs) e f = absurd cc
both_begin-longest (p ∷ ps) [] (r ∷ rs) e f = absurd cc
both_begin-longest (p ∷ ps) (q ∷ qs) (r ∷ rs) e f =
    let g = and_parts (bytes_eq p r) (begins_with ps rs) e in
    let h = and_parts (bytes_eq q r) (begins_with qs rs) f in
    let j : p ≡ r = bytes_same p r g.0 in
    let k : q ≡ r = bytes_same q r h.0 in
    rw (j, k, bytes_again r) (rw (bytes_again r) (both_begin-longest ps qs rs g.1 h.1))

-- what all begin with, from what the first ones begin with
pub fold-begins : (ps : List (List ℕ)) (lists : List (List (List ℕ))) → begins_with ps (fold both_begin ps lists) ≡ true
fold-begins ps [] = begins_with-same ps
fold-begins ps (qs ∷ lists) = begins_with-trans ps (both_begin ps qs) _ (both_begin-left ps qs) (fold-begins (both_begin ps qs) lists)

pub fold-of_each : (ps : List (List ℕ)) (lists : List (List (List ℕ))) → All (λ parts. begins_with parts (fold both_begin ps lists) ≡ true) lists
fold-of_each ps [] = All-nil _
fold-of_each ps (qs ∷ lists) =
    let P : List (List ℕ) → Type 0 = λ parts. begins_with parts (fold both_begin (both_begin ps qs) lists) ≡ true in
    All-cons P qs lists (begins_with-trans qs (both_begin ps qs) _ (both_begin-right ps qs) (fold-begins (both_begin ps qs) lists)) (fold-of_each (both_begin ps qs) lists)

pub fold-longest : (ps rs : List (List ℕ)) (lists : List (List (List ℕ))) → begins_with ps rs ≡ true → All (λ parts. begins_with parts rs ≡ true) lists → begins_with (fold both_begin ps lists) rs ≡ true
fold-longest ps rs [] e all = e
fold-longest ps rs (qs ∷ lists) e all =
    let P : List (List ℕ) → Type 0 = λ parts. begins_with parts rs ≡ true in
    fold-longest (both_begin ps qs) rs lists (both_begin-longest ps qs rs e (All-head P qs lists all)) (All-tail P qs lists all)

pub all_begin-longest : (ps : List (List ℕ)) (lists : List (List (List ℕ))) → IsLongestFront (ps ∷ lists) (all_begin (ps ∷ lists))
all_begin-longest ps lists = record {
  of_each = let P : List (List ℕ) → Type 0 = λ parts. begins_with parts (fold both_begin ps lists) ≡ true in All-cons P ps lists (fold-begins ps lists) (fold-of_each ps lists);
  longest = λ other all. let P : List (List ℕ) → Type 0 = λ parts. begins_with parts other ≡ true in fold-longest ps other lists (All-head P ps lists all) (All-tail P ps lists all);
}

-- ---- lists of which the same is in each

pub all_from_none : {X : Type 0} (p : X → Bool) (xs : List X) → list_any (λ x. not (p x)) xs ≡ false → All (λ x. p x ≡ true) xs
all_from_none p [] e = All-nil _
all_from_none {X} p (x ∷ xs) e =
    let P : X → Type 0 = λ y. p y ≡ true in
    let Q : Bool → Type 0 = λ b. p x ≡ b → (not b || list_any (λ y. not (p y)) xs) ≡ false → All P (x ∷ xs) in
    elim (p x) as Q [
      | true ↦ λ f g. All-cons P x xs f (all_from_none p xs g)
      | false ↦ λ f g. absurd cc
    ] refl e

pub none_from_all : {X : Type 0} (p : X → Bool) (xs : List X) → All (λ x. p x ≡ true) xs → list_any (λ x. not (p x)) xs ≡ false
none_from_all p [] all = refl
none_from_all {X} p (x ∷ xs) all =
    let P : X → Type 0 = λ y. p y ≡ true in
    rw (All-head P x xs all) (none_from_all p xs (All-tail P x xs all))

pub all_along : {X : Type 0} (p : X → Bool) (xs ys : List X) → HaveTheSame xs ys → All (λ x. p x ≡ true) xs → All (λ x. p x ≡ true) ys
all_along p xs ys same all = all_from_none p ys (sym (same (λ x. not (p x))) ∙ none_from_all p xs all)

pub same-turned : {X : Type 0} (xs ys : List X) → HaveTheSame xs ys → HaveTheSame ys xs
same-turned xs ys same p = sym (same p)

pub list_any-map : {X Y : Type 0} (f : X → Y) (p : Y → Bool) (xs : List X) → list_any p (map f xs) ≡ list_any (λ x. p (f x)) xs
list_any-map f p [] = refl
list_any-map f p (x ∷ xs) = ap (λ b. p (f x) || b) (list_any-map f p xs)

pub same-map : {X Y : Type 0} (f : X → Y) (xs ys : List X) → HaveTheSame xs ys → HaveTheSame (map f xs) (map f ys)
same-map f xs ys same p = list_any-map f p xs ∙ same (λ x. p (f x)) ∙ sym (list_any-map f p ys)

pub all_begin-same : (xs ys : List (List (List ℕ))) → HaveTheSame xs ys → all_begin xs ≡ all_begin ys
all_begin-same [] [] same = refl
all_begin-same [] (y ∷ ys) same = let e = same (λ x. true) in absurd cc
all_begin-same (x ∷ xs) [] same = let e = same (λ x. true) in absurd cc
all_begin-same (x ∷ xs) (y ∷ ys) same =
    let a = all_begin-longest x xs in
    let b = all_begin-longest y ys in
    begins_with-both _ _
    (a.longest _ (all_along (λ parts. begins_with parts (all_begin (y ∷ ys))) (y ∷ ys) (x ∷ xs) (same-turned (x ∷ xs) (y ∷ ys) same) b.of_each))
    (b.longest _ (all_along (λ parts. begins_with parts (all_begin (x ∷ xs))) (x ∷ xs) (y ∷ ys) same a.of_each))

-- the common prefix goes by which paths there are, in whatever order
pub common_prefix-same : (xs ys : List (List ℕ)) → HaveTheSame xs ys → common_prefix xs ≡ common_prefix ys
common_prefix-same xs ys same = ap some_path (all_begin-same (map components xs) (map components ys) (same-map components xs ys same))
