-- Components that are spelled are read again.
use Rattle.std.proofs.Common.{◌≡◌, ℕ, zero, suc, ◌<◌, Bool, true, false, cond, List, [], ◌∷◌, ◌++◌, length, take, refl, sym, ap, subst, ◌∙◌, Some, None, Option, ◌⊎◌, inl, inr, sub-one, arith, codes}
use Rattle.std.specs.Prelude.{◌==◌, ◌||◌, ◌&&◌, not, option_map}
use Rattle.std.specs.List.{filter, join_with_byte, cons_option, onto_first, list_any}
use Rattle.std.specs.Str.{bytes_eq}
use Rattle.std.proofs.lemmas.Bool.{ne_eqb}
use Rattle.std.proofs.lemmas.List.Elements.{filter-append}
use Rattle.wx_words.specs.Line.{parts}
use Rattle.wx_words.specs.LineLaws.{some_part}
use Rattle.wx_paths.specs.Paths.{is_named, path_parts, is_absolute, begins_here, front, components, path_of, is_rooted, is_top, parent_parts, parent, without_last, normalize, kept, spelled, IsName}
use Rattle.wx_paths.proofs.SpellLemmas.{HasNoSlash, AreNames, names_clean, split_alone, split_joined, filter_names, parts_joined, joined_relative, parts_are_names, kept_parts}

-- ---- what components are

abbrev pub IsFirst : List ℕ → Type 0
IsFirst part = (part ≡ codes "/") ⊎ ((part ≡ codes ".") ⊎ ((is_named part ≡ true) × HasNoSlash part))

abbrev pub AreComponents : List (List ℕ) → Type 0
AreComponents [] = Unit {0}
AreComponents (part ∷ parts) = IsFirst part × AreNames parts

pub names_are_components : (names : List (List ℕ)) → AreNames names → AreComponents names
names_are_components [] h = tt
names_are_components (name ∷ names) h = (inr (inr h.0), h.1)

-- the front of a path by what it is told from
abbrev pub front_of : Bool → Bool → Option (List ℕ)
front_of absolute here = cond absolute (Some (codes "/")) (cond here (Some (codes ".")) None)

pub components_are : (path : List ℕ) → AreComponents (components path)
components_are path =
    let n = parts_are_names path in
    elim (is_absolute path) as (λ a. AreComponents (cons_option (front_of a (begins_here (parts 47 path))) (path_parts path))) [
      | true ↦ (inl refl, n)
      | false ↦ elim (begins_here (parts 47 path)) as (λ h. AreComponents (cons_option (front_of false h) (path_parts path))) [
        | true ↦ (inr (inl refl), n)
        | false ↦ names_are_components (path_parts path) n
      ]
    ]

pub names-take : (n : ℕ) (names : List (List ℕ)) → AreNames names → AreNames (take n names)
names-take zero names h = tt
names-take (suc n) [] h = tt
names-take (suc n) (name ∷ names) h = (h.0, names-take n names h.1)

pub components-take : (n : ℕ) (list : List (List ℕ)) → AreComponents list → AreComponents (take n list)
components-take zero list h = tt
components-take (suc n) [] h = tt
components-take (suc n) (part ∷ list) h = (h.0, names-take n list h.1)

-- ---- they are read again

pub components_by : (path : List ℕ) (absolute : Bool) (pieces : List (List ℕ)) → is_absolute path ≡ absolute → parts 47 path ≡ pieces → components path ≡ cons_option (front_of absolute (begins_here pieces)) (filter is_named pieces)
components_by path absolute pieces a p = rw (← a, ← p) refl

pub name_unrooted : (name : List ℕ) (names : List (List ℕ)) → HasNoSlash name → is_rooted (name ∷ names) ≡ false
name_unrooted [] names h = refl
name_unrooted (b ∷ name) names h = rw h.0 refl

pub path_of-names : (names : List (List ℕ)) → AreNames names → path_of names ≡ join_with_byte 47 names
path_of-names [] h = refl
path_of-names (name ∷ names) h = rw (name_unrooted name names h.0.1) refl

pub here_relative : (names : List (List ℕ)) → is_absolute (join_with_byte 47 (codes "." ∷ names)) ≡ false
here_relative [] = refl
here_relative (name ∷ names) = refl

pub named_not_here : (name : List ℕ) → is_named name ≡ true → bytes_eq name (codes ".") ≡ false
named_not_here name e =
    let P : Bool → Type 0 = λ t. not (length name == 0 || t) ≡ true → t ≡ false in
    elim (bytes_eq name (codes ".")) as P [
      | true ↦ λ f. elim (length name == 0) as (λ u. not (u || true) ≡ true → true ≡ false) [ true ↦ λ g. absurd cc | false ↦ λ g. absurd cc ] f
      | false ↦ λ f. refl
    ] e

pub components-names : (names : List (List ℕ)) → AreNames names → components (join_with_byte 47 names) ≡ names
components-names [] h = refl
components-names (name ∷ names) h =
    components_by (join_with_byte 47 (name ∷ names)) false (name ∷ names) (joined_relative (name ∷ names) h) (split_joined name names h.0.1 (names_clean names h.1))
    ∙ ap (cons_option (front_of false (begins_here (name ∷ names)))) (filter_names (name ∷ names) h)
    ∙ ap (λ (b : Bool). cons_option (front_of false b) (name ∷ names)) (named_not_here name h.0.0)

pub components-path_of : (list : List (List ℕ)) → AreComponents list → components (path_of list) ≡ list
components-path_of [] h = refl
components-path_of (part ∷ list) h =
    let P : List ℕ → Type 0 = λ v. components (path_of (v ∷ list)) ≡ v ∷ list in
    elim h.0 [
      | inl e ↦ subst P (sym e) (ap (λ (v : List (List ℕ)). codes "/" ∷ v) (parts_joined list h.1))
      | inr f ↦ elim f [
        | inl e ↦ subst P (sym e) (components_by (join_with_byte 47 (codes "." ∷ list)) false (codes "." ∷ list) (here_relative list) (split_joined (codes ".") list (refl, tt) (names_clean list h.1)) ∙ ap (λ (v : List (List ℕ)). codes "." ∷ v) (filter_names list h.1))
        | inr g ↦ ap components (path_of-names (part ∷ list) (g, h.1)) ∙ components-names (part ∷ list) (g, h.1)
      ]
    ]

-- a normal path is what its components spell
pub normal-spelled : (path : List ℕ) → path_of (components (normalize path)) ≡ normalize path
normal-spelled path =
    let names = kept (path_parts path) in
    let n : AreNames (kept (path_parts path)) = (kept_parts path).0 in
    elim (is_absolute path) as (λ a. path_of (components (spelled a (kept (path_parts path)))) ≡ spelled a (kept (path_parts path))) [
      | true ↦ ap (λ (v : List (List ℕ)). codes "/" ++ join_with_byte 47 v) (parts_joined _ n)
      | false ↦ ap path_of (components-names _ n) ∙ path_of-names _ n
    ]

-- ---- a name more

pub onto_first-append : (b : ℕ) (pieces more : List (List ℕ)) → 0 < length pieces → onto_first b (pieces ++ more) ≡ onto_first b pieces ++ more
onto_first-append b [] more h = absurd (omega (arith, h))
onto_first-append b (piece ∷ pieces) more h = refl

pub split-append : (x y : List ℕ) → parts 47 (x ++ 47 ∷ y) ≡ parts 47 x ++ parts 47 y
split-append [] y = refl
split-append (b ∷ x) y =
    elim (b == 47) as (λ t. cond t ([] ∷ parts 47 (x ++ 47 ∷ y)) (onto_first b (parts 47 (x ++ 47 ∷ y))) ≡ cond t ([] ∷ parts 47 x) (onto_first b (parts 47 x)) ++ parts 47 y) [
      | true ↦ ap (λ (v : List (List ℕ)). [] ∷ v) (split-append x y)
      | false ↦ ap (onto_first b) (split-append x y) ∙ onto_first-append b (parts 47 x) (parts 47 y) (some_part 47 x)
    ]

pub absolute-append : (path rest : List ℕ) → 0 < length path → is_absolute (path ++ rest) ≡ is_absolute path
absolute-append [] rest h = absurd (omega (arith, h))
absolute-append (b ∷ path) rest h = refl

pub here-append : (pieces more : List (List ℕ)) → 0 < length pieces → begins_here (pieces ++ more) ≡ begins_here pieces
here-append [] more h = absurd (omega (arith, h))
here-append (piece ∷ pieces) more h = refl

pub no_slash : (name : List ℕ) → list_any (λ b. b == 47) name ≡ false → HasNoSlash name
no_slash [] e = tt
no_slash (b ∷ name) e =
    let P : Bool → Type 0 = λ t. (b == 47) ≡ t → (t || list_any (λ c. c == 47) name) ≡ false → HasNoSlash (b ∷ name) in
    elim (b == 47) as P [ true ↦ λ f g. absurd cc | false ↦ λ f g. (f, no_slash name g) ] refl e

pub cons_option-append : (x : Option (List ℕ)) (xs ys : List (List ℕ)) → cons_option x (xs ++ ys) ≡ cons_option x xs ++ ys
cons_option-append None xs ys = refl
cons_option-append (Some x) xs ys = refl

pub components-append : (path name : List ℕ) → 0 < length path → IsName name → components (path ++ 47 ∷ name) ≡ components path ++ name ∷ []
components-append path name some n =
    let p : parts 47 (path ++ 47 ∷ name) ≡ parts 47 path ++ name ∷ [] = split-append path name ∙ ap (λ (v : List (List ℕ)). parts 47 path ++ v) (split_alone name (no_slash name n.1)) in
    let one : filter is_named (name ∷ []) ≡ name ∷ [] = rw n.0 refl in
    let f : filter is_named (parts 47 path ++ name ∷ []) ≡ path_parts path ++ name ∷ [] = filter-append is_named (parts 47 path) (name ∷ []) ∙ ap (λ (v : List (List ℕ)). path_parts path ++ v) one in
    components_by (path ++ 47 ∷ name) (is_absolute path) _ (absolute-append path (47 ∷ name) some) p
    ∙ ap (λ (h : Bool). cons_option (front_of (is_absolute path) h) (filter is_named (parts 47 path ++ name ∷ []))) (here-append (parts 47 path) (name ∷ []) (some_part 47 path))
    ∙ ap (cons_option (front path)) f
    ∙ cons_option-append (front path) (path_parts path) (name ∷ [])

pub length-push : (list : List (List ℕ)) (name : List ℕ) → length (list ++ name ∷ []) ≡ suc (length list)
length-push [] name = refl
length-push (part ∷ list) name = ap suc (length-push list name)

pub take-push : (list : List (List ℕ)) (name : List ℕ) → take (length list) (list ++ name ∷ []) ≡ list
take-push [] name = refl
take-push (part ∷ list) name = ap (λ (v : List (List ℕ)). part ∷ v) (take-push list name)

pub not_top : (part : List ℕ) (more : List (List ℕ)) (n : ℕ) → length more ≡ suc n → is_top (part ∷ more) ≡ false
not_top part more n e =
    let some : (length (part ∷ more) == 0) ≡ false = ne_eqb _ _ (λ f. omega (arith, e, f)) in
    let two : (length (part ∷ more) == 1) ≡ false = ne_eqb _ _ (λ f. omega (arith, e, f)) in
    rw (some, two) (elim (is_rooted (part ∷ more)) as (λ b. (b && false) ≡ false) [ true ↦ refl | false ↦ refl ])

pub last_taken : (list : List (List ℕ)) (name : List ℕ) → without_last (list ++ name ∷ []) ≡ list
last_taken list name = rw (length-push list name, sub-one) (take-push list name)

pub parent_parts-push : (list : List (List ℕ)) (name : List ℕ) → HasNoSlash name → parent_parts (list ++ name ∷ []) ≡ Some list
parent_parts-push [] name h = rw (name_unrooted name [] h) refl
parent_parts-push (part ∷ list) name h = rw (not_top part (list ++ name ∷ []) (length list) (length-push list name)) (ap Some (last_taken (part ∷ list) name))

pub parent-append : (path name : List ℕ) → 0 < length path → IsName name → parent (path ++ 47 ∷ name) ≡ Some (path_of (components path))
parent-append path name some n = ap (λ (v : List (List ℕ)). option_map path_of (parent_parts v)) (components-append path name some n) ∙ ap (option_map path_of) (parent_parts-push (components path) name (no_slash name n.1))
