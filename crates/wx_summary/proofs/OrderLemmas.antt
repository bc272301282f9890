-- A summary goes by which events there are, in whatever order and however often.
use Rattle.std.proofs.Common.{◌≡◌, ℕ, Bool, true, false, List, [], ◌∷◌, refl, sym, ap, ◌∙◌, Option, Some, None, codes}
use Rattle.std.specs.Prelude.{◌||◌}
use Rattle.std.specs.List.{list_any, filter_map, flat_map, cons_option, join_with_byte}
use Rattle.std.specs.Ordering.{eq_by_cmp}
use Rattle.std.specs.FinMap as finite
use Rattle.std.proofs.lemmas.List.Folds.{list_any-append}
use Rattle.std.proofs.lemmas.List.Sorted.{list_any-IsPermutation}
use Rattle.wx_events.specs.declared.event.Event.{Event}
use Rattle.wx_paths.specs.FrontLaws.{HaveTheSame, same-map, common_prefix-same}
use Rattle.wx_keys.specs.Tags.{all_tags, path_in, paths}
use Rattle.wx_summary.specs.declared.group.Group.{Group}
use Rattle.wx_summary.specs.Groups.{group_name, groups}
use Rattle.wx_summary.specs.Summaries.{trunk, trunks, common, changed_in, changed, joined, pair, group_text, group_pair}
use Rattle.wx_summary.specs.Laws.{OrderIsOpen, TheSameSuffice}
use Rattle.wx_summary.proofs.SetLemmas.{by_bytes, same_set}

any-flat_map : {X Y : Type 0} (f : X → List Y) (p : Y → Bool) (xs : List X) → list_any p (flat_map f xs) ≡ list_any (λ x. list_any p (f x)) xs
any-flat_map f p [] = refl
any-flat_map f p (x ∷ xs) = list_any-append p (f x) (flat_map f xs) ∙ ap (λ b. list_any p (f x) || b) (any-flat_map f p xs)

same-flat_map : {X Y : Type 0} (f : X → List Y) (xs ys : List X) → HaveTheSame xs ys → HaveTheSame (flat_map f xs) (flat_map f ys)
same-flat_map f xs ys same p = any-flat_map f p xs ∙ same (λ x. list_any p (f x)) ∙ sym (any-flat_map f p ys)

-- whether what may be absent is there and passes
abbrev passes : {Y : Type 0} → (Y → Bool) → Option Y → Bool
passes p None = false
passes p (Some y) = p y

any-filter_map : {X Y : Type 0} (f : X → Option Y) (p : Y → Bool) (xs : List X) → list_any p (filter_map f xs) ≡ list_any (λ x. passes p (f x)) xs
any-filter_map f p [] = refl
any-filter_map {X} {Y} f p (x ∷ xs) =
    elim (f x) as (λ o. list_any p (cons_option o (filter_map f xs)) ≡ (passes p o || list_any (λ z. passes p (f z)) xs)) [
      | None ↦ any-filter_map f p xs
      | Some y ↦ ap (λ b. p y || b) (any-filter_map f p xs)
    ]

same-filter_map : {X Y : Type 0} (f : X → Option Y) (xs ys : List X) → HaveTheSame xs ys → HaveTheSame (filter_map f xs) (filter_map f ys)
same-filter_map f xs ys same p = any-filter_map f p xs ∙ same (λ x. passes p (f x)) ∙ sym (any-filter_map f p ys)

same_trunks : (events others : List Event) → HaveTheSame events others → HaveTheSame (trunks events) (trunks others)
same_trunks events others same =
    same-map trunk (paths (all_tags events)) (paths (all_tags others))
    (same-filter_map path_in (all_tags events) (all_tags others)
    (same-flat_map (λ event. event.tags) events others same))

same_common : (events others : List Event) → HaveTheSame events others → common events ≡ common others
same_common events others same = common_prefix-same (trunks events) (trunks others) (same_trunks events others same)

same_joined : (xs ys : List (List ℕ)) → HaveTheSame xs ys → joined xs ≡ joined ys
same_joined [] [] same = refl
same_joined [] (y ∷ ys) same = let e = same (λ x. true) in absurd cc
same_joined (x ∷ xs) [] same = let e = same (λ x. true) in absurd cc
same_joined (x ∷ xs) (y ∷ ys) same =
    ap (λ s. Some (join_with_byte 58 (finite.keys s))) (same_set (x ∷ xs) (y ∷ ys) (λ q. same (eq_by_cmp by_bytes q)))

same_text : (events others : List Event) → HaveTheSame events others → (group : Group) → group_text events group ≡ group_text others group
same_text events others same group =
    ap (λ above. joined (changed above group events)) (same_common events others same)
    ∙ same_joined _ _ (same-flat_map (changed_in (common others) group) events others same)

same_pairs : (events others : List Event) → HaveTheSame events others → (gs : List Group) → filter_map (group_pair events) gs ≡ filter_map (group_pair others) gs
same_pairs events others same [] = refl
same_pairs events others same (g ∷ gs) =
    ap (λ text. cons_option (pair (group_name g) text) (filter_map (group_pair events) gs)) (same_text events others same g)
    ∙ ap (λ rest. cons_option (group_pair others g) rest) (same_pairs events others same gs)

pub the_same_suffice : TheSameSuffice
the_same_suffice events others same =
    ap (λ text. cons_option (pair (codes "COMMON") text) (filter_map (group_pair events) groups)) (same_common events others same)
    ∙ ap (λ rest. cons_option (pair (codes "COMMON") (common others)) rest) (same_pairs events others same groups)

pub order_is_open : OrderIsOpen
order_is_open events others moved = the_same_suffice events others (λ p. list_any-IsPermutation p events others moved)
