-- A summary is a map: each name stands once, and has its text.
use Rattle.std.proofs.Common.{◌≡◌, ℕ, Bool, true, false, List, [], ◌∷◌, ◌++◌, map, refl, ◌∙◌, Option, Some, None, codes}
use Rattle.std.specs.Prelude.{◌||◌}
use Rattle.std.specs.List.{list_any, filter_map, cons_option, AllByRecursion}
use Rattle.std.specs.List.Sorted.{IsStrictlySortedBy}
use Rattle.std.specs.Ordering.{nat_cmp}
use Rattle.std.specs.Cmp.Lexicographic.{slice_cmp}
use Rattle.std.specs.declared.cmp.Ordering.TheVariants.{Less}
use Rattle.std.specs.Str.{bytes_eq}
use Rattle.wx_words.specs.LineLaws.{bytes_again}
use Rattle.wx_events.specs.declared.event.Event.{Event}
use Rattle.wx_summary.specs.declared.group.Group.{Group}
use Rattle.wx_summary.specs.declared.group.Group.TheVariants.{Created, MetaChanged, OtherwiseChanged, Removed, Renamed, Written}
use Rattle.wx_summary.specs.Groups.{group_name, groups}
use Rattle.wx_summary.specs.Summaries.{common, pair, group_text, group_pair, summary, value_of}
use Rattle.wx_summary.specs.Laws.{NamesRise, GroupsAreThere, CommonIsThere, NoOtherIsThere, Rise}

abbrev pub Pairs : Type 0
Pairs = List (List ℕ × List ℕ)

-- a pair of another name is passed over
other_name : (name : List ℕ) (text : Option (List ℕ)) (rest : Pairs) (q : List ℕ) → bytes_eq name q ≡ false → value_of (cons_option (pair name text) rest) q ≡ value_of rest q
other_name name None rest q e = refl
other_name name (Some t) rest q e = rw e refl

-- a pair of this name is found, where no more of it follow
this_name : (name : List ℕ) (text : Option (List ℕ)) (rest : Pairs) → value_of rest name ≡ None → value_of (cons_option (pair name text) rest) name ≡ text
this_name name None rest e = e
this_name name (Some t) rest e = rw (bytes_again name) refl

module _ (events : List Event) where
  -- whether one of these groups has this name
  abbrev names : List ℕ → List Group → Bool
  names q gs = list_any (λ g. bytes_eq (group_name g) q) gs

  -- what these groups come to
  abbrev told : List Group → Pairs
  told gs = filter_map (group_pair events) gs

  absent : (q : List ℕ) (gs : List Group) → names q gs ≡ false → value_of (told gs) q ≡ None
  absent q [] e = refl
  absent q (g ∷ gs) e =
      let P : Bool → Type 0 = λ b. bytes_eq (group_name g) q ≡ b → (b || names q gs) ≡ false → value_of (told (g ∷ gs)) q ≡ None in
      elim (bytes_eq (group_name g) q) as P [
        | true ↦ λ f h. absurd cc
        | false ↦ λ f h. other_name (group_name g) (group_text events g) (told gs) q f ∙ absent q gs h
      ] refl e

  found : (front : List Group) (g : Group) (gs : List Group) → names (group_name g) front ≡ false → names (group_name g) gs ≡ false → value_of (told (front ++ g ∷ gs)) (group_name g) ≡ group_text events g
  found [] g gs e f = this_name (group_name g) (group_text events g) (told gs) (absent (group_name g) gs f)
  found (h ∷ front) g gs e f =
      let P : Bool → Type 0 = λ b. bytes_eq (group_name h) (group_name g) ≡ b → (b || names (group_name g) front) ≡ false → value_of (told ((h ∷ front) ++ g ∷ gs)) (group_name g) ≡ group_text events g in
      elim (bytes_eq (group_name h) (group_name g)) as P [
        | true ↦ λ k m. absurd cc
        | false ↦ λ k m. other_name (group_name h) (group_text events h) (told (front ++ g ∷ gs)) (group_name g) k ∙ found front g gs m f
      ] refl e

  -- COMMON is no group's name
  not_common : (q : List ℕ) → bytes_eq (codes "COMMON") q ≡ false → value_of (summary events) q ≡ value_of (told groups) q
  not_common q e = other_name (codes "COMMON") (common events) (told groups) q e

  among_groups : (g : Group) → value_of (told groups) (group_name g) ≡ group_text events g
  among_groups Created = found [] Created (MetaChanged ∷ OtherwiseChanged ∷ Removed ∷ Renamed ∷ Written ∷ []) refl refl
  among_groups MetaChanged = found (Created ∷ []) MetaChanged (OtherwiseChanged ∷ Removed ∷ Renamed ∷ Written ∷ []) refl refl
  among_groups OtherwiseChanged = found (Created ∷ MetaChanged ∷ []) OtherwiseChanged (Removed ∷ Renamed ∷ Written ∷ []) refl refl
  among_groups Removed = found (Created ∷ MetaChanged ∷ OtherwiseChanged ∷ []) Removed (Renamed ∷ Written ∷ []) refl refl
  among_groups Renamed = found (Created ∷ MetaChanged ∷ OtherwiseChanged ∷ Removed ∷ []) Renamed (Written ∷ []) refl refl
  among_groups Written = found (Created ∷ MetaChanged ∷ OtherwiseChanged ∷ Removed ∷ Renamed ∷ []) Written [] refl refl

  -- names that are below all these are below those that have a text
  below_told : (name : List ℕ) (gs : List Group) → AllByRecursion (λ y. slice_cmp nat_cmp name y ≡ Less) (map group_name gs) → AllByRecursion (λ y. slice_cmp nat_cmp name y ≡ Less) (map (λ (p : List ℕ × List ℕ). p.0) (told gs))
  below_told name [] h = tt
  below_told name (g ∷ gs) h =
      elim (group_text events g) as (λ t. AllByRecursion (λ y. slice_cmp nat_cmp name y ≡ Less) (map (λ (p : List ℕ × List ℕ). p.0) (cons_option (pair (group_name g) t) (told gs)))) [
        | None ↦ below_told name gs h.1
        | Some t ↦ (h.0, below_told name gs h.1)
      ]

  told_rise : (gs : List Group) → Rise (map group_name gs) → Rise (map (λ (p : List ℕ × List ℕ). p.0) (told gs))
  unfolding IsStrictlySortedBy
  told_rise [] h = tt
  told_rise (g ∷ gs) h =
      elim (group_text events g) as (λ t. Rise (map (λ (p : List ℕ × List ℕ). p.0) (cons_option (pair (group_name g) t) (told gs)))) [
        | None ↦ told_rise gs h.1
        | Some t ↦ (below_told (group_name g) gs h.0, told_rise gs h.1)
      ]

  all_rise : Rise (map (λ (p : List ℕ × List ℕ). p.0) (summary events))
  unfolding IsStrictlySortedBy
  all_rise =
      let rest = told_rise groups ((refl, (refl, (refl, (refl, (refl, tt))))), ((refl, (refl, (refl, (refl, tt)))), ((refl, (refl, (refl, tt))), ((refl, (refl, tt)), ((refl, tt), (tt, tt)))))) in
      elim (common events) as (λ t. Rise (map (λ (p : List ℕ × List ℕ). p.0) (cons_option (pair (codes "COMMON") t) (told groups)))) [
        | None ↦ rest
        | Some t ↦ (below_told (codes "COMMON") groups (refl, (refl, (refl, (refl, (refl, (refl, tt)))))), rest)
      ]

named : (group : Group) → bytes_eq (codes "COMMON") (group_name group) ≡ false
named Created = refl
named MetaChanged = refl
named OtherwiseChanged = refl
named Removed = refl
named Renamed = refl
named Written = refl

pub names_rise : NamesRise
names_rise events = all_rise events

pub groups_are_there : GroupsAreThere
groups_are_there events group = not_common events (group_name group) (named group) ∙ among_groups events group

pub common_is_there : CommonIsThere
common_is_there events = this_name (codes "COMMON") (common events) _ (absent events (codes "COMMON") groups refl)

no_name : (q : List ℕ) (gs : List Group) → ((group : Group) → bytes_eq (group_name group) q ≡ false) → list_any (λ (g : Group). bytes_eq (group_name g) q) gs ≡ false
no_name q [] h = refl
no_name q (g ∷ gs) h = rw (h g) (no_name q gs h)

pub no_other_is_there : NoOtherIsThere
no_other_is_there events name e h = not_common events name e ∙ absent events name groups (no_name name groups h)
