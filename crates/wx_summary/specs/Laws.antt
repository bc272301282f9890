-- Laws of summaries.
use Rattle.std.specs.Prelude.{◌≡◌, ℕ, false, None, List, map, codes}
use Rattle.std.specs.List.{list_any}
use Rattle.std.specs.List.Sorted.{IsPermutation, IsStrictlySortedBy}
use Rattle.std.specs.Ordering.{nat_cmp}
use Rattle.std.specs.Cmp.Lexicographic.{slice_cmp}
use Rattle.std.specs.Str.{bytes_eq}
use Rattle.wx_events.specs.declared.event.Event.{Event}
use Rattle.wx_paths.specs.FrontLaws.{HaveTheSame}
use Rattle.wx_summary.specs.declared.group.Group.{Group}
use Rattle.wx_summary.specs.Groups.{group_name}
use Rattle.wx_summary.specs.Summaries.{common, elements, group_text, summary, value_of}

-- each of these is below all behind it, by bytes
abbrev pub Rise : List (List ℕ) → Type 0
Rise texts = IsStrictlySortedBy (slice_cmp nat_cmp) texts

-- ---- a set

-- the elements of a set rise, so each stands once
abbrev pub ElementsRise : Type 0
ElementsRise = (texts : List (List ℕ)) → Rise (elements texts)

-- they are just these texts
abbrev pub ElementsAreThese : Type 0
ElementsAreThese = (texts : List (List ℕ)) (text : List ℕ) → list_any (bytes_eq text) (elements texts) ≡ list_any (bytes_eq text) texts

-- ---- a summary is a map

-- its names rise, so each stands once
abbrev pub NamesRise : Type 0
NamesRise = (events : List Event) → Rise (map (λ (p : List ℕ × List ℕ). p.0) (summary events))

-- each group has its text
abbrev pub GroupsAreThere : Type 0
GroupsAreThere = (events : List Event) (group : Group) → value_of (summary events) (group_name group) ≡ group_text events group

-- COMMON has what all trunks share
abbrev pub CommonIsThere : Type 0
CommonIsThere = (events : List Event) → value_of (summary events) (codes "COMMON") ≡ common events

-- no other name has a text
abbrev pub NoOtherIsThere : Type 0
NoOtherIsThere = (events : List Event) (name : List ℕ) → bytes_eq (codes "COMMON") name ≡ false → ((group : Group) → bytes_eq (group_name group) name ≡ false) → value_of (summary events) name ≡ None

-- ---- it goes by which events there are

-- the order of events doesn't matter
abbrev pub OrderIsOpen : Type 0
OrderIsOpen = (events others : List Event) → IsPermutation events others → summary events ≡ summary others

-- nor does it how often each stands
abbrev pub TheSameSuffice : Type 0
TheSameSuffice = (events others : List Event) → HaveTheSame events others → summary events ≡ summary others
