-- What is known of each journal that a worker stands for.
use Rattle.std.specs.Prelude.{◌≡◌, ◌+◌, ◌<◌, ◌≤◌, ℕ, true, false, Option, None, Some, List, [], ◌∷◌, length}
use Rattle.wx_control.specs.declared.id.Id.{Id}
use Rattle.wx_events.specs.declared.event.Event.{Event}
use Rattle.wx_events.specs.declared.priority.Priority.{Priority}
use Rattle.wx_journal.specs.declared.entry.Entry.{Entry}
use Rattle.wx_journal.specs.declared.entry.Entry.TheVariants.{Begin, Sent, Offer, Word as Said, Take, Filter, Show, Hand, Dir, Make, Applied, Heard, Brought, LetGo, Ready}
use Rattle.wx_journal.specs.Names.{back_count, event_count, item_count, NamesItem, NamesItsOwn}
use Rattle.wx_lane.specs.declared.lane.LaneItem.{LaneItem}
use Rattle.wx_machine.specs.History.{lives, child}
use Rattle.wx_machine.specs.TicketLaws.{IsPlaced}
use Rattle.wx_machine.specs.Start.{Start}
use Rattle.wx_machine.specs.Jobs.{AreLawful}
use Rattle.wx_machine.specs.Settings.{settings, revision}
use Rattle.wx_machine.specs.Files.{source, applied, is_applied, is_deaf, may_be_judged}
use Rattle.wx_machine.specs.FileLaws.{IsBroughtHere, IsLetGo, IsOfItem, IsReady, WaitsAs, brought, offered_below}
use Rattle.wx_machine.specs.Journal.{passes_unseen, closed, bag, offered, window}
use Rattle.wx_machine.specs.Due.{IsGreatest, Point, PointAnswer, brings, Agenda, Open, Comes, Steps, Plans, Ends, agenda, rest_entry, is_quitting}
use Rattle.wx_machine.proofs.Always.{Always}
use Rattle.wx_machine.proofs.Lawful.{Revises, MadeInOrder, Lawful}

-- nothing, or the end
abbrev pub IsQuiet : Agenda → Type 0
IsQuiet Open = Unit {0}
IsQuiet Ends = Unit {0}
IsQuiet (_) = ⊥

-- an event that is offered of an item: it has a name
abbrev pub IsOffered : Start → List Entry → Option ℕ → Event → Priority → Type 0
IsOffered s p item event priority = NamesItem p item × IsOfItem s p item event priority

-- What is known of each entry that a point of a run brings, or a step. None brings another.
abbrev pub IsBrought : Start → List Entry → Entry → Type 0
IsBrought s p (Begin beginning) = Unit {0}
IsBrought s p (Sent name event priority) = name ≡ event_count p
IsBrought s p (Offer name item result event priority) = (name ≡ event_count p) × IsOffered s p item event priority × (result ≡ offered s p)
IsBrought s p (Said word) = Unit {0}
IsBrought s p (Take name) = IsGreatest name (bag p) × (closed p ≡ false)
IsBrought s p (Filter n name answer) = (name < event_count p) × (passes_unseen name p ≡ false) × (closed p ≡ false)
IsBrought s p (Show n error wish) = closed p ≡ false
IsBrought s p (Hand n names acts) = (names ≡ window p) × AreLawful p acts × (0 < length (window p))
IsBrought s p (Dir n path answer) = (n ≡ (applied s p).filterer) × (may_be_judged s p path ≡ true)
IsBrought s p (Make back watcher follow answer) = (back ≡ back_count p) × (watcher ≡ (applied s p).file_watcher) × (follow ≡ (applied s p).follow_symlinks)
IsBrought s p (Applied named) = (named ≡ revision s p) × (is_applied (settings s p) (source s p).applied ≡ false)
IsBrought s p (Brought item back answer) = IsBroughtHere s p item back × (back < back_count p)
IsBrought s p (LetGo item cause) = (item < item_count p) × IsLetGo s p item cause
IsBrought s p (Heard item) = (item < item_count p) × WaitsAs s p item (λ i. is_deaf i ≡ true)
IsBrought s p (Ready named) = IsReady s p named
IsBrought s p (_) = ⊥

-- each entry that this point may bring behind these is such, whatever is answered
abbrev pub AllBrought : Start → List Entry → Point → Type 0
AllBrought s p x = (a : PointAnswer s p x) → IsBrought s p (brings s p x a)

-- What may stand behind points: it fits whatever comes before it. A step may, of which something came.
abbrev pub IsLasting : Start → Agenda → Type 0
IsLasting s (Comes x more) = ((p : List Entry) → AllBrought s p x) × IsLasting s more
IsLasting s (Steps untouched more) = (untouched ≡ false) × IsLasting s more
IsLasting s (Plans k more) = ⊥
IsLasting s (_) = Unit {0}

-- What a point brings is such, and what stands behind it lasts. So is what comes in place of a step. A plan is lawful, and behind it is nothing, or the end. Each entry
-- of it that tells a change names the next revision, and answers a change that waits.
abbrev pub IsFit : Start → List Entry → Agenda → Type 0
IsFit s p (Comes x more) = AllBrought s p x × IsLasting s more
IsFit s p (Steps untouched more) = (untouched ≡ true → IsBrought s p (rest_entry s p)) × IsLasting s more
IsFit s p (Plans k more) = Lawful p k × IsQuiet more × Always (Revises s) p k
IsFit s p (_) = Unit {0}

-- Where something else than a plan or the end is owed the end wasn't asked for.
abbrev pub IsGoing : List Entry → Agenda → Type 0
IsGoing p (Plans k more) = Unit {0}
IsGoing p Ends = Unit {0}
IsGoing p (_) = is_quitting p ≡ false

-- no child of a job runs that doesn't live
abbrev pub GoneRunNone : List Entry → Type 0
GoneRunNone p = (id : Id) → lives id p ≡ false → child id p ≡ None

-- An item of the lane has a name from this one on, and was brought under it as it is, by a backend that has a name.
pub record IsKnown (p : List Entry) (low : ℕ) (i : LaneItem) : Type 0 where
  pub later : low ≤ i.name
  pub named : i.name < item_count p
  pub back_named : i.back < back_count p
  pub was_brought : brought i.name p ≡ Some (i.back, i.item)

-- so it is with each, and their names rise
abbrev pub AreKnown : List Entry → ℕ → List LaneItem → Type 0
AreKnown p low [] = Unit {0}
AreKnown p low (i ∷ items) = IsKnown p low i × AreKnown p (i.name + 1) items

-- What is known of what is watched: what waits was brought behind all that was offered, and the backend that stands has a name.
pub record IsSourced (s : Start) (p : List Entry) : Type 0 where
  pub offered_named : offered_below p ≤ item_count p
  pub waiting : AreKnown p (offered_below p) (source s p).lane
  pub current_named : (back : ℕ) → (source s p).current ≡ Some back → back < back_count p

-- It names only what its own entries made, makes jobs under new ids, in their order, or again, lets no child of a job run that doesn't
-- live, has its tickets placed, knows what waits in the lane, and owes what fits. The empty journal is such, and each that is stays so with an entry that is
-- due, or with a turn.
pub record IsOrderly (s : Start) (p : List Entry) : Type 0 where
  pub own : NamesItsOwn p
  pub in_order : MadeInOrder p
  pub idle : GoneRunNone p
  pub placed : IsPlaced p
  pub sourced : IsSourced s p
  pub fit : IsFit s p (agenda s p)
  pub going : IsGoing p (agenda s p)
