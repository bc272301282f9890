-- What holds of every run of the entries about what is watched.
use Rattle.std.specs.Prelude.{◌≡◌, ◌≤◌, ◌+◌, ◌==◌, if◌then◌else◌, ℕ, Bool, true, false, Option, None, Some, Result, Ok, Err, List, [], ◌∷◌}
use Rattle.wx_watch.specs.declared.watched.Watcher.{Watcher}
use Rattle.wx_journal.specs.declared.entry.Entry.{Entry}
use Rattle.wx_journal.specs.declared.entry.Entry.TheVariants.{Offer, Word as Said, Dropped, Gone, Dir, Make, Applied, Heard, Brought, LetGo, Ready}
use Rattle.wx_journal.specs.declared.entry.LetGoCause.{LetGoCause}
use Rattle.wx_journal.specs.declared.entry.LetGoCause.TheVariants.{Full, Obsolete, Uncovered}
use Rattle.wx_journal.specs.Names.{back_count, item_count}
use Rattle.wx_events.specs.declared.event.Event.{Event}
use Rattle.wx_events.specs.declared.priority.Priority.{Priority}
use Rattle.wx_events.specs.declared.priority.Priority.TheVariants.{Normal}
use Rattle.wx_notify.specs.declared.notify.Notify.{Notify}
use Rattle.wx_watch.specs.declared.notify_fault.NotifyFault.{NotifyFault}
use Rattle.wx_lane.specs.declared.lane.LaneItem.{LaneItem}
use Rattle.wx_lane.specs.Lanes.{fenced}
use Rattle.wx_lane.specs.FileEvents.{event_of}
use Rattle.wx_machine.specs.Start.{Start}
use Rattle.wx_machine.specs.Settings.{settings, revision}
use Rattle.wx_machine.specs.Files.{source, is_file_word, was_applied, has_backend, applied, is_applied, may_be_judged, is_deaf, is_live, is_public, finds_full, item_named, first_item}

-- A directory was shown to the filter that was applied, and lies strictly below a recursive path that was applied. A backend stands.
pub record IsJudged (s : Start) (p : List Entry) (n : ℕ) (path : List ℕ) : Type 0 where
  pub some_applied : was_applied s p ≡ true
  pub stands : has_backend s p ≡ true
  pub filter : n ≡ (applied s p).filterer
  pub below : may_be_judged s p path ≡ true

-- A backend has the next name, and was made by the watcher that was applied, with links followed or not as that was applied. Directly
-- behind an Applied these are the settings that stand.
pub record IsMadeAsApplied (s : Start) (p : List Entry) (back : ℕ) (watcher : Watcher) (links : Bool) : Type 0 where
  pub some_applied : was_applied s p ≡ true
  pub next : back ≡ back_count p
  pub by_watcher : watcher ≡ (applied s p).file_watcher
  pub by_links : links ≡ (applied s p).follow_symlinks

-- An Applied names the revision of the settings that stand, and they weren't the ones that were applied last.
pub record IsNewlyApplied (s : Start) (p : List Entry) (named : ℕ) : Type 0 where
  pub stands : named ≡ revision s p
  pub new : is_applied (settings s p) (source s p).applied ≡ false

-- The backend that stands brought this, under the next name.
pub record IsBroughtHere (s : Start) (p : List Entry) (item back : ℕ) : Type 0 where
  pub next : item ≡ item_count p
  pub stands : (source s p).current ≡ Some back

-- the newest entry brought this item, and as many waited before as may
abbrev pub IsFull : Start → List Entry → ℕ → Type 0
IsFull s (Brought item back answer ∷ p) named = (named ≡ item) × (finds_full s p answer ≡ true)
IsFull s (_) named = ⊥

-- an item of this name is in the lane, and this holds of it
pub record WaitsAs (s : Start) (p : List Entry) (item : ℕ) (holds : LaneItem → Type 0) : Type 0 where
  pub found : LaneItem
  pub there : item_named item (source s p).lane ≡ Some found
  pub so : holds found

-- The first item of the lane has this name, and is an event, whose changes were heard, where it has any; and this holds of its backend
-- and of what happened.
pub record IsNextEvent (s : Start) (p : List Entry) (item : ℕ) (holds : ℕ → Notify → Type 0) : Type 0 where
  pub found : LaneItem
  pub notify : Notify
  pub there : first_item (source s p).lane ≡ Some found
  pub name : found.name ≡ item
  pub event : found.item ≡ Ok notify
  pub heard : is_deaf found ≡ false
  pub so : holds found.back notify

-- Why an item was let go: as many waited as may, its backend isn't live, or it is of no path that was applied.
abbrev pub IsLetGo : Start → List Entry → ℕ → LetGoCause → Type 0
IsLetGo s p item Full = IsFull s p item
IsLetGo s p item Obsolete = IsNextEvent s p item (λ back n. is_live (source s p) back ≡ false)
IsLetGo s p item Uncovered = IsNextEvent s p item (λ back n. (is_live (source s p) back ≡ true) × (is_public s p n ≡ false))

-- It is offered where its backend is live and it is of a path that was applied, as this event and with this priority.
pub record MayBeOffered (s : Start) (p : List Entry) (event : Event) (priority : Priority) (back : ℕ) (n : Notify) : Type 0 where
  pub live : is_live (source s p) back ≡ true
  pub public : is_public s p n ≡ true
  pub becomes : event ≡ event_of n
  pub normal : priority ≡ Normal

-- so it is with an event that is offered of an item
abbrev pub IsOfItem : Start → List Entry → Option ℕ → Event → Priority → Type 0
IsOfItem s p None event priority = Unit {0}
IsOfItem s p (Some item) event priority = IsNextEvent s p item (MayBeOffered s p event priority)

-- It is told that all of this revision is watched, where that was asked for: nothing below the fence is to be heard.
pub record IsReady (s : Start) (p : List Entry) (revision : ℕ) : Type 0 where
  pub asked : (source s p).asks ≡ Some revision
  pub heard : fenced (source s p).fence (source s p).lane ≡ None

-- so it was with each of these entries, and a backend stood where a word about what is watched was said
abbrev pub AreWatchedByRule : Start → List Entry → Type 0
AreWatchedByRule s [] = Unit {0}
AreWatchedByRule s (Dir n path answer ∷ p) = IsJudged s p n path × AreWatchedByRule s p
AreWatchedByRule s (Make back watcher links answer ∷ p) = IsMadeAsApplied s p back watcher links × AreWatchedByRule s p
AreWatchedByRule s (Applied named ∷ p) = IsNewlyApplied s p named × AreWatchedByRule s p
AreWatchedByRule s (Brought item back answer ∷ p) = IsBroughtHere s p item back × AreWatchedByRule s p
AreWatchedByRule s (LetGo item cause ∷ p) = IsLetGo s p item cause × AreWatchedByRule s p
AreWatchedByRule s (Heard item ∷ p) = WaitsAs s p item (λ i. is_deaf i ≡ true) × AreWatchedByRule s p
AreWatchedByRule s (Ready revision ∷ p) = IsReady s p revision × AreWatchedByRule s p
AreWatchedByRule s (Offer name item result event priority ∷ p) = IsOfItem s p item event priority × AreWatchedByRule s p
AreWatchedByRule s (Said word ∷ p) = (is_file_word word ≡ true → has_backend s p ≡ true) × AreWatchedByRule s p
AreWatchedByRule s (_ ∷ p) = AreWatchedByRule s p

-- a backend couldn't be made
abbrev pub is_unmade : List Entry → Bool
is_unmade [] = false
is_unmade (Make back watcher links (Err fault) ∷ p) = true
is_unmade (_ ∷ p) = is_unmade p

-- a child is let go, or a job is gone
abbrev pub is_of_end : Entry → Bool
is_of_end (Dropped child) = true
is_of_end (Gone job) = true
is_of_end (_) = false

-- behind a backend that couldn't be made come entries of the end alone
abbrev pub UnmadeEnds : List Entry → Type 0
UnmadeEnds [] = Unit {0}
UnmadeEnds (e ∷ p) = (is_unmade p ≡ true → is_of_end e ≡ true) × UnmadeEnds p

-- the backend that brought the item of this name, and what it is
abbrev pub brought : ℕ → List Entry → Option (ℕ × Result Notify NotifyFault)
brought named [] = None
brought named (Brought item back answer ∷ p) = if item == named then Some (back, answer) else brought named p
brought named (_ ∷ p) = brought named p

-- each item that was offered so far has a name below this
abbrev pub offered_below : List Entry → ℕ
offered_below [] = 0
offered_below (Offer name (Some item) result event priority ∷ p) = item + 1
offered_below (_ ∷ p) = offered_below p

-- An event that is offered from files is the one that a live backend brought under this name, which is of a path that was applied; no
-- item of this name or a later one was offered before.
pub record IsFromFiles (s : Start) (p : List Entry) (item : ℕ) (event : Event) (priority : Priority) : Type 0 where
  pub back : ℕ
  pub notify : Notify
  pub was_brought : brought item p ≡ Some (back, Ok notify)
  pub becomes : event ≡ event_of notify
  pub normal : priority ≡ Normal
  pub live : is_live (source s p) back ≡ true
  pub public : is_public s p notify ≡ true
  pub later : offered_below p ≤ item

-- so it was with each that was offered: they come in the order brought, and each once at most
abbrev pub AreFromFiles : Start → List Entry → Type 0
AreFromFiles s [] = Unit {0}
AreFromFiles s (Offer name (Some item) result event priority ∷ p) = IsFromFiles s p item event priority × AreFromFiles s p
AreFromFiles s (_ ∷ p) = AreFromFiles s p
