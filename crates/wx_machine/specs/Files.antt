-- What a journal says of what is watched: the settings that were applied, the backend that stands, and what backends brought.
use Rattle.std.specs.Prelude.{◌≡◌, ℕ, Bool, true, false, not, ◌&&◌, ◌||◌, ◌==◌, nat_le, if◌then◌else◌, Option, None, Some, is_some, Result, Ok, Err, List, [], ◌∷◌}
use Rattle.wx_watch.specs.declared.notify_fault.NotifyFault.{NotifyFault}
use Rattle.wx_watch.specs.declared.source_errors.FsWatcherError.{FsWatcherError}
use Rattle.wx_watch.specs.declared.source_errors.FsWatcherError.TheVariants.{Create, TooManyWatches, TooManyHandles}
use Rattle.wx_watch.specs.declared.watched.WatchedPath.{WatchedPath}
use Rattle.wx_watch.specs.declared.watched.Watcher.{Watcher}
use Rattle.wx_watch.specs.declared.watched.Watcher.TheVariants.{Native, Poll}
use Rattle.wx_config.specs.declared.config.Config.{Config}
use Rattle.wx_error.specs.declared.error.CriticalError.{CriticalError}
use Rattle.wx_error.specs.declared.error.CriticalError.TheVariants.{FsWatcherInit}
use Rattle.wx_tree.specs.Paths.{Path, holds_below}
use Rattle.wx_tree.specs.Places.{place}
use Rattle.wx_scan.specs.Backings.{is_memory}
use Rattle.wx_tree.specs.declared.root.Root.{Root}
use Rattle.wx_notify.specs.declared.notify.Notify.{Notify}
use Rattle.wx_lane.specs.declared.lane.LaneItem.{LaneItem}
use Rattle.wx_lane.specs.Lanes.{has_changes, hear, is_event, is_full, put_item}
use Rattle.wx_lane.specs.Public.{event_is_public, named}
use Rattle.wx_recursor.specs.Identities.{is_of_handles, is_of_watches}
use Rattle.wx_recursor.specs.Owners.{has_root}
use Rattle.wx_journal.specs.declared.entry.Entry.{Entry}
use Rattle.wx_journal.specs.declared.entry.Entry.TheVariants.{Offer, Word as Said, Make, Applied, Heard, Brought, LetGo, Ready}
use Rattle.wx_journal.specs.declared.entry.LetGoCause.{LetGoCause}
use Rattle.wx_journal.specs.declared.entry.LetGoCause.TheVariants.{Full, Obsolete, Uncovered}
use Rattle.wx_journal.specs.declared.entry.TurnKind.{TurnKind}
use Rattle.wx_journal.specs.declared.entry.TurnKind.TheVariants.{File, Listen}
use Rattle.wx_journal.specs.Names.{back_count, item_count}
use Rattle.wx_journal.specs.declared.entry.Word.{Word}
use Rattle.wx_journal.specs.declared.entry.Word.TheVariants.{Idle, Ignored, Quitting, Later, Quiet, Stepped}
use Rattle.wx_journal.specs.Sorts.{is_of_files}
use Rattle.wx_machine.specs.Added.{Added}
use Rattle.wx_machine.specs.Start.{Start}
use Rattle.wx_machine.specs.Settings.{settings}

-- What is watched: the settings that were applied last, and the backend that stands, where there are such; the revision of which it
-- is to be told that all is watched, where it is; the least name of the backends that count as live beside the one that stands; what
-- was brought and isn't done with, in order; below which name all that was brought is heard before it is told; and whether that
-- name stands, or may still rise.
pub record Source : Type 0 where
  pub applied : Option Config
  pub current : Option ℕ
  pub asks : Option ℕ
  pub since : ℕ
  pub lane : List LaneItem
  pub fence : ℕ
  pub fenced : Bool

-- nothing is watched yet
abbrev pub unwatched : Source
unwatched = record { applied = None; current = None; asks = None; since = 0; lane = []; fence = 0; fenced = false }

abbrev pub is_any : List WatchedPath → Bool
is_any [] = false
is_any (w ∷ ws) = true

-- some path is to be watched
abbrev pub has_paths : Config → Bool
has_paths c = is_any c.pathset

abbrev pub is_same_watcher : Watcher → Watcher → Bool
is_same_watcher Native Native = true
is_same_watcher Native (Poll interval) = false
is_same_watcher (Poll interval) Native = false
is_same_watcher (Poll interval) (Poll other) = interval == other

abbrev pub is_same_switch : Bool → Bool → Bool
is_same_switch true on = on
is_same_switch false on = not on

-- backends are made in the same way: by the same watcher, and with links followed or not
abbrev pub are_made_alike : Config → Config → Bool
are_made_alike c d = is_same_watcher c.file_watcher d.file_watcher && is_same_switch c.follow_symlinks d.follow_symlinks

-- the roots of these paths, seen from the folder
abbrev pub roots : List ℕ → List WatchedPath → List Root
roots folder [] = []
roots folder (w ∷ ws) = record { path = named folder w.path; recursive = w.recursive } ∷ roots folder ws

-- each of these roots is one of those
abbrev pub are_all_in : List Root → List Root → Bool
are_all_in [] qs = true
are_all_in (r ∷ rs) qs = has_root r qs && are_all_in rs qs

-- they are the same roots, in whatever order
abbrev pub are_same_roots : List Root → List Root → Bool
are_same_roots rs qs = are_all_in rs qs && are_all_in qs rs

-- The same is watched in the same way: the same roots, by the same filter, watcher and links; and there is some path to watch.
abbrev pub watches_same : List ℕ → Config → Option Config → Bool
watches_same folder c None = false
watches_same folder c (Some applied) = has_paths c && (are_same_roots (roots folder c.pathset) (roots folder applied.pathset) && (c.filterer == applied.filterer && are_made_alike c applied))

-- of which revision it is to be told that all is watched: of none that is the first
abbrev pub asked : ℕ → Option ℕ
asked revision = if revision == 0 then None else Some revision

-- Settings are applied, where so many backends and items have a name: where no path is to be watched no backend stands any more. Those
-- that were made before aren't live, but for one that stands, unless the same is watched in the same way.
abbrev pub apply : List ℕ → ℕ → ℕ → Config → Source → Source
apply folder backs items c x = record x {
  applied = Some c;
  current = if has_paths c then x.current else None;
  asks = asked c.change_signal;
  since = if watches_same folder c x.applied then x.since else backs;
  fence = items;
  fenced = false;
}

-- a backend that was made stands from then on
abbrev pub stand : ℕ → Result (Unit {0}) NotifyFault → Source → Source
stand back (Ok done) x = record x { current = Some back }
stand back (Err fault) x = x

-- What a backend brought joins the lane, in which so many events may wait.
abbrev pub bring : ℕ → ℕ → ℕ → Result Notify NotifyFault → Source → Source
bring size item back answer x = record x { lane = (put_item item back answer (record { items = x.lane; size = size })).items }

-- what was brought under this name is heard
abbrev pub hear_item : ℕ → Source → Source
hear_item item x = record x { lane = hear item x.lane; fenced = true }

-- the lane without the item of this name
abbrev pub leave : ℕ → List LaneItem → List LaneItem
leave item [] = []
leave item (i ∷ items) = if i.name == item then items else i ∷ leave item items

-- An item is let go. Of one for which there was no room the lane knows already.
abbrev pub let_go : LetGoCause → ℕ → Source → Source
let_go Full item x = x
let_go Obsolete item x = record x { lane = leave item x.lane }
let_go Uncovered item x = record x { lane = leave item x.lane }

-- Where the name below which all is heard doesn't stand yet, it is that of what comes next.
abbrev pub step_on : ℕ → Source → Source
step_on items x = if x.fenced then x else record x { fence = items }

-- a word moves it where a step was done
abbrev pub said : ℕ → Word → Source → Source
said items Stepped x = step_on items x
said items (word) x = x

-- an event is offered that was brought, where it was
abbrev pub offer_item : Option ℕ → Source → Source
offer_item None x = x
offer_item (Some item) x = record x { lane = leave item x.lane }

abbrev pub source : Start → List Entry → Source
source s [] = unwatched
source s (Make back watcher follow answer ∷ p) = stand back answer (source s p)
source s (Applied revision ∷ p) = apply s.folder (back_count p) (item_count p) (settings s p) (source s p)
source s (Brought item back answer ∷ p) = bring s.config.event_channel_size item back answer (source s p)
source s (LetGo item cause ∷ p) = let_go cause item (source s p)
source s (Heard item ∷ p) = hear_item item (source s p)
source s (Offer name item result event priority ∷ p) = offer_item item (source s p)
source s (Ready revision ∷ p) = record (source s p) { asks = None }
source s (Said word ∷ p) = said (item_count p) word (source s p)
source s (_ ∷ p) = source s p

-- the words about what is watched
abbrev pub is_file_word : Word → Bool
is_file_word Idle = false
is_file_word Ignored = false
is_file_word Quitting = false
is_file_word Later = false
is_file_word Quiet = true
is_file_word Stepped = true

-- an entry about what is watched, such a word among them
abbrev pub is_about_files : Entry → Bool
is_about_files (Said word) = is_file_word word
is_about_files (Offer name item result event priority) = is_some item
is_about_files (e) = is_of_files e

-- the new journal is the old one with other entries on top
abbrev pub AddsNoFiles : List Entry → List Entry → Type 0
AddsNoFiles p p' = Added (λ q e. is_about_files e ≡ false) p p'

-- the turns about what is watched
abbrev pub is_file_turn : TurnKind → Bool
is_file_turn File = true
is_file_turn Listen = true
is_file_turn (_) = false

-- settings were applied, and a backend stands
abbrev pub was_applied : Start → List Entry → Bool
was_applied s p = is_some (source s p).applied

abbrev pub has_backend : Start → List Entry → Bool
has_backend s p = is_some (source s p).current

-- the settings that were applied last: those that stand, where none were
abbrev pub applied_over : Option Config → Config → Config
applied_over None c = c
applied_over (Some applied) c = applied

abbrev pub applied : Start → List Entry → Config
applied s p = applied_over (source s p).applied (settings s p)

-- the settings of this revision were applied
abbrev pub is_applied : Config → Option Config → Bool
is_applied c None = false
is_applied c (Some applied) = applied.change_signal == c.change_signal

-- whether the backend that stands serves these settings
abbrev pub serves : Config → Option Config → Option ℕ → Bool
serves c (Some applied) (Some back) = are_made_alike c applied
serves c None current = false
serves c (Some applied) None = false

-- When settings are applied a backend is to be made where some path is to be watched and none stands that serves them.
abbrev pub is_to_make : Config → Source → Bool
is_to_make c x = has_paths c && not (serves c x.applied x.current)

-- the path lies strictly below a recursive one of these, seen from the folder
abbrev pub is_below_recursive : List ℕ → List WatchedPath → Path → Bool
is_below_recursive folder [] p = false
is_below_recursive folder (w ∷ ws) p = (w.recursive && holds_below (named folder w.path) p) || is_below_recursive folder ws p

-- a directory may be shown to the filter
abbrev pub may_be_judged : Start → List Entry → List ℕ → Bool
may_be_judged s p path = is_below_recursive s.folder (applied s p).pathset (place path)

-- what is said of a backend that couldn't be made
abbrev pub init_fault : NotifyFault → FsWatcherError
init_fault fault = if is_of_watches fault then TooManyWatches fault else (if is_of_handles fault then TooManyHandles fault else Create fault)

-- the error that a backend that couldn't be made ends the run with: none, where there was no memory
abbrev pub init_error : Watcher → Result (Unit {0}) NotifyFault → Option CriticalError
init_error watcher (Ok done) = None
init_error watcher (Err fault) = if is_memory fault.kind then None else Some (FsWatcherInit watcher (init_fault fault))

-- ---- what was brought

-- a backend is live where it stands, or counts as live beside that
abbrev pub is_current : ℕ → Option ℕ → Bool
is_current back None = false
is_current back (Some current) = current == back

abbrev pub is_live : Source → ℕ → Bool
is_live x back = is_current back x.current || nat_le x.since back

-- what happened is of one of the paths that were applied, or names no path
abbrev pub is_public : Start → List Entry → Notify → Bool
is_public s p n = event_is_public s.folder (roots s.folder (applied s p).pathset) n

-- An item is to be heard: it is a fault, which leaves the lane then, or it has changes that weren't heard.
abbrev pub is_deaf : LaneItem → Bool
is_deaf i = not (is_event i.item) || (has_changes i.item && not i.heard)

-- the first item
abbrev pub first_item : List LaneItem → Option LaneItem
first_item [] = None
first_item (i ∷ items) = Some i

-- the item of this name
abbrev pub item_named : ℕ → List LaneItem → Option LaneItem
item_named item [] = None
item_named item (i ∷ items) = if i.name == item then Some i else item_named item items

-- the fault that an item is, where it is one
abbrev pub fault_of : Result Notify NotifyFault → Option NotifyFault
fault_of (Ok n) = None
fault_of (Err fault) = Some fault

abbrev pub item_fault : Option LaneItem → Option NotifyFault
item_fault None = None
item_fault (Some i) = fault_of i.item

-- so many events waited before, and no more may: an event that is brought then is let go
abbrev pub finds_full : Start → List Entry → Result Notify NotifyFault → Bool
finds_full s p answer = is_full (record { items = (source s p).lane; size = s.config.event_channel_size }) answer
