-- What comes where there is no step to take.
use Rattle.std.specs.Prelude.{◌≡◌, ◌≤◌, ℕ, Bool, not, if◌then◌else◌, Option, None, Some, Result, Ok, Err, List}
use Rattle.std.specs.Option.{IsSomeAnd}
use Rattle.wx_events.specs.declared.priority.Priority.TheVariants.{Normal}
use Rattle.wx_scan.specs.declared.backend.Backend.{Ghosts}
use Rattle.wx_notify.specs.declared.notify.Notify.{Notify}
use Rattle.wx_watch.specs.declared.notify_fault.NotifyFault.{NotifyFault}
use Rattle.wx_holding.specs.Holding.{state_of}
use Rattle.wx_lane.specs.FileEvents.{event_of}
use Rattle.wx_lane.specs.declared.lane.LaneItem.{LaneItem}
use Rattle.wx_lane.specs.Lanes.{fenced}
use Rattle.wx_lane.specs.Public.{event_is_public}
use Rattle.wx_journal.specs.declared.entry.Entry.{Entry}
use Rattle.wx_journal.specs.declared.entry.Entry.TheVariants.{Word as Said, LetGo, Ready}
use Rattle.wx_journal.specs.declared.entry.LetGoCause.{LetGoCause}
use Rattle.wx_journal.specs.declared.entry.LetGoCause.TheVariants.{Full, Obsolete, Uncovered}
use Rattle.wx_journal.specs.declared.entry.Word.TheVariants.{Quiet}
use Rattle.wx_machine.specs.Start.{Start}
use Rattle.wx_machine.specs.Files.{first_item, is_deaf, source}
use Rattle.wx_machine.specs.Steps.{step_count, work_count}
use Rattle.wx_machine.specs.Due.{Open, agenda, rest_entry}
use Rattle.wx_action.specs.Calls.{offer_of}
use Rattle.wx_file_turns.specs.declared.resting.Next.{Next}
use Rattle.wx_file_turns.specs.declared.resting.Next.TheVariants as next
use Rattle.wx_file_turns.specs.declared.files.Watching.{Watching}
use Rattle.wx_file_turns.specs.declared.intake.Intake.{Intake}
use Rattle.wx_file_turns.specs.Hearing.{IsToHear, hearing_of}
use Rattle.wx_file_turns.specs.Intake.{is_live_by}
use Rattle.wx_file_turns.specs.Standing.{IntakeStands}
use Rattle.wx_file_turns.specs.Stepping.{IsWatching}

-- ---- what comes next, as what keeps watches and what waits say it

-- An event that was heard, where it is to be, is let go where its backend isn't live or it is of no root, and else offered.
abbrev pub next_event : {B : Type 0} {G : Ghosts B} → Watching B G → Bool → ℕ → Notify → Next
next_event w live item n =
    if not live then next.LetGo item Obsolete
    else (if not (event_is_public w.recursor.cwd (state_of w.recursor.held).roots n) then next.LetGo item Uncovered
    else next.Offer item (event_of n))

abbrev pub next_of : {B : Type 0} {G : Ghosts B} → Watching B G → Bool → LaneItem → Result Notify NotifyFault → Next
next_of w live i (Ok n) = next_event w live i.name n
next_of w live i (Err fault) = next.Hear (hearing_of live i)

-- the first item is heard before, where it is to be
abbrev pub next_item : {B : Type 0} {G : Ghosts B} → Watching B G → Bool → LaneItem → Next
next_item w live i = if is_deaf i then next.Hear (hearing_of live i) else next_of w live i i.item

abbrev pub next_first : {B : Type 0} {G : Ghosts B} → Watching B G → ℕ → Option LaneItem → Next
next_first w since None = next.Rest
next_first w since (Some i) = next_item w (is_live_by w since i.back) i

-- one below the fence is, before it is told that all is watched
abbrev pub next_fenced : {B : Type 0} {G : Ghosts B} → Watching B G → ℕ → ℕ → Option LaneItem → Next
next_fenced w since revision None = next.Ready revision
next_fenced w since revision (Some i) = next.Hear (hearing_of (is_live_by w since i.back) i)

abbrev pub next_asked : {B : Type 0} {G : Ghosts B} → Watching B G → Intake → Option ℕ → Next
next_asked w i None = next_first w i.since (first_item i.lane.items)
next_asked w i (Some revision) = next_fenced w i.since revision (fenced i.fence i.lane.items)

-- ---- what that is by the journal

-- the first item of the lane has this name
abbrev pub IsFirst : Start → ℕ → List Entry → Type 0
IsFirst s item p = IsSomeAnd (first_item (source s p).lane) (λ (i : LaneItem). i.name ≡ item)

-- it is let go for another cause than that as many wait as may
abbrev pub IsOfTurn : LetGoCause → Type 0
IsOfTurn Full = ⊥
IsOfTurn Obsolete = Unit {0}
IsOfTurn Uncovered = Unit {0}

-- this comes next: of the lane it is about the first item, but where one is heard before it is told that all is watched
abbrev pub IsNext : Start → Next → List Entry → Type 0
IsNext s next.Rest p = rest_entry s p ≡ Said Quiet
IsNext s (next.Ready revision) p = rest_entry s p ≡ Ready revision
IsNext s (next.Hear hearing) p = IsToHear s hearing p
IsNext s (next.LetGo item cause) p = (rest_entry s p ≡ LetGo item cause) × IsOfTurn cause × IsFirst s item p
IsNext s (next.Offer item event) p = (rest_entry s p ≡ offer_of s p (Some item) event Normal) × IsFirst s item p

-- Such an entry came. Nothing is owed any more; what keeps watches, and what waits, stand for the longer journal; and no step was said to
-- be taken.
pub record Rested {B : Type 0} {G : Ghosts B} (s : Start) (w : Watching B G) (i : Intake) (p p' : List Entry) : Type 0 where
  pub served : agenda s p' ≡ Open
  pub watching : IsWatching s w p'
  pub intake : IntakeStands s i p'
  pub steps_kept : step_count p' ≡ step_count p
  pub work_more : work_count p ≤ work_count p'
