-- What waits stands on, over each entry about what is brought.
use Rattle.std.proofs.Common.{◌≡◌, ℕ, Bool, true, false, cond, List, ◌∷◌, refl, ap, ◌∙◌}
use Rattle.std.specs.Prelude.{Result, ◌&&◌, not}
use Rattle.wx_watch.specs.declared.notify_fault.NotifyFault.{NotifyFault}
use Rattle.wx_notify.specs.declared.notify.Notify.{Notify}
use Rattle.wx_lane.specs.Lanes.{LaneState, has_changes, hear, is_full, put_item}
use Rattle.wx_journal.specs.declared.entry.Entry.{Entry}
use Rattle.wx_journal.specs.declared.entry.Entry.TheVariants.{Heard, Brought, LetGo, Ready}
use Rattle.wx_journal.specs.declared.entry.LetGoCause.TheVariants.{Full}
use Rattle.wx_machine.specs.Start.{Start}
use Rattle.wx_machine.specs.Files.{source}
use Rattle.wx_file_turns.specs.declared.intake.Intake.{Intake}
use Rattle.wx_file_turns.specs.Intake.{brought, heard, told}
use Rattle.wx_file_turns.specs.Standing.{IntakeStands}

-- what is brought leaves the size of the lane
same_size : (b : Bool) (l m : LaneState) → m.size ≡ l.size → cond b l m ≡ record { items = (cond b l m).items; size = l.size }
same_size true l m same = refl
same_size false l m same = ap (λ (n : ℕ). record { items = m.items; size = n }) same

pub put_sized : (item back : ℕ) (answer : Result Notify NotifyFault) (l : LaneState) → put_item item back answer l ≡ record { items = (put_item item back answer l).items; size = l.size }
put_sized item back answer l = same_size (is_full l answer && not (has_changes answer)) l _ refl

-- something was brought, with no room for it or with some
pub intake_brought : (s : Start) (i : Intake) (p : List Entry) (item back : ℕ) (answer : Result Notify NotifyFault) → IntakeStands s i p → IntakeStands s (brought item back answer i) (Brought item back answer ∷ p)
intake_brought s i p item back answer h = record {
  lane_kept = ap (put_item item back answer) h.lane_kept ∙ put_sized item back answer (record { items = (source s p).lane; size = s.config.event_channel_size });
  asks_kept = h.asks_kept;
  since_kept = h.since_kept;
  fence_kept = h.fence_kept;
  fenced_kept = h.fenced_kept;
}

pub intake_full : (s : Start) (i : Intake) (p : List Entry) (item : ℕ) → IntakeStands s i p → IntakeStands s i (LetGo item Full ∷ p)
intake_full s i p item h = record { lane_kept = h.lane_kept; asks_kept = h.asks_kept; since_kept = h.since_kept; fence_kept = h.fence_kept; fenced_kept = h.fenced_kept }

-- an item was heard
pub intake_heard : (s : Start) (i : Intake) (p : List Entry) (item : ℕ) → IntakeStands s i p → IntakeStands s (heard item i) (Heard item ∷ p)
intake_heard s i p item h = record {
  lane_kept = ap (λ (l : LaneState). record l { items = hear item l.items }) h.lane_kept;
  asks_kept = h.asks_kept;
  since_kept = h.since_kept;
  fence_kept = h.fence_kept;
  fenced_kept = refl;
}

-- it was told that all is watched
pub intake_told : (s : Start) (i : Intake) (p : List Entry) (revision : ℕ) → IntakeStands s i p → IntakeStands s (told i) (Ready revision ∷ p)
intake_told s i p revision h = record { lane_kept = h.lane_kept; asks_kept = refl; since_kept = h.since_kept; fence_kept = h.fence_kept; fenced_kept = h.fenced_kept }
