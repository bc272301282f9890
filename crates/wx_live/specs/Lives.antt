-- What calls on a live outside leave.
use Rattle.std.specs.Prelude.{◌≡◌, ◌≤◌, ◌+◌, ℕ}
use Rattle.wx_journal.specs.declared.entry.Entry.{Entry}
use Rattle.wx_journal.specs.Told.{tell}
use Rattle.wx_machine.specs.Seen.{Seen}

-- it was told this entry, in room that was taken before, and all else stays
pub record Notes {Fixed : Type 0} (e : Entry) (a b : Seen Fixed) : Type 0 where
  pub told : b.shown.told ≡ tell e a.shown.told
  pub faults_kept : b.shown.faults ≡ a.shown.faults
  pub room : a.spare ≤ b.spare + 1
  pub plan_kept : b.plan ≡ a.plan
  pub progress_kept : b.progress ≡ a.progress
  pub place_kept : b.place ≡ a.place
  pub looked_kept : b.looked ≡ a.looked

-- this is the moment, and all else stays but the plan, and the room, of which there is no less
pub record OnlyDraws {Fixed : Type 0} (at : ℕ) (a b : Seen Fixed) : Type 0 where
  pub shown_kept : b.shown ≡ a.shown
  pub spare_kept : a.spare ≤ b.spare
  pub progress_kept : b.progress ≡ record a.progress { moment = at }
  pub place_kept : b.place ≡ a.place
  pub looked_kept : b.looked ≡ a.looked
