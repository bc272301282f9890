-- What a turn leaves of the outside.
use Rattle.std.specs.Prelude.{◌≡◌, ◌≤◌, ◌+◌, ℕ}
use Rattle.wx_journal.specs.declared.entry.Entry.{Entry}
use Rattle.wx_journal.specs.Told.{tell}
use Rattle.wx_machine.specs.Seen.{Seen}

-- a turn was given at this moment, and told as this entry
pub record Turns {Fixed : Type 0} (e : Entry) (at : ℕ) (a b : Seen Fixed) : Type 0 where
  pub told : b.shown.told ≡ tell e a.shown.told
  pub faults_kept : b.shown.faults ≡ a.shown.faults
  pub room : a.spare ≤ b.spare + 1
  pub progress_kept : b.progress ≡ record a.progress { moment = at }
  pub place_kept : b.place ≡ a.place
  pub looked_kept : b.looked ≡ a.looked
