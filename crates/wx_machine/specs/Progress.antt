-- Where a world is in its turns.
use Rattle.std.specs.Prelude.{ℕ, Option, List}
use Rattle.wx_journal.specs.declared.entry.Entry.{Entry}

-- The turns and turn faults that it gave, the newest first, where it tells them; how many turns are left; the moment of
-- the last turn; and how often a turn failed, and a backend could not be made. No count of faults ever falls.
pub record Progress : Type 0 where
  pub turns : Option (List Entry)
  pub left : ℕ
  pub moment : ℕ
  pub turn_faults : ℕ
  pub maker_faults : ℕ
