-- What contracts see of a journal.
use Rattle.std.specs.Prelude.{ℕ, List}
use Rattle.wx_journal.specs.declared.entry.Entry.{Entry}

-- the entries so far, the newest first, and the room for more
pub record Written : Type 0 where
  pub past : List Entry
  pub spare : ℕ
