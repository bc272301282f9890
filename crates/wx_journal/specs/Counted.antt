-- What a journal keeps beside its entries.
use Rattle.std.specs.Prelude.{◌≡◌, ℕ, ◌<◌, Bool, true, false, List}
use Rattle.wx_journal.specs.declared.entry.Entry.{Entry}
use Rattle.wx_control.specs.declared.id.Id.{Id}
use Rattle.wx_journal.specs.Names.{ticket_count, child_count, back_count, item_count, next_job, was_made}

-- each id below that of the next job was made
abbrev pub AreAllMade : List Entry → Type 0
AreAllMade past = (id : Id) → id.0 < next_job past → was_made id past ≡ true

-- how many tickets, children, backends and brought items have a name, the id of the next job, and whether an id below it may be
-- one that wasn't made
pub record AreCounted (tickets children backs items job : ℕ) (gaps : Bool) (past : List Entry) : Type 0 where
  pub tickets_kept : tickets ≡ ticket_count past
  pub children_kept : children ≡ child_count past
  pub backs_kept : backs ≡ back_count past
  pub items_kept : items ≡ item_count past
  pub job_kept : job ≡ next_job past
  pub gaps_kept : gaps ≡ false → AreAllMade past
