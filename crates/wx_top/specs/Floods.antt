-- What is due for a flood.
use Rattle.std.specs.Prelude.{ℕ, ◌≡◌, Ok, List}
use Rattle.wx_journal.specs.declared.entry.Entry.{Entry}
use Rattle.wx_replay.specs.Runs.{IsRunOf}
use Rattle.wx_replay.specs.declared.status.Status.{Status}
use Rattle.wx_replay.specs.declared.status.Status.TheVariants.{Done}
use Rattle.wx_flood.specs.Floods.{flood_script}
use Rattle.wx_flood.specs.Summaries.{summary}

-- The text is the summary of a run of the script that is drawn, which ended with Ok.
pub record IsFlood (steps seed : ℕ) (text : List ℕ) (status : Status) : Type 0 where
  pub journal : List Entry
  pub run : IsRunOf (flood_script steps seed) journal (Ok tt)
  pub text_is : text ≡ summary journal
  pub status_is : status ≡ Done
