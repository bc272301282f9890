-- How often what keeps watches may take a step.
use Rattle.std.specs.Prelude.{ℕ, ◌≤◌, ◌+◌, ◌-◌, ◌^◌, min, Bool, true, false, List}
use Rattle.wx_journal.specs.declared.entry.Entry.{Entry}
use Rattle.wx_journal.specs.declared.entry.Entry.TheVariants.{Word as Said, Make, Applied, Heard}
use Rattle.wx_journal.specs.declared.entry.Word.{Word}
use Rattle.wx_journal.specs.declared.entry.Word.TheVariants.{Idle, Ignored, Quitting, Later, Quiet, Stepped}
use Rattle.wx_journal.specs.Names.{count}

abbrev pub is_step_word : Word → Bool
is_step_word Idle = false
is_step_word Ignored = false
is_step_word Quitting = false
is_step_word Later = false
is_step_word Quiet = false
is_step_word Stepped = true

-- a step was taken
abbrev pub is_step : Entry → Bool
is_step (Said word) = is_step_word word
is_step (_) = false

-- settings were applied, a backend was made, or couldn't be, or what was brought was heard: there is work again
abbrev pub brings_work : Entry → Bool
brings_work (Make back watcher follow answer) = true
brings_work (Applied revision) = true
brings_work (Heard item) = true
brings_work (_) = false

abbrev pub step_count : List Entry → ℕ
step_count p = count is_step p

abbrev pub work_count : List Entry → ℕ
work_count p = count brings_work p

-- There are no more steps than looks were made since the count of looks stood so, and entries that bring work, or that count stands at the
-- end of its range. So many steps are still to come without a look.
abbrev pub IsPaid : ℕ → List Entry → ℕ → ℕ → Type 0
IsPaid before p looks owing = min (before + step_count p + owing) (2 ^ 64 - 1 + work_count p) ≤ looks + work_count p
