-- The settings that a journal tells, and the changes of them that wait.
use Rattle.std.specs.Prelude.{ℕ, ◌+◌, ◌≤◌, ◌<◌, Bool, true, false, List, [], ◌∷◌, length}
use Rattle.wx_config.specs.Changes.{changed, last_revision}
use Rattle.wx_config.specs.declared.change.Change.{Change as AChange}
use Rattle.wx_config.specs.declared.config.Config.{Config}
use Rattle.wx_journal.specs.Acts.{JournalAct as Act}
use Rattle.wx_journal.specs.declared.entry.Act.TheVariants.{Create, Ask, Change, Quit, QuitGracefully}
use Rattle.wx_journal.specs.declared.entry.Entry.{Entry}
use Rattle.wx_journal.specs.declared.entry.Entry.TheVariants.{Turn as Turned, TurnFault, Hand, Changed}
use Rattle.wx_journal.specs.declared.entry.TurnKind.{TurnKind}
use Rattle.wx_journal.specs.declared.entry.TurnKind.TheVariants.{Change as ChangeTurn}
use Rattle.wx_journal.specs.Names.{count}
use Rattle.wx_machine.specs.Start.{Start}

-- what acts ask to change, in order
abbrev pub changes : List Act → List AChange
changes [] = []
changes (Create id command ∷ acts) = changes acts
changes (Ask id ask ∷ acts) = changes acts
changes (Change change ∷ acts) = change ∷ changes acts
changes (Quit ∷ acts) = changes acts
changes (QuitGracefully signal grace ∷ acts) = changes acts

-- what a turn of this kind asks to change
abbrev pub turn_changes : TurnKind → List AChange
turn_changes (ChangeTurn change) = change ∷ []
turn_changes (_) = []

-- changes without the first
abbrev pub later : List AChange → List AChange
later [] = []
later (change ∷ changes) = changes

-- what this turn asked to change, and no Changed answered yet, the oldest first
abbrev pub pending : List Entry → List AChange
pending [] = []
pending (Turned t ∷ p) = turn_changes t.kind
pending (TurnFault code ∷ p) = []
pending (Hand n names acts ∷ p) = changes acts
pending (Changed revision ∷ p) = later (pending p)
pending (_ ∷ p) = pending p

-- settings after the first of these changes
abbrev pub first_changed : List AChange → Config → Config
first_changed [] c = c
first_changed (change ∷ changes) c = changed change c

-- the settings that stand: those of the start, with each change on top that was answered
abbrev pub settings : Start → List Entry → Config
settings s [] = s.config
settings s (Changed revision ∷ p) = first_changed (pending p) (settings s p)
settings s (_ ∷ p) = settings s p

abbrev pub revision : Start → List Entry → ℕ
revision s p = (settings s p).change_signal

-- where these acts ask for changes each has a revision, from this one on
abbrev pub MayChange : ℕ → List Act → Type 0
MayChange revision acts = 0 < length (changes acts) → revision + length (changes acts) ≤ last_revision

-- how many changes were answered
abbrev pub is_change : Entry → Bool
is_change (Changed revision) = true
is_change (_) = false

abbrev pub change_count : List Entry → ℕ
change_count p = count is_change p
