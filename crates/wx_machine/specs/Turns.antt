-- The turns of a journal stay as they are over entries that are none.
use Rattle.std.specs.Prelude.{◌≡◌, Option, List}
use Rattle.wx_journal.specs.declared.entry.Entry.{Entry}
use Rattle.wx_journal.specs.Names.{moment}
use Rattle.wx_journal.specs.Told.{tells, anywhere, is_turn}
use Rattle.wx_machine.specs.Journal.{turn_count, early_count, turn_fault}
use Rattle.wx_machine.specs.RunLaws.{MomentsRise}

-- the second journal has the turns of the first
pub record SameTurns (p p' : List Entry) : Type 0 where
  pub count : turn_count p' ≡ turn_count p
  pub early : early_count p' ≡ early_count p
  pub fault : turn_fault p' ≡ turn_fault p
  pub now : moment p' ≡ moment p
  pub rise : MomentsRise p → MomentsRise p'
  pub told : (before : Option (List Entry)) → tells (anywhere is_turn) p' before ≡ tells (anywhere is_turn) p before

-- whatever had the turns of the one has those of the other
abbrev pub StaysInTurn : List Entry → List Entry → Type 0
StaysInTurn p p' = (p₀ : List Entry) → SameTurns p₀ p → SameTurns p₀ p'
