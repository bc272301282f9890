-- What a turn tells, and what the outside tells on.
use Rattle.std.specs.Prelude.{◌≡◌, Bool, true, false, Option, List}
use Rattle.wx_journal.specs.declared.entry.Entry.{Entry}
use Rattle.wx_journal.specs.declared.entry.TurnKind.{TurnKind}
use Rattle.wx_journal.specs.declared.entry.TurnKind.TheVariants.{Ended, Last}
use Rattle.wx_journal.specs.Told.{tells}

-- no turn comes behind one of this kind
abbrev pub is_last : TurnKind → Bool
is_last Last = true
is_last (_) = false

-- a turn of this kind tells no end of a child
abbrev pub TellsNoEnd : TurnKind → Type 0
TellsNoEnd (Ended c) = ⊥
TellsNoEnd (_) = Unit {0}

-- where something outside told its entries of the one journal, it then tells its entries of the other
abbrev pub TellsOn : (List Entry → Entry → Bool) → List Entry → Option (List Entry) → List Entry → Option (List Entry) → Type 0
TellsOn mine p told p' told' = (before : Option (List Entry)) → told ≡ tells mine p before → told' ≡ tells mine p' before
