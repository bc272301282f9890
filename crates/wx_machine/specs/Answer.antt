-- What an answer of the engine says of its journal.
use Rattle.std.specs.Prelude.{◌≡◌, ℕ, ◌⊎◌, None, Some, Ok, Err, List, [], ◌∷◌, codes}
use Rattle.wx_journal.specs.declared.entry.Entry.{Entry}
use Rattle.wx_machine.specs.Case.{PlanAdmits}
use Rattle.wx_error.specs.declared.error.CriticalError.TheVariants.{IoError, Memory}
use Rattle.wx_machine.specs.Start.{Start}
use Rattle.wx_error.specs.declared.error.CriticalError.{CriticalError}
use Rattle.wx_machine.specs.Journal.{turn_fault, wished}
use Rattle.wx_machine.specs.Jobs.{jobs, end}
use Rattle.wx_machine.specs.Due.{Filters, Hands, Agenda, Comes, Ends, agenda, IsTurn, IsRun}
use Rattle.wx_journal.specs.Lines.{Answer}

-- a run whose end is done: no job lives
pub record IsComplete (s : Start) (p : List Entry) : Type 0 where
  pub run : IsRun s p
  pub ended : agenda s p ≡ Ends
  pub none : jobs p ≡ []

-- the second journal is the first with entries of the end on top
pub data Dying (q : List Entry) : List Entry → Type 0 where
  Alive : Dying q q
  Dies : (e : Entry) (p : List Entry) → Dying q p → PlanAdmits p (end p) e → Dying q (e ∷ p)

-- a run that was cut at such a place, also at its end, and then the end of its jobs
pub record IsBroken (place : List Entry → Type 0) (s : Start) (p : List Entry) : Type 0 where
  pub before : List Entry
  pub run : IsRun s before
  pub cut : place before
  pub dying : Dying before p
  pub none : jobs p ≡ []

-- every place
abbrev pub AtAnyPlace : List Entry → Type 0
AtAnyPlace p = Unit {0}

-- the newest entry is a turn, or the fault of one
abbrev pub IsBehindTurn : List Entry → Type 0
IsBehindTurn [] = ⊥
IsBehindTurn (e ∷ p) = IsTurn e

-- no event is to be shown, and no window is to be handed
abbrev pub NoneIsToGo : Agenda → Type 0
NoneIsToGo (Comes (Filters name) more) = ⊥
NoneIsToGo (Comes Hands more) = ⊥
NoneIsToGo (_) = Unit {0}

-- The places at which want of memory may cut a run: behind a turn, and where no event is to be shown and no window is to be
-- handed. So there is no cut between a Take and its Filter, nor between the passing of an event and the Hand that it makes due.
abbrev pub MemoryCuts : Start → List Entry → Type 0
MemoryCuts s p = IsBehindTurn p ⊎ NoneIsToGo (agenda s p)

-- the newest entry ends the run with this error
abbrev pub Wishes : CriticalError → List Entry → Type 0
Wishes error p = wished p ≡ Some error

-- Why a run breaks off here with an error: for want of memory, where it may, since the error handler wished it, or since a backend
-- couldn't be made.
abbrev pub BreaksOff : Start → List Entry → CriticalError → Type 0
BreaksOff s p Memory = MemoryCuts s p
BreaksOff s p (error) = Wishes error p

-- it breaks off where no event is to be shown and no window is to be handed
abbrev pub BreaksHere : Start → List Entry → CriticalError → Type 0
BreaksHere s p error = NoneIsToGo (agenda s p) × BreaksOff s p error

-- a turn failed: nothing was done for want of memory, or it breaks off here
abbrev pub Fails : Start → List Entry → List Entry → CriticalError → Type 0
Fails s p p' error = ((error ≡ Memory) × (p' ≡ p)) ⊎ BreaksHere s p' error

-- a complete run with the fault of a turn
pub record HasFailed (s : Start) (p : List Entry) (about : List ℕ) (err : ℕ) : Type 0 where
  pub complete : IsComplete s p
  pub is_turn : about ≡ codes "turn"
  pub fault : turn_fault p ≡ Some err

-- Ok comes only of a complete run without the fault of a turn. An error about a turn comes of one with this fault. Want of
-- memory comes of a run that was cut where memory may be wanted. Each error, but an exit, also comes directly after the
-- error handler wished it, and what is said of a backend that couldn't be made directly after that.
abbrev pub Answers : Start → List Entry → Answer → Type 0
Answers s p (Ok u) = IsComplete s p × (turn_fault p ≡ None)
Answers s p (Err (IoError about err)) = HasFailed s p about err ⊎ IsBroken (Wishes (IoError about err)) s p
Answers s p (Err Memory) = IsBroken (MemoryCuts s) s p
Answers s p (Err error) = IsBroken (Wishes error) s p
