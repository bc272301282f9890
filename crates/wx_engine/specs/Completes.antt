-- What a run answers, by its turns, by what the error handler wished, and by the backends that were made.
use Rattle.std.specs.Prelude.{◌≡◌, Option, None, Some, IfSome, Ok, Err, List, [], ◌∷◌}
use Rattle.wx_journal.specs.declared.entry.Entry.{Entry}
use Rattle.wx_journal.specs.declared.entry.Entry.TheVariants.{Show, Make}
use Rattle.wx_error.specs.declared.error.CriticalError.{CriticalError}
use Rattle.wx_error.specs.declared.error.CriticalError.TheVariants.{Memory}
use Rattle.wx_journal.specs.Lines.{Answer}
use Rattle.wx_machine.specs.Journal.{ending}
use Rattle.wx_machine.specs.Files.{init_error}

-- Ok, or want of memory
abbrev pub IsOkOrMemory : Answer → Type 0
IsOkOrMemory (Ok u) = Unit {0}
IsOkOrMemory (Err Memory) = Unit {0}
IsOkOrMemory (Err (_)) = ⊥

-- no error handler wished that the run ends with an error
abbrev pub NoneEnds : List Entry → Type 0
NoneEnds [] = Unit {0}
NoneEnds (Show n error wish ∷ p) = (ending error wish ≡ None) × NoneEnds p
NoneEnds (_ ∷ p) = NoneEnds p

-- this error, or want of memory
abbrev pub IsErrorOrMemory : Answer → CriticalError → Type 0
IsErrorOrMemory (Ok u) error = ⊥
IsErrorOrMemory (Err Memory) error = Unit {0}
IsErrorOrMemory (Err answered) error = answered ≡ error

-- want of memory, where no other error is said
abbrev pub or_memory : Option CriticalError → CriticalError
or_memory None = Memory
or_memory (Some error) = error

-- Each error that an error handler wished the run to end with is the answer, and so is what is said of a backend that couldn't be made;
-- or memory was wanted.
abbrev pub AreGranted : Answer → List Entry → Type 0
AreGranted answer [] = Unit {0}
AreGranted answer (Show n error wish ∷ p) = IfSome (ending error wish) (λ wished. IsErrorOrMemory answer wished) × AreGranted answer p
AreGranted answer (Make back watcher links (Err fault) ∷ p) = IsErrorOrMemory answer (or_memory (init_error watcher (Err fault))) × AreGranted answer p
AreGranted answer (_ ∷ p) = AreGranted answer p
