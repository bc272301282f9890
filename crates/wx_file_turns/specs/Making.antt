-- How a backend is made.
use Rattle.std.specs.Prelude.{◌≡◌, ◌⊎◌, Bool, Some, Result, Err, List, ◌∷◌}
use Rattle.wx_watch.specs.declared.notify_fault.NotifyFault.{NotifyFault}
use Rattle.wx_watch.specs.declared.watched.Watcher.{Watcher}
use Rattle.wx_error.specs.declared.error.CriticalError.{CriticalError}
use Rattle.wx_error.specs.declared.error.CriticalError.TheVariants.{Memory}
use Rattle.wx_journal.specs.declared.entry.Entry.{Entry}
use Rattle.wx_journal.specs.declared.entry.Entry.TheVariants.{Make}
use Rattle.wx_journal.specs.Names.{back_count}
use Rattle.wx_machine.specs.Start.{Start}
use Rattle.wx_machine.specs.Answer.{NoneIsToGo}
use Rattle.wx_machine.specs.Files.{init_error}
use Rattle.wx_machine.specs.Due.{Breaks, agenda, Due}

-- A backend is due, by this watcher, with links followed or not. One that can't be made breaks the run off.
pub record IsToMake (s : Start) (kind : Watcher) (follow : Bool) (p : List Entry) : Type 0 where
  pub due : (answer : Result (Unit {0}) NotifyFault) → Due s p (Make (back_count p) kind follow answer)
  pub breaks : (fault : NotifyFault) → agenda s (Make (back_count p) kind follow (Err fault) ∷ p) ≡ Breaks
  pub none_is_to_go : NoneIsToGo (agenda s p)

-- the run ends with this error, since a backend couldn't be made for this fault: with want of memory where there is none for it
abbrev pub EndsUnmade : Watcher → NotifyFault → CriticalError → Type 0
EndsUnmade kind fault error = (error ≡ Memory) ⊎ (init_error kind (Err fault) ≡ Some error)
