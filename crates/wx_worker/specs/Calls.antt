-- What the showing of an error asks for and leaves, and the entry of an event that is offered.
use Rattle.std.specs.Prelude.{◌≡◌, ℕ, Option, None, List, ◌∷◌}
use Rattle.wx_events.specs.declared.event.Event.{Event}
use Rattle.wx_events.specs.declared.priority.Priority.{Priority}
use Rattle.wx_error.specs.declared.runtime.RuntimeError.{RuntimeError}
use Rattle.wx_journal.specs.declared.entry.Entry.{Entry}
use Rattle.wx_journal.specs.declared.entry.Entry.TheVariants.{Offer, Show}
use Rattle.wx_journal.specs.declared.wish.Wish.{Wish}
use Rattle.wx_journal.specs.Names.{event_count}
use Rattle.wx_machine.specs.Start.{Start}
use Rattle.wx_machine.specs.Settings.{settings}
use Rattle.wx_machine.specs.Journal.{ending, offered}
use Rattle.wx_machine.specs.Due.{Due}
use Rattle.wx_worker.specs.declared.worker_state.Worker.{Worker}
use Rattle.wx_worker.specs.Stands.{Stands}

-- the entry of an error that was shown to the error handler that stands, which wished this
abbrev pub shows : Start → List Entry → RuntimeError → Wish → Entry
shows s p error wish = Show (settings s p).error_handler error wish

-- the worker stands for the journal, and this error may be shown next, whatever is wished then
pub record OwesShow (s : Start) (w : Worker) (error : RuntimeError) (p : List Entry) : Type 0 where
  pub stands : Stands s w p
  pub due : (wish : Wish) → Due s p (shows s p error wish)

-- it was shown, and the wish doesn't end the run
pub record IsShown (s : Start) (error : RuntimeError) (p p' : List Entry) : Type 0 where
  pub wish : Wish
  pub shown : p' ≡ shows s p error wish ∷ p
  pub calm : ending error wish ≡ None

-- the entry of an event that is offered behind these, of this item of a backend where it is made of one
abbrev pub offer_of : Start → List Entry → Option ℕ → Event → Priority → Entry
offer_of s p item event priority = Offer (event_count p) item (offered s p) event priority
