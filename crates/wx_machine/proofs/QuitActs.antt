-- What a quit asks is lawful, creates no job and changes no setting.
use Rattle.std.proofs.Common.{◌≡◌, ℕ, Bool, Option, None, Some, List, [], ◌∷◌, ◌++◌, refl, ap}
use Rattle.std.specs.Prelude.{◌||◌, ◌==◌}
use Rattle.wx_events.specs.declared.process.Signal.{Signal}
use Rattle.wx_config.specs.declared.change.Change.{Change as AChange}
use Rattle.wx_control.specs.declared.id.Id.{Id}
use Rattle.wx_journal.specs.Acts.{JournalAct as Act}
use Rattle.wx_journal.specs.declared.entry.Act.TheVariants.{Create, Change}
use Rattle.wx_journal.specs.Names.{above, creates}
use Rattle.wx_machine.specs.declared.quit.QuitManner.{QuitManner}
use Rattle.wx_machine.specs.declared.quit.QuitManner.TheVariants.{Abort, Graceful}
use Rattle.wx_machine.specs.Jobs.{but, AreLawfulBy}
use Rattle.wx_machine.specs.Settings.{changes}
use Rattle.wx_machine.specs.Quits.{stop_asks, quit_asks}

creates_stops : (id : Id) (signal : Signal) (grace : ℕ) (ids : List Id) → creates id (stop_asks signal grace ids) ≡ creates id []
creates_stops id signal grace [] = refl
creates_stops id signal grace (job ∷ ids) = creates_stops id signal grace ids

creates_asks : (id : Id) (quit : Option QuitManner) (ids : List Id) → creates id (quit_asks quit ids) ≡ creates id []
creates_asks id None ids = refl
creates_asks id (Some Abort) ids = refl
creates_asks id (Some (Graceful signal grace)) ids = creates_stops id signal grace ids

pub creates_quit_asks : (id : Id) (quit : Option QuitManner) (ids : List Id) (acts : List Act) → creates id (acts ++ quit_asks quit ids) ≡ creates id acts
creates_quit_asks id quit ids [] = creates_asks id quit ids
creates_quit_asks id quit ids (Create job command ∷ acts) = ap (λ (b : Bool). job.0 == id.0 || b) (creates_quit_asks id quit ids acts)
creates_quit_asks id quit ids (_ ∷ acts) = creates_quit_asks id quit ids acts

lawful_stops : (free : Id → Bool) (next : ℕ) (signal : Signal) (grace : ℕ) (ids : List Id) → AreLawfulBy free next (stop_asks signal grace ids)
lawful_stops free next signal grace [] = tt
lawful_stops free next signal grace (id ∷ ids) = lawful_stops free next signal grace ids

lawful_asks : (free : Id → Bool) (next : ℕ) (quit : Option QuitManner) (ids : List Id) → AreLawfulBy free next (quit_asks quit ids)
lawful_asks free next None ids = tt
lawful_asks free next (Some Abort) ids = tt
lawful_asks free next (Some (Graceful signal grace)) ids = lawful_stops free next signal grace ids

pub lawful_quit_asks : (free : Id → Bool) (next : ℕ) (quit : Option QuitManner) (ids : List Id) (acts : List Act) → AreLawfulBy free next acts → AreLawfulBy free next (acts ++ quit_asks quit ids)
lawful_quit_asks free next quit ids [] l = lawful_asks free next quit ids
lawful_quit_asks free next quit ids (Create id command ∷ acts) l = (l.0, lawful_quit_asks (but id free) (above next id) quit ids acts l.1)
lawful_quit_asks free next quit ids (_ ∷ acts) l = lawful_quit_asks free next quit ids acts l

changes_stops : (signal : Signal) (grace : ℕ) (ids : List Id) → changes (stop_asks signal grace ids) ≡ []
changes_stops signal grace [] = refl
changes_stops signal grace (id ∷ ids) = changes_stops signal grace ids

changes_asks : (quit : Option QuitManner) (ids : List Id) → changes (quit_asks quit ids) ≡ []
changes_asks None ids = refl
changes_asks (Some Abort) ids = refl
changes_asks (Some (Graceful signal grace)) ids = changes_stops signal grace ids

pub changes_quit_asks : (quit : Option QuitManner) (ids : List Id) (acts : List Act) → changes (acts ++ quit_asks quit ids) ≡ changes acts
changes_quit_asks quit ids [] = changes_asks quit ids
changes_quit_asks quit ids (Change change ∷ acts) = ap (λ (cs : List AChange). change ∷ cs) (changes_quit_asks quit ids acts)
changes_quit_asks quit ids (_ ∷ acts) = changes_quit_asks quit ids acts
