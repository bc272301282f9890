-- What is still to be done for the acts of a batch.
use Rattle.std.specs.Prelude.{◌≡◌, Option, Some, Result, OnOk, OnErr, List, [], ◌∷◌, ◌++◌}
use Rattle.wx_control.specs.declared.id.Id.{Id}
use Rattle.wx_control.specs.declared.ask.Ask.{Ask as AnAsk}
use Rattle.wx_journal.specs.declared.entry.Entry.{Entry}
use Rattle.wx_journal.specs.Acts.{JournalAct as Act}
use Rattle.wx_journal.specs.declared.entry.Act.TheVariants.{Create, Ask, Change, Quit, QuitGracefully}
use Rattle.wx_machine.specs.History.{lives, command}
use Rattle.wx_hooks.specs.declared.handler.Todo.{Todo}
use Rattle.wx_machine.specs.Start.{Start}
use Rattle.wx_machine.specs.Settings.{changes, pending, revision, MayChange}
use Rattle.wx_machine.specs.Jobs.{AreLawful, act_plan, jobs, with_created}
use Rattle.wx_machine.specs.declared.quit.QuitManner.{QuitManner}
use Rattle.wx_machine.specs.Quits.{quit_asks}
use Rattle.wx_machine.specs.Due.{Open, settle, agenda, plans}
use Rattle.wx_hooks.specs.Todo.{AreTodo}

-- the journal says of each job that these acts create that it runs what they say
abbrev pub AreCommanded : List Entry → List Act → Type 0
AreCommanded p [] = Unit {0}
AreCommanded p (Create id what ∷ acts) = (command id p ≡ Some what) × AreCommanded p acts
AreCommanded p (Ask id ask ∷ acts) = AreCommanded p acts
AreCommanded p (Change change ∷ acts) = AreCommanded p acts
AreCommanded p (Quit ∷ acts) = AreCommanded p acts
AreCommanded p (QuitGracefully signal grace ∷ acts) = AreCommanded p acts

-- these acts are owed, by the jobs that live and the revision that stands
abbrev pub OwesPlan : Start → List Entry → List Act → Type 0
OwesPlan s p acts = agenda s p ≡ settle p (plans (act_plan (λ id. lives id p) (revision s p) acts) Open)

-- These acts are owed, and then what this quit asks of these jobs: those that live, with those that the acts create. This is what is
-- to be done for the acts, and their changes wait.
pub record OwesActs (s : Start) (p : List Entry) (todo : List Todo) (quit : Option QuitManner) (ids : List Id) : Type 0 where
  pub acts : List Act
  pub lawful : AreLawful p acts
  pub may_change : MayChange (revision s p) acts
  pub is_todo : AreTodo acts todo
  pub commanded : AreCommanded p acts
  pub waiting : pending p ≡ changes acts
  pub then : with_created acts (jobs p) ≡ ids
  pub due : OwesPlan s p (acts ++ quit_asks quit ids)

-- the first act that is owed is this one
abbrev pub IsFirst : Start → List Entry → Todo → Type 0
IsFirst s p todo = (rest : List Todo) × (quit : Option QuitManner) × (ids : List Id) × OwesActs s p (todo ∷ rest) quit ids

-- it was done: what was owed behind it is owed
abbrev pub IsDone : Start → List Entry → Todo → List Entry → Type 0
IsDone s p todo p' = (rest : List Todo) (quit : Option QuitManner) (ids : List Id) → OwesActs s p (todo ∷ rest) quit ids → OwesActs s p' rest quit ids

-- where it went well it was done, and else no entry was added
pub record Does {X E : Type 0} (result : Result X E) (s : Start) (p : List Entry) (todo : Todo) (p' : List Entry) : Type 0 where
  pub done : OnOk result (IsDone s p todo p')
  pub err : OnErr result (p' ≡ p)

-- An ask was asked of a job, or ignored: what was owed behind it is owed, and all else that acts go by is as it was.
pub record HasAsked (s : Start) (p : List Entry) (id : Id) (ask : AnAsk) (p' : List Entry) : Type 0 where
  pub owes : (acts : List Act) → OwesPlan s p (Ask id ask ∷ acts) → OwesPlan s p' acts
  pub commands : (i : Id) → command i p' ≡ command i p
  pub lawful_same : (acts : List Act) → AreLawful p acts → AreLawful p' acts
  pub revision_same : revision s p' ≡ revision s p
  pub pending_same : pending p' ≡ pending p
  pub jobs_same : jobs p' ≡ jobs p

-- where it went well it was, and else no entry was added
pub record DoesAsk {X E : Type 0} (result : Result X E) (s : Start) (p : List Entry) (id : Id) (ask : AnAsk) (p' : List Entry) : Type 0 where
  pub done : OnOk result (HasAsked s p id ask p')
  pub err : OnErr result (p' ≡ p)
