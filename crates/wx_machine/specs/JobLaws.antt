-- What holds of the history of every job.
use Rattle.std.specs.Prelude.{◌≡◌, ℕ, Bool, true, false, if◌then◌else◌, Option, None, Some, Ok, Err, List, [], ◌∷◌}
use Rattle.wx_command.specs.declared.command.Command.{Command}
use Rattle.wx_control.specs.declared.id.Id.{Id}
use Rattle.wx_control.specs.declared.ask.Ask.{Ask}
use Rattle.wx_control.specs.Asks.{sends_of}
use Rattle.wx_journal.specs.declared.entry.Entry.{Entry}
use Rattle.wx_journal.specs.declared.entry.Entry.TheVariants.{Made, Asked, GraceOver, Spawn, Signal, Kill, Wait, Dropped}
use Rattle.wx_journal.specs.Sorts.{Subject, OfJob, OfChild, sort}
use Rattle.wx_journal.specs.Names.{ticket_count, child_count}
use Rattle.wx_machine.specs.declared.state.CommandState.TheVariants.{Pending}
use Rattle.wx_machine.specs.declared.grace.Grace.{Grace}
use Rattle.wx_machine.specs.History.{same, lives, child, state, grace, reaped_child, still_running, owner}
use Rattle.wx_machine.specs.Table.{Plan, Done, step_by, send_plan, end_plan}
use Rattle.wx_machine.specs.Case.{PlanLeads, IsCut}

-- the child that was spawned and not reaped: no Wait of it answered ok
abbrev pub unreaped : Id → List Entry → Option ℕ
unreaped id [] = None
unreaped id (Made job ∷ p) = if same job id then None else unreaped id p
unreaped id (Spawn c job tag what (Ok done) ∷ p) = if same job id then Some c else unreaped id p
unreaped id (e ∷ p) = still_running (reaped_child e) (unreaped id p)

-- each child of a job is reaped before the next spawn, save a last one, since the job was last made
abbrev pub AreReaped : Id → List Entry → Type 0
AreReaped id [] = Unit {0}
AreReaped id (Made job ∷ p) = same job id ≡ false → AreReaped id p
AreReaped id (Spawn c job tag what answer ∷ p) = (same job id ≡ true → unreaped id p ≡ None) × AreReaped id p
AreReaped id (_ ∷ p) = AreReaped id p

-- It speaks of a job since it was last made: each child was reaped before the next spawn. While the job lives a last one that
-- wasn't is the one that runs, and where it is gone none runs: the last one was let go.
pub record IsReaping (id : Id) (p : List Entry) : Type 0 where
  pub each : AreReaped id p
  pub last : lives id p ≡ true → unreaped id p ≡ child id p
  pub none : lives id p ≡ false → child id p ≡ None

-- What holds of a job since it was last made held of it, each time that it was made again, until then: so it is of each of its
-- histories but the last.
abbrev pub Earlier : Id → (List Entry → Type 0) → List Entry → Type 0
Earlier id P [] = Unit {0}
Earlier id P (Made job ∷ p) = (same job id ≡ true → P p) × Earlier id P p
Earlier id P (_ ∷ p) = Earlier id P p

-- each history of the job was such: the last one, and the earlier ones
pub record EachIsReaping (id : Id) (p : List Entry) : Type 0 where
  pub now : IsReaping id p
  pub before : Earlier id (IsReaping id) p

-- the child of this name runs: it is that of some job
abbrev pub Runs : ℕ → List Entry → Type 0
Runs c p = (id : Id) × (child id p ≡ Some c)

-- After each failed spawn the state of its job is Pending. After each failed signal, kill or wait the child still runs.
abbrev pub AfterFaults : List Entry → Type 0
AfterFaults [] = Unit {0}
AfterFaults (Spawn c id tag what (Err fault) ∷ p) = (state id (Spawn c id tag what (Err fault) ∷ p) ≡ Pending) × AfterFaults p
AfterFaults (Signal c number (Err fault) ∷ p) = Runs c (Signal c number (Err fault) ∷ p) × AfterFaults p
AfterFaults (Kill c (Err fault) ∷ p) = Runs c (Kill c (Err fault) ∷ p) × AfterFaults p
AfterFaults (Wait c (Err fault) ∷ p) = Runs c (Wait c (Err fault) ∷ p) × AfterFaults p
AfterFaults (_ ∷ p) = AfterFaults p

-- What calls on a child of the job come to. They are on the child that runs. After a failed spawn the state is Pending. After a failed
-- signal, kill or wait the child still runs, and a failed signal begins no grace. A grace is over only where one stands: so not after
-- a failed signal, and only once, also where the kill or the wait at its end fails.
abbrev pub CallsItsChild : Id → List Entry → Entry → Type 0
CallsItsChild id p (Spawn c job tag what (Err fault)) = state id (Spawn c job tag what (Err fault) ∷ p) ≡ Pending
CallsItsChild id p (Signal c number (Err fault)) = (child id (Signal c number (Err fault) ∷ p) ≡ Some c) × (grace id (Signal c number (Err fault) ∷ p) ≡ grace id p)
CallsItsChild id p (Kill c (Err fault)) = child id (Kill c (Err fault) ∷ p) ≡ Some c
CallsItsChild id p (Wait c (Err fault)) = child id (Wait c (Err fault) ∷ p) ≡ Some c
CallsItsChild id p (Signal c number (Ok done)) = child id p ≡ Some c
CallsItsChild id p (Kill c (Ok done)) = child id p ≡ Some c
CallsItsChild id p (Wait c (Ok status)) = child id p ≡ Some c
CallsItsChild id p (Dropped c) = child id p ≡ Some c
CallsItsChild id p (GraceOver job) = ((g : Grace) × (grace id p ≡ Some g)) × (grace id (GraceOver job ∷ p) ≡ None)
CallsItsChild id p (_) = Unit {0}

-- a child of this job
abbrev pub is_owner : Id → Option Id → Bool
is_owner id None = false
is_owner id (Some job) = same job id

-- this job, or a child of it
abbrev pub is_on : Id → List Entry → Subject → Bool
is_on id p (OfJob job) = same job id
is_on id p (OfChild c) = is_owner id (owner c p)
is_on id p (_) = false

-- an entry is about a job where it names the job or a child that this spawned
abbrev pub is_about : Id → List Entry → Entry → Bool
is_about id p e = is_on id p (sort e).subject

-- each child has the next name
abbrev pub NamesChildren : List Entry → Type 0
NamesChildren [] = Unit {0}
NamesChildren (Spawn c job tag what answer ∷ p) = (c ≡ child_count p) × NamesChildren p
NamesChildren (_ ∷ p) = NamesChildren p

-- each ticket has the next name
abbrev pub NamesTickets : List Entry → Type 0
NamesTickets [] = Unit {0}
NamesTickets (Asked ticket job level control ∷ p) = (ticket ≡ ticket_count p) × NamesTickets p
NamesTickets (_ ∷ p) = NamesTickets p

-- The life of a job since it was last made: then come asks, whole steps, steps that were given up, and its end, each by its
-- plan, and between them entries that are not about it. Nothing is asked of other names than those of children.
pub data Lived (id : Id) (command : Command) : List Entry → Type 0 where
  LifeBegins : (p : List Entry) → NamesChildren p → Lived id command (Made id ∷ p)
  LifeGoesOn : (e : Entry) (p : List Entry) → Lived id command p → NamesChildren (e ∷ p) → is_about id p e ≡ false → Lived id command (e ∷ p)
  LifeAsks : (ask : Ask) (p p' : List Entry) (host hooks host' hooks' : Option (List Entry)) (n n' : ℕ) → Lived id command p → PlanLeads (send_plan id (sends_of ask) p) p host hooks n Done p' host' hooks' n' → Lived id command p'
  LifeSteps : (closed : Bool) (p p' : List Entry) (host hooks host' hooks' : Option (List Entry)) (n n' : ℕ) → Lived id command p → PlanLeads (step_by closed id command p) p host hooks n Done p' host' hooks' n' → Lived id command p'
  LifeGivesUp : (closed : Bool) (rest : Plan) (p p' : List Entry) (host hooks host' hooks' : Option (List Entry)) (n n' : ℕ) → Lived id command p → PlanLeads (step_by closed id command p) p host hooks n rest p' host' hooks' n' → IsCut rest → Lived id command p'
  LifeEnds : (p p' : List Entry) (host hooks host' hooks' : Option (List Entry)) (n n' : ℕ) → Lived id command p → PlanLeads (end_plan id p) p host hooks n Done p' host' hooks' n' → Lived id command p'

-- in the life of a job, since it was last made, each child is reaped before the next spawn, save a last one, and no child
-- runs after its end
abbrev pub ChildrenAreReaped : Type 0
ChildrenAreReaped = (id : Id) (command : Command) (p : List Entry) → Lived id command p → IsReaping id p
