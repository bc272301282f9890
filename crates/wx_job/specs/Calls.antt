-- What the calls of a case ask for and leave.
use Rattle.std.specs.Prelude.{◌≡◌, ◌<◌, ◌≤◌, ◌+◌, ◌||◌, ℕ, Bool, true, false, Option, None, IfSome, is_some, option_map, Result, IfOk, OnOk, OnErr, List}
use Rattle.wx_text.specs.declared.list.Memory.{Memory}
use Rattle.wx_journal.specs.declared.entry.Entry.{Entry}
use Rattle.wx_control.specs.Waits.{waiting_count}
use Rattle.wx_journal.specs.Names.{moment, ticket_count}
use Rattle.wx_journal.specs.Written.{Written}
use Rattle.wx_machine.specs.declared.choice.Stepped.{Stepped}
use Rattle.wx_job.specs.declared.grace.Standing.{Standing}
use Rattle.wx_machine.specs.declared.state.CommandState.TheVariants.{Pending}
use Rattle.wx_job.specs.declared.task.JobTask.{JobTask}
use Rattle.wx_machine.specs.History.{child, grace, begun}
use Rattle.wx_machine.specs.Table.{Plan, Done, pick_by, is_deletion, is_spawning, answer_of}
use Rattle.wx_machine.specs.Case.{PlanFollows, PlanGivesUp}
use Rattle.wx_machine.specs.Seen.{Seen, Hooked}
use Rattle.wx_machine.specs.Kept.{KeepsOn}
use Rattle.wx_machine.specs.Steady.{HaveRoom, UseRoom}
use Rattle.wx_job.specs.Stands.{TaskKeeps, id_of, gone_of, closed_of, grace_of, holds}
use Rattle.wx_machine.specs.States.{child_of}

-- The task, whose job is there, stands for the journal, and there is so much room in journal and host, and so much in the hooks.
pub record IsReady {Fixed Fixed' : Type 0} (k : JobTask) (n m : ℕ) (j : Written) (a : Seen Fixed) (x : Hooked Fixed') : Type 0 where
  pub stands : TaskKeeps k j.past
  pub here : k.gone ≡ false
  pub room : HaveRoom n m j a x

-- the same, where the journal's last turn has this moment
pub record IsReadyAt {Fixed Fixed' : Type 0} (at : ℕ) (k : JobTask) (n m : ℕ) (j : Written) (a : Seen Fixed) (x : Hooked Fixed') : Type 0 where
  pub ready : IsReady k n m j a x
  pub now : moment j.past ≡ at

-- This ticket has its name, and the task doesn't hold it.
pub record IsTicketInHand (ticket : ℕ) (k : JobTask) (p : List Entry) : Type 0 where
  pub unheld : holds ticket k ≡ 0
  pub named : ticket < ticket_count p

-- So many controls more may wait, and all that wait then may be parked.
pub record MayWait (n : ℕ) (k : JobTask) (j : Written) : Type 0 where
  pub in_waiting : n ≤ k.waiting.spare
  pub in_parked : waiting_count k.waiting + n ≤ k.parked.spare
  pub in_journal : n ≤ j.spare

-- so much room is there in the journal, and so much in the hooks
pub record AreRoomy {Fixed' : Type 0} (n m : ℕ) (j : Written) (x : Hooked Fixed') : Type 0 where
  pub in_journal : n ≤ j.spare
  pub in_hooks : m ≤ x.spare

-- The task stands for the journal afterwards, the hooks kept what each call on them promises, and at most so much room was used.
pub record HasServed {K Fixed Fixed' : Type 0} (seen : K → Hooked Fixed') (rule : Fixed' → List Entry → Entry → Type 0) (stands : K → List Entry → Type 0) (n m : ℕ) (j : Written) (a : Seen Fixed) (x : K) (k' : JobTask) (j' : Written) (b : Seen Fixed) (x' : K) : Type 0 where
  pub stood : TaskKeeps k' j'.past
  pub keeps : KeepsOn seen rule stands x j.past x' j'.past
  pub uses : UseRoom n m j a (seen x) j' b (seen x')

-- the same of calls on hooks alone: the task stands, the hooks kept their promise, and at most so much room was used, in no new turn
pub record HasCalled {K Fixed' : Type 0} (seen : K → Hooked Fixed') (rule : Fixed' → List Entry → Entry → Type 0) (stands : K → List Entry → Type 0) (n m : ℕ) (j : Written) (x : K) (k' : JobTask) (j' : Written) (x' : K) : Type 0 where
  pub stood : TaskKeeps k' j'.past
  pub keeps : KeepsOn seen rule stands x j.past x' j'.past
  pub now : moment j'.past ≡ moment j.past
  pub in_journal : j.spare ≤ j'.spare + n
  pub in_hooks : (seen x).spare ≤ (seen x').spare + m

-- A case that may spawn answered so: it followed its plan, or it was given up for want of memory, which comes only where it spawns,
-- and the state is Pending.
pub record HasDone {Fixed A : Type 0} (r : Result A Memory) (k' : JobTask) (spawning : Bool) (plan : Plan) (p : List Entry) (a : Seen Fixed) (hooks : Option (List Entry)) (p' : List Entry) (b : Seen Fixed) (hooks' : Option (List Entry)) : Type 0 where
  pub ok : OnOk r (PlanFollows plan p a hooks Done p' b hooks')
  pub err : OnErr r (PlanGivesUp plan p a hooks p' b hooks')
  pub memory : OnErr r (spawning ≡ true)
  pub pending : OnErr r (k'.state ≡ Pending)

-- A wait for the child answered so. Where that is done no child runs, and a grace that stood has ended, and is answered; else the
-- state stays. No ticket is held more often.
pub record HasWaited {E : Type 0} (r : Result (Option Standing) E) (k k' : JobTask) : Type 0 where
  pub fields : k' ≡ record k { state = k'.state; kept = k'.kept; grace = k'.grace }
  pub runs : OnErr r (k'.state ≡ k.state)
  pub ended : IfOk r (λ standing. option_map (λ (s : Standing). s.grace) standing ≡ grace_of k)
  pub unheld : IfOk r (λ standing. IfSome standing (λ s. holds s.grace.ticket k' ≡ 0))
  pub none : OnOk r ((child_of k'.state ≡ None) × (grace_of k' ≡ None))
  pub held : (t : ℕ) → holds t k' ≤ holds t k

-- A step answered so, by what it picked: how far it got, whether its job is gone, and want of memory only where the case spawns.
pub record HasStepped (r : Result Stepped Memory) (k : JobTask) (p : List Entry) (k' : JobTask) (p' : List Entry) : Type 0 where
  pub answer : IfOk r (λ stepped. stepped ≡ answer_of (gone_of k) (pick_by (closed_of k) (id_of k) p) (is_some (begun (id_of k) p')))
  pub gone : gone_of k' ≡ (gone_of k || is_deletion (pick_by (closed_of k) (id_of k) p))
  pub memory : OnErr r (is_spawning (pick_by (closed_of k) (id_of k) p) (child (id_of k) p) (grace (id_of k) p) ≡ true)
