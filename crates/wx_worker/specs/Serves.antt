-- What a turn did to a journal, and what it told.
use Rattle.std.specs.Prelude.{◌≡◌, ◌≤◌, ◌+◌, ◌⊎◌, ℕ, Option, Result, OnOk, OnErr, List}
use Rattle.wx_journal.specs.declared.entry.Entry.{Entry}
use Rattle.wx_journal.specs.Written.{Written}
use Rattle.wx_machine.specs.Seen.{Seen, Hooked}
use Rattle.wx_machine.specs.Kept.{StaysQuiet, KeepsOn}
use Rattle.wx_machine.specs.Faults.{CountsOn}
use Rattle.wx_machine.specs.Steady.{IsSteady, OnlyRoom}
use Rattle.wx_worker.specs.declared.worker_state.Worker.{Worker}
use Rattle.wx_machine.specs.Start.{Start}
use Rattle.wx_worker.specs.Stands.{Stands, Ready, HasEndRoom, end_room}
use Rattle.wx_machine.specs.Table.{Plan}
use Rattle.wx_machine.specs.Case.{IsCut}
use Rattle.wx_machine.specs.Due.{Point, Agenda, agenda, settle, after_acts, is_through, Open, Comes, Plans}
use Rattle.wx_machine.specs.Leads.{Follows, FollowsHooks, FollowsAlone}
use Rattle.wx_machine.specs.Turns.{StaysInTurn}

-- what calls add that are none on the world, nor on the hooks: entries that were due, none of them a turn, and no fault
pub record AddsAlone (s : Start) (p p' : List Entry) : Type 0 where
  pub follows : FollowsAlone s p p'
  pub quiet : StaysQuiet p p'
  pub turns : StaysInTurn p p'
  pub counts : (n : ℕ) → CountsOn p n p' n

-- the same where hooks may be called
pub record AddsHand (s : Start) (p : List Entry) (hooks : Option (List Entry)) (p' : List Entry) (hooks' : Option (List Entry)) : Type 0 where
  pub follows : FollowsHooks s p hooks p' hooks'
  pub turns : StaysInTurn p p'
  pub counts : (n : ℕ) → CountsOn p n p' n

-- the same where both may be: each entry was told by just the one that it is a call on, and each fault raised the count
pub record Serves {Fixed : Type 0} (s : Start) (p : List Entry) (a : Seen Fixed) (hooks : Option (List Entry)) (p' : List Entry) (b : Seen Fixed) (hooks' : Option (List Entry)) : Type 0 where
  pub follows : Follows s p a.shown.told hooks p' b.shown.told hooks'
  pub turns : StaysInTurn p p'
  pub counts : CountsOn p a.shown.faults p' b.shown.faults
  pub steady : IsSteady a b

-- ---- with the worker, which stands for the longer journal

-- where neither world nor hooks are called; as many jobs are held, and the room for their end is kept where it was there
pub record Grows (s : Start) (w : Worker) (j : Written) (w' : Worker) (j' : Written) : Type 0 where
  pub stands : Stands s w' j'.past
  pub adds : AddsAlone s j.past j'.past
  pub end_kept : end_room w' ≡ end_room w
  pub room : end_room w ≤ j.spare → end_room w' ≤ j'.spare

-- where jobs may be made, for which room is taken in the world too
pub record Performs {Plan : Type 0} (s : Start) (p : List Entry) (a : Seen Plan) (w' : Worker) (j' : Written) (b : Seen Plan) : Type 0 where
  pub ready : Ready s w' j' b
  pub adds : AddsAlone s p j'.past
  pub rest : OnlyRoom a b

-- where hooks may be called, which keep what each call promises
pub record GrowsHand {K Fixed : Type 0} (seen : K → Hooked Fixed) (rule : Fixed → List Entry → Entry → Type 0) (holds : K → List Entry → Type 0) (s : Start) (p : List Entry) (x : K) (w' : Worker) (p' : List Entry) (x' : K) : Type 0 where
  pub stands : Stands s w' p'
  pub adds : AddsHand s p (seen x).told p' (seen x').told
  pub keeps : KeepsOn seen rule holds x p x' p'

-- the same where as many jobs are held, and at most so much room was used, and so much in the hooks
pub record GrowsWithin {K Fixed : Type 0} (seen : K → Hooked Fixed) (rule : Fixed → List Entry → Entry → Type 0) (holds : K → List Entry → Type 0) (s : Start) (n m : ℕ) (w : Worker) (j : Written) (x : K) (w' : Worker) (j' : Written) (x' : K) : Type 0 where
  pub grows : GrowsHand seen rule holds s j.past x w' j'.past x'
  pub end_kept : end_room w' ≡ end_room w
  pub in_journal : j.spare ≤ j'.spare + n
  pub in_hooks : (seen x).spare ≤ (seen x').spare + m

-- where both may be; the room for the end of all jobs is kept where it was there
pub record Continues {K Fixed Plan : Type 0} (seen : K → Hooked Fixed) (rule : Fixed → List Entry → Entry → Type 0) (holds : K → List Entry → Type 0) (s : Start) (w : Worker) (j : Written) (a : Seen Plan) (x : K) (w' : Worker) (j' : Written) (b : Seen Plan) (x' : K) : Type 0 where
  pub stands : Stands s w' j'.past
  pub serves : Serves s j.past a (seen x).told j'.past b (seen x').told
  pub keeps : KeepsOn seen rule holds x j.past x' j'.past
  pub room : HasEndRoom w j.spare a.spare → HasEndRoom w' j'.spare b.spare

-- ---- with the answer

-- what stood behind this point is owed, as the last pass leaves it
abbrev pub OwesRest : Start → Point → List Entry → List Entry → Type 0
OwesRest s x p p' = (more : Agenda) → agenda s p ≡ Comes x more → agenda s p' ≡ settle p more

-- the case of a job was given up behind the call of its spawn hook: what is left of it is still due
pub record IsGivenUp (s : Start) (p : List Entry) : Type 0 where
  pub rest : Plan
  pub cut : IsCut rest
  pub due : agenda s p ≡ Plans rest Open

-- want of memory left a turn of a job: no entry was added, or its case was given up
abbrev pub LeavesOff : Start → List Entry → List Entry → Type 0
LeavesOff s p p' = (p' ≡ p) ⊎ IsGivenUp s p'

-- nothing is due, or the end, where it was asked for gracefully and no job lives
abbrev pub IsServed : Start → List Entry → Type 0
IsServed s p = agenda s p ≡ after_acts (is_through p)

-- where it went well the turn is served, and else want of memory left it
pub record Steps {X E : Type 0} (result : Result X E) (s : Start) (p p' : List Entry) : Type 0 where
  pub done : OnOk result (IsServed s p')
  pub err : OnErr result (LeavesOff s p p')

-- where it went well the turn is served, and else no entry was added
pub record Settles {X E : Type 0} (result : Result X E) (s : Start) (p p' : List Entry) : Type 0 where
  pub done : OnOk result (IsServed s p')
  pub err : OnErr result (p' ≡ p)
