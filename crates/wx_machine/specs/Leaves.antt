-- What calls on one job leave of what holds of every job.
use Rattle.std.specs.Prelude.{◌≡◌, ◌≢◌, ℕ, ◌+◌, ◌≤◌, List}
use Rattle.wx_control.specs.declared.id.Id.{Id}
use Rattle.wx_journal.specs.declared.entry.Entry.{Entry}
use Rattle.wx_journal.specs.Names.{NamesItsOwn, ticket_count}
use Rattle.wx_machine.specs.History.{command, history}
use Rattle.wx_machine.specs.Added.{Added}
use Rattle.wx_machine.specs.JobLaws.{IsReaping, AfterFaults, CallsItsChild}
use Rattle.wx_machine.specs.Afterwards.{GoesOnAfterFaults}
use Rattle.wx_machine.specs.TicketLaws.{raises_of, WaitsForFunction, IsPlacedOf, RaisesLast, IsPlaced}

-- All that is asked of the history of a job is the same in both journals, and so is what it was created to run, and its tickets are
-- placed still.
pub record SameHistory (id : Id) (p p' : List Entry) : Type 0 where
  pub history_same : history id p' ≡ history id p
  pub command_same : command id p' ≡ command id p
  pub tickets_later : ticket_count p ≤ ticket_count p'
  pub placed_still : IsPlacedOf id p → IsPlacedOf id p'

-- what calls on one job leave alone: the names are the journal's own, and all other jobs are as they were
pub record LeavesOthers (id : Id) (p p' : List Entry) : Type 0 where
  pub own : NamesItsOwn p'
  pub others : (other : Id) → other ≢ id → SameHistory other p p'

-- What calls on one job leave of what holds of the histories. What is said of this job asks nothing of the journal's names, and
-- where tickets are is said of all jobs.
pub record LeavesLaws (id : Id) (p p' : List Entry) : Type 0 where
  pub others : NamesItsOwn p → LeavesOthers id p p'
  pub reaped : IsReaping id p → IsReaping id p'
  pub failed : AfterFaults p → AfterFaults p'
  pub afterwards : GoesOnAfterFaults p → GoesOnAfterFaults p'
  pub placed : IsPlaced p → IsPlaced p'

-- What holds of each entry that calls on one job added, whatever other jobs' entries came before: after faults, of begun functions, and
-- of the order in which tickets are raised. None raises a ticket a second time.
pub record AddsByLaws (id : Id) (p p' : List Entry) : Type 0 where
  pub faults : Added (CallsItsChild id) p p'
  pub functions : Added (WaitsForFunction id) p p'
  pub raises : Added (RaisesLast id) p p'
  pub once : (ticket : ℕ) → raises_of ticket p' ≤ raises_of ticket p + 1
