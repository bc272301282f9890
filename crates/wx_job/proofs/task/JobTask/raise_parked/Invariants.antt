use Rattle.std.proofs.Common.{◌≡◌, ◌≤◌, ◌+◌, ℕ, length}
use Rattle.wx_journal.specs.Names.{moment}
use Rattle.wx_machine.specs.History.{before_spawn}
use Rattle.wx_machine.specs.Table.{Plan, waiters}
use Rattle.wx_machine.specs.Case.{PlanFollowsHost}
use Rattle.wx_machine.specs.Kept.{Quiet}
use Rattle.wx_machine.specs.Steady.{IsSteady}
use Rattle.wx_job.specs.Stands.{TaskKeeps, holds}
use Rattle.wx_job.proofs.task.JobTask.raise_parked.Given as goal

abbrev pub invariant-loop-parked : goal.invariant-loop-parked
invariant-loop-parked g l = record {
  stands : TaskKeeps l.self l.journal.past;
  follows : (k : Plan) → PlanFollowsHost (waiters l.fn.self.parked.tickets k) l.fn.journal.past (g.H.Outside.seen l.fn.host) (waiters l.self.parked.tickets k) l.journal.past (g.H.Outside.seen l.host);
  fields : l.self ≡ record l.fn.self { parked = l.self.parked };
  held : (t : ℕ) → holds t l.self ≤ holds t l.fn.self;
  before : before_spawn l.self.id l.journal.past ≡ l.self.state;
  quiet : Quiet l.fn.journal.past l.journal.past;
  steady : IsSteady (g.H.Outside.seen l.fn.host) (g.H.Outside.seen l.host);
  now : moment l.journal.past ≡ moment l.fn.journal.past;
  journal_room : length l.self.parked.tickets ≤ l.journal.spare;
  host_room : length l.self.parked.tickets ≤ (g.H.Outside.seen l.host).spare;
  journal_used : l.fn.journal.spare + length l.self.parked.tickets ≤ l.journal.spare + length l.fn.self.parked.tickets;
  host_used : (g.H.Outside.seen l.fn.host).spare + length l.self.parked.tickets ≤ (g.H.Outside.seen l.host).spare + length l.fn.self.parked.tickets;
}

abbrev pub decreases-loop-parked : goal.decreases-loop-parked
decreases-loop-parked g l = length l.self.parked.tickets
