use Rattle.std.proofs.Common.{rules}
use Rattle.wx_job.proofs.Sets.{steps}
use Rattle.wx_job.proofs.task.JobTask.raise_parked.Goals as goal

-- field by field: one search for all of them is too long
pub loop-parked-preserved : goal.loop-parked-preserved
loop-parked-preserved g c = record {
  stands = search (rules, steps);
  follows = search (rules, steps);
  fields = search (rules, steps);
  held = search (rules, steps);
  before = search (rules, steps);
  quiet = search (rules, steps);
  steady = search (rules, steps);
  now = search (rules, steps);
  journal_room = search (rules, steps);
  host_room = search (rules, steps);
  journal_used = search (rules, steps);
  host_used = search (rules, steps);
}
