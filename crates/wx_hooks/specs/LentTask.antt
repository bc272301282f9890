-- What a list of jobs ends as, where the task of one is lent.
use Rattle.std.specs.Prelude.{List}
use Rattle.std.specs.Borrow.{Lends, MutBor, Fml}
use Rattle.wx_control.specs.declared.id.Id.{Id}
use Rattle.wx_job.specs.declared.task.JobTask.{JobTask}
use Rattle.wx_job.specs.contracts.task.JobTask.{the_row as task_row}
use Rattle.wx_hooks.specs.declared.held.Held.{Held}
use Rattle.wx_hooks.specs.contracts.job_list.JobList.{the_row}
use Rattle.wx_hooks.specs.HeldJobs.{with_task}

-- once the borrow r ends, the job of this id has the task last written through r, and all else is as before
abbrev pub LendsTask : MutBor (List Held) → Id → MutBor JobTask → Fml
LendsTask s id r = Lends the_row task_row s r (with_task id s.now)
