use Rattle.std.proofs.Common.{rules}
use Rattle.wx_job.proofs.DoneLemmas.{err_of}
use Rattle.wx_job.proofs.task.JobTask.walk.Goals as goal

pub returns-in_err-done-clause-err : goal.returns-in_err-done-clause-err
returns-in_err-done-clause-err g c = err_of c.from_residual.result c.from_residual.ensures.0 (search rules)
