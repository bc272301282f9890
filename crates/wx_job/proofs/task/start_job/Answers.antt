use Rattle.wx_machine.proofs.OneJob.{of_made}
use Rattle.wx_job.proofs.StandsLemmas.{stands-made}
use Rattle.wx_job.proofs.task.start_job.Goals as goal

pub returns-clause-stands : goal.returns-clause-stands
returns-clause-stands c p runs = record { keeps = stands-made c.args.id c.in_ok-command.command c.in_ok-flag.flag c.in_ok-waiting.waiting c.in_ok-mirror.mirror c.new-5.result p c.in_ok-waiting.ensures c.new-5.ensures (rw c.in_ok-command.ensures runs); placed = of_made c.args.id p }
