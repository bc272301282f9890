use Rattle.wx_queue.specs.declared.parcel.Queued.{Queued}
use Rattle.wx_queue.proofs.Keeps.{begins}
use Rattle.wx_queue.proofs.queue.PassQueue.new.Goals as goal

pub ruled-requires-clause-rule : goal.ruled-requires-clause-rule
ruled-requires-clause-rule g c = begins (λ (x : Queued g.row.I.Denot g.row.F.Denot). x.sent)
