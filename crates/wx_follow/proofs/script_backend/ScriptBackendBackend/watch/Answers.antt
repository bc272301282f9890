use Rattle.wx_poller.specs.Polled.{backing_of}
use Rattle.wx_follow.proofs.BackedLaws.{exact_below}
use Rattle.wx_follow.proofs.script_backend.ScriptBackendBackend.watch.Goals as goal

pub returns-in-None-clause-fits : goal.returns-in-None-clause-fits
returns-in-None-clause-fits g c = λ t x s n k. c.watch.ensures.fits t (exact_below (backing_of c.args.self.now.poller) c.args.self.now.failing c.args.self.now.faults c.args.self.now.past.brought _ _ t x) s n k
