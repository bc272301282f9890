use Rattle.wx_poller.specs.Polled.{backing_of}
use Rattle.wx_follow.proofs.BackedLaws.{exact_below}
use Rattle.wx_follow.proofs.script_backend.ScriptBackendBackend.next.Goals as goal

pub returns-in-Some-next-clause-fits : goal.returns-in-Some-next-clause-fits
returns-in-Some-next-clause-fits g c = λ t x s k. c.in-Some-next.ensures.fits t (exact_below (backing_of c.args.self.now.poller) c.args.self.now.failing c.args.self.now.faults c.args.self.now.past.brought _ _ t x) s k

pub returns-in-None-next-clause-fits : goal.returns-in-None-next-clause-fits
returns-in-None-next-clause-fits g c = λ t x s k. c.in-None-next.ensures.fits t (exact_below (backing_of c.args.self.now.poller) c.args.self.now.failing c.args.self.now.faults c.args.self.now.past.brought _ _ t x) s k
