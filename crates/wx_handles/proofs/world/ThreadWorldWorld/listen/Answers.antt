use Rattle.wx_poller.specs.Polled.{backing_of, Fits}
use Rattle.wx_paced.specs.declared.paced.PacedPoller.{PacedPoller}
use Rattle.wx_handles.specs.Threaded.{own}
use Rattle.wx_handles.proofs.Transfers.{next_by_poller, next_threaded}
use Rattle.wx_handles.proofs.world.ThreadWorldWorld.listen.Goals as goal

pub returns-clause-gives : goal.returns-clause-gives
returns-clause-gives g c =
    next_by_poller c.args.item c.args.name _ c.args.back.now _ _ _ _ c.set_moment.ensures.rest.0 (next_threaded (own c.args.self.now.turns c.args.self.now.jobs (g.L.Live.drawn c.args.self.now.base.value) c.args.self.now.marks c.args.self.now.items c.args.self.now.left) (λ (b : PacedPoller). backing_of b.poller) (λ (b : PacedPoller). Fits b.poller) c.args.item c.args.name _ _ _ _ _ c.heard.ensures.gives)
