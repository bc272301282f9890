use Rattle.wx_poller.specs.Polled.{backing_of, Fits}
use Rattle.wx_paced.specs.declared.paced.PacedPoller.{PacedPoller}
use Rattle.wx_handles.specs.Threaded.{own}
use Rattle.wx_handles.proofs.Transfers.{backend_threaded}
use Rattle.wx_handles.proofs.world.ThreadWorldWorld.make_backend.Goals as goal

pub returns-clause-gives : goal.returns-clause-gives
returns-clause-gives g c =
    backend_threaded (own c.args.self.now.turns c.args.self.now.jobs (g.L.Live.drawn c.args.self.now.base.value) c.args.self.now.marks c.args.self.now.items c.args.self.now.left) (λ (b : PacedPoller). backing_of b.poller) (λ (b : PacedPoller). Fits b.poller) c.args.back c.args.kind c.args.follow _ _ _ c.made_backend.ensures.only_memory c.made_backend.ensures.gives
