use Rattle.std.proofs.Common.{refl}
use Rattle.wx_holding.specs.Holding.{state_of}
use Rattle.wx_holding.proofs.Results.{ok_map}
use Rattle.wx_topology.specs.Drafts.{drafted}
use Rattle.wx_topology.proofs.Drafting.{queues_twice, same_probe, unsures}
use Rattle.wx_topology.proofs.changes.be_unsure_of_one.Goals as goal

pub returns : goal.returns
returns c =
    ok_map c.lift.result _ _
    (λ h. unsures c.args.path.now (drafted (state_of c.args.held.now) c.args.draft.now) _ _ _ (queues_twice (drafted (state_of c.args.held.now) c.args.draft.now) (state_of c.args.held.now).queue c.args.draft.now.queued.items c.queue_stirred.new.queue.items c.queue_probe.new.queue.items _ _ _ refl c.in_ok-queue_stirred.ensures c.in_ok-queue_probe.ensures (same_probe c.args.path.now _ _ (state_of c.args.held.now) c.as_slice.ensures.value)) (c.in_ok-clear.ensures (state_of c.args.held.now)) h)
    (c.lift.ensures (state_of c.args.held.now))
