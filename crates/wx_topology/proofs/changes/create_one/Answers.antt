use Rattle.std.proofs.Common.{refl}
use Rattle.wx_holding.specs.Holding.{state_of}
use Rattle.wx_holding.proofs.Results.{ok_map}
use Rattle.wx_topology.specs.Drafts.{drafted}
use Rattle.wx_topology.proofs.Drafting.{creates, queues_twice, same_candidates}
use Rattle.wx_topology.proofs.changes.create_one.Goals as goal

pub returns : goal.returns
returns c =
    ok_map c.lift.result _ _
    (λ h. creates c.args.path.now (drafted (state_of c.args.held.now) c.args.draft.now) _ _ _ (queues_twice (drafted (state_of c.args.held.now) c.args.draft.now) (state_of c.args.held.now).queue c.args.draft.now.queued.items c.queue_stirred.new.queue.items c.queue_candidates.new.queue.items _ _ _ refl c.in_ok-queue_stirred.ensures c.in_ok-queue_candidates.ensures (same_candidates c.args.path.now _ _ (state_of c.args.held.now) c.as_slice.ensures.value)) (c.in_ok-clear.ensures (state_of c.args.held.now)) h)
    (c.lift.ensures (state_of c.args.held.now))
