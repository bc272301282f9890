use Rattle.std.proofs.Common.{ap, refl}
use Rattle.wx_holding.specs.Holding.{state_of}
use Rattle.wx_holding.proofs.Results.{ok_map}
use Rattle.wx_recursor.specs.Calls.{guards_of_roots_below}
use Rattle.wx_topology.specs.Drafts.{drafted}
use Rattle.wx_topology.proofs.Drafting.{queues, removes}
use Rattle.wx_topology.proofs.changes.remove_one.Goals as goal

pub returns : goal.returns
returns c =
    ok_map c.clear.result _ _
    (λ h. removes c.args.path.now (drafted (state_of c.args.held.now) c.args.draft.now) _ _ _ (queues (drafted (state_of c.args.held.now) c.args.draft.now) (state_of c.args.held.now).queue c.args.draft.now.queued.items c.queue_guards_of_roots_below.new.queue.items _ _ refl c.in_ok-queue_guards_of_roots_below.ensures (ap (λ rs. guards_of_roots_below c.args.path.now rs) c.as_slice.ensures.value)) (c.in_ok-bury.ensures (state_of c.args.held.now)) h)
    (c.clear.ensures (state_of c.args.held.now))
