use Rattle.std.proofs.Common.{ap, ◌∙◌}
use Rattle.wx_holding.specs.Holding.{state_of}
use Rattle.wx_holding.proofs.Watching.{keeps_more, keeps_same}
use Rattle.wx_rebuild.proofs.Caused.{more_causes, same_causes}
use Rattle.wx_rebuild.proofs.Replayed.{replays_from}
use Rattle.wx_rebuild.proofs.replaying.replay.Goals as goal

pub returns-clause-state : goal.returns-clause-state
returns-clause-state g c =
    replays_from (state_of c.args.held.now) (state_of c.take_waiting-waiting.new.held) (state_of c.replay_all.new.held) (state_of c.uphold.new.held) c.as_slice.result.now (c.as_slice.ensures.value ∙ c.take_waiting-waiting.ensures.waiting) c.take_waiting-waiting.ensures.state c.in_ok-replay_all.ensures.state c.uphold.ensures

pub returns-clause-watches : goal.returns-clause-watches
returns-clause-watches g c =
    keeps_more _ _ _ _ _ _ (keeps_same _ _ _ (ap (λ x. x.registrations) c.take_waiting-waiting.ensures.state))
    (keeps_more _ _ _ _ _ _ c.in_ok-replay_all.ensures.watches (keeps_same _ _ _ (ap (λ x. x.registrations) c.uphold.ensures)))

pub returns-clause-causes : goal.returns-clause-causes
returns-clause-causes g c =
    more_causes _ _ _ _ _ _ (same_causes (state_of c.args.held.now) (state_of c.take_waiting-waiting.new.held) _ (ap (λ x. x.shown) c.take_waiting-waiting.ensures.state) (ap (λ x. x.asks_rebuild) c.take_waiting-waiting.ensures.state))
    (more_causes _ _ _ _ _ _ c.in_ok-replay_all.ensures.causes (same_causes (state_of c.replay_all.new.held) (state_of c.uphold.new.held) _ (ap (λ x. x.shown) c.uphold.ensures) (ap (λ x. x.asks_rebuild) c.uphold.ensures)))
