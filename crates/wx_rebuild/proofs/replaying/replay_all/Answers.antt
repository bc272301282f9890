use Rattle.std.proofs.Common.{arith, ap, refl, sym, ◌∙◌, [], ◌∷◌}
use Rattle.std.proofs.lemmas.Grind.{common_steps}
use Rattle.wx_holding.specs.Holding.{state_of}
use Rattle.wx_holding.proofs.Results.{ok_map}
use Rattle.wx_holding.proofs.Watching.{keeps_more, keeps_same}
use Rattle.wx_rebuild.proofs.Caused.{more_causes, same_causes}
use Rattle.wx_rebuild.proofs.Replayed.{none_left, one_more, replayed_end, replayed_more, replayed_over, unread, unread_each}
use Rattle.wx_rebuild.proofs.replaying.replay_all.Goals as goal
use Rattle.wx_scan.proofs.LookLemmas.{no_looks, more_looks}

pub loop-rest-init : goal.loop-rest-init
loop-rest-init g c = record { looked = no_looks _; others = refl; place = refl; rest = λ vs each. (vs, each, refl); causes = same_causes (state_of c.args.held.now) (state_of c.args.held.now) _ refl refl; watches = keeps_same _ _ _ refl }

pub loop-rest-preserved : goal.loop-rest-preserved
loop-rest-preserved g c = record {
  looked = more_looks _ _ _ c.loop-rest.invariant.looked c.in_ok-replay_one.ensures.looked;
  others = c.in_ok-replay_one.ensures.rest ∙ c.loop-rest.invariant.others;
  place = c.in_ok-replay_one.ensures.place ∙ c.loop-rest.invariant.place;
  rest = λ vs each.
      let u = c.in_ok-replay_one.ensures.state in
      let h = c.loop-rest.invariant.rest (u.0 ∷ vs) (one_more c.loop-rest.rest.now _ u.0 vs c.in-len1-up.len_at_least (grind (arith, common_steps)) each) in
      (h.0, h.1, replayed_more c.loop-rest.rest.now c.first-item.result _ u.0 vs (state_of c.loop-rest.held) (state_of c.replay_one.new.held) _ c.in-len1-up.len_at_least (grind (arith, common_steps)) (grind (arith, common_steps)) (sym c.is_over.ensures ∙ c.if-is_over.false) u.1 h.2);
  causes = more_causes _ _ _ _ _ _ c.loop-rest.invariant.causes c.in_ok-replay_one.ensures.causes;
  watches = keeps_more _ _ _ _ _ _ c.loop-rest.invariant.watches c.in_ok-replay_one.ensures.watches;
}

pub returns-then-is_over-clause-state : goal.returns-then-is_over-clause-state
returns-then-is_over-clause-state g c =
    ok_map c.keep_waiting.result _ _
    (λ h.
    let k = c.loop-rest.invariant.rest (unread c.loop-rest.rest.now) (unread_each c.loop-rest.rest.now) in
    (k.0, k.1, replayed_over c.loop-rest.rest.now (state_of c.loop-rest.held) (state_of c.keep_waiting.new.held) _ c.in-len1-up.len_at_least (sym c.is_over.ensures ∙ c.if-is_over.true) h k.2))
    c.keep_waiting.ensures

pub returns-then-is_over-clause-watches : goal.returns-then-is_over-clause-watches
returns-then-is_over-clause-watches g c = ok_map c.keep_waiting.result _ _ (λ h. keeps_more _ _ _ _ _ _ c.loop-rest.invariant.watches (keeps_same _ _ _ (ap (λ x. x.registrations) h))) c.keep_waiting.ensures

pub returns-clause-state : goal.returns-clause-state
returns-clause-state g c =
    let k = c.loop-rest.invariant.rest [] (none_left c.loop-rest.rest.now c.in_default.len_below) in
    (k.0, k.1, replayed_end c.loop-rest.rest.now (state_of c.loop-rest.held) _ c.in_default.len_below k.2)

pub returns-clause-watches : goal.returns-clause-watches
returns-clause-watches g c = c.loop-rest.invariant.watches

pub returns-then-is_over-clause-causes : goal.returns-then-is_over-clause-causes
returns-then-is_over-clause-causes g c =
    ok_map c.keep_waiting.result _ _ (λ h. more_causes _ _ _ _ _ _ c.loop-rest.invariant.causes (same_causes (state_of c.loop-rest.held) (state_of c.keep_waiting.new.held) _ (ap (λ x. x.shown) h) (ap (λ x. x.asks_rebuild) h))) c.keep_waiting.ensures

pub returns-clause-causes : goal.returns-clause-causes
returns-clause-causes g c = c.loop-rest.invariant.causes
