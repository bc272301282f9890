use Rattle.std.proofs.Common.{arith, refl, ◌∙◌, [], ◌∷◌}
use Rattle.std.proofs.lemmas.Grind.{common_steps}
use Rattle.wx_holding.specs.Holding.{state_of}
use Rattle.wx_holding.proofs.Added.{unwatched_end, unwatched_more}
use Rattle.wx_holding.proofs.LettingGo.{more_gone, none_gone}
use Rattle.wx_holding.proofs.StandingBy.{first_there, leaving_begins, leaving_ends, leaving_goes_on, still_after, still_before}
use Rattle.wx_holding.proofs.held.Held.unwatch_each.Goals as goal
use Rattle.wx_scan.proofs.LookLemmas.{no_looks, more_looks}

pub loop-rest-init : goal.loop-rest-init
loop-rest-init g c = record { looked = no_looks _; others = refl; place = refl; rest = λ vs. (vs, refl); watches = λ d h. h; calm = λ t still h to_go. leaving_begins t _ _ _ _ h to_go }

pub loop-rest-preserved : goal.loop-rest-preserved
loop-rest-preserved g c = record {
  looked = more_looks _ _ _ c.loop-rest.invariant.looked c.in_ok-unwatch.ensures.looked;
  others = c.in_ok-unwatch.ensures.rest ∙ c.loop-rest.invariant.others;
  place = c.in_ok-unwatch.ensures.place ∙ c.loop-rest.invariant.place;
  rest = λ vs.
      let u = c.in_ok-unwatch.ensures.state in
      let h = c.loop-rest.invariant.rest (u.0 ∷ vs) in
      (h.0, unwatched_more c.loop-rest.rest.now c.first-item.result _ u.0 vs (state_of c.loop-rest.self) (state_of c.unwatch.new.self) _ c.in-len1-up.len_at_least (grind (arith, common_steps)) (grind (arith, common_steps)) u.1 h.1);
  watches = λ d h. c.loop-rest.invariant.watches d (more_gone c.loop-rest.rest.now c.first-item.result _ _ _ d c.in-len1-up.len_at_least (grind (arith, common_steps)) (grind (arith, common_steps)) c.in_ok-unwatch.ensures.watches h);
  calm = λ t still h to_go.
      let first = still_before t _ _ _ c.in_ok-unwatch.ensures.looked still in
      let leaving = c.loop-rest.invariant.calm t first h to_go in
      leaving_goes_on t _ c.loop-rest.rest.now c.first-item.result _ _ _ _ _ _ _ _ _ c.in-len1-up.len_at_least (grind (arith, common_steps)) (grind (arith, common_steps)) leaving c.in_ok-unwatch.ensures.watches
      (c.in_ok-unwatch.ensures.calm t (still_after t _ _ _ c.loop-rest.invariant.looked still) leaving.at_tree (first_there t _ c.loop-rest.rest.now c.first-item.result _ _ _ _ _ c.in-len1-up.len_at_least (grind (arith, common_steps)) leaving));
}

pub returns-clause-state : goal.returns-clause-state
returns-clause-state g c =
    let h = c.loop-rest.invariant.rest [] in
    (h.0, unwatched_end c.loop-rest.rest.now (state_of c.loop-rest.self) _ c.in_default.len_below h.1)

pub returns-clause-watches : goal.returns-clause-watches
returns-clause-watches g c = c.loop-rest.invariant.watches _ (none_gone c.loop-rest.rest.now _ c.in_default.len_below)

pub returns-clause-calm : goal.returns-clause-calm
returns-clause-calm g c = λ t still h to_go. leaving_ends t _ c.loop-rest.rest.now _ _ _ _ _ c.in_default.len_below (c.loop-rest.invariant.calm t still h to_go)
