use Rattle.wx_holding.proofs.LettingGo.{keeps_released}
use Rattle.wx_holding.specs.Holding.{state_of}
use Rattle.wx_holding.proofs.Results.{ok_map}
use Rattle.wx_holding.proofs.Released.{idle_from, released_from}
use Rattle.wx_holding.proofs.StandingBy.{at_tree, calm_released, idle_to_go, none_unwatched, stands_released}
use Rattle.std.proofs.Common.{[]}
use Rattle.wx_holding.proofs.held.Held.release.Goals as goal

pub returns-clause-state : goal.returns-clause-state
returns-clause-state g c =
    let f = c.in_ok-unwatch_each.ensures.state in
    ok_map c.ask_for_lost.result _ _
    (λ h. (
      f.0,
      released_from (state_of c.args.self.now) (state_of c.forget_unowned.new.self) (state_of c.unwatch_each.new.self) (state_of c.trim.new.self) (state_of c.ask_for_lost.new.self) c.in_ok-idle.idle.items c.as_slice.result.now f.0
          c.forget_unowned.ensures c.in_ok-idle.ensures c.as_slice.ensures.value f.1 c.trim.ensures h,
    ))
    c.ask_for_lost.ensures

pub returns-clause-watches : goal.returns-clause-watches
returns-clause-watches g c =
    let f = c.in_ok-unwatch_each.ensures.state in
    ok_map c.ask_for_lost.result _ _
    (λ h sound. keeps_released (state_of c.args.self.now) (state_of c.ask_for_lost.new.self) f.0 c.as_slice.result.now _ _ (idle_from (state_of c.args.self.now) (state_of c.forget_unowned.new.self) c.in_ok-idle.idle.items c.as_slice.result.now c.forget_unowned.ensures c.in_ok-idle.ensures c.as_slice.ensures.value)
    (released_from (state_of c.args.self.now) (state_of c.forget_unowned.new.self) (state_of c.unwatch_each.new.self) (state_of c.trim.new.self) (state_of c.ask_for_lost.new.self) c.in_ok-idle.idle.items c.as_slice.result.now f.0
    c.forget_unowned.ensures c.in_ok-idle.ensures c.as_slice.ensures.value f.1 c.trim.ensures h)
    c.in_ok-unwatch_each.ensures.watches sound)
    c.ask_for_lost.ensures

pub returns-clause-calm : goal.returns-clause-calm
returns-clause-calm g c = λ t still stands sound.
    let s = state_of c.args.self.now in
    let is = idle_from s (state_of c.forget_unowned.new.self) c.in_ok-idle.idle.items c.as_slice.result.now c.forget_unowned.ensures c.in_ok-idle.ensures c.as_slice.ensures.value in
    let go = c.in_ok-unwatch_each.ensures.calm t still (at_tree t _ _ _ stands) (idle_to_go s c.as_slice.result.now _ is sound stands.watched) in
    ok_map c.ask_for_lost.result _ _
    (λ h.
    let done = released_from s (state_of c.forget_unowned.new.self) (state_of c.unwatch_each.new.self) (state_of c.trim.new.self) (state_of c.ask_for_lost.new.self) c.in_ok-idle.idle.items c.as_slice.result.now []
    c.forget_unowned.ensures c.in_ok-idle.ensures c.as_slice.ensures.value (none_unwatched c.as_slice.result.now _ _ go.state) c.trim.ensures h in
    (calm_released s _ done, stands_released t s _ c.as_slice.result.now _ _ _ _ is done c.in_ok-unwatch_each.ensures.watches go.left go.at_tree sound stands))
    c.ask_for_lost.ensures
