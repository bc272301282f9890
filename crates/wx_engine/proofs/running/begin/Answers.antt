use Rattle.std.proofs.Common.{◌≡◌, ◌<◌, ◌+◌, List, length, drop, ap, arith, subst, sym, ◌∙◌}
use Rattle.wx_events.specs.declared.event.Event.{Event}
use Rattle.wx_events.specs.declared.priority.Priority.{Priority}
use Rattle.wx_machine.specs.Start.{Start, IsStart}
use Rattle.wx_machine.specs.Journal.{bag}
use Rattle.wx_machine.specs.Due.{begin_of, Sends, Comes, sends}
use Rattle.wx_machine.proofs.SettleLaws.{settle_calm}
use Rattle.wx_worker.proofs.ServesLaws.{adds, adds_then}
use Rattle.wx_engine.proofs.BeginLemmas.{none_yet, begun, going_begun, next_sent}
use Rattle.wx_engine.proofs.running.begin.Goals as goal

pub loop-item-init : goal.loop-item-init
loop-item-init g c =
    let is = c.engine.view_is ∙ c.requires.0 in
    let all : c.as_slice-item-items.result.now ≡ g.start.events = c.as_slice-item-items.ensures ∙ ap (λ (s : Start). s.events) is in
    let b = begun g.start c.in_ok-worker.worker _ c.args.journal.now.past c.list_beginning.new.journal.past c.requires.1 (ap begin_of is) c.in_ok-worker.ensures.listed
    (c.in_ok-worker.ensures.stands g.start (ap (λ (s : Start). s.config) (sym is))) in
    record {
      is_start = subst IsStart is c.engine.invariant;
      all = all;
      stands = b.stands;
      room = c.in_ok-worker.ensures.room;
      due = b.due ∙ ap sends (sym all);
      count = b.count;
      takes = b.takes;
      adds = adds _ _ _ b.follows b.quiet b.turns;
    }

pub send-requires : goal.send-requires
send-requires g c =
    let n = next_sent g.start c.loop-item.journal.past _ c.loop-item.item-index c.item-item.result c.loop-item-test.true c.item-item.is c.loop-item.invariant.due in
    let rest_is : List (Event × Priority) = drop (c.loop-item.item-index + 1) c.as_slice-item-items.result.now in
    let lt : length (bag c.loop-item.journal.past) < g.start.config.event_channel_size =
    omega (arith, c.loop-item.invariant.count, ap (λ (xs : List (Event × Priority)). length xs) c.loop-item.invariant.all, c.loop-item.invariant.is_start.events, c.loop-item-test.true) in
    ((sends rest_is, record { stands = c.loop-item.invariant.stands; due = n ∙ ap (λ (e : Event). Comes (Sends e c.item-item.result.1) (sends rest_is)) (sym c.in_ok-event.ensures) }), (lt, c.loop-item.invariant.takes))

pub loop-item-preserved : goal.loop-item-preserved
loop-item-preserved g c =
    let n = next_sent g.start c.loop-item.journal.past _ c.loop-item.item-index c.item-item.result c.loop-item-test.true c.item-item.is c.loop-item.invariant.due in
    let rest_is : List (Event × Priority) = drop (c.loop-item.item-index + 1) c.as_slice-item-items.result.now in
    record {
      is_start = c.loop-item.invariant.is_start;
      all = c.loop-item.invariant.all;
      stands = c.send.ensures.grows.stands;
      room = c.send.ensures.grows.end_kept ∙ c.loop-item.invariant.room;
      due = c.in_ok-send.ensures.done (sends rest_is) (n ∙ ap (λ (e : Event). Comes (Sends e c.item-item.result.1) (sends rest_is)) (sym c.in_ok-event.ensures)) ∙ settle_calm c.loop-item.journal.past (sends rest_is) (going_begun g.start c.args.journal.now.past _ _ c.requires.1 c.loop-item.invariant.adds c.loop-item.invariant.due);
      count = c.in_ok-send.ensures.bag ∙ ap (λ n. n + 1) c.loop-item.invariant.count;
      takes = c.send.ensures.takes;
      adds = adds_then _ _ _ _ c.loop-item.invariant.adds c.send.ensures.grows.adds;
    }

pub returns-in_err-event-clause-none : goal.returns-in_err-event-clause-none
returns-in_err-event-clause-none g c = none_yet g.start c.loop-item.worker c.loop-item.journal.past c.loop-item.invariant.stands c.loop-item.invariant.room

pub returns-in_err-send-clause-none : goal.returns-in_err-send-clause-none
returns-in_err-send-clause-none g c = rw c.in_err-send.ensures.err (none_yet g.start c.loop-item.worker c.loop-item.journal.past c.loop-item.invariant.stands c.loop-item.invariant.room)

pub returns-clause-none : goal.returns-clause-none
returns-clause-none g c = none_yet g.start c.loop-item.worker c.loop-item.journal.past c.loop-item.invariant.stands c.loop-item.invariant.room
