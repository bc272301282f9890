use Rattle.std.proofs.Common.{◌≡◌, rules, ap, ◌∙◌}
use Rattle.wx_events.specs.declared.priority.Priority.TheVariants.{Normal}
use Rattle.wx_machine.specs.Due.{Offers, Comes, offers, agenda}
use Rattle.wx_machine.proofs.SettleLaws.{settle_calm}
use Rattle.wx_worker.proofs.ArriveLemmas.{on_err, grows_then}
use Rattle.wx_worker.proofs.KeyLemmas.{none_of_offers}
use Rattle.wx_worker.proofs.worker_state.Worker.arrive_keys.Goals as goal

pub arrive-requires : goal.arrive-requires
arrive-requires g c = (offers c.take_first.new.self, record { stands = c.loop-event.invariant.stands; due = c.loop-event.invariant.due ∙ ap offers c.in-Some.ensures.some })

pub loop-event-preserved : goal.loop-event-preserved
loop-event-preserved g c =
    let i = c.loop-event.invariant in
    let owed : agenda g.start c.loop-event.journal.past ≡ Comes (Offers c.in-Some.event Normal) (offers c.take_first.new.self) = i.due ∙ ap offers c.in-Some.ensures.some in
    record {
      stands = c.arrive.ensures.grows.stands;
      due = c.in_ok-arrive.ensures.done (offers c.take_first.new.self) owed ∙ settle_calm c.loop-event.journal.past (offers c.take_first.new.self) i.going;
      going = c.arrive.ensures.quits ∙ i.going;
      grows = grows_then g.start _ _ _ _ _ _ i.grows c.arrive.ensures.grows;
    }

pub returns-in_err-arrive : goal.returns-in_err-arrive
returns-in_err-arrive g c =
    let i = c.loop-event.invariant in
    record {
      grows = grows_then g.start _ _ _ _ _ _ i.grows c.arrive.ensures.grows;
      done = search rules;
      cut = on_err c.from_residual.result (rw (c.in_err-arrive.ensures.err, i.due) (none_of_offers c.loop-event.left));
    }
