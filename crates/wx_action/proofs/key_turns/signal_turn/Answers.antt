use Rattle.std.proofs.Common.{true, false, refl, ap, sym, ◌∙◌}
use Rattle.wx_journal.specs.declared.entry.Word.TheVariants.{Ignored}
use Rattle.wx_machine.specs.Due.{Says, Open}
use Rattle.wx_worker.proofs.ArriveLemmas.{grows_none, settles_open}
use Rattle.wx_worker.proofs.KeyLemmas.{signal_owes, offered_as}
use Rattle.wx_action.proofs.key_turns.signal_turn.Goals as goal

pub ignored-requires : goal.ignored-requires
ignored-requires g c =
    let owes = signal_owes g.start c.args.worker.now c.requires.0 c.args.signal c.args.journal.now.past false c.requires.1 (sym c.hears_signal.ensures ∙ c.if-not-hears_signal.true) in
    (Open, record { stands = owes.stands; due = owes.due })

pub returns-then-not-hears_signal-clause-settles : goal.returns-then-not-hears_signal-clause-settles
returns-then-not-hears_signal-clause-settles g c =
    let owes = signal_owes g.start c.args.worker.now c.requires.0 c.args.signal c.args.journal.now.past false c.requires.1 (sym c.hears_signal.ensures ∙ c.if-not-hears_signal.true) in
    settles_open g.start (Says Ignored) c.args.journal.now.past c.ignored.new.journal.past c.ignored.result owes.going owes.due c.ignored.ensures.done c.ignored.ensures.err

pub returns-in_err-event-clause-grows : goal.returns-in_err-event-clause-grows
returns-in_err-event-clause-grows g c =
    let owes = signal_owes g.start c.args.worker.now c.requires.0 c.args.signal c.args.journal.now.past true c.requires.1 (sym c.hears_signal.ensures ∙ c.if-not-hears_signal.false) in
    grows_none g.start _ _ _ _ owes.stands refl refl (λ room. room)

pub arrive-requires : goal.arrive-requires
arrive-requires g c =
    let owes = signal_owes g.start c.args.worker.now c.requires.0 c.args.signal c.args.journal.now.past true c.requires.1 (sym c.hears_signal.ensures ∙ c.if-not-hears_signal.false) in
    (Open, record { stands = owes.stands; due = owes.due ∙ ap offered_as (sym c.in_ok-event.ensures) })

pub returns-clause-settles : goal.returns-clause-settles
returns-clause-settles g c =
    let owes = signal_owes g.start c.args.worker.now c.requires.0 c.args.signal c.args.journal.now.past true c.requires.1 (sym c.hears_signal.ensures ∙ c.if-not-hears_signal.false) in
    settles_open g.start _ c.args.journal.now.past c.arrive.new.journal.past c.arrive.result owes.going (owes.due ∙ ap offered_as (sym c.in_ok-event.ensures)) c.arrive.ensures.done c.arrive.ensures.err
