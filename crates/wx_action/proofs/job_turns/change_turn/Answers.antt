use Rattle.std.proofs.Common.{◌≡◌, ◌≢◌, [], ◌∷◌, arith, refl, ap, ◌∙◌, eq-eqb}
use Rattle.std.specs.Prelude.{◌==◌, true}
use Rattle.wx_config.specs.Changes.{last_revision}
use Rattle.wx_journal.specs.declared.entry.TurnKind.TheVariants.{Change}
use Rattle.wx_journal.specs.declared.entry.Word.TheVariants.{Ignored}
use Rattle.wx_machine.specs.Settings.{pending, revision}
use Rattle.wx_machine.specs.Due.{Says, Open}
use Rattle.wx_worker.specs.Stands.{end_room}
use Rattle.wx_worker.proofs.TurnLaws.{at_turn}
use Rattle.wx_worker.proofs.ServesLaws.{adds}
use Rattle.wx_worker.proofs.ArriveLemmas.{grows_none, settles_open}
use Rattle.wx_action.proofs.JobLemmas.{AskDone, change_done}
use Rattle.wx_action.proofs.job_turns.change_turn.Goals as goal

-- whether the revision is the last one
pub ignored-requires : goal.ignored-requires
ignored-requires g c =
    let at = at_turn g.start c.args.worker.now c.requires.0 (Change c.args.change) c.args.journal.now.past tt c.requires.1 in
    let spent : (revision g.start c.args.journal.now.past == last_revision) ≡ true = rw (← ap (λ k. k.change_signal) at.stands.config_kept) (eq-eqb c.args.worker.now.config.change_signal last_revision c.if-worker.true) in
    (Open, record { stands = at.stands; due = at.due ∙ rw spent refl })

pub returns-then-worker-clause-settles : goal.returns-then-worker-clause-settles
returns-then-worker-clause-settles g c =
    let at = at_turn g.start c.args.worker.now c.requires.0 (Change c.args.change) c.args.journal.now.past tt c.requires.1 in
    let spent : (revision g.start c.args.journal.now.past == last_revision) ≡ true = rw (← ap (λ k. k.change_signal) at.stands.config_kept) (eq-eqb c.args.worker.now.config.change_signal last_revision c.if-worker.true) in
    settles_open g.start (Says Ignored) c.args.journal.now.past c.ignored.new.journal.past c.ignored.result at.going (at.due ∙ rw spent refl) c.ignored.ensures.done c.ignored.ensures.err

pub returns-in_default-clause-grows : goal.returns-in_default-clause-grows
returns-in_default-clause-grows g c =
    grows_none _ _ _ _ _ (rw c.reserve.ensures.same (at_turn g.start c.args.worker.now c.requires.0 (Change c.args.change) c.args.journal.now.past tt c.requires.1).stands) c.reserve.ensures.same refl (λ room. omega (arith, room, c.reserve.ensures.kept))

done : (g : _) (c : goal.After-change g) → AskDone g.start c.change.new.self c.args.journal.now.past c.change.new.journal.past
done g c =
    let at = at_turn g.start c.args.worker.now c.requires.0 (Change c.args.change) c.args.journal.now.past tt c.requires.1 in
    let waits : pending c.args.journal.now.past ≡ c.args.change ∷ [] = ap pending c.requires.1.last in
    let other : revision g.start c.args.journal.now.past ≢ last_revision = rw (← ap (λ k. k.change_signal) at.stands.config_kept) c.if-worker.false in
    change_done g.start c.args.worker.now c.change.new.self c.args.change c.args.journal.now.past c.change.new.journal.past at.stands at.going at.due waits other c.change.ensures.same c.change.ensures.ended c.change.ensures.changed
    (rw c.in-Ok.ensures.same at c.change.ensures.past)

pub returns-clause-grows : goal.returns-clause-grows
returns-clause-grows g c = let d = done g c in record {
  stands = d.stands;
  adds = adds _ _ _ d.follows d.quiet d.turns;
  end_kept = ap end_room c.change.ensures.same;
  room = λ room. omega (arith, ap end_room c.change.ensures.same, c.in-Ok.ensures.room, c.change.ensures.room);
}

pub returns-clause-settles : goal.returns-clause-settles
returns-clause-settles g c = record { done = (done g c).done; err = tt }
