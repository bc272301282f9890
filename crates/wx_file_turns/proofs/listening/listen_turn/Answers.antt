use Rattle.std.proofs.Common.{refl, arith, false}
use Rattle.wx_file_turns.proofs.Settled.{said_beside, settling_beside, settling_by, turn_shows}
use Rattle.wx_file_turns.specs.Standing.{owed, owing, works}
use Rattle.wx_file_turns.proofs.Listened.{files_ignored, files_listened, files_stood, grown_alone, ignored_either, listened_onward, ok_cut, owing_kept, turn_ignores, turn_listens}
use Rattle.wx_file_turns.proofs.Steps.{still_paid}
use Rattle.wx_file_turns.proofs.TurnLemmas.{ignored_due}
use Rattle.wx_file_turns.proofs.listening.listen_turn.Goals as goal

-- ---- where nothing fails

pub returns-in-Some-clause-settles : goal.returns-in-Some-clause-settles
returns-in-Some-clause-settles g c = settling_by _ _ g.start c.listen.result c.args.files.now _ _ c.listen.new.watching c.listen.new.intake _ _ _ _ (λ t. turn_shows g.start t _ _ _ c.requires.1.1.0.1.last) c.in-Some.is refl c.listen.ensures.settles

pub returns-in-None-clause-settles : goal.returns-in-None-clause-settles
returns-in-None-clause-settles g c = settling_beside _ _ g.start c.say.result c.args.files.now _ _ _ _ (said_beside c.say.result _ _ _ (record { none_applied = refl; none_done = refl }) c.say.ensures.said c.say.ensures.err)

-- ---- none stands

pub say-requires : goal.say-requires
say-requires g c = let h = turn_ignores g.start c.args.worker.now c.args.files.now c.requires.1.1.0.0 c.args.journal.now.past c.requires.1.1.0.1 c.requires.1.1.1 c.in-None.is in (h.0, (ignored_due g.start c.args.journal.now.past h.1, refl {a = false}))

pub returns-in-None-clause-alone : goal.returns-in-None-clause-alone
returns-in-None-clause-alone g c = grown_alone g.start _ _ _ _ c.say.ensures.grows

pub returns-in-None-clause-served : goal.returns-in-None-clause-served
returns-in-None-clause-served g c =
    let h = turn_ignores g.start c.args.worker.now c.args.files.now c.requires.1.1.0.0 c.args.journal.now.past c.requires.1.1.0.1 c.requires.1.1.1 c.in-None.is in
    let done = ignored_either g.start c.args.worker.now c.requires.1.1.0.0 c.args.journal.now.past _ c.say.result c.requires.1.1.0.1 h.1 h.2 c.say.ensures.said c.say.ensures.err in
    done.2

pub returns-in-None-clause-files : goal.returns-in-None-clause-files
returns-in-None-clause-files g c =
    let h = turn_ignores g.start c.args.worker.now c.args.files.now c.requires.1.1.0.0 c.args.journal.now.past c.requires.1.1.0.1 c.requires.1.1.1 c.in-None.is in
    let done = ignored_either g.start c.args.worker.now c.requires.1.1.0.0 c.args.journal.now.past _ c.say.result c.requires.1.1.0.1 h.1 h.2 c.say.ensures.said c.say.ensures.err in
    files_ignored g.start c.args.files.now _ _ c.say.result c.requires.1.1.1 done.1

pub returns-in-None-clause-cut : goal.returns-in-None-clause-cut
returns-in-None-clause-cut g c =
    let h = turn_ignores g.start c.args.worker.now c.args.files.now c.requires.1.1.0.0 c.args.journal.now.past c.requires.1.1.0.1 c.requires.1.1.1 c.in-None.is in
    let done = ignored_either g.start c.args.worker.now c.requires.1.1.0.0 c.args.journal.now.past _ c.say.result c.requires.1.1.0.1 h.1 h.2 c.say.ensures.said c.say.ensures.err in
    ok_cut c.say.result done.0.none

pub returns-in-None-clause-none_unmade : goal.returns-in-None-clause-none_unmade
returns-in-None-clause-none_unmade g c =
    let h = turn_ignores g.start c.args.worker.now c.args.files.now c.requires.1.1.0.0 c.args.journal.now.past c.requires.1.1.0.1 c.requires.1.1.1 c.in-None.is in
    let done = ignored_either g.start c.args.worker.now c.requires.1.1.0.0 c.args.journal.now.past _ c.say.result c.requires.1.1.0.1 h.1 h.2 c.say.ensures.said c.say.ensures.err in
    done.0.made

pub returns-in-None-clause-paid : goal.returns-in-None-clause-paid
returns-in-None-clause-paid g c =
    let h = turn_ignores g.start c.args.worker.now c.args.files.now c.requires.1.1.0.0 c.args.journal.now.past c.requires.1.1.0.1 c.requires.1.1.1 c.in-None.is in
    let done = ignored_either g.start c.args.worker.now c.requires.1.1.0.0 c.args.journal.now.past _ c.say.result c.requires.1.1.0.1 h.1 h.2 c.say.ensures.said c.say.ensures.err in
    still_paid c.args.journal.now.past c.say.new.journal.past (g.W.Outside.seen c.args.world.now) (g.W.Outside.seen c.args.world.now) (owing c.args.files.now) (owing c.args.files.now) (listened_onward g.start _ _ _ _ done.0 (omega arith)) (omega arith)

-- ---- one does

pub listen-requires : goal.listen-requires
listen-requires g c = λ κs lives.
    let h = turn_listens g.start c.args.worker.now c.args.files.now _ c.requires.1.1.0.0 c.args.journal.now.past c.requires.1.1.0.1 c.requires.1.1.1 c.in-Some.is in
    let stood = files_stood g.start c.args.files.now _ c.args.journal.now.past c.requires.1.1.1 c.in-Some.is in
    (lives.0, (lives.1, (record { stands = h.stands; due = h.due }, (h.going, ((g.start.folder, stood.config, stood.watches), (h.current, (h.begins, c.requires.1.1.1.intake_kept)))))))

pub returns-in-Some-clause-files : goal.returns-in-Some-clause-files
returns-in-Some-clause-files g c = files_listened g.start c.args.files.now _ _ _ c.args.journal.now.past _ c.listen.result c.requires.1.1.1 c.in-Some.is c.listen.ensures.source c.listen.ensures.watches c.listen.ensures.intake

pub returns-in-Some-clause-paid : goal.returns-in-Some-clause-paid
returns-in-Some-clause-paid g c = still_paid c.args.journal.now.past c.listen.new.journal.past (g.W.Outside.seen c.args.world.now) (g.W.Outside.seen c.listen.new.world) (owing c.args.files.now) (owed (works c.listen.new.watching)) c.listen.ensures.onward (owing_kept c.args.files.now c.in-Some.watching c.listen.new.watching c.in-Some.is c.listen.ensures.works)
