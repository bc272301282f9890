use Rattle.std.proofs.Common.{rules, refl}
use Rattle.wx_file_turns.proofs.Onward.{steps_alone, steps_by_hand, steps_looked, steps_then}
use Rattle.wx_file_turns.proofs.Rebuilt.{looks_seen, rebuilt}
use Rattle.wx_file_turns.proofs.Shown.{rebuilds_once}
use Rattle.wx_file_turns.proofs.Steps.{remake_due, remake_on}
use Rattle.wx_file_turns.proofs.rebuilding.rebuild_once.Goals as goal

pub make_backend-requires : goal.make_backend-requires
make_backend-requires g c = λ κs lives. (lives.0, (lives.1, (c.requires.1.1.1.0, remake_due g.start c.args.watching.now _ _ c.args.journal.now.past c.requires.1.1.1.1.stepping c.requires.1.1.1.1.watching c.prepare_backend_rebuild.ensures.others.0 c.prepare_backend_rebuild.ensures.others.1)))

pub returns-in_err-back-clause-steps : goal.returns-in_err-back-clause-steps
returns-in_err-back-clause-steps g c = steps_alone _ _ _ g.start _ _ _ _ _ _ c.make_backend.ensures.alone c.make_backend.ensures.onward c.make_backend.ensures.brought

pub returns-in_err-shown-clause-steps : goal.returns-in_err-shown-clause-steps
returns-in_err-shown-clause-steps g c =
    let law = g.met.W.World.only_looks in
    let looked = looks_seen (g.W.Outside.seen c.make_backend.new.world) (g.W.Outside.seen c.replay_backend_snapshot.new.scan) _ _ (law c.make_backend.new.world c.make_backend.new.world refl) (law c.make_backend.new.world c.replay_backend_snapshot.new.scan c.replay_backend_snapshot.ensures.rest) c.replay_backend_snapshot.ensures.looked in
    steps_then _ _ _ g.start _ _ _ _ _ _ _ _ _ _ _ _ (steps_alone _ _ _ g.start _ _ _ _ _ _ c.make_backend.ensures.alone c.make_backend.ensures.onward c.make_backend.ensures.brought) (steps_looked _ _ _ g.start _ _ _ _ _ _ c.make_backend.ensures.alone.stands looked.0 looked.1)

pub show_errors-requires : goal.show_errors-requires
show_errors-requires g c = λ κs lives. (lives, (c.make_backend.ensures.alone.stands, remake_on g.start c.args.journal.now.past _ _ _ _ c.requires.1.1.1.1.stepping c.in_ok-back.ensures.made))

pub returns-in_err-show_errors-clause-steps : goal.returns-in_err-show_errors-clause-steps
returns-in_err-show_errors-clause-steps g c =
    let law = g.met.W.World.only_looks in
    let looked = looks_seen (g.W.Outside.seen c.make_backend.new.world) (g.W.Outside.seen c.replay_backend_snapshot.new.scan) _ _ (law c.make_backend.new.world c.make_backend.new.world refl) (law c.make_backend.new.world c.replay_backend_snapshot.new.scan c.replay_backend_snapshot.ensures.rest) c.replay_backend_snapshot.ensures.looked in
    steps_then _ _ _ g.start _ _ _ _ _ _ _ _ _ _ _ _ (steps_then _ _ _ g.start _ _ _ _ _ _ _ _ _ _ _ _ (steps_alone _ _ _ g.start _ _ _ _ _ _ c.make_backend.ensures.alone c.make_backend.ensures.onward c.make_backend.ensures.brought) (steps_looked _ _ _ g.start _ _ _ _ _ _ c.make_backend.ensures.alone.stands looked.0 looked.1)) (steps_by_hand _ _ _ g.start _ _ _ _ _ _ _ c.show_errors.ensures.hand)

pub returns-clause-steps : goal.returns-clause-steps
returns-clause-steps g c =
    let law = g.met.W.World.only_looks in
    let looked = looks_seen (g.W.Outside.seen c.make_backend.new.world) (g.W.Outside.seen c.replay_backend_snapshot.new.scan) _ _ (law c.make_backend.new.world c.make_backend.new.world refl) (law c.make_backend.new.world c.replay_backend_snapshot.new.scan c.replay_backend_snapshot.ensures.rest) c.replay_backend_snapshot.ensures.looked in
    steps_then _ _ _ g.start _ _ _ _ _ _ _ _ _ _ _ _ (steps_then _ _ _ g.start _ _ _ _ _ _ _ _ _ _ _ _ (steps_alone _ _ _ g.start _ _ _ _ _ _ c.make_backend.ensures.alone c.make_backend.ensures.onward c.make_backend.ensures.brought) (steps_looked _ _ _ g.start _ _ _ _ _ _ c.make_backend.ensures.alone.stands looked.0 looked.1)) (steps_by_hand _ _ _ g.start _ _ _ _ _ _ _ c.show_errors.ensures.hand)

pub returns-clause-at_step : goal.returns-clause-at_step
returns-clause-at_step g c = record {
  stepping = c.in_ok-show_errors.ensures.stepping;
  watching = rebuilt g.start c.args.watching.now _ c.args.journal.now.past c.make_backend.new.journal.past _ _ _ _ _ _ _ _ _ c.requires.1.1.1.1.watching c.in_ok-back.ensures.made c.show_errors.ensures.hand.leaves refl (search rules) (search rules) (search rules) c.in_ok-prepare_backend_rebuild.ensures.state c.in_ok-install_backend.ensures.state c.in_ok-shown.ensures.state;
}

pub returns-clause-rebuilds : goal.returns-clause-rebuilds
returns-clause-rebuilds g c = rebuilds_once g.start c.args.watching.now _ _ _ _ _ _ c.args.journal.now.past c.make_backend.new.journal.past _ (search rules) c.in_ok-prepare_backend_rebuild.ensures.state c.in_ok-install_backend.ensures.state c.in_ok-shown.ensures.state (search rules) c.in_ok-show_errors.ensures.all
