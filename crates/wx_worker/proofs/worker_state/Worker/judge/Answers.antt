use Rattle.std.proofs.Common.{refl, ap, arith}
use Rattle.wx_machine.proofs.RunLaws.{listed_below}
use Rattle.wx_worker.specs.Stands.{end_room}
use Rattle.wx_worker.proofs.WorkLemmas.{FilterDone, called_grows, filter_follows, filter_passed, filter_dropped, no_exit}
use Rattle.wx_worker.specs.declared.collecting.Found.TheVariants.{Done}
use Rattle.wx_worker.proofs.worker_state.Worker.judge.Goals.{After-join, After-reject}
use Rattle.wx_worker.proofs.worker_state.Worker.judge.Goals as goal

-- ---- it passed

passed : (g : _) (c : After-join g) → FilterDone g.start c.join.new.self c.args.journal.now.past c.args.self.now.config.filterer c.args.item.name c.check_event-answer.result (Done c.join.result) c.push.new.self.past
passed g c =
    let passes = rw c.lets_pass.ensures at c.if-lets_pass.true in
    filter_passed g.start c.args.self.now c.join.new.self c.args.journal.now.past c.push.new.self.past c.args.at c.args.self.now.config.filterer c.args.item.name c.args.item.event c.args.priority c.check_event-answer.result c.join.result
    c.requires.1.0 c.requires.1.1.0 refl passes (no_exit c.check_event-answer.result passes) c.join.ensures.same c.join.ensures.first c.join.ensures.names c.join.ensures.events c.join.ensures.found c.push.ensures.past

pub returns-then-lets_pass-clause-within : goal.returns-then-lets_pass-clause-within
returns-then-lets_pass-clause-within g c = record {
  grows =
      called_grows _ _ _ g.start c.args.journal.now.past c.push.new.self.past c.args.hooks.now c.check_event-answer.new.self c.join.new.self _ refl
      (filter_follows g.start c.args.journal.now.past c.push.new.self.past _ _ _ _ _ (passed g c).due c.push.ensures.past c.check_event-answer.ensures.told.told) c.push.ensures.past (c.check_event-answer.ensures.keeps c.args.journal.now.past c.requires.1.1.0) (passed g c).stands;
  end_kept = ap (λ w. end_room w) c.join.ensures.same;
  in_journal = omega (arith, c.push.ensures.room);
  in_hooks = c.check_event-answer.ensures.told.room;
}

pub returns-then-lets_pass-clause-judged : goal.returns-then-lets_pass-clause-judged
returns-then-lets_pass-clause-judged g c = (passed g c).judged

-- ---- it didn't

dropped : (g : _) (c : After-reject g) → FilterDone g.start c.reject.new.self c.args.journal.now.past c.args.self.now.config.filterer c.args.item.name c.check_event-answer.result c.reject.result c.reject.new.journal.past
dropped g c =
    filter_dropped g.start c.args.self.now c.reject.new.self c.args.journal.now.past c.reject.new.journal.past c.args.at c.args.self.now.config.filterer c.args.item.name c.check_event-answer.result c.reject.result
    c.requires.1.0 (listed_below c.args.item.name c.args.journal.now.past (c.args.item.event, c.args.priority) c.requires.1.0.stands.own c.requires.1.1.0) refl (rw c.lets_pass.ensures at c.if-lets_pass.false) c.reject.ensures.found c.reject.ensures.same c.reject.ensures.items c.reject.ensures.size c.reject.ensures.closed c.reject.ensures.past

pub returns-clause-within : goal.returns-clause-within
returns-clause-within g c =
    let at = (goal.at.returns-clause-within g c).After-reject in record {
      grows =
          called_grows _ _ _ g.start c.args.journal.now.past c.reject.new.journal.past c.args.hooks.now c.check_event-answer.new.self _ _ refl
          (filter_follows g.start c.args.journal.now.past c.reject.new.journal.past _ _ _ _ _ (dropped g at).due c.reject.ensures.past c.check_event-answer.ensures.told.told) c.reject.ensures.past (c.check_event-answer.ensures.keeps c.args.journal.now.past c.requires.1.1.0) (dropped g at).stands;
      end_kept = ap (λ w. end_room w) c.reject.ensures.same;
      in_journal = omega (arith, c.reject.ensures.room);
      in_hooks = c.check_event-answer.ensures.told.room;
    }

pub returns-clause-judged : goal.returns-clause-judged
returns-clause-judged g c = let at = (goal.at.returns-clause-judged g c).After-reject in (dropped g at).judged
