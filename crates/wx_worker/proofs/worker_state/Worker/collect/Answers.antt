use Rattle.std.proofs.Common.{refl, arith}
use Rattle.wx_worker.proofs.WorkLemmas.{quitting_grows, quitting_finds, quitting_leaves, going_on}
use Rattle.wx_worker.proofs.worker_state.Worker.collect.Goals as goal

-- ---- a graceful quit was asked for

pub returns-then-self-clause-within : goal.returns-then-self-clause-within
returns-then-self-clause-within g c = record {
  grows = quitting_grows _ _ _ g.start c.args.self.now c.args.journal.now.past c.say_quitting.new.journal.past c.args.hooks.now c.args.at c.say_quitting.result c.requires.1 c.if-self.true c.say_quitting.ensures.said c.say_quitting.ensures.err;
  end_kept = refl;
  in_journal = omega (arith, c.say_quitting.ensures.room);
  in_hooks = omega arith;
}

pub returns-then-self-clause-found : goal.returns-then-self-clause-found
returns-then-self-clause-found g c = quitting_finds g.start c.args.self.now c.args.journal.now.past c.say_quitting.new.journal.past c.args.at c.say_quitting.result c.requires.1 c.if-self.true c.say_quitting.ensures.found c.say_quitting.ensures.said

pub returns-then-self-clause-left : goal.returns-then-self-clause-left
returns-then-self-clause-left g c = quitting_leaves c.say_quitting.result _ _ _ c.say_quitting.ensures.found

-- ---- none was

pub collect_going-requires : goal.collect_going-requires
collect_going-requires g c = λ κs lives.
    let h = going_on g.start c.args.self.now c.args.journal.now.past c.args.at c.requires.1 c.if-self.false in
    (lives, (h.1, h.0))
