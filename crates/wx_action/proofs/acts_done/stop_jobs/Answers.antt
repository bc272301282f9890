use Rattle.std.proofs.Common.{◌≡◌, length, rules, arith, refl}
use Rattle.wx_machine.specs.Quits.{stop_asks}
use Rattle.wx_machine.specs.Jobs.{jobs}
use Rattle.wx_worker.proofs.ArriveLemmas.{grows_none, on_err, grows_then}
use Rattle.wx_action.proofs.HandLemmas.{plan_to_go}
use Rattle.wx_action.proofs.StopLemmas.{living_are, all_stopped}
use Rattle.wx_action.proofs.acts_done.stop_jobs.Goals as goal

pub returns-in_err-ids : goal.returns-in_err-ids
returns-in_err-ids g c = record {
  grows = grows_none g.start _ _ _ _ c.requires.1 refl refl (λ room. room);
  done = search rules;
  cut = on_err c.from_residual.result (plan_to_go g.start c.args.journal.now.past (stop_asks c.args.signal c.args.grace (jobs c.args.journal.now.past)) c.requires.0);
}

pub loop-id-init : goal.loop-id-init
loop-id-init g c = record {
  owes = rw (c.into_iter-id-iterator.ensures.into_iter_gives.0, c.in_ok-ids.ensures, living_are g.start c.args.worker.now c.args.journal.now.past c.requires.1) c.requires.0;
  grows = grows_none g.start _ _ _ _ c.requires.1 refl refl (λ room. room);
}

pub loop-id-preserved : goal.loop-id-preserved
loop-id-preserved g c =
    let i = c.loop-id.invariant in
    record {
      owes = c.in_ok-stop_job.ensures.done c.next.new.self.rest.items (rw c.in-Some.ensures.steps.0 at i.owes);
      grows = grows_then g.start _ _ _ _ _ _ i.grows c.stop_job.ensures.grows;
    }

pub returns-in_err-stop_job : goal.returns-in_err-stop_job
returns-in_err-stop_job g c = record {
  grows = grows_then g.start _ _ _ _ _ _ c.loop-id.invariant.grows c.stop_job.ensures.grows;
  done = search rules;
  cut = on_err c.from_residual-in_err-stop_job.result c.in_err-stop_job.ensures.cut;
}

pub returns : goal.returns
returns g c =
    let i = c.loop-id.invariant in
    let none : length c.loop-id.id-iterator.rest.items ≡ 0 = omega (arith, c.loop-id.id-iterator.rest.ok.0, c.in-None.ensures.steps.0) in
    record {
      grows = i.grows;
      done = all_stopped g.start c.loop-id.journal.past c.args.signal c.args.grace c.loop-id.id-iterator.rest.items none i.owes;
      cut = tt;
    }
