use Rattle.std.proofs.Common.{rules, refl, sym}
use Rattle.wx_worker.proofs.worker_state.Worker.new.Goals as goal

pub returns-in-Ok-clause-stands : goal.returns-in-Ok-clause-stands
returns-in-Ok-clause-stands c = λ s is. record {
  own = (tt, tt);
  config_kept = sym is;
  queue_kept = search rules;
  size_kept = search rules;
  closed_kept = search rules;
  named_kept = refl;
  names_kept = search rules;
  events_kept = search rules;
  first_kept = refl;
  jobs_kept = search rules;
  tasks_kept = search rules;
  idle_kept = λ id none. refl;
  graceful_kept = refl;
  ended_kept = refl;
}
