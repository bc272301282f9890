use Rattle.wx_file_turns.specs.Showing.{Rebuilds}
use Rattle.wx_file_turns.specs.Stepping.{IsAtStep, StepsOn}
use Rattle.wx_file_turns.proofs.rebuilding.rebuild_within.Given as goal

abbrev pub ghost-rebuild_once : goal.ghost-rebuild_once
ghost-rebuild_once g a = g.start

abbrev pub invariant-loop-round : goal.invariant-loop-round
invariant-loop-round g l = record {
  steps : StepsOn (λ h. g.H.JobHooks.seen h) (λ plan. g.H.JobHooks.rule plan) (λ h. g.H.JobHooks.stands h) g.start l.fn.worker l.fn.journal (g.W.Outside.seen l.fn.world) l.fn.hooks l.worker l.journal (g.W.Outside.seen l.world) l.hooks;
  at_step : IsAtStep g.start l.watching l.journal.past;
  rebuilds : Rebuilds g.start l.fn.watching l.fn.journal.past l.watching l.journal.past;
}
