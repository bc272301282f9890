use Rattle.std.specs.Prelude.{List, length}
use Rattle.wx_error.specs.declared.runtime.RuntimeError.{RuntimeError}
use Rattle.wx_tree.specs.Lists.{In}
use Rattle.wx_journal.specs.declared.entry.Entry.{Entry}
use Rattle.wx_machine.specs.Added.{Added}
use Rattle.wx_file_turns.specs.Judged.{IsStepping, StepsHand}
use Rattle.wx_file_turns.specs.Settling.{ShowsOneOf}
use Rattle.wx_file_turns.specs.Showing.{ShowsAll}
use Rattle.wx_file_turns.proofs.showing.show_errors.Given as goal

abbrev pub ghost-show_error : goal.ghost-show_error
ghost-show_error g a = g.start

abbrev pub invariant-loop-error : goal.invariant-loop-error
invariant-loop-error g l = record {
  hand : StepsHand (λ h. g.H.JobHooks.seen h) (λ plan. g.H.JobHooks.rule plan) (λ h. g.H.JobHooks.stands h) g.start l.fn.worker l.fn.journal l.fn.hooks l.worker l.journal l.hooks;
  stepping : IsStepping g.start l.journal.past;
  left : (error : RuntimeError) → In error l.left → In error l.fn.errors;
  shows : Added (λ p e. ShowsOneOf l.fn.errors e) l.fn.journal.past l.journal.past;
  all : (past : List Entry) → ShowsAll g.start l.left l.journal.past past → ShowsAll g.start l.fn.errors l.fn.journal.past past;
}

abbrev pub decreases-loop-error : goal.decreases-loop-error
decreases-loop-error g l = length l.left
