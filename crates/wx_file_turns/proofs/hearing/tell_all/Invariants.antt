use Rattle.std.specs.Prelude.{◌≡◌, drop}
use Rattle.wx_holding.specs.Holding.{state_of}
use Rattle.wx_file_turns.specs.Hearing.{StaysWatching, told_all}
use Rattle.wx_file_turns.proofs.hearing.tell_all.Given as goal

abbrev pub invariant-loop-message : goal.invariant-loop-message
invariant-loop-message g l = record {
  stays : StaysWatching l.fn.watching.recursor l.watching.recursor;
  named : l.watching.back ≡ l.fn.watching.back;
  all : l.message-items ≡ l.fn.messages;
  told : told_all l.fn.watching.recursor.cwd (drop l.message-index l.message-items) (state_of l.watching.recursor.held) ≡ told_all l.fn.watching.recursor.cwd l.message-items (state_of l.fn.watching.recursor.held);
}
