use Rattle.std.proofs.Common.{◌≡◌, length}
use Rattle.wx_words.specs.ToEnd.{all_in}
use Rattle.wx_words.proofs.ToEndLemmas.{with_front}
use Rattle.wx_words.proofs.lists.read_to_end.Given as goal

abbrev pub invariant-loop-alloc : goal.invariant-loop-alloc
invariant-loop-alloc g l = with_front l.items (all_in g.T.Spelled.spelling.read l.line) ≡ all_in g.T.Spelled.spelling.read l.fn.line

abbrev pub decreases-loop-alloc : goal.decreases-loop-alloc
decreases-loop-alloc g l = length l.line
