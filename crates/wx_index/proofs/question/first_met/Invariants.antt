use Rattle.std.proofs.Common.{◌≡◌, length}
use Rattle.wx_index.proofs.SearchLemmas.{Searched}
use Rattle.wx_index.proofs.question.first_met.Given as goal

abbrev pub invariant-loop-left : goal.invariant-loop-left
invariant-loop-left g l = Searched (g.Q.Question.asks l.fn.question) g.Q.Question.key l.fn.entries l.fn.key l.left l.found

abbrev pub decreases-loop-left : goal.decreases-loop-left
decreases-loop-left g l = l.left
