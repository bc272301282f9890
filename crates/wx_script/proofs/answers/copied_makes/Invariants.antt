use Rattle.std.proofs.Common.{◌≡◌, take}
use Rattle.wx_script.proofs.answers.copied_makes.Given as goal

abbrev pub invariant-loop-answer : goal.invariant-loop-answer
invariant-loop-answer l = l.copied ≡ take l.answer-index l.answers
