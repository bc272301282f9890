use Rattle.std.proofs.Common.{◌≡◌, drop}
use Rattle.wx_words.specs.Numbers.{with_digits}
use Rattle.wx_words.proofs.numbers.with_digits.Given as goal

abbrev pub invariant-loop-b : goal.invariant-loop-b
invariant-loop-b l = with_digits l.value (drop l.b-index l.word) ≡ with_digits 0 l.word
