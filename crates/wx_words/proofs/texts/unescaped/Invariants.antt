use Rattle.std.proofs.Common.{◌≡◌, length}
use Rattle.wx_words.specs.Texts.{unescaped}
use Rattle.wx_words.proofs.BehindLaws.{behind}
use Rattle.wx_words.proofs.texts.unescaped.Given as goal

abbrev pub invariant-loop-rest : goal.invariant-loop-rest
invariant-loop-rest l = behind l.text (unescaped l.rest) ≡ unescaped l.word

abbrev pub decreases-loop-rest : goal.decreases-loop-rest
decreases-loop-rest l = length l.rest
