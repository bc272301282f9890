use Rattle.std.proofs.Common.{◌≡◌, ◌++◌, take}
use Rattle.wx_words.specs.Texts.{escaped}
use Rattle.wx_words.proofs.texts.put_bytes.Given as goal

abbrev pub invariant-loop-b : goal.invariant-loop-b
invariant-loop-b l = l.out ≡ l.fn.out ++ escaped (take l.b-index l.bytes)
