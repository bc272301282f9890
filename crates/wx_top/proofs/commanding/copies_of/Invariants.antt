use Rattle.std.proofs.Common.{◌≡◌, take}
use Rattle.wx_top.proofs.commanding.copies_of.Given as goal

abbrev pub invariant-loop-word : goal.invariant-loop-word
invariant-loop-word l = l.copied ≡ take l.word-index l.words
