use Rattle.std.proofs.Common.{◌≡◌, ◌++◌, take}
use Rattle.wx_follow.proofs.script_hooks.appended.Given as goal

abbrev pub invariant-loop-word : goal.invariant-loop-word
invariant-loop-word l = l.left ≡ record l.what { words = l.what.words ++ take l.word-index l.words }
