use Rattle.std.proofs.Common.{◌≡◌, ◌++◌, take}
use Rattle.wx_command.proofs.spawnable.push_copies.Given as goal

abbrev pub invariant-loop-text : goal.invariant-loop-text
invariant-loop-text l = l.words ≡ l.fn.words ++ take l.text-index l.texts
