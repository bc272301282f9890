use Rattle.std.proofs.Common.{◌≡◌, ◌++◌, take, drop}
use Rattle.wx_paths.specs.Paths.{both_begin, components}
use Rattle.wx_paths.proofs.prefix.shared_len.Given as goal

abbrev pub invariant-loop-i : goal.invariant-loop-i
invariant-loop-i l = take l.i l.parts ++ both_begin (drop l.i l.parts) l.theirs ≡ both_begin l.parts (components l.fn.path)
