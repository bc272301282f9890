use Rattle.std.proofs.Common.{◌≡◌, take}
use Rattle.wx_print.specs.Window.{handed_at, left}
use Rattle.wx_print.proofs.window.left.Given as goal

abbrev pub invariant-loop-place : goal.invariant-loop-place
invariant-loop-place l = l.names.items ≡ left (handed_at l.handed) 0 (take l.place l.passed)
