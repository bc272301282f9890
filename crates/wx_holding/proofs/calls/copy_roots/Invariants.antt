use Rattle.std.proofs.Common.{◌≡◌, take}
use Rattle.wx_holding.proofs.calls.copy_roots.Given as goal

abbrev pub invariant-loop-root : goal.invariant-loop-root
invariant-loop-root l = l.copied.items ≡ take l.root-index l.fn.roots
