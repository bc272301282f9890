use Rattle.std.proofs.Common.{◌≡◌, length}
use Rattle.wx_tree.specs.Paths.{holds}
use Rattle.wx_tree.proofs.place.begins.Given as goal

abbrev pub invariant-loop-parts : goal.invariant-loop-parts
invariant-loop-parts l = holds l.parts l.rest ≡ holds l.fn.parts l.fn.other

abbrev pub decreases-loop-parts : goal.decreases-loop-parts
decreases-loop-parts l = length l.rest
