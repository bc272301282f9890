use Rattle.std.proofs.Common.{◌≡◌, take}
use Rattle.std.specs.Prelude.{map}
use Rattle.wx_tree.specs.Places.{place}
use Rattle.wx_holding.proofs.looking.places.Given as goal

abbrev pub invariant-loop-path : goal.invariant-loop-path
invariant-loop-path l = l.places ≡ map place (take l.path-index l.fn.paths)
