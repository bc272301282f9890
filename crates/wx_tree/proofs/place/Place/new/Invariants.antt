use Rattle.std.proofs.Common.{◌≡◌, length}
use Rattle.wx_tree.specs.Places.{place, place_from}
use Rattle.wx_tree.proofs.place.Place.new.Given as goal

abbrev pub invariant-loop-rest : goal.invariant-loop-rest
invariant-loop-rest l = place_from l.rest l.part l.parts.items ≡ place l.fn.path

abbrev pub decreases-loop-rest : goal.decreases-loop-rest
decreases-loop-rest l = length l.rest
