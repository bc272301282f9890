use Rattle.std.proofs.Common.{◌≡◌, arith, sym, subst}
use Rattle.std.proofs.lemmas.Grind.{common_steps}
use Rattle.wx_tree.specs.Places.{AreParts, place}
use Rattle.wx_tree.proofs.PlaceLemmas.{place_parts}
use Rattle.wx_tree.proofs.place.Place.new.Goals as goal

pub invariant_of-result : goal.invariant_of-result
invariant_of-result c =
    let e : c.put_part-2.new.parts.items ≡ place c.args.path.now = grind (arith, common_steps) in
    subst AreParts (sym e) (place_parts c.args.path.now)
