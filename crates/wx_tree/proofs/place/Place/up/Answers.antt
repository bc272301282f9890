use Rattle.wx_tree.proofs.PlaceLemmas.{parts-above, parts-taken}
use Rattle.wx_tree.proofs.place.Place.up.Goals as goal

pub invariant_of-result : goal.invariant_of-result
invariant_of-result c = rw c.in_ok-parts.ensures (parts-taken _ _ (parts-above c.args.levels _ (rw c.as_slice.ensures.value c.self.invariant)))
