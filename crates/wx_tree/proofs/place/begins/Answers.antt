use Rattle.std.proofs.Common.{◌≡◌, true, false, sym, ◌∙◌}
use Rattle.std.specs.Prelude.{not}
use Rattle.std.proofs.lemmas.Bool.{not-false}
use Rattle.wx_tree.specs.Paths.{Path, same, holds}
use Rattle.wx_tree.proofs.PathLemmas.{same-true, holds-refl}
use Rattle.wx_tree.proofs.place.begins.Goals as goal

found : (p q : Path) → not (same p q) ≡ false → holds p q ≡ true
found p q e = let g : p ≡ q = same-true p q (not-false (same p q) e) in rw g (holds-refl q)

pub returns : goal.returns
returns c = sym (found c.args.parts.now c.loop-parts.rest.now (sym c.ne.ensures ∙ c.loop-parts-test.false)) ∙ c.loop-parts.invariant
