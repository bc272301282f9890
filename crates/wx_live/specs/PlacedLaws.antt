-- What no look changes of a lent outside.
use Rattle.std.specs.Prelude.{◌≡◌, ℕ}
use Rattle.std.proofs.Common.{ap, ◌∙◌}
use Rattle.wx_scan.specs.Looked.{Looked}
use Rattle.wx_machine.specs.Seen.{Seen}
use Rattle.wx_live.specs.Placed.{placed}

-- where the borrow is the same, all but what was looked at is
pub placed_looks : {Fixed Rest : Type 0} (a b : Seen Fixed) (l : Looked) (x y : Rest × ℕ) → (y.0 ≡ x.0 → b ≡ record a { looked = l }) → y ≡ x → placed y.1 b ≡ record (placed x.1 a) { looked = l }
placed_looks {Fixed} {Rest} a b l x y h e = ap {A = Rest × ℕ} (λ p. placed p.1 b) e ∙ ap (placed x.1) (h (ap {A = Rest × ℕ} (λ p. p.0) e))
