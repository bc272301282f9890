-- What no look changes of a world with handles.
use Rattle.std.specs.Prelude.{◌≡◌}
use Rattle.std.proofs.Common.{ap, ◌∙◌}
use Rattle.wx_scan.specs.Looked.{Looked}
use Rattle.wx_machine.specs.Seen.{Seen}
use Rattle.wx_handles.specs.Threaded.{Own, threaded, unsettled}

-- where its own parts are the same, all but what was looked at is
pub threaded_looks : {Fixed Rest : Type 0} (a b : Seen Fixed) (l : Looked) (x y : Rest × Own) → (y.0 ≡ x.0 → b ≡ record a { looked = l }) → y ≡ x → threaded y.1 b ≡ record (threaded x.1 a) { looked = unsettled l }
threaded_looks {Fixed} {Rest} a b l x y h e = ap {A = Rest × Own} (λ p. threaded p.1 b) e ∙ ap (threaded x.1) (h (ap {A = Rest × Own} (λ p. p.0) e))
