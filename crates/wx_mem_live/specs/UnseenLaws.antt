-- What no look changes of what was seen.
use Rattle.std.specs.Prelude.{◌≡◌}
use Rattle.std.proofs.Common.{ap}
use Rattle.wx_machine.specs.Seen.{Seen}
use Rattle.wx_mem_live.specs.Unseen.{unseen}

-- where this is the same, all but what was looked at is
pub same_unseen : {Fixed : Type 0} (a b : Seen Fixed) → unseen b ≡ unseen a → b ≡ record a { looked = b.looked }
same_unseen {Fixed} a b e = ap {A = Seen Fixed} (λ r. record r { looked = b.looked }) e
