-- What no look changes of a live outside over the system.
use Rattle.std.specs.Prelude.{◌≡◌}
use Rattle.std.proofs.Common.{ap}
use Rattle.wx_scan.specs.Looked.{Looked}
use Rattle.wx_live_parts.specs.Real.{Kept, seen_as}

-- where this is the same, all but what was looked at is
pub same_kept : (k k' : Kept) (l : Looked) → k' ≡ k → seen_as k' l ≡ seen_as k l
same_kept k k' l e = ap {A = Kept} (λ r. seen_as r l) e
