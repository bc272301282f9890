-- What no look changes.
use Rattle.std.specs.Prelude.{◌≡◌, false, None}
use Rattle.std.proofs.Common.{ap}
use Rattle.wx_scan.specs.Looked.{Looked}
use Rattle.wx_machine.specs.Seen.{Seen}

abbrev pub nothing_looked : Looked
nothing_looked = record { tree = None; stamps = λ p. 0; shape = None; exact = false; looks = 0; faults = 0 }

-- all that was seen but of files
abbrev pub unseen : {Fixed : Type 0} → Seen Fixed → Seen Fixed
unseen x = record x { looked = nothing_looked }

-- where this is the same, all but what was looked at is
pub same_unseen : {Fixed : Type 0} (a b : Seen Fixed) → unseen b ≡ unseen a → b ≡ record a { looked = b.looked }
same_unseen {Fixed} a b e = ap {A = Seen Fixed} (λ r. record r { looked = b.looked }) e
