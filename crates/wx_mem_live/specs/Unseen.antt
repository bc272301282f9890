-- What no look changes.
use Rattle.std.specs.Prelude.{false, None}
use Rattle.wx_scan.specs.Looked.{Looked}
use Rattle.wx_machine.specs.Seen.{Seen}

abbrev pub nothing_looked : Looked
nothing_looked = record { tree = None; stamps = λ p. 0; shape = None; exact = false; looks = 0; faults = 0 }

-- all that was seen but of files
abbrev pub unseen : {Fixed : Type 0} → Seen Fixed → Seen Fixed
unseen x = record x { looked = nothing_looked }
