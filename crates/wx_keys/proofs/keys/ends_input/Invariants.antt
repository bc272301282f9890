use Rattle.std.proofs.Common.{◌≡◌, drop}
use Rattle.std.specs.List.{list_any}
use Rattle.wx_keys.specs.Keys.{is_end}
use Rattle.wx_keys.proofs.keys.ends_input.Given as goal

abbrev pub invariant-loop-byte : goal.invariant-loop-byte
invariant-loop-byte l = list_any is_end (drop l.byte-index l.bytes) ≡ list_any is_end l.bytes
