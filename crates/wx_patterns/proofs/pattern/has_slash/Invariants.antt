use Rattle.std.proofs.Common.{◌≡◌, drop}
use Rattle.std.specs.List.{list_any}
use Rattle.wx_patterns.specs.Lines.{is_slash}
use Rattle.wx_patterns.proofs.pattern.has_slash.Given as goal

abbrev pub invariant-loop-byte : goal.invariant-loop-byte
invariant-loop-byte l = list_any is_slash (drop l.byte-index l.text) ≡ list_any is_slash l.text
