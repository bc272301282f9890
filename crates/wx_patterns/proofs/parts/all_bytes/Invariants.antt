use Rattle.std.proofs.Common.{◌≡◌, drop}
use Rattle.wx_patterns.specs.Rows.{behind_bytes}
use Rattle.wx_patterns.proofs.parts.all_bytes.Given as goal

abbrev pub invariant-loop-byte : goal.invariant-loop-byte
invariant-loop-byte l = behind_bytes (drop l.byte-index l.part) l.row l.name ≡ behind_bytes l.part l.fn.row l.name
