use Rattle.std.proofs.Common.{◌≡◌, ◌++◌, take}
use Rattle.std.specs.List.{flat_map, AllByRecursion}
use Rattle.wx_words.specs.Line.{spaced}
use Rattle.wx_journal.specs.Bytes.{byte}
use Rattle.wx_journal.proofs.bytes.put_each.Given as goal

abbrev pub invariant-loop-byte : goal.invariant-loop-byte
invariant-loop-byte l = record {
  text : l.out ≡ l.fn.out ++ spaced (flat_map byte.words (take l.byte-index l.bytes));
  fits : AllByRecursion byte.fits (take l.byte-index l.bytes);
}
