use Rattle.std.proofs.Common.{◌≡◌, ◌-◌}
use Rattle.wx_words.specs.Lists.{read_items}
use Rattle.wx_words.proofs.ItemLaws.{with_front}
use Rattle.wx_journal.specs.Bytes.{byte}
use Rattle.wx_journal.proofs.bytes.take_bytes.Given as goal

abbrev pub invariant-loop : goal.invariant-loop
invariant-loop l = with_front l.items (read_items byte.read (l.count - l.counter) l.line) ≡ read_items byte.read l.count l.fn.line
