use Rattle.std.proofs.Common.{◌≡◌, ◌-◌}
use Rattle.wx_words.specs.Lists.{read_items}
use Rattle.wx_words.proofs.ItemLaws.{with_front}
use Rattle.wx_words.proofs.lists.take_items.Given as goal

abbrev pub invariant-loop : goal.invariant-loop
invariant-loop g l = with_front l.items (read_items g.T.Spelled.spelling.read (l.count - l.counter) l.line) ≡ read_items g.T.Spelled.spelling.read l.count l.fn.line
