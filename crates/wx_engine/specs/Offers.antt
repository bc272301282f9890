-- What the offers of a run say.
use Rattle.std.specs.Prelude.{◌≡◌, List, [], ◌∷◌}
use Rattle.wx_journal.specs.declared.entry.Entry.{Entry}
use Rattle.wx_journal.specs.declared.entry.Entry.TheVariants.{Offer}
use Rattle.wx_machine.specs.Start.{Start}
use Rattle.wx_machine.specs.Journal.{offered}

-- each says that the queue is closed exactly where it is, and else that it is full exactly where it has as many events as its
-- size
abbrev pub AreOffered : Start → List Entry → Type 0
AreOffered s [] = Unit {0}
AreOffered s (Offer name item result event priority ∷ p) = (result ≡ offered s p) × AreOffered s p
AreOffered s (_ ∷ p) = AreOffered s p
