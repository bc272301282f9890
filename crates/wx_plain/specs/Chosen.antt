-- What is promised of a choice of acts.
use Rattle.std.specs.Prelude.{List, ◌∷◌}
use Rattle.wx_journal.specs.declared.entry.Entry.{Entry}
use Rattle.wx_journal.specs.Names.{NamesItsOwn}

-- A batch behind these entries was handed so. Where these name their own, and what chose stood for them, the batch passes the
-- rule, and what chose stands for them with it.
abbrev pub Chosen : {A Fixed : Type 0} → (A → Fixed) → (Fixed → List Entry → Entry → Type 0) → (A → List Entry → Type 0) → A → List Entry → Entry → A → Type 0
Chosen plan rule stands x p e x' = NamesItsOwn p → stands x p → rule (plan x) p e × stands x' (e ∷ p)
