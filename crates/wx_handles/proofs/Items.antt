-- The items among the turns that a journal lists.
use Rattle.std.proofs.Common.{◌≡◌, Bool, true, false, Option, None, Some, List, [], ◌∷◌, refl, sym, ap, ◌∙◌}
use Rattle.wx_journal.specs.declared.entry.Entry.{Entry}
use Rattle.wx_journal.specs.declared.entry.Entry.TheVariants.{Turn as Turned}
use Rattle.wx_journal.specs.Told.{anywhere, is_turn, tell, tell_if, tells}
use Rattle.wx_pass.specs.declared.item.Item.{Item}
use Rattle.wx_handles.specs.Turns.{entry_item, items_in}

-- an entry that is no turn is no item
no_item : (e : Entry) (items : List Item) → is_turn e ≡ false → entry_item e items ≡ items
no_item (Turned t) items other = absurd cc
no_item (_) items other = refl

-- the turns of a journal, which have its items
record Listed (p : List Entry) : Type 0 where
  turns : List Entry
  told : tells (anywhere is_turn) p (Some []) ≡ Some turns
  items : items_in turns ≡ items_in p

one_more : (mine : Bool) (e : Entry) (p : List Entry) → is_turn e ≡ mine → Listed p → Listed (e ∷ p)
one_more true e p is l = record {
  turns = e ∷ l.turns;
  told = ap (λ (b : Bool). tell_if b e (tells (anywhere is_turn) p (Some []))) is ∙ ap (tell e) l.told;
  items = ap (entry_item e) l.items;
}
one_more false e p is l = record {
  turns = l.turns;
  told = ap (λ (b : Bool). tell_if b e (tells (anywhere is_turn) p (Some []))) is ∙ l.told;
  items = l.items ∙ sym (no_item e (items_in p) is);
}

listed : (p : List Entry) → Listed p
listed [] = record { turns = []; told = refl; items = refl }
listed (e ∷ p) = one_more (is_turn e) e p refl (listed p)

abbrev items_told : Option (List Entry) → List Item
items_told None = []
items_told (Some turns) = items_in turns

pub items_listed : (p turns : List Entry) (told : Option (List Entry)) → told ≡ tells (anywhere is_turn) p (Some []) → told ≡ Some turns → items_in p ≡ items_in turns
items_listed p turns told a b = let l = listed p in sym l.items ∙ ap items_told (sym l.told ∙ sym a ∙ b)
