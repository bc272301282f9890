-- One turn more of a world.
use Rattle.std.proofs.Common.{◌≡◌, ℕ, true, Option, None, Some, List, [], ◌∷◌, length, reverse, refl, sym, ap, ◌∙◌, arith}
use Rattle.std.specs.List.{list_all}
use Rattle.std.proofs.lemmas.List.{length-reverse}
use Rattle.wx_journal.specs.declared.entry.Entry.{Entry}
use Rattle.wx_queue.specs.declared.parcel.Sent.{Sent}
use Rattle.wx_pass.specs.declared.item.Item.{Item}
use Rattle.wx_pass.specs.declared.item.Item.TheVariants.{Ask, Keys}
use Rattle.wx_handles.specs.declared.mark.Mark.{Mark}
use Rattle.wx_handles.specs.declared.mark.Plain.{Plain}
use Rattle.wx_handles.specs.declared.mark.Plain.TheVariants.{Ended, Work, Job, Listen, File, Last}
use Rattle.wx_handles.specs.Turns.{given_before, is_own, item_count, item_kind, items_in, items_of, kind_of, one_item, plain_kind, turn_at, turns_by}

-- ---- the items among the turns

plain_item : (plain : Plain) (at : ℕ) (es : List Entry) → items_in (turn_at at (plain_kind plain) ∷ es) ≡ items_in es
plain_item (Ended child) at es = refl
plain_item Work at es = refl
plain_item (Job id) at es = refl
plain_item Listen at es = refl
plain_item File at es = refl
plain_item Last at es = refl

item_item : (item : Item) (at : ℕ) (es : List Entry) → items_in (turn_at at (item_kind item) ∷ es) ≡ item ∷ items_in es
item_item (Ask id ask) at es = refl
item_item (Keys bytes) at es = refl

items_step : (p : Option Plain) (at : ℕ) (marks : List Mark) (given : List (Sent Item)) → ((g : List (Sent Item)) → item_count marks ≡ length g → items_in (turns_by marks g) ≡ items_of g) → one_item p (item_count marks) ≡ length given
    → items_in (turn_at at (kind_of p given) ∷ turns_by marks (given_before p given)) ≡ items_of given
items_step (Some plain) at marks given ih e = plain_item plain at (turns_by marks given) ∙ ih given e
items_step None at marks [] ih e = cc
items_step None at marks (s ∷ given) ih e = item_item s.item at (turns_by marks given) ∙ ap (λ (xs : List Item). s.item ∷ xs) (ih given (omega (arith, e)))

items_by : (marks : List Mark) (given : List (Sent Item)) → item_count marks ≡ length given → items_in (turns_by marks given) ≡ items_of given
items_by [] [] e = refl
items_by [] (s ∷ given) e = cc
items_by (m ∷ marks) given e = items_step m.plain m.at marks given (λ g h. items_by marks g h) e

pub items_by_marks : (marks : List Mark) (given : List (Sent Item)) → item_count marks ≡ length given → items_in (turns_by marks (reverse given)) ≡ items_of (reverse given)
items_by_marks marks given e = items_by marks (reverse given) (e ∙ sym (length-reverse given))

-- ---- their kinds

plain_own : (plain : Plain) (at : ℕ) → is_own (turn_at at (plain_kind plain)) ≡ true
plain_own (Ended child) at = refl
plain_own Work at = refl
plain_own (Job id) at = refl
plain_own Listen at = refl
plain_own File at = refl
plain_own Last at = refl

item_own : (item : Item) (at : ℕ) → is_own (turn_at at (item_kind item)) ≡ true
item_own (Ask id ask) at = refl
item_own (Keys bytes) at = refl

turn_own : (p : Option Plain) (at : ℕ) (given : List (Sent Item)) → is_own (turn_at at (kind_of p given)) ≡ true
turn_own (Some plain) at given = plain_own plain at
turn_own None at [] = refl
turn_own None at (s ∷ given) = item_own s.item at

pub own_by_marks : (marks : List Mark) (given : List (Sent Item)) → list_all is_own (turns_by marks given) ≡ true
own_by_marks [] given = refl
own_by_marks (m ∷ marks) given = rw (turn_own m.plain m.at given) (own_by_marks marks (given_before m.plain given))
