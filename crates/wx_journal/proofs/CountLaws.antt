-- No more entries are counted than there are, and which ids were given.
use Rattle.std.proofs.Common.{◌≡◌, ℕ, suc, ◌≤◌, ◌<◌, ◌+◌, Bool, true, false, cond, List, [], ◌∷◌, length, reverse, arith, refl, ap, ◌∙◌, ne_eqb}
use Rattle.std.specs.Prelude.{◌==◌, ◌||◌}
use Rattle.std.specs.List.{list_any}
use Rattle.std.proofs.Math.Arith.{lt_of_le-ne}
use Rattle.std.proofs.Math.Bool.{or-false}
use Rattle.std.proofs.lemmas.Bool.{eqb-false}
use Rattle.std.proofs.lemmas.List.{length-reverse, reverse-append}
use Rattle.std.proofs.lemmas.List.Folds.{list_any-append}
use Rattle.wx_control.specs.declared.id.Id.{Id}
use Rattle.wx_journal.specs.declared.entry.Entry.TheVariants.{Made}
use Rattle.wx_journal.specs.declared.entry.Entry.{Entry}
use Rattle.wx_journal.specs.Names.{count, names_ticket, names_child, names_back, names_item, ticket_count, child_count, back_count, item_count, above, next_job, was_made}
use Rattle.wx_journal.specs.Counted.{AreAllMade, AreCounted}

one_more : (b : Bool) (m n : ℕ) → m ≤ n → cond b (m + 1) m ≤ suc n
one_more true m n le = omega arith
one_more false m n le = omega arith

count_few : (kind : Entry → Bool) (p : List Entry) → count kind p ≤ length p
count_few kind [] = omega arith
count_few kind (e ∷ p) = one_more (kind e) (count kind p) (length p) (count_few kind p)

pub few_tickets : (tickets children backs items job : ℕ) (gaps : Bool) (entries : List Entry) → AreCounted tickets children backs items job gaps (reverse entries) → tickets ≤ length entries
few_tickets tickets children backs items job gaps entries a = let few : ticket_count (reverse entries) ≤ length (reverse entries) = count_few names_ticket (reverse entries) in let same = length-reverse entries in let is = a.tickets_kept in omega arith

pub few_children : (tickets children backs items job : ℕ) (gaps : Bool) (entries : List Entry) → AreCounted tickets children backs items job gaps (reverse entries) → children ≤ length entries
few_children tickets children backs items job gaps entries a = let few : child_count (reverse entries) ≤ length (reverse entries) = count_few names_child (reverse entries) in let same = length-reverse entries in let is = a.children_kept in omega arith

pub few_backs : (tickets children backs items job : ℕ) (gaps : Bool) (entries : List Entry) → AreCounted tickets children backs items job gaps (reverse entries) → backs ≤ length entries
few_backs tickets children backs items job gaps entries a = let few : back_count (reverse entries) ≤ length (reverse entries) = count_few names_back (reverse entries) in let same = length-reverse entries in let is = a.backs_kept in omega arith

pub few_items : (tickets children backs items job : ℕ) (gaps : Bool) (entries : List Entry) → AreCounted tickets children backs items job gaps (reverse entries) → items ≤ length entries
few_items tickets children backs items job gaps entries a = let few : item_count (reverse entries) ≤ length (reverse entries) = count_few names_item (reverse entries) in let same = length-reverse entries in let is = a.items_kept in omega arith

-- ---- ids

-- none was made at or above the next one
pub unmade : (id : Id) (p : List Entry) → next_job p ≤ id.0 → was_made id p ≡ false
unmade id [] le = refl
unmade id (Made job ∷ p) le =
    let other : (job.0 == id.0) ≡ false = ne_eqb job.0 id.0 (λ e. absurd (omega arith)) in
    rw (other, unmade id p (omega arith)) refl
unmade id (_ ∷ p) le = unmade id p le

-- all below it were, also once it was made, or one below it again
made_or : (p : List Entry) (next : ℕ) (id other : Id) (b : Bool) → (id.0 == other.0) ≡ b → id.0 ≤ next → other.0 < above next id → (other.0 < next → was_made other p ≡ true) → (b || was_made other p) ≡ true
made_or p next id other true is le lt all = refl
made_or p next id other false is le lt all = all (lt_of_le-ne (omega (arith, le, lt)) (λ e. eqb-false id.0 other.0 is (omega (arith, le, lt, e))))

pub made_all : (p : List Entry) (id : Id) → id.0 ≤ next_job p → AreAllMade p → AreAllMade (Made id ∷ p)
made_all p id le all other lt = made_or p (next_job p) id other (id.0 == other.0) refl le lt (all other)

-- the order of the entries doesn't matter
or_turned : (a b : Bool) → (a || b) ≡ (b || a)
or_turned true true = refl
or_turned true false = refl
or_turned false true = refl
or_turned false false = refl

pub any_reverse : (test : Entry → Bool) (entries : List Entry) → list_any test (reverse entries) ≡ list_any test entries
any_reverse test [] = refl
any_reverse test (e ∷ entries) =
    ap (list_any test) (reverse-append (e ∷ []) entries) ∙ list_any-append test (reverse entries) (e ∷ []) ∙ ap (λ b. list_any test (reverse entries) || b) (or-false (test e)) ∙ or_turned (list_any test (reverse entries)) (test e) ∙ ap (λ b. test e || b) (any_reverse test entries)

-- an id is left out where a job is made above the next one
pub gaps_made : (p : List Entry) (id : Id) (before : Bool) (next : ℕ) → next ≡ next_job p → (before ≡ false → AreAllMade p) → before ≡ false → id.0 ≤ next → AreAllMade (Made id ∷ p)
gaps_made p id before next is all none le = made_all p id (omega (arith, is, le)) (all none)

-- and not behind an entry that makes none
pub gaps_same : (p : List Entry) (e : Entry) → ((id : Id) → e ≡ Made id → ⊥) → AreAllMade p → AreAllMade (e ∷ p)
gaps_same p (Made id) other all = absurd (other id refl)
gaps_same p (_) other all = all
