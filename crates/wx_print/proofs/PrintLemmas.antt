-- The window of a journal that is read in the order of its entries.
use Rattle.std.proofs.Common.{◌≡◌, ℕ, ◌+◌, ◌<◌, Bool, List, [], ◌∷◌, ◌++◌, length, reverse, take, get_or, refl, ap, sym, ◌∙◌}
use Rattle.std.proofs.lemmas.List.{take_more}
use Rattle.std.proofs.lemmas.Grind.{reverse_onto}
use Rattle.wx_journal.specs.declared.entry.Entry.{Entry}

reverse_snoc : {X : Type 0} (xs : List X) (x : X) → reverse (xs ++ x ∷ []) ≡ x ∷ reverse xs
reverse_snoc [] x = refl
reverse_snoc (y ∷ xs) x = reverse_onto (xs ++ x ∷ []) y [] ∙ ap (λ ys. ys ++ y ∷ []) (reverse_snoc xs x) ∙ ap (λ ys. x ∷ ys) (sym (reverse_onto xs y []))

-- the entries up to one and with it, the newest first
pub newest_first : (xs : List Entry) (n : ℕ) (e : Entry) → n < length xs → e ≡ get_or xs n e → reverse (take (n + 1) xs) ≡ e ∷ reverse (take n xs)
newest_first xs n e lt is = ap (λ ys. reverse ys) (take_more xs n e lt) ∙ reverse_snoc (take n xs) (get_or xs n e) ∙ ap (λ x. x ∷ reverse (take n xs)) (sym is)
