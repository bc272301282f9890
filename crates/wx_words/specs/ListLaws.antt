-- A list is read from its length and its items.
use Rattle.std.proofs.Common.{◌≡◌, ℕ, zero, suc, Some, List, [], ◌∷◌, ◌++◌, length, refl, sym, ap, subst, ◌∙◌, append_assoc, arith}
use Rattle.std.specs.Prelude.{decimal}
use Rattle.std.specs.List.{flat_map, AllByRecursion}
use Rattle.wx_words.specs.Line.{◌>>=◌}
use Rattle.wx_words.specs.Numbers.{read_number}
use Rattle.wx_words.specs.NumberLaws.{number_again, number_form}
use Rattle.wx_words.specs.Lists.{ListFits, list_words, read_items, read_list}
use Rattle.wx_words.specs.OptionLaws.{bind_some}
use Rattle.wx_words.specs.Combine.{Reader}
use Rattle.wx_words.specs.Forms.{Stood, IsForm}
use Rattle.wx_words.specs.FormLaws.{stood-then, same_read}

abbrev Words : Type 0
Words = List (List ℕ)

items_again : {V : Type 0} {see : List ℕ → V} {X : Type 0} {fits : X → Type 0} {words : X → Words} {read : Reader X} → IsForm see fits words read
    → (xs : List X) (rest : Words) → AllByRecursion fits xs → read_items read (length xs) (flat_map words xs ++ rest) ≡ Some (xs, rest)
unfolding read_items
items_again form [] rest all = refl
items_again {V} {see} {X} {fits} {words} {read} form (x ∷ xs) rest all =
    ap (read_items read (suc (length xs))) (append_assoc (words x) (flat_map words xs) rest) ∙ rw (form.again x (flat_map words xs ++ rest) all.0, items_again form xs rest all.1) refl

items_take : {V : Type 0} {see : List ℕ → V} {X : Type 0} {fits : X → Type 0} {words : X → Words} {read : Reader X} → IsForm see fits words read
    → (n : ℕ) (ws : Words) (xs : List X) (rest : Words) → read_items read n ws ≡ Some (xs, rest) → (length xs ≡ n) × AllByRecursion fits xs × Stood see (flat_map words xs) ws rest
unfolding read_items
items_take {V} {see} {X} {fits} {words} {read} form zero ws xs rest e =
    same_read (λ (ys : List X) (r : Words). (length ys ≡ 0) × AllByRecursion fits ys × Stood see (flat_map words ys) ws r) [] xs ws rest e (refl, tt, record { front = []; parts = refl; same = refl })
items_take {V} {see} {X} {fits} {words} {read} form (suc n) ws xs rest e =
    let a = bind_some (read ws) (λ x. read_items read n x.1 >>= λ ys. Some (x.0 ∷ ys.0, ys.1)) (xs, rest) e in
    let b = bind_some (read_items read n a.0.1) (λ ys. Some (a.0.0 ∷ ys.0, ys.1)) (xs, rest) a.2 in
    let t = form.takes ws a.0.0 a.0.1 a.1 in
    let u = items_take form n a.0.1 b.0.0 b.0.1 b.1 in
    same_read (λ (ys : List X) (r : Words). (length ys ≡ suc n) × AllByRecursion fits ys × Stood see (flat_map words ys) ws r) (a.0.0 ∷ b.0.0) xs b.0.1 rest b.2
    (ap suc u.0, (t.0, u.1), stood-then see (words a.0.0) (flat_map words b.0.0) ws a.0.1 b.0.1 t.1 u.2)

pub list_form : {V : Type 0} {see : List ℕ → V} {X : Type 0} {fits : X → Type 0} {words : X → Words} {read : Reader X} → IsForm see fits words read
    → IsForm see (ListFits fits) (list_words words) (read_list read)
unfolding read_list
list_form {V} {see} {X} {fits} {words} {read} form = record { again = again; takes = takes }
  where
    again : (xs : List X) (rest : Words) → ListFits fits xs → read_list read (list_words words xs ++ rest) ≡ Some (xs, rest)
    again xs rest all = rw (number_again (length xs) all.0) (items_again form xs rest all.1)

    takes : (ws : Words) (xs : List X) (rest : Words) → read_list read ws ≡ Some (xs, rest) → ListFits fits xs × Stood see (list_words words xs) ws rest
    takes ws xs rest e =
        let a = bind_some (read_number ws) (λ n. read_items read n.0 n.1) (xs, rest) e in
        let t = (number_form see).takes ws a.0.0 a.0.1 a.1 in
        let u = items_take form a.0.0 a.0.1 xs rest a.2 in
        ((omega (arith, t.0, u.0), u.1), subst (λ (n : ℕ). Stood see (decimal n ∷ flat_map words xs) ws rest) (sym u.0) (stood-then see (decimal a.0.0 ∷ []) (flat_map words xs) ws a.0.1 rest t.1 u.2))
