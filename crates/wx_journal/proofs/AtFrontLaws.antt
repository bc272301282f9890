-- Values at the front, one by one.
use Rattle.std.proofs.Common.{◌≡◌, ℕ, zero, suc, ◌≤◌, Option, None, Some, List, [], ◌∷◌, ◌++◌, length, refl, sym, ap, ◌∙◌, append_assoc, length-append, arith}
use Rattle.std.specs.List.{flat_map, AllByRecursion}
use Rattle.std.proofs.lemmas.List.{append-nil}
use Rattle.wx_words.specs.Forms.{Stood}
use Rattle.wx_words.specs.FormLaws.{stood-then}
use Rattle.wx_words.specs.Spellings.{Kind, Spelling}
use Rattle.wx_words.specs.ToEnd.{HasWord}
use Rattle.wx_words.specs.ToEndLaws.{some_word}
use Rattle.wx_words.proofs.ToEndLemmas.{shorter}
use Rattle.wx_journal.specs.AtFront.{with_more, read_most, read_front}

-- ---- what is spelled is read again, where no further value stands behind it

each_has_word : {kind : Kind} {X : Type 0} (s : Spelling kind X) → HasWord s → (xs : List X) (rest : List (List ℕ)) → length xs ≤ length (flat_map s.words xs ++ rest)
each_has_word s some [] rest = omega arith
each_has_word s some (x ∷ xs) rest =
    omega (arith, ap (λ (v : List (List ℕ)). length v) (append_assoc (s.words x) (flat_map s.words xs) rest), length-append (s.words x) (flat_map s.words xs ++ rest), some_word (s.words x) (some x), each_has_word s some xs rest)

most_again : {kind : Kind} {X : Type 0} (s : Spelling kind X) (xs : List X) (most : ℕ) (rest : List (List ℕ)) → AllByRecursion s.fits xs → s.read rest ≡ None → length xs ≤ most → read_most s.read most (flat_map s.words xs ++ rest) ≡ (xs, rest)
most_again s [] zero rest fits none le = refl
most_again s [] (suc most) rest fits none le = rw none refl
most_again s (x ∷ xs) zero rest fits none le = absurd (omega arith)
most_again s (x ∷ xs) (suc most) rest fits none le =
    ap (read_most s.read (suc most)) (append_assoc (s.words x) (flat_map s.words xs) rest)
    ∙ rw (s.form.again x (flat_map s.words xs ++ rest) fits.0, most_again s xs most rest fits.1 none (omega arith)) refl

pub front_again : {kind : Kind} {X : Type 0} (s : Spelling kind X) → HasWord s → (xs : List X) (rest : List (List ℕ)) → AllByRecursion s.fits xs → s.read rest ≡ None → read_front s.read (flat_map s.words xs ++ rest) ≡ (xs, rest)
front_again s some xs rest fits none = most_again s xs (length (flat_map s.words xs ++ rest)) rest fits none (each_has_word s some xs rest)

-- ---- what is read was spelled so

abbrev IsSpelt : {kind : Kind} {X : Type 0} → Spelling kind X → List (List ℕ) → List X × List (List ℕ) → Type 0
IsSpelt {kind} s ws read = AllByRecursion s.fits read.0 × Stood kind.see (flat_map s.words read.0) ws read.1

none_spelt : {kind : Kind} {X : Type 0} (s : Spelling kind X) (ws : List (List ℕ)) → IsSpelt s ws ([], ws)
none_spelt s ws = (tt, record { front = []; parts = refl; same = refl })

most_spelt : {kind : Kind} {X : Type 0} (s : Spelling kind X) (most : ℕ) (ws : List (List ℕ)) → IsSpelt s ws (read_most s.read most ws)
most_spelt s zero ws = none_spelt s ws
most_spelt {kind} {X} s (suc most) ws = go (s.read ws) refl (most_spelt s most)
  where
    go : (o : Option (X × List (List ℕ))) → s.read ws ≡ o → ((rest : List (List ℕ)) → IsSpelt s rest (read_most s.read most rest)) → IsSpelt s ws (with_more o ws (λ rest. read_most s.read most rest))
    go None e later = none_spelt s ws
    go (Some (x, rest)) e later =
        let t = s.form.takes ws x rest e in
        let more = read_most s.read most rest in
        ((t.0, (later rest).0), stood-then kind.see (s.words x) (flat_map s.words more.0) ws rest more.1 t.1 (later rest).1)

pub front_spelt : {kind : Kind} {X : Type 0} (s : Spelling kind X) (ws : List (List ℕ)) → AllByRecursion s.fits (read_front s.read ws).0 × Stood kind.see (flat_map s.words (read_front s.read ws).0) ws (read_front s.read ws).1
front_spelt s ws = most_spelt s (length ws) ws

-- ---- more words than there are allow no more values

none_at_end : {kind : Kind} {X : Type 0} (s : Spelling kind X) → HasWord s → s.read [] ≡ None
none_at_end {kind} {X} s some = go (s.read []) refl
  where
    go : (o : Option (X × List (List ℕ))) → s.read [] ≡ o → o ≡ None
    go None e = refl
    go (Some (x, rest)) e = let less = shorter s some [] rest x e in absurd (omega arith)

enough : {kind : Kind} {X : Type 0} (s : Spelling kind X) → HasWord s → (m n : ℕ) (ws : List (List ℕ)) → length ws ≤ m → length ws ≤ n → read_most s.read m ws ≡ read_most s.read n ws
enough s some zero zero ws p q = refl
enough s some zero (suc n) [] p q = rw (none_at_end s some) refl
enough s some zero (suc n) (w ∷ ws) p q = absurd (omega arith)
enough s some (suc m) zero [] p q = rw (none_at_end s some) refl
enough s some (suc m) zero (w ∷ ws) p q = absurd (omega arith)
enough {kind} {X} s some (suc m) (suc n) ws p q = go (s.read ws) refl (enough s some m n)
  where
    go : (o : Option (X × List (List ℕ))) → s.read ws ≡ o → ((rest : List (List ℕ)) → length rest ≤ m → length rest ≤ n → read_most s.read m rest ≡ read_most s.read n rest)
        → with_more o ws (λ rest. read_most s.read m rest) ≡ with_more o ws (λ rest. read_most s.read n rest)
    go None e same = refl
    go (Some (x, rest)) e same =
        let less = shorter s some ws rest x e in
        ap (λ (p : List X × List (List ℕ)). (x ∷ p.0, p.1)) (same rest (omega arith) (omega arith))

-- ---- the steps of the loop

-- values in front of what was read
abbrev pub with_front : {X : Type 0} → List X → List X × List (List ℕ) → List X × List (List ℕ)
with_front front read = (front ++ read.0, read.1)

one_more : {kind : Kind} {X : Type 0} (s : Spelling kind X) → HasWord s → (x : X) (old ws : List (List ℕ)) → s.read old ≡ Some (x, ws) → read_front s.read old ≡ with_front (x ∷ []) (read_front s.read ws)
one_more s some x [] ws found = let less = shorter s some [] ws x found in absurd (omega arith)
one_more {kind} {X} s some x (w ∷ old) ws found =
    let less = shorter s some (w ∷ old) ws x found in
    rw found (ap (λ (p : List X × List (List ℕ)). (x ∷ p.0, p.1)) (enough s some (length old) (length ws) ws (omega arith) (omega arith)))

no_more : {kind : Kind} {X : Type 0} (s : Spelling kind X) (old : List (List ℕ)) → s.read old ≡ None → read_front s.read old ≡ ([], old)
no_more s [] found = refl
no_more s (w ∷ old) found = rw found refl

pub goes_on : {kind : Kind} {X : Type 0} (s : Spelling kind X) → HasWord s → (front : List X) (x : X) (old ws : List (List ℕ)) (total : List X × List (List ℕ))
    → s.read old ≡ Some (x, ws) → with_front front (read_front s.read old) ≡ total → with_front (front ++ x ∷ []) (read_front s.read ws) ≡ total
goes_on {kind} {X} s some front x old ws total found so_far =
    ap (λ (xs : List X). (xs, (read_front s.read ws).1)) (append_assoc front (x ∷ []) (read_front s.read ws).0)
    ∙ sym (ap (with_front front) (one_more s some x old ws found)) ∙ so_far

pub ends : {kind : Kind} {X : Type 0} (s : Spelling kind X) (front : List X) (old : List (List ℕ)) (total : List X × List (List ℕ)) → s.read old ≡ None → with_front front (read_front s.read old) ≡ total → total ≡ (front, old)
ends {kind} {X} s front old total found so_far =
    sym so_far ∙ ap (with_front front) (no_more s old found) ∙ ap (λ (xs : List X). (xs, old)) (append-nil front)
