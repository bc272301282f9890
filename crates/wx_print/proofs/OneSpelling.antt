-- A printed journal is the text of one journal and of one answer.
use Rattle.std.proofs.Common.{◌≡◌, ℕ, ◌+◌, ◌^◌, ◌<◌, ◌≤◌, Bool, true, false, cond, not, List, [], ◌∷◌, length, reverse, sym, ap, subst, ◌∙◌, length-append, arith}
use Rattle.std.specs.List.{AllByRecursion, filter}
use Rattle.std.proofs.lemmas.Grind.{reverse_onto}
use Rattle.std.proofs.lemmas.List.{reverse-reverse}
use Rattle.wx_words.specs.Line.{parts, joined}
use Rattle.wx_words.specs.EachLaws.{each_append, each_filter}
use Rattle.wx_journal.specs.declared.entry.Entry.{Entry}
use Rattle.wx_journal.specs.declared.entry.Entry.TheVariants.{Take, Filter, Hand}
use Rattle.wx_journal.specs.Entries.{EntryFits}
use Rattle.wx_journal.specs.Lines.{Answer, NamesFit, JournalFits, AnswerFits, end_words}
use Rattle.wx_journal.proofs.LineLaws.{decoded, printed_back, same_answer, take_fits, filter_fits}
use Rattle.wx_machine.specs.Journal.{passes_unseen, lets_pass, one_if, and_one, is_among, window}
use Rattle.wx_print.specs.Printed.{printed}

-- ---- what is lost is part of the journal

fewer_kept : (b : Bool) (x : ℕ) (kept xs : List ℕ) → length kept ≤ length xs → length (cond b (x ∷ kept) kept) ≤ length (x ∷ xs)
fewer_kept true x kept xs le = omega arith
fewer_kept false x kept xs le = omega arith

fewer : (test : ℕ → Bool) (xs : List ℕ) → length (filter test xs) ≤ length xs
fewer test [] = omega arith
fewer test (x ∷ xs) = fewer_kept (test x) x (filter test xs) xs (fewer test xs)

-- names, and one that may join them
joined_small : (names : List ℕ) (m : ℕ) (joins : Bool) (name : ℕ) → (length names ≤ m) × AllByRecursion (λ n. n < 2 ^ 64) names → name < 2 ^ 64 → (length (and_one names (one_if joins name)) ≤ m + 1) × AllByRecursion (λ n. n < 2 ^ 64) (and_one names (one_if joins name))
joined_small names m true name small lt = (omega (arith, length-append names (name ∷ []), small.0), each_append (λ n. n < 2 ^ 64) names (name ∷ []) small.1 (lt, tt))
joined_small names m false name small lt = (omega (arith, small.0), small.1)

window_small : (j : List Entry) → AllByRecursion EntryFits j → (length (window j) ≤ length j) × AllByRecursion (λ n. n < 2 ^ 64) (window j)
window_small [] all = (omega arith, tt)
window_small (Take name ∷ j) all =
    let h = joined_small (window j) (length j) (passes_unseen name j) name (window_small j all.1) (take_fits name all.0) in (omega (arith, h.0), h.1)
window_small (Filter n name answer ∷ j) all =
    let h = joined_small (window j) (length j) (lets_pass answer) name (window_small j all.1) (filter_fits n name answer all.0) in (omega (arith, h.0), h.1)
window_small (Hand n names acts ∷ j) all =
    let rest = window_small j all.1 in
    (omega (arith, fewer (λ name. not (is_among name names)) (window j), rest.0), each_filter (λ n. n < 2 ^ 64) (λ name. not (is_among name names)) (window j) rest.1)
window_small (_ ∷ j) all = let rest = window_small j all.1 in (omega (arith, rest.0), rest.1)

window_fits : (j : List Entry) → JournalFits j → NamesFit (window j)
window_fits j fits = let small = window_small j fits.1 in (omega (arith, small.0, fits.0), small.1)

each_reverse : {X : Type 0} (P : X → Type 0) (xs : List X) → AllByRecursion P xs → AllByRecursion P (reverse xs)
each_reverse P [] all = tt
each_reverse P (x ∷ xs) all = subst (AllByRecursion P) (sym (reverse_onto xs x [])) (each_append P (reverse xs) (x ∷ []) (each_reverse P xs all.1) (all.0, tt))

-- the first of some lines
first_line : List (List ℕ) → List ℕ
first_line [] = []
first_line (l ∷ ls) = l

pub one_spelling : (j k : List Entry) (a b : Answer) → JournalFits j → JournalFits k → AnswerFits a → AnswerFits b → printed j a ≡ printed k b → (j ≡ k) × (a ≡ b)
unfolding first_line
one_spelling j k a b fj fk fa fb e =
    let lost = window_fits j fj in
    let gone = window_fits k fk in
    let both : ◌≡◌ {A = List Entry × List (List ℕ)} (reverse j, joined (end_words a (window j)) ∷ [] ∷ []) (reverse k, joined (end_words b (window k)) ∷ [] ∷ []) =
    sym (printed_back (reverse j) a (window j) (each_reverse EntryFits j fj.1) fa lost) ∙ ap (λ (t : List ℕ). decoded (parts 10 t)) e ∙ printed_back (reverse k) b (window k) (each_reverse EntryFits k fk.1) fb gone in
    let journals : reverse j ≡ reverse k = ap (λ (p : List Entry × List (List ℕ)). p.0) both in
    let ends : joined (end_words a (window j)) ≡ joined (end_words b (window k)) = ap (λ (p : List Entry × List (List ℕ)). first_line p.1) both in
    (sym (reverse-reverse j) ∙ ap (λ (x : List Entry). reverse x) journals ∙ reverse-reverse k, same_answer a b (window j) (window k) fa fb lost gone ends)
