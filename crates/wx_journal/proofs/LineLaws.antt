-- Printed entries and an end line are the text of these entries and of this answer alone.
use Rattle.std.proofs.Common.{◌≡◌, ℕ, ◌^◌, ◌<◌, Bool, Option, None, Some, Result, List, [], ◌∷◌, ◌++◌, sym, ap, ◌∙◌, append_assoc, refl}
use Rattle.std.specs.Prelude.{codes}
use Rattle.std.specs.List.{flat_map, AllByRecursion}
use Rattle.std.proofs.lemmas.List.{append-nil}
use Rattle.std.proofs.lemmas.Option.{some_pair_parts}
use Rattle.wx_words.specs.Line.{parts, words_of, joined}
use Rattle.wx_words.specs.Parts.{both}
use Rattle.wx_words.specs.Combine.{whole}
use Rattle.wx_words.specs.ChoiceLaws.{some_words}
use Rattle.wx_words.specs.Clean.{IsClean, AllClean}
use Rattle.wx_words.specs.CleanLaws.{items_clean, words_back, line_back}
use Rattle.wx_words.specs.EachLaws.{each_append}
use Rattle.wx_journal.specs.declared.entry.Entry.{Entry}
use Rattle.wx_journal.specs.declared.entry.Entry.TheVariants.{Take, Filter, Hand}
use Rattle.wx_error.specs.declared.runtime.RuntimeError.{RuntimeError}
use Rattle.wx_journal.specs.Acts.{act}
use Rattle.wx_journal.specs.Entries.{entry, hand, entry_words, read_entry, EntryFits}
use Rattle.wx_journal.proofs.EntryLaws.{whole_again}
use Rattle.wx_journal.specs.Lines.{Answer, AnswerFits, NamesFit, line_of, entry_line, end, end_words}

-- ---- no word has a space or a line feed

entry_clean : (e : Entry) → EntryFits e → AllClean (entry_words e)
entry_clean (Hand n names acts) fits = each_append IsClean (hand.words (n, names)) (flat_map act.words acts) (hand.clean (n, names) fits.0) (items_clean act.fits act.words act.clean acts fits.1)
entry_clean e fits = entry.clean e fits

entry_has_word : (e : Entry) → entry_words e ≡ [] → ⊥
unfolding entry
entry_has_word (Hand n names acts) = some_words _ _
entry_has_word e = some_words _ _

end_fits : (a : Answer) (lost : List ℕ) → AnswerFits a → NamesFit lost → end.fits (a, lost)
unfolding both
end_fits a lost fa fl = (fa, fl)

-- ---- reading lines

-- the entry whose words these are, and that of a line
abbrev pub in_words : List (List ℕ) → Option Entry
in_words ws = whole (read_entry ws)

abbrev pub entry_in : List ℕ → Option Entry
entry_in line = in_words (words_of line)

-- the entries of the first lines, and the lines from the first that is none
abbrev pub onto_entries : Option Entry → List Entry × List (List ℕ) → List (List ℕ) → List Entry × List (List ℕ)
onto_entries None rest lines = ([], lines)
onto_entries (Some e) rest lines = (e ∷ rest.0, rest.1)

abbrev pub decoded : List (List ℕ) → List Entry × List (List ℕ)
decoded [] = ([], [])
decoded (line ∷ lines) = onto_entries (entry_in line) (decoded lines) (line ∷ lines)

-- a line gives its words back, and can be cut off
record IsLine (ws : List (List ℕ)) : Type 0 where
  back : words_of (joined ws) ≡ ws
  cut : (rest : List ℕ) → parts 10 (line_of ws ++ rest) ≡ joined ws ∷ parts 10 rest

line : (ws : List (List ℕ)) → (ws ≡ [] → ⊥) → AllClean ws → IsLine ws
line [] some all = absurd (some refl)
line (w ∷ ws) some all = record { back = words_back w ws all.0 all.1; cut = λ rest. line_back w ws rest all.0 all.1 }

entry_is_line : (e : Entry) → EntryFits e → IsLine (entry_words e)
entry_is_line e fits = line (entry_words e) (entry_has_word e) (entry_clean e fits)

end_is_line : (a : Answer) (lost : List ℕ) → AnswerFits a → NamesFit lost → IsLine (end_words a lost)
end_is_line a lost fa fl = line (end_words a lost) (some_words _ _) (end.clean (a, lost) (end_fits a lost fa fl))

entry_back : (e : Entry) → EntryFits e → entry_in (joined (entry_words e)) ≡ Some e
entry_back e fits = ap in_words (entry_is_line e fits).back ∙ whole_again e fits

no_entry : (ws : List (List ℕ)) → in_words (codes "end" ∷ ws) ≡ None
unfolding entry
no_entry ws = refl

end_back : (a : Answer) (lost : List ℕ) → AnswerFits a → NamesFit lost → entry_in (joined (end_words a lost)) ≡ None
end_back a lost fa fl = ap in_words (end_is_line a lost fa fl).back ∙ no_entry _

-- a printed journal gives its entries and its end line back
pub printed_back : (es : List Entry) (a : Answer) (lost : List ℕ) → AllByRecursion EntryFits es → AnswerFits a → NamesFit lost → decoded (parts 10 (flat_map entry_line es ++ line_of (end_words a lost))) ≡ (es, joined (end_words a lost) ∷ [] ∷ [])
printed_back [] a lost all fa fl =
    let cut : parts 10 (line_of (end_words a lost)) ≡ joined (end_words a lost) ∷ [] ∷ [] = ap (parts 10) (sym (append-nil (line_of (end_words a lost)))) ∙ (end_is_line a lost fa fl).cut [] in
    ap decoded cut ∙ ap (λ (o : Option Entry). onto_entries o (decoded ([] ∷ [])) (joined (end_words a lost) ∷ [] ∷ [])) (end_back a lost fa fl)
printed_back (e ∷ es) a lost all fa fl =
    let more : List ℕ = flat_map entry_line es ++ line_of (end_words a lost) in
    let cut : parts 10 (flat_map entry_line (e ∷ es) ++ line_of (end_words a lost)) ≡ joined (entry_words e) ∷ parts 10 more = ap (parts 10) (append_assoc (entry_line e) (flat_map entry_line es) (line_of (end_words a lost))) ∙ (entry_is_line e all.0).cut more in
    let rest = printed_back es a lost all.1 fa fl in
    ap decoded cut ∙ ap (λ (o : Option Entry). onto_entries o (decoded (parts 10 more)) (joined (entry_words e) ∷ parts 10 more)) (entry_back e all.0)
    ∙ ap (λ (d : List Entry × List (List ℕ)). onto_entries (Some e) d (joined (entry_words e) ∷ parts 10 more)) rest

pub same_answer : (a b : Answer) (lost gone : List ℕ) → AnswerFits a → AnswerFits b → NamesFit lost → NamesFit gone → joined (end_words a lost) ≡ joined (end_words b gone) → a ≡ b
same_answer a b lost gone fa fb fl fg e =
    let ws : end_words a lost ≡ end_words b gone = sym (end_is_line a lost fa fl).back ∙ ap words_of e ∙ (end_is_line b gone fb fg).back in
    let both : ◌≡◌ {A = Option ((Answer × List ℕ) × List (List ℕ))} (Some ((a, lost), [])) (Some ((b, gone), [])) =
    sym (end.form.again (a, lost) [] (end_fits a lost fa fl)) ∙ ap (λ (x : List (List ℕ)). end.read (x ++ [])) ws ∙ end.form.again (b, gone) [] (end_fits b gone fb fg) in
    ap (λ (p : Answer × List ℕ). p.0) (some_pair_parts (a, lost) (b, gone) [] [] both).0

-- ---- of one entry

pub take_fits : (name : ℕ) → EntryFits (Take name) → name < 2 ^ 64
unfolding entry
take_fits name fits = fits

pub filter_fits : (n name : ℕ) (answer : Result Bool RuntimeError) → EntryFits (Filter n name answer) → name < 2 ^ 64
unfolding entry both
filter_fits n name answer fits = fits.1.0
