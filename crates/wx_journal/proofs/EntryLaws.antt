-- An entry is read again from its words, what is read was spelled so, and where none is read none stands at the front.
use Rattle.std.proofs.Common.{◌≡◌, ℕ, Option, None, Some, List, [], ◌++◌, refl, sym, ap, ◌∙◌, append_assoc, inl, inr}
use Rattle.std.specs.List.{flat_map}
use Rattle.std.proofs.lemmas.List.{append-nil}
use Rattle.wx_words.specs.Combine.{whole}
use Rattle.wx_words.specs.Forms.{Stood}
use Rattle.wx_words.specs.FormLaws.{stood-then, same_read}
use Rattle.wx_words.specs.OptionLaws.{bind_some, first_or}
use Rattle.wx_words.specs.Texts.{text_in}
use Rattle.wx_control.specs.Ids.{id}
use Rattle.wx_journal.specs.declared.entry.Entry.{Entry}
use Rattle.wx_journal.specs.declared.entry.Entry.TheVariants.{Hand}
use Rattle.wx_journal.specs.Acts.{JournalAct, act_of, act, act_has_word}
use Rattle.wx_journal.specs.AtFront.{read_front}
use Rattle.wx_journal.specs.Entries.{entry, hand, with_acts, read_hand, read_entry, entry_words, EntryFits}
use Rattle.wx_journal.proofs.AtFrontLaws.{front_again, front_spelt}

-- what begins with the word hand is a Hand alone
only_hand : (n : ℕ) (names : List ℕ) (ws : List (List ℕ)) → entry.read (hand.words (n, names) ++ ws) ≡ None
unfolding entry
only_hand n names ws = refl

no_hand : (n : ℕ) (names : List ℕ) (acts : List JournalAct) → entry.fits (Hand n names acts) → ⊥
unfolding entry
no_hand n names acts fits = fits

-- ---- what is spelled is read again

hand_read : (n : ℕ) (names : List ℕ) (ws : List (List ℕ)) → hand.fits (n, names) → read_entry (hand.words (n, names) ++ ws) ≡ Some (with_acts (n, names) (read_front act.read ws))
hand_read n names ws fits = rw (only_hand n names ws, hand.form.again (n, names) ws fits) refl

-- where no act stands behind it, as those would be the acts of a Hand
pub entry_again : (e : Entry) (rest : List (List ℕ)) → EntryFits e → act.read rest ≡ None → read_entry (entry_words e ++ rest) ≡ Some (e, rest)
entry_again (Hand n names acts) rest fits none =
    ap read_entry (append_assoc (hand.words (n, names)) (flat_map act.words acts) rest)
    ∙ hand_read n names (flat_map act.words acts ++ rest) fits.0
    ∙ ap (λ (read : List JournalAct × List (List ℕ)). Some (with_acts (n, names) read)) (front_again act (act_has_word id) acts rest fits.1 none)
entry_again e rest fits none = rw (entry.form.again e rest fits) refl

no_act_left : act.read [] ≡ None
unfolding act_of
no_act_left = refl

pub whole_again : (e : Entry) → EntryFits e → whole (read_entry (entry_words e)) ≡ Some e
whole_again e fits = ap (λ (ws : List (List ℕ)). whole (read_entry ws)) (sym (append-nil (entry_words e))) ∙ ap whole (entry_again e [] fits no_act_left)

-- ---- what is read was spelled so

abbrev IsSpelt : List (List ℕ) → Entry → List (List ℕ) → Type 0
IsSpelt ws e rest = EntryFits e × Stood text_in (entry_words e) ws rest

row_spelt : (ws : List (List ℕ)) (e : Entry) (rest : List (List ℕ)) → entry.fits e × Stood text_in (entry.words e) ws rest → IsSpelt ws e rest
row_spelt ws (Hand n names acts) rest t = absurd (no_hand n names acts t.0)
row_spelt ws e rest t = t

hand_spelt : (ws : List (List ℕ)) (e : Entry) (rest : List (List ℕ)) → read_hand ws ≡ Some (e, rest) → IsSpelt ws e rest
hand_spelt ws e rest is =
    let b = bind_some (hand.read ws) (λ batch. Some (with_acts batch.0 (read_front act.read batch.1))) (e, rest) is in
    let acts = read_front act.read b.0.1 in
    let t = hand.form.takes ws b.0.0 b.0.1 b.1 in
    let f = front_spelt act b.0.1 in
    same_read (IsSpelt ws) (Hand b.0.0.0 b.0.0.1 acts.0) e acts.1 rest b.2 ((t.0, f.0), stood-then text_in (hand.words b.0.0) (flat_map act.words acts.0) ws b.0.1 acts.1 t.1 f.1)

pub entry_spelt : (ws : List (List ℕ)) (e : Entry) (rest : List (List ℕ)) → read_entry ws ≡ Some (e, rest) → EntryFits e × Stood text_in (entry_words e) ws rest
entry_spelt ws e rest is =
    elim (first_or (entry.read ws) (read_hand ws) (e, rest) is) [
      | inl p ↦ row_spelt ws e rest (entry.form.takes ws e rest p)
      | inr p ↦ hand_spelt ws e rest p
    ]

-- ---- what is spelled is read, whatever stands behind it

read_some : (e : Entry) (rest : List (List ℕ)) → EntryFits e → read_entry (entry_words e ++ rest) ≡ None → ⊥
read_some (Hand n names acts) rest fits none =
    let is : read_entry (entry_words (Hand n names acts) ++ rest) ≡ Some (with_acts (n, names) (read_front act.read (flat_map act.words acts ++ rest))) =
    ap read_entry (append_assoc (hand.words (n, names)) (flat_map act.words acts) rest) ∙ hand_read n names (flat_map act.words acts ++ rest) fits.0 in
    absurd cc
read_some e rest fits none = let is : read_entry (entry_words e ++ rest) ≡ Some (e, rest) = rw (entry.form.again e rest fits) refl in absurd cc

pub none_stands : (ws : List (List ℕ)) → read_entry ws ≡ None → (e : Entry) (rest : List (List ℕ)) → EntryFits e → ws ≡ entry_words e ++ rest → ⊥
none_stands ws none e rest fits is = read_some e rest fits (ap read_entry (sym is) ∙ none)
