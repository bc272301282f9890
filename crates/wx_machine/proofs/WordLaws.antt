-- A word is a call on the world only where a backend that was asked brought nothing.
use Rattle.std.proofs.Common.{◌≡◌, ℕ, Bool, true, false, List, [], ◌∷◌, refl, ap}
use Rattle.std.specs.Prelude.{Option, None, Some}
use Rattle.wx_journal.specs.declared.entry.Entry.{Entry}
use Rattle.wx_journal.specs.declared.entry.Entry.TheVariants.{Turn as Turned, Word as Said}
use Rattle.wx_journal.specs.declared.entry.TurnKind.{TurnKind}
use Rattle.wx_journal.specs.declared.entry.TurnKind.TheVariants.{Listen}
use Rattle.wx_journal.specs.declared.entry.Word.{Word}
use Rattle.wx_journal.specs.declared.entry.Word.TheVariants.{Quiet}
use Rattle.wx_journal.specs.Told.{begins_listening, is_listen_turn, is_world}
use Rattle.wx_machine.specs.Start.{Start}
use Rattle.wx_machine.specs.Files.{source}
use Rattle.wx_machine.specs.Due.{Says, Agenda, Comes, Steps, listen_turn, settle, turn_agenda, agenda}

-- a step is owed, or the word Quiet by itself
abbrev is_own : Agenda → Bool
is_own (Comes (Says Quiet) more) = true
is_own (Steps untouched more) = true
is_own (_) = false

no_listening : (q : List Entry) (current : Option ℕ) → is_own (settle q (listen_turn current)) ≡ false
no_listening q None = refl
no_listening q (Some back) = refl

by_kind : (s : Start) (q : List Entry) (kind : TurnKind) (at : ℕ) → is_own (settle q (turn_agenda s kind at q)) ≡ true → is_listen_turn kind ≡ false
by_kind s q Listen at own = let none = no_listening q (source s q).current in absurd cc
by_kind s q (_) at own = refl

own_begins : (s : Start) (p : List Entry) → is_own (agenda s p) ≡ true → begins_listening p ≡ false
own_begins s [] own = refl
own_begins s (Turned t ∷ p) own = by_kind s (Turned t ∷ p) t.kind t.at own
own_begins s (_ ∷ p) own = refl

alone : (p : List Entry) (word : Word) → (word ≡ Quiet → begins_listening p ≡ false) → is_world p (Said word) ≡ false
alone p Quiet h = h refl
alone p (_) h = refl

-- a word that a point says is none
pub says_alone : (s : Start) (p : List Entry) (word : Word) (more : Agenda) → agenda s p ≡ Comes (Says word) more → is_world p (Said word) ≡ false
says_alone s p Quiet more owes = own_begins s p (ap is_own owes)
says_alone s p (_) more owes = refl

-- nor is one that comes of a step, or in its place
pub steps_alone : (s : Start) (p : List Entry) (word : Word) (untouched : Bool) (more : Agenda) → agenda s p ≡ Steps untouched more → is_world p (Said word) ≡ false
steps_alone s p word untouched more owes = alone p word (λ is. own_begins s p (ap is_own owes))
