-- What is known at a turn about what is watched, and behind it.
use Rattle.std.proofs.Common.{◌≡◌, ◌≤◌, ◌+◌, ℕ, Bool, true, false, cond, List, ◌∷◌, inl, inr, arith, refl, ap, sym, ◌∙◌}
use Rattle.std.specs.Prelude.{◌⊎◌, Option, None, Some}
use Rattle.wx_scan.specs.declared.backend.Backend.{Ghosts}
use Rattle.wx_journal.specs.declared.entry.Entry.{Entry}
use Rattle.wx_journal.specs.declared.entry.Entry.TheVariants.{Word as Said}
use Rattle.wx_journal.specs.declared.entry.TurnKind.TheVariants.{File}
use Rattle.wx_journal.specs.declared.entry.Word.TheVariants.{Ignored}
use Rattle.wx_journal.specs.Told.{Counts}
use Rattle.wx_machine.specs.Start.{Start}
use Rattle.wx_machine.specs.Settings.{settings}
use Rattle.wx_machine.specs.Files.{source, is_applied}
use Rattle.wx_machine.specs.Leads.{Leads, Here, Then}
use Rattle.wx_machine.specs.Due.{Agenda, Applies, Open, Comes, Steps, agenda, rest, settle, watch_turn, says, is_quitting, Due}
use Rattle.wx_machine.proofs.SettleLaws.{settle_calm}
use Rattle.wx_machine.proofs.LaneLaws.{rises}
use Rattle.wx_action.specs.declared.worker_state.Worker.{Worker}
use Rattle.wx_action.specs.Stands.{Stands, AtTurn}
use Rattle.wx_action.proofs.TurnLaws.{at_turn}
use Rattle.wx_file_turns.specs.declared.files.Files.{Files}
use Rattle.wx_file_turns.specs.declared.files.Watching.{Watching}
use Rattle.wx_file_turns.specs.Serves.{is_unmade, unmade_count, ends_unmade, CountsUnmade}
use Rattle.wx_file_turns.specs.Standing.{FilesStand, is_revision}
use Rattle.wx_file_turns.specs.Stepping.{IsWatching}
use Rattle.wx_file_turns.proofs.Standing.{up_to_date, revision_known, files_watch, files_none}

-- whether the settings that stand were applied, as it is kept
known : {B : Type 0} {G : Ghosts B} (s : Start) (w : Worker) (f : Files B G) (p : List Entry) → Stands s w p → FilesStand s f p → is_revision w.config.change_signal f.applied ≡ is_applied (settings s p) (source s p).applied
known s w f p stands files = rw (stands.config_kept, files.revision_kept) (revision_known (settings s p) (source s p).applied)

-- where they weren't, they are to be
pub applies_owed : {B : Type 0} {G : Ghosts B} (s : Start) (w : Worker) (f : Files B G) (at : ℕ) (p : List Entry) → AtTurn s w at File p → FilesStand s f p → is_revision w.config.change_signal f.applied ≡ false → Stands s w p × (agenda s p ≡ Comes Applies Open) × (is_quitting p ≡ false)
applies_owed s w f at p turn files none =
    let h = at_turn s w at File p tt turn in
    let not : is_applied (settings s p) (source s p).applied ≡ false = sym (known s w f p h.stands files) ∙ none in
    (h.stands, h.due ∙ ap (λ (b : Bool). cond b (watch_turn (source s p).current) (Comes Applies Open)) not, h.going)

-- where they were, and no backend stands
pub ignores_owed : {B : Type 0} {G : Ghosts B} (s : Start) (w : Worker) (f : Files B G) (at : ℕ) (p : List Entry) → AtTurn s w at File p → FilesStand s f p → is_revision w.config.change_signal f.applied ≡ true → f.source ≡ None → Stands s w p × (agenda s p ≡ says Ignored) × (is_quitting p ≡ false)
ignores_owed s w f at p turn files some gone =
    let h = at_turn s w at File p tt turn in
    let yes : is_applied (settings s p) (source s p).applied ≡ true = sym (known s w f p h.stands files) ∙ some in
    (h.stands, h.due ∙ ap (λ (b : Bool). cond b (watch_turn (source s p).current) (Comes Applies Open)) yes ∙ ap watch_turn (files_none s f p files gone), h.going)

-- and where one does
pub steps_owed : {B : Type 0} {G : Ghosts B} (s : Start) (w : Worker) (f : Files B G) (v : Watching B G) (at : ℕ) (p : List Entry) → AtTurn s w at File p → FilesStand s f p → is_revision w.config.change_signal f.applied ≡ true → f.source ≡ Some v → Stands s w p × (agenda s p ≡ Steps true Open) × (is_quitting p ≡ false) × IsWatching s v p
steps_owed s w f v at p turn files some stood =
    let h = at_turn s w at File p tt turn in
    let yes : is_applied (settings s p) (source s p).applied ≡ true = sym (known s w f p h.stands files) ∙ some in
    let watching = files_watch s f v p files (up_to_date s p yes) stood in
    (h.stands, h.due ∙ ap (λ (b : Bool). cond b (watch_turn (source s p).current) (Comes Applies Open)) yes ∙ ap watch_turn watching.current, h.going, watching)

-- ---- the turn is ignored

pub ignored_due : (s : Start) (p : List Entry) → agenda s p ≡ says Ignored → Due s p (Said Ignored)
ignored_due s p owes = rw owes (tt, refl)

pub ignored_open : (s : Start) (p p' : List Entry) → agenda s p ≡ says Ignored → is_quitting p ≡ false → p' ≡ Said Ignored ∷ p → agenda s p' ≡ Open
ignored_open s p p' owes going grown = rw grown (ap (λ (k : Agenda). settle (Said Ignored ∷ p) (rest (Said Ignored) k)) owes ∙ settle_calm (Said Ignored ∷ p) Open going)

-- ---- how often the maker of backends failed

-- the journal is as it was, or its newest entry was added
abbrev IsAdded : List Entry → List Entry → Type 0
IsAdded p p' = (p' ≡ p) ⊎ ((e : Entry) × (q : List Entry) × (p' ≡ e ∷ q) × (unmade_count p ≤ unmade_count q))

added_more : (e : Entry) (p q : List Entry) → IsAdded p q → IsAdded p (e ∷ q)
added_more e p q (inl same) = inr (e, q, refl, let is : unmade_count q ≡ unmade_count p = ap unmade_count same in omega (arith, is))
added_more e p q (inr h) = inr (e, q, refl, (let more = rises (is_unmade h.0) (unmade_count h.1) in let is : unmade_count q ≡ unmade_count (h.0 ∷ h.1) = ap unmade_count h.2 in let few = h.3 in omega (arith, more, is, few)))

added_led : (s : Start) (p : List Entry) (world hooks : Option (List Entry)) (p' : List Entry) (world' hooks' : Option (List Entry)) → Leads s p world hooks p' world' hooks' → IsAdded p p'
added_led s p world hooks p' world' hooks' l = elim l as (λ p' world' hooks' _. IsAdded p p') [
  | Here ↦ inl refl
  | Then e q world₁ hooks₁ (l → h) d ↦ added_more e p q h
]

-- where the newest entry says that a backend couldn't be made, the count rose
by_newest : (p p' : List Entry) (n n' : ℕ) → ends_unmade p ≡ false → IsAdded p p' → CountsUnmade p n p' n' → Counts (ends_unmade p') n n'
by_newest p p' n n' first (inl same) counts = record { later = counts.later; rose = λ is. (let both : true ≡ false = sym is ∙ ap ends_unmade same ∙ first in absurd cc) }
by_newest p p' n n' first (inr h) counts = record {
  later = counts.later;
  rose = λ is. (let bad : is_unmade h.0 ≡ true = sym (ap ends_unmade h.2) ∙ is in
      let one : unmade_count p' ≡ unmade_count h.1 + 1 = ap unmade_count h.2 ∙ ap (λ (b : Bool). cond b (unmade_count h.1 + 1) (unmade_count h.1)) bad in
      let few = h.3 in
      omega (arith, one, few, counts.rose));
}

pub maker_counts : (s : Start) (w : Worker) (at : ℕ) (p p' : List Entry) (n n' : ℕ) (world hooks world' hooks' : Option (List Entry)) → AtTurn s w at File p → Leads s p world hooks p' world' hooks' → CountsUnmade p n p' n' → Counts (ends_unmade p') n n'
maker_counts s w at p p' n n' world hooks world' hooks' turn led counts = by_newest p p' n n' (ap ends_unmade turn.last) (added_led s p world hooks p' world' hooks' led) counts
