-- How often what keeps watches may take a step: what each entry leaves of it.
use Rattle.std.proofs.Common.{◌≡◌, ◌≤◌, ◌+◌, ◌-◌, ℕ, Bool, true, false, cond, List, [], ◌∷◌, inl, inr, arith, refl}
use Rattle.std.specs.Prelude.{◌^◌, min}
use Rattle.wx_scan.specs.Looked.{Rose}
use Rattle.wx_journal.specs.declared.entry.Entry.{Entry}
use Rattle.wx_journal.specs.declared.entry.Entry.TheVariants.{Word as Said, Make, Applied, Heard}
use Rattle.wx_journal.specs.declared.entry.Word.{Word}
use Rattle.wx_journal.specs.declared.entry.Word.TheVariants.{Idle, Ignored, Quitting, Later, Quiet, Stepped}
use Rattle.wx_machine.specs.Added.{Added, Same, More}
use Rattle.wx_machine.specs.Files.{is_about_files, AddsNoFiles}
use Rattle.wx_machine.specs.Steps.{is_step, brings_work, step_count, work_count, IsPaid}

-- at the beginning, whatever count of looks stands there
pub paid_first : (looks : ℕ) → IsPaid looks [] looks 0
paid_first looks = omega arith

-- fewer steps to come, and more looks
pub paid_less : (before : ℕ) (p : List Entry) (looks owing less : ℕ) → less ≤ owing → IsPaid before p looks owing → IsPaid before p looks less
paid_less before p looks owing less fewer h = omega (arith, fewer, h)

pub paid_later : (before : ℕ) (p : List Entry) (looks looks' owing : ℕ) → looks ≤ looks' → IsPaid before p looks owing → IsPaid before p looks' owing
paid_later before p looks looks' owing later h = omega (arith, later, h)

-- ---- one entry more

by_kind : (step work : Bool) (before steps works looks owing : ℕ) → step ≡ false → min (before + steps + owing) (2 ^ 64 - 1 + works) ≤ looks + works → min (before + cond step (steps + 1) steps + owing) (2 ^ 64 - 1 + cond work (works + 1) works) ≤ looks + cond work (works + 1) works
by_kind true work before steps works looks owing other h = absurd cc
by_kind false true before steps works looks owing other h = omega (arith, h)
by_kind false false before steps works looks owing other h = h

-- an entry that is no step
pub paid_entry : (before : ℕ) (e : Entry) (p : List Entry) (looks owing : ℕ) → is_step e ≡ false → IsPaid before p looks owing → IsPaid before (e ∷ p) looks owing
paid_entry before e p looks owing other h = by_kind (is_step e) (brings_work e) before (step_count p) (work_count p) looks owing other h

-- settings that were applied, an answer about a backend, and what was heard: one step more may come
pub paid_applied : (before revision : ℕ) (p : List Entry) (looks owing : ℕ) → IsPaid before p looks owing → IsPaid before (Applied revision ∷ p) looks (owing + 1)
paid_applied before revision p looks owing h = omega (arith, h)

pub paid_work : (before : ℕ) (e : Entry) (p : List Entry) (looks owing : ℕ) → brings_work e ≡ true → IsPaid before p looks owing → IsPaid before (e ∷ p) looks (owing + 1)
paid_work before (Applied revision) p looks owing is h = omega (arith, h)
paid_work before (Make back watcher follow answer) p looks owing is h = omega (arith, h)
paid_work before (Heard item) p looks owing is h = omega (arith, h)
paid_work before (_) p looks owing is h = absurd cc

-- a step with a look
pub paid_look : (before : ℕ) (p : List Entry) (looks looks' owing : ℕ) → Rose looks looks' → IsPaid before p looks owing → IsPaid before (Said Stepped ∷ p) looks' owing
paid_look before p looks looks' owing (inl rose) h = omega (arith, rose, h)
paid_look before p looks looks' owing (inr full) h = omega (arith, full)

-- a step that was still to come, without a look
pub paid_sweep : (before : ℕ) (p : List Entry) (looks owing : ℕ) → IsPaid before p looks (owing + 1) → IsPaid before (Said Stepped ∷ p) looks owing
paid_sweep before p looks owing h = omega (arith, h)

-- ---- several entries more, none of them a step

abbrev pub AddsNoStep : List Entry → List Entry → Type 0
AddsNoStep p p' = Added (λ q e. is_step e ≡ false) p p'

pub paid_added : (before : ℕ) (p p' : List Entry) (looks owing : ℕ) → AddsNoStep p p' → IsPaid before p looks owing → IsPaid before p' looks owing
paid_added before p _ looks owing Same h = h
paid_added before p _ looks owing (More e q a other) h = paid_entry before e q looks owing other (paid_added before p q looks owing a h)

-- entries about nothing that is watched are such
word_no_step : (word : Word) → is_about_files (Said word) ≡ false → is_step (Said word) ≡ false
word_no_step Idle other = refl
word_no_step Ignored other = refl
word_no_step Quitting other = refl
word_no_step Later other = refl
word_no_step Quiet other = refl
word_no_step Stepped other = absurd cc

pub no_step : (e : Entry) → is_about_files e ≡ false → is_step e ≡ false
no_step (Said word) other = word_no_step word other
no_step (_) other = refl

pub adds_no_step : (p p' : List Entry) → AddsNoFiles p p' → AddsNoStep p p'
adds_no_step p _ Same = Same
adds_no_step p _ (More e q a other) = More e q (adds_no_step p q a) (no_step e other)

-- over such entries, where the count of looks doesn't fall
pub paid_kept : (before : ℕ) (p p' : List Entry) (looks looks' owing : ℕ) → AddsNoFiles p p' → looks ≤ looks' → IsPaid before p looks owing → IsPaid before p' looks' owing
paid_kept before p p' looks looks' owing a later h = paid_later before p' looks looks' owing later (paid_added before p p' looks owing (adds_no_step p p' a) h)
