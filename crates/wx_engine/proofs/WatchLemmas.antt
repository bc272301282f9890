-- What the turns of a run leave of what is watched.
use Rattle.std.proofs.Common.{◌≡◌, ℕ, ◌+◌, ◌≤◌, Bool, true, false, Option, List, ◌∷◌, inl, inr, refl, arith}
use Rattle.std.proofs.lemmas.Bool.{leb-true, leb-false}
use Rattle.std.specs.Prelude.{◌-◌, ◌^◌, nat_le}
use Rattle.wx_journal.specs.declared.entry.Entry.{Entry}
use Rattle.wx_journal.specs.declared.entry.Entry.TheVariants.{Turn as Turned, Make}
use Rattle.wx_journal.specs.declared.entry.Turn.{Turn}
use Rattle.wx_journal.specs.declared.entry.TurnKind.{TurnKind}
use Rattle.wx_journal.specs.declared.entry.TurnKind.TheVariants.{Last}
use Rattle.wx_journal.specs.Told.{Counts}
use Rattle.wx_machine.specs.Start.{Start}
use Rattle.wx_machine.specs.Seen.{Seen}
use Rattle.wx_machine.specs.Progress.{Progress}
use Rattle.wx_machine.specs.Journal.{turn_count}
use Rattle.wx_machine.specs.Due.{IsRun}
use Rattle.wx_machine.specs.Added.{Same, More}
use Rattle.wx_machine.specs.Files.{source, is_about_files, AddsNoFiles, is_file_turn}
use Rattle.wx_machine.specs.Leads.{Follows}
use Rattle.wx_machine.specs.Steps.{IsPaid}
use Rattle.wx_machine.specs.Told.{is_last}
use Rattle.wx_machine.specs.Turns.{StaysInTurn}
use Rattle.wx_machine.proofs.AllJobs.{same_turns}
use Rattle.wx_machine.proofs.NoFiles.{turn_adds_none, source_kept}
use Rattle.wx_machine.proofs.PaidLaws.{paid_less, paid_kept}
use Rattle.wx_action.specs.declared.worker_state.Worker.{Worker}
use Rattle.wx_action.specs.Stands.{AtTurn}
use Rattle.wx_file_turns.specs.Serves.{is_unmade, ends_unmade, PaysOn}
use Rattle.wx_engine.specs.Run.{AreFewSteps}

-- what holds anyway holds where a call went well
pub about_files : (kind : TurnKind) → is_file_turn kind ≡ true → is_last kind ≡ false
about_files Last is = absurd cc
about_files (_) is = refl

-- what is kept of what is watched stands for a journal that says the same of it
-- ---- a turn that isn't about it

-- What such a turn adds, together with its own entry.
pub record Aside (s : Start) (p p' : List Entry) : Type 0 where
  pub turn : Turn
  pub before : List Entry
  pub last : p ≡ Turned turn ∷ before
  pub adds : AddsNoFiles before p'
  pub more : turn_count p' ≡ turn_count before + 1

pub aside : (s : Start) (w : Worker) (at : ℕ) (kind : TurnKind) (p p' : List Entry) (world hooks world' hooks' : Option (List Entry)) → AtTurn s w at kind p → is_file_turn kind ≡ false → IsRun s p → Follows s p world hooks p' world' hooks' → StaysInTurn p p' → Aside s p p'
aside s w at kind p p' world hooks world' hooks' turn other run f stays =
    let stay = rw turn.last at stays in record {
      turn = record { at = at; kind = kind };
      before = turn.before;
      last = turn.last;
      adds = turn_adds_none s (record { at = at; kind = kind }) turn.before p' world hooks world' hooks' other ((rw turn.last at run).1) turn.open_is (rw turn.last at f) stay;
      more = (stay (Turned (record { at = at; kind = kind }) ∷ turn.before) (same_turns (Turned (record { at = at; kind = kind }) ∷ turn.before))).count;
    }

pub aside_source : (s : Start) (p p' : List Entry) → Aside s p p' → source s p' ≡ source s p
aside_source s p p' h = rw h.last (source_kept s h.before p' h.adds)

pub aside_pays : {Plan : Type 0} (s : Start) (p p' : List Entry) (a b : Seen Plan) (owing : ℕ) → Aside s p p' → a.looked.looks ≤ b.looked.looks → PaysOn p a owing p' b owing
aside_pays s p p' a b owing h later = λ n paid. paid_kept n h.before p' a.looked.looks b.looked.looks owing h.adds later (rw h.last at paid)

not_unmade : (e : Entry) → is_about_files e ≡ false → is_unmade e ≡ false
not_unmade (Make back watcher links answer) none = absurd cc
not_unmade (_) none = refl

none_unmade : (before p : List Entry) → AddsNoFiles before p → turn_count p ≡ turn_count before + 1 → ends_unmade p ≡ false
none_unmade before _ Same more = absurd (omega (arith, more))
none_unmade before _ (More e p a none) more = not_unmade e none

pub aside_makes_none : (s : Start) (p p' : List Entry) (old new : Progress) → Aside s p p' → new ≡ old → Counts (ends_unmade p') old.maker_faults new.maker_faults
aside_makes_none s p p' old new h same = rw (same, none_unmade h.before p' h.adds h.more) (record { later = omega arith; rose = λ is. absurd cc })

-- ---- how many steps there are

-- entries about nothing that is watched, and looks: what is paid stays so, also where no step is to come any more
pub pays_over : {Plan : Type 0} (p₀ p p' : List Entry) (a b c : Seen Plan) (before owing : ℕ) → PaysOn p₀ a before p b owing → AddsNoFiles p p' → b.looked.looks ≤ c.looked.looks → PaysOn p₀ a before p' c owing
pays_over p₀ p p' a b c before owing h adds later = λ n paid. paid_kept n p p' b.looked.looks c.looked.looks owing adds later (h n paid)

pub pays_none : {Plan : Type 0} (p₀ p : List Entry) (a b : Seen Plan) (before owing : ℕ) → PaysOn p₀ a before p b owing → PaysOn p₀ a before p b 0
pays_none p₀ p a b before owing h = λ n paid. paid_less n p b.looked.looks owing 0 (omega arith) (h n paid)

few_by : (p : List Entry) (old new : ℕ) (full : Bool) → nat_le (2 ^ 64 - 1) new ≡ full → IsPaid old p new 0 → AreFewSteps p old new
few_by p old new true is paid = inr (leb-true (2 ^ 64 - 1) new is)
few_by p old new false is paid = let below = leb-false (2 ^ 64 - 1) new is in inl (omega (arith, below, paid))

pub few_steps : (p : List Entry) (old new : ℕ) → IsPaid old p new 0 → AreFewSteps p old new
few_steps p old new paid = few_by p old new (nat_le (2 ^ 64 - 1) new) refl paid
