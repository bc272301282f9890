-- What a plan that makes no job and changes no setting leaves as it was.
use Rattle.std.proofs.Common.{◌≡◌, ℕ, List, ◌∷◌, refl, ◌∙◌}
use Rattle.std.specs.Prelude.{Option}
use Rattle.wx_control.specs.declared.id.Id.{Id}
use Rattle.wx_journal.specs.declared.entry.Entry.{Entry}
use Rattle.wx_journal.specs.declared.entry.Entry.TheVariants.{Made, Changed}
use Rattle.wx_journal.specs.Names.{event_count}
use Rattle.wx_machine.specs.History.{command}
use Rattle.wx_machine.specs.Table.{Plan}
use Rattle.wx_machine.specs.Case.{PlanLeads, PlanHere, PlanThen}
use Rattle.wx_machine.specs.Start.{Start}
use Rattle.wx_machine.specs.Quits.{graceful}
use Rattle.wx_machine.specs.Keyboard.{has_ended}
use Rattle.wx_machine.specs.Settings.{settings}
use Rattle.wx_machine.specs.Journal.{closed, bag, window, first}
use Rattle.wx_machine.specs.Jobs.{set}
use Rattle.wx_machine.proofs.Always.{always_now, always_next}
use Rattle.wx_machine.proofs.AllJobs.{IsOfJob, MakesNone}
use Rattle.wx_hooks.specs.Handled.{lookup}

-- both journals say the same of what is kept besides the tasks of jobs
pub record SameRest (p p' : List Entry) : Type 0 where
  pub bag_same : bag p' ≡ bag p
  pub closed_same : closed p' ≡ closed p
  pub count_same : event_count p' ≡ event_count p
  pub window_same : window p' ≡ window p
  pub lookup_same : lookup p' ≡ lookup p
  pub first_same : first p' ≡ first p
  pub set_same : set p' ≡ set p
  pub commands_same : (i : Id) → command i p' ≡ command i p
  pub settings_same : (s : Start) → settings s p' ≡ settings s p
  pub graceful_same : graceful p' ≡ graceful p
  pub ended_same : (s : Start) → has_ended s p' ≡ has_ended s p

pub same_rest : (p : List Entry) → SameRest p p
same_rest p = record { bag_same = refl; closed_same = refl; count_same = refl; window_same = refl; lookup_same = refl; first_same = refl; set_same = refl; commands_same = λ i. refl; settings_same = λ s. refl; graceful_same = refl; ended_same = λ s. refl }

pub rest_then : (p q r : List Entry) → SameRest p q → SameRest q r → SameRest p r
rest_then p q r a b = record {
  bag_same = b.bag_same ∙ a.bag_same;
  closed_same = b.closed_same ∙ a.closed_same;
  count_same = b.count_same ∙ a.count_same;
  window_same = b.window_same ∙ a.window_same;
  lookup_same = b.lookup_same ∙ a.lookup_same;
  first_same = b.first_same ∙ a.first_same;
  set_same = b.set_same ∙ a.set_same;
  commands_same = λ i. b.commands_same i ∙ a.commands_same i;
  settings_same = λ s. b.settings_same s ∙ a.settings_same s;
  graceful_same = b.graceful_same ∙ a.graceful_same;
  ended_same = λ s. b.ended_same s ∙ a.ended_same s;
}

-- ---- a plan that makes no job and changes no setting

rest_entry : (e : Entry) (p : List Entry) → IsOfJob e → SameRest p (e ∷ p)
rest_entry (Made job) p h = absurd h
rest_entry (Changed revision) p h = absurd h
rest_entry (_) p h = search

pub record IsStillLed (p : List Entry) (k' : Plan) (p' : List Entry) : Type 0 where
  pub still : SameRest p p'
  pub none : MakesNone p' k'

pub still_led : (k : Plan) (p : List Entry) (world hooks : Option (List Entry)) (n : ℕ) (k' : Plan) (p' : List Entry) (world' hooks' : Option (List Entry)) (n' : ℕ) → MakesNone p k → PlanLeads k p world hooks n k' p' world' hooks' n' → IsStillLed p k' p'
still_led k p world hooks n k' p' world' hooks' n' none l = elim l as (λ k' p' world' hooks' n' _. IsStillLed p k' p') [
  | PlanHere ↦ record { still = same_rest p; none = none }
  | PlanThen e k₁ p₁ world₁ hooks₁ n₁ n₂ (l → h) d counts ↦
      record {
        still = rest_then p p₁ (e ∷ p₁) h.still (rest_entry e p₁ (always_now (λ q e j. IsOfJob e) p₁ k₁ e d h.none));
        none = always_next (λ q e j. IsOfJob e) p₁ k₁ e d h.none;
      }
]
