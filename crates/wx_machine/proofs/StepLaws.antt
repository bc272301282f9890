-- What a call that followed a plan, or did nothing, leaves.
use Rattle.std.proofs.Common.{ℕ, Bool, true, List, Option, None, Result, Ok, Err, arith}
use Rattle.std.specs.Prelude.{◌≡◌, OnOk, OnErr}
use Rattle.wx_command.specs.declared.command.Command.{Command}
use Rattle.wx_control.specs.declared.id.Id.{Id}
use Rattle.wx_control.specs.declared.ask.Ask.{Ask}
use Rattle.wx_control.specs.Asks.{sends_of}
use Rattle.wx_journal.specs.declared.entry.Entry.{Entry}
use Rattle.wx_machine.specs.Seen.{Seen}
use Rattle.wx_machine.specs.Table.{Plan, Done, step_by, end_plan, send_plan}
use Rattle.wx_machine.specs.Case.{PlanLeads, PlanHere, PlanRan, IsCut, GaveUp, PlanFollowsHost, PlanFollowsAlone}
use Rattle.wx_machine.specs.Faults.{Counted}
use Rattle.wx_machine.specs.JobLaws.{NamesChildren}
use Rattle.wx_machine.specs.Added.{Added, Same, More}
use Rattle.wx_machine.specs.History.{lives}
use Rattle.wx_machine.specs.Leaves.{LeavesLaws, AddsByLaws}
use Rattle.wx_machine.specs.TicketLaws.{WaitsForFunction, RaisesLast, IsPlacedOf}
use Rattle.wx_machine.proofs.Owners.{children_named}
use Rattle.wx_machine.proofs.Tickets.{tickets_named}
use Rattle.wx_machine.proofs.Frame.{same_history}
use Rattle.wx_machine.proofs.CaseLemmas.{ran-none}
use Rattle.wx_machine.proofs.Always.{Always}
use Rattle.wx_machine.proofs.OneJob.{IsInTurn, placed_of}
use Rattle.wx_machine.proofs.Placing.{InTurn}
use Rattle.wx_machine.proofs.PlacedPlans.{turns_step, turns_send, turns_end, turns_leads}
use Rattle.wx_machine.proofs.Sound.{Sound, Goes, cut_goes, follow, leads_counted, sound_step, sound_end, sound_send}

-- what is known of each plan of a job: what it brings is the job's, and comes in its turn
pub record IsPlanOf (id : Id) (p : List Entry) (k : Plan) : Type 0 where
  pub sound : Sound id p k
  pub turns : (lives id p ≡ true → IsPlacedOf id p) → Always (InTurn id) p k

pub step_of : (closed : Bool) (id : Id) (command : Command) (p : List Entry) → IsPlanOf id p (step_by closed id command p)
step_of closed id command p = record { sound = sound_step closed id command p; turns = turns_step closed id command p }

pub send_of : (id : Id) (ask : Ask) (p : List Entry) → IsPlanOf id p (send_plan id (sends_of ask) p)
send_of id ask p = record { sound = sound_send id ask p; turns = λ placed. turns_send id ask p }

pub end_of : (id : Id) (p : List Entry) → IsPlanOf id p (end_plan id p)
end_of id p = record { sound = sound_end id p; turns = λ placed. turns_end id p }

-- what holds of each entry that was added in another sense too
pub added_weaker : (P Q : List Entry → Entry → Type 0) (p p' : List Entry) → ((q : List Entry) (e : Entry) → P q e → Q q e) → Added P p p' → Added Q p p'
added_weaker P Q p _ h Same = Same
added_weaker P Q p _ h (More e q a x) = More e q (added_weaker P Q p q h a) (h q e x)

-- what it leaves
pub record StepLeft (id : Id) (p p' : List Entry) : Type 0 where
  pub leaves : LeavesLaws id p p'
  pub children : NamesChildren p → NamesChildren p'
  pub adds : IsPlacedOf id p → AddsByLaws id p p'
  pub tickets : IsPlacedOf id p → IsPlacedOf id p'

-- what led to a plan by which the job isn't gone next
left_led : (id : Id) (k : Plan) (p : List Entry) (host hooks : Option (List Entry)) (n : ℕ) (k' : Plan) (p' : List Entry) (host' hooks' : Option (List Entry)) (n' : ℕ) → IsPlanOf id p k → (Goes id k' → ⊥) → PlanLeads k p host hooks n k' p' host' hooks' n' → StepLeft id p p'
left_led id k p host hooks n k' p' host' hooks' n' of stays l =
    let f = follow id k p host hooks n k' p' host' hooks' n' l of.sound in record {
      leaves = record {
        others = λ own. record { own = f.own own; others = f.others (children_named p own) (tickets_named p own) };
        reaped = λ r. let after = f.reaps (record { each = r.each; last = λ alive goes. r.last alive; none = r.none }) in record { each = after.each; last = λ alive. after.last alive stays; none = after.none };
        failed = f.failing;
        afterwards = f.afterwards;
        placed = λ h. (turns_leads id k p host hooks n k' p' host' hooks' n' l (of.turns (λ alive. placed_of id p alive h))).all h;
      };
      children = f.children;
      adds = λ s. (let turns = turns_leads id k p host hooks n k' p' host' hooks' n' l (of.turns (λ alive. s)) in record { faults = f.calls; functions = added_weaker (IsInTurn id) (WaitsForFunction id) p p' (λ q e o. o.waits) turns.added; raises = added_weaker (IsInTurn id) (RaisesLast id) p p' (λ q e o. o.raises) turns.added; once = λ t. (let h = turns.once s t in let sum = h.sum in omega (arith, sum)) });
      tickets = λ s. (turns_leads id k p host hooks n k' p' host' hooks' n' l (of.turns (λ alive. s))).placed s;
    }

pub left_done : (id : Id) (k : Plan) (p : List Entry) (host hooks : Option (List Entry)) (n : ℕ) (p' : List Entry) (host' hooks' : Option (List Entry)) (n' : ℕ) → IsPlanOf id p k → PlanLeads k p host hooks n Done p' host' hooks' n' → StepLeft id p p'
left_done id k p host hooks n p' host' hooks' n' of l = left_led id k p host hooks n Done p' host' hooks' n' of (λ goes. goes) l

-- what led to a place where the case was given up
pub left_gave : (id : Id) (k : Plan) (p : List Entry) (host hooks : Option (List Entry)) (n : ℕ) (rest : Plan) (p' : List Entry) (host' hooks' : Option (List Entry)) (n' : ℕ) → IsPlanOf id p k → IsCut rest → PlanLeads k p host hooks n rest p' host' hooks' n' → StepLeft id p p'
left_gave id k p host hooks n rest p' host' hooks' n' of cut l = left_led id k p host hooks n rest p' host' hooks' n' of (cut_goes id rest cut) l

pub left_same : (id : Id) (p : List Entry) → StepLeft id p p
left_same id p = record { leaves = record { others = λ own. record { own = own; others = λ i ne. same_history i p }; reaped = λ r. r; failed = λ r. r; afterwards = λ r. r; placed = λ h. h }; children = λ h. h; adds = λ s. record { faults = Same; functions = Same; raises = Same; once = λ t. omega arith }; tickets = λ s. s }

pub counted_none : (p : List Entry) (n : ℕ) → Counted p n p n
counted_none p n = record { later = omega arith; rose = omega arith }

-- ---- a step, whatever it answers: what it leaves, and that the faults of what it did were counted

pub record Stepped (id : Id) (p : List Entry) (n : ℕ) (p' : List Entry) (n' : ℕ) : Type 0 where
  pub left : StepLeft id p p'
  pub counted : Counted p n p' n'

pub stepped_ran : {Fixed : Type 0} (id : Id) (k : Plan) (p : List Entry) (a : Seen Fixed) (hooks : Option (List Entry)) (p' : List Entry) (b : Seen Fixed) (hooks' : Option (List Entry)) → IsPlanOf id p k → PlanRan k p a hooks Done p' b hooks' → Stepped id p a.shown.faults p' b.shown.faults
stepped_ran id k p a hooks p' b hooks' of r = record { left = left_done id k p _ _ _ p' _ _ _ of r.led; counted = leads_counted k p _ _ _ Done p' _ _ _ r.led }

pub stepped_gave : {Fixed : Type 0} (id : Id) (k : Plan) (p : List Entry) (a : Seen Fixed) (hooks : Option (List Entry)) (p' : List Entry) (b : Seen Fixed) (hooks' : Option (List Entry)) → IsPlanOf id p k → GaveUp k p a hooks p' b hooks' → Stepped id p a.shown.faults p' b.shown.faults
stepped_gave id k p a hooks p' b hooks' of g = record { left = left_gave id k p _ _ _ g.rest p' _ _ _ of g.cut g.ran.led; counted = leads_counted k p _ _ _ g.rest p' _ _ _ g.ran.led }

-- ---- the end of a job, and asks

pub end_left : {Fixed : Type 0} (id : Id) (p : List Entry) (a : Seen Fixed) (k : Plan) (p' : List Entry) (b : Seen Fixed) → end_plan id p ≡ k → PlanFollowsHost k p a Done p' b → StepLeft id p p'
end_left id p a k p' b is led = left_done id k p _ _ _ p' _ _ _ (rw is at (end_of id p)) (led k p a None None (ran-none k p a None)).led

-- whatever is answered
pub send_left : {A E : Type 0} (Left : Type 0) (r : Result A E) (id : Id) (ask : Ask) (p p' : List Entry) → OnOk r (PlanFollowsAlone (send_plan id (sends_of ask) p) p Done p') → OnErr r (Left × p' ≡ p) → StepLeft id p p'
send_left Left (Ok a) id ask p p' ok err = left_done id (send_plan id (sends_of ask) p) p None None 0 p' None None 0 (send_of id ask p) (ok _ p None None 0 None None 0 PlanHere)
send_left Left (Err a) id ask p p' ok err = rw err.1 (left_same id p)
