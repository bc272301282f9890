-- The end of all jobs.
use Rattle.std.proofs.Common.{◌≡◌, ℕ, Bool, true, false, List, [], ◌∷◌, ◌++◌, append_assoc, refl, ap, sym, subst, ◌∙◌}
use Rattle.std.specs.Prelude.{Option, None, map}
use Rattle.std.specs.List.{AllByRecursion}
use Rattle.std.proofs.lemmas.List.{append-nil}
use Rattle.wx_control.specs.declared.id.Id.{Id}
use Rattle.wx_journal.specs.declared.entry.Entry.{Entry}
use Rattle.wx_journal.specs.Names.{NamesItsOwn}
use Rattle.wx_journal.specs.Told.{is_world}
use Rattle.wx_machine.specs.History.{lives}
use Rattle.wx_machine.specs.Table.{Plan, Done, end_plan}
use Rattle.wx_machine.specs.Case.{PlanAdmits, PlanLeads, PlanHere, PlanThen}
use Rattle.wx_machine.specs.Leaves.{LeavesOthers}
use Rattle.wx_hooks.specs.declared.held.Held.{Held}
use Rattle.wx_machine.specs.Start.{Start}
use Rattle.wx_machine.specs.Jobs.{set, jobs}
use Rattle.wx_machine.specs.Due.{agenda, Ends}
use Rattle.wx_machine.specs.Leads.{Follows}
use Rattle.wx_machine.specs.Answer.{Dying, Alive}
use Rattle.wx_machine.proofs.AllJobs.{none_by_end}
use Rattle.wx_machine.proofs.EndLaws.{AreGone, end_leads, next_to_end, none_left, still_gone, dying_then, dying_ends}
use Rattle.wx_machine.specs.Told.{TellsOn}
use Rattle.wx_hooks.specs.JobsStand.{HeldStands, JobsStand, AreDistinct, held_id}
use Rattle.wx_hooks.proofs.JobsLemmas.{same_held, tasks_others}
use Rattle.wx_hooks.proofs.QuietLemmas.{still_led}

-- what the end of some jobs did
pub record Ended (q : List Entry) (told : Option (List Entry)) (p : List Entry) (told' : Option (List Entry)) : Type 0 where
  pub dying : Dying q p
  pub world_told : TellsOn is_world q told p told'
  pub follows : (s : Start) → agenda s q ≡ Ends → (hooks : Option (List Entry)) → Follows s q told hooks p told' hooks

pub ended_none : (q : List Entry) (told : Option (List Entry)) → Ended q told q told
ended_none q told = record { dying = Alive; world_told = λ before is. is; follows = λ s due hooks p₀ world₀ hooks₀ l. l }

pub ended_then : (q p r : List Entry) (told told' told'' : Option (List Entry)) → Ended q told p told' → Ended p told' r told'' → Ended q told r told''
ended_then q p r told told' told'' a b = record {
  dying = dying_then q p r a.dying b.dying;
  world_told = λ before is. b.world_told before (a.world_told before is);
  follows = λ s due hooks p₀ world₀ hooks₀ l. b.follows s (dying_ends s q p a.dying due) hooks p₀ world₀ hooks₀ (a.follows s due hooks p₀ world₀ hooks₀ l);
}

-- a job ended
record OneEnded (id : Id) (p : List Entry) (told : Option (List Entry)) (p' : List Entry) (told' : Option (List Entry)) : Type 0 where
  done : Ended p told p' told'
  dead : lives id p' ≡ false

-- where nothing is owed, nothing is done
record NothingDone (k' : Plan) (p : List Entry) (told : Option (List Entry)) (p' : List Entry) (told' : Option (List Entry)) : Type 0 where
  owed : k' ≡ Done
  same_past : p' ≡ p
  same_told : told' ≡ told

nothing : (p : List Entry) (told hooks : Option (List Entry)) (n : ℕ) (k' : Plan) (p' : List Entry) (told' hooks' : Option (List Entry)) (n' : ℕ) → PlanLeads Done p told hooks n k' p' told' hooks' n' → NothingDone k' p told p' told'
nothing p told hooks n k' p' told' hooks' n' l = elim l as (λ k' p' told' hooks' n' _. NothingDone k' p told p' told') [
  | PlanHere ↦ record { owed = refl; same_past = refl; same_told = refl }
  | PlanThen e k₁ p₁ told₁ hooks₁ n₁ n₂ (l → h) d counts ↦ absurd (subst (λ (k : Plan). PlanAdmits p₁ k e) h.owed d)
]

one_ended : (id : Id) (before after : List Id) (p : List Entry) (told : Option (List Entry)) (n : ℕ) (p' : List Entry) (told' : Option (List Entry)) (n' : ℕ) (b : Bool) → lives id p ≡ b → set p ≡ before ++ id ∷ after → AreGone p before
    → ((hooks : Option (List Entry)) → PlanLeads (end_plan id p) p told hooks n Done p' told' hooks n') → OneEnded id p told p' told'
one_ended id before after p told n p' told' n' true alive is gone led =
    let first = next_to_end p before id after is gone alive in
    let h = λ (hooks : Option (List Entry)). end_leads id _ p told hooks n p' told' hooks n' first (led hooks) in
    record {
      done = record { dying = (h None).dying; world_told = (h None).world_told; follows = λ s due hooks. (h hooks).follows s due };
      dead = (h None).dead;
    }
one_ended id before after p told n p' told' n' false alive is gone led =
    let none : end_plan id p ≡ Done = rw alive refl in
    let h = nothing p told None n Done p' told' None n' (rw none at (led None)) in
    rw (h.same_past, h.same_told) (record { done = ended_none p told; dead = alive })

-- ---- one of the held jobs after the other

-- these jobs are left, and those that came before them are gone
pub record Ending (q : List Entry) (told : Option (List Entry)) (rest : List Held) (p : List Entry) (told' : Option (List Entry)) : Type 0 where
  pub done : Ended q told p told'
  pub own : NamesItsOwn p
  pub before : List Id
  pub ids_are : set p ≡ before ++ map held_id rest
  pub gone : AreGone p before
  pub tasks_stand : AllByRecursion (HeldStands p) rest
  pub ids_apart : AreDistinct (map held_id rest)

gone_more : (p : List Entry) (before : List Id) (id : Id) → AreGone p before → lives id p ≡ false → AreGone p (before ++ id ∷ [])
gone_more p [] id gone dead = (dead, tt)
gone_more p (x ∷ before) id gone dead = (gone.0, gone_more p before id gone.1 dead)

pub ending_starts : (q : List Entry) (told : Option (List Entry)) (hs : List Held) → NamesItsOwn q → JobsStand q hs → Ending q told hs q told
ending_starts q told hs own jobs = record { done = ended_none q told; own = own; before = []; ids_are = sym jobs.ids_are; gone = tt; tasks_stand = jobs.tasks_stand; ids_apart = jobs.ids_apart }

pub ending_goes : (s : Start) (q : List Entry) (told : Option (List Entry)) (h : Held) (rest : List Held) (p p' : List Entry) (told' told'' : Option (List Entry)) (m m' : ℕ) → Ending q told (h ∷ rest) p told'
    → LeavesOthers (held_id h) p p' → ((hooks : Option (List Entry)) → PlanLeads (end_plan (held_id h) p) p told' hooks m Done p' told'' hooks m') → Ending q told rest p' told''
ending_goes s q told h rest p p' told' told'' m m' e leaves led =
    let still = (still_led (end_plan (held_id h) p) p told' None m Done p' told'' None m' (none_by_end (held_id h) p) (led None)).still in
    let one = one_ended (held_id h) e.before (map held_id rest) p told' m p' told'' m' (lives (held_id h) p) refl e.ids_are e.gone led in
    record {
      done = ended_then q p p' told told' told'' e.done one.done;
      own = leaves.own;
      before = e.before ++ held_id h ∷ [];
      ids_are = still.set_same ∙ e.ids_are ∙ sym (append_assoc e.before (held_id h ∷ []) (map held_id rest));
      gone = gone_more p' e.before (held_id h) (still_gone s p p' e.before one.done.dying e.gone) one.dead;
      tasks_stand = tasks_others (held_id h) p p' rest (λ x ne st. same_held p p' x (leaves.others (held_id x) ne) st) e.ids_apart.0 e.tasks_stand.1;
      ids_apart = e.ids_apart.1;
    }

pub ending_ends : (q : List Entry) (told : Option (List Entry)) (rest : List Held) (p : List Entry) (told' : Option (List Entry)) → rest ≡ [] → Ending q told rest p told' → jobs p ≡ []
ending_ends q told rest p told' none e =
    let all : set p ≡ e.before = e.ids_are ∙ ap (λ (hs : List Held). e.before ++ map held_id hs) none ∙ append-nil e.before in
    none_left p (subst (AreGone p) (sym all) e.gone)
