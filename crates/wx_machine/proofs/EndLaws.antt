-- The end of a run: what holds of a journal holds of it with entries of its end on top.
use Rattle.std.proofs.Common.{◌≡◌, ℕ, Bool, true, false, List, [], ◌∷◌, ◌++◌, inl, refl, ap, sym, subst, ◌∙◌, eq-eqb}
use Rattle.std.specs.Prelude.{Option, None, Some, not}
use Rattle.std.specs.List.{AllByRecursion, filter}
use Rattle.std.proofs.lemmas.Bool.{and_right}
use Rattle.wx_control.specs.declared.id.Id.{Id}
use Rattle.wx_journal.specs.declared.entry.Entry.{Entry}
use Rattle.wx_journal.specs.declared.entry.Entry.TheVariants.{Dropped, Gone}
use Rattle.wx_journal.specs.Names.{NamesItsOwn}
use Rattle.wx_journal.specs.Told.{tell_if, is_world, is_hooks, anywhere}
use Rattle.wx_machine.specs.History.{same, lives, child, unless, command}
use Rattle.wx_machine.specs.TicketLaws.{IsPlaced}
use Rattle.wx_machine.specs.Table.{Plan, Done, adds, drop_plan, end_plan}
use Rattle.wx_machine.specs.Case.{PlanAdmits, next, PlanLeads, PlanHere, PlanThen}
use Rattle.wx_machine.proofs.Owners.{self}
use Rattle.wx_machine.specs.Told.{TellsOn}
use Rattle.wx_machine.specs.Start.{Start}
use Rattle.wx_machine.specs.Journal.{window}
use Rattle.wx_machine.specs.Jobs.{set, jobs, first_end, end}
use Rattle.wx_machine.specs.Due.{Agenda, Ends, settle, agenda, Admits, Due, rest, IsRun}
use Rattle.wx_machine.specs.Answer.{Dying, Alive, Dies}
use Rattle.wx_machine.specs.RunLaws.{IsBatched, AreBatches, NoneUrgentWaits, NoneUnseenIsShown, NoneIsShownClosed, AreMadeByRule, AreServed, AreRevised}
use Rattle.wx_machine.specs.FileLaws.{AreWatchedByRule, UnmadeEnds}
use Rattle.wx_machine.specs.Kept.{StaysQuiet, More}
use Rattle.wx_machine.specs.Leads.{Follows, Then}
use Rattle.wx_machine.specs.Turns.{SameTurns, StaysInTurn}
use Rattle.wx_machine.proofs.PlanLaws.{of_end, end_is_plan, end_placed, names_end}
use Rattle.wx_machine.proofs.Lawful.{IsOfEnd}
use Rattle.wx_machine.proofs.Orderly.{GoneRunNone}
use Rattle.wx_machine.proofs.RunLaws.{gone_gone, free_end}
use Rattle.wx_machine.proofs.AllJobs.{agenda_plan, turns_plan, same_turns}
use Rattle.wx_machine.proofs.JobSets.{IsIn, of_filter, in_jobs}

-- ---- what an end leaves

-- what holds of the first journal holds of the second
pub record KeepsAll (s : Start) (q p : List Entry) : Type 0 where
  pub batched : IsBatched q → IsBatched p
  pub batches : AreBatches s q → AreBatches s p
  pub calm : NoneUrgentWaits q → NoneUrgentWaits p
  pub shows : NoneUnseenIsShown q → NoneUnseenIsShown p
  pub shows_open : NoneIsShownClosed q → NoneIsShownClosed p
  pub made_by_rule : AreMadeByRule q → AreMadeByRule p
  pub placed : IsPlaced q → IsPlaced p
  pub served : AreServed s q → AreServed s p
  pub revised : AreRevised s q → AreRevised s p
  pub watched : AreWatchedByRule s q → AreWatchedByRule s p
  pub ends_unmade : UnmadeEnds q → UnmadeEnds p
  pub same_window : window p ≡ window q
  pub turns : StaysInTurn q p
  pub own : NamesItsOwn q → NamesItsOwn p
  pub quiet : StaysQuiet q p
  pub same_set : set p ≡ set q
  pub commands : (id : Id) → command id p ≡ command id q
  pub gone : (id : Id) → lives id q ≡ false → lives id p ≡ false

keeps_one : (s : Start) (p : List Entry) (e : Entry) → IsOfEnd e → (NamesItsOwn p → NamesItsOwn (e ∷ p)) → KeepsAll s p (e ∷ p)
keeps_one s p (Dropped c) o own = record {
  batched = λ h. h;
  batches = λ h. h;
  calm = λ h. h;
  shows = λ h. h;
  shows_open = λ h. h;
  made_by_rule = λ h. h;
  placed = end_placed (Dropped c) p tt;
  served = λ h. h;
  revised = λ h. h;
  watched = λ h. h;
  ends_unmade = λ h. (λ is. refl, h);
  same_window = refl;
  turns = λ p₀ h. turns_plan (Dropped c) p₀ p tt h;
  own = own;
  quiet = λ p₀ a. More (Dropped c) p a refl;
  same_set = refl;
  commands = λ id. refl;
  gone = λ id h. h;
}
keeps_one s p (Gone job) o own = record {
  batched = λ h. h;
  batches = λ h. h;
  calm = λ h. h;
  shows = λ h. h;
  shows_open = λ h. h;
  made_by_rule = λ h. h;
  placed = end_placed (Gone job) p tt;
  served = λ h. h;
  revised = λ h. h;
  watched = λ h. h;
  ends_unmade = λ h. (λ is. refl, h);
  same_window = refl;
  turns = λ p₀ h. turns_plan (Gone job) p₀ p tt h;
  own = own;
  quiet = λ p₀ a. More (Gone job) p a refl;
  same_set = refl;
  commands = λ id. refl;
  gone = λ id h. and_right (not (same job id)) (lives id p) h;
}
keeps_one s p (_) o own = absurd o

keeps_then : (s : Start) (q p r : List Entry) → KeepsAll s q p → KeepsAll s p r → KeepsAll s q r
keeps_then s q p r a b = record {
  batched = λ h. b.batched (a.batched h);
  batches = λ h. b.batches (a.batches h);
  calm = λ h. b.calm (a.calm h);
  shows = λ h. b.shows (a.shows h);
  shows_open = λ h. b.shows_open (a.shows_open h);
  made_by_rule = λ h. b.made_by_rule (a.made_by_rule h);
  placed = λ h. b.placed (a.placed h);
  served = λ h. b.served (a.served h);
  revised = λ h. b.revised (a.revised h);
  watched = λ h. b.watched (a.watched h);
  ends_unmade = λ h. b.ends_unmade (a.ends_unmade h);
  same_window = b.same_window ∙ a.same_window;
  turns = λ p₀ h. b.turns p₀ (a.turns p₀ h);
  own = λ h. b.own (a.own h);
  quiet = λ p₀ g. b.quiet p₀ (a.quiet p₀ g);
  same_set = b.same_set ∙ a.same_set;
  commands = λ id. b.commands id ∙ a.commands id;
  gone = λ id h. b.gone id (a.gone id h);
}

pub dying_keeps : (s : Start) (q p : List Entry) → Dying q p → KeepsAll s q p
dying_keeps s q p l = elim l as (λ p _. KeepsAll s q p) [
  | Alive ↦ record { batched = λ h. h; batches = λ h. h; calm = λ h. h; shows = λ h. h; shows_open = λ h. h; made_by_rule = λ h. h; placed = λ h. h; served = λ h. h; revised = λ h. h; watched = λ h. h; ends_unmade = λ h. h; same_window = refl; turns = λ p₀ h. h; own = λ h. h; quiet = λ p₀ a. a; same_set = refl; commands = λ id. refl; gone = λ id h. h }
  | Dies e p (l → h) d ↦ keeps_then s q p (e ∷ p) h (keeps_one s p e (of_end p e d) (λ own. (names_end p e own d, own)))
]

-- the turns are those before the end
pub dying_turns : (s : Start) (q p : List Entry) → Dying q p → SameTurns q p
dying_turns s q p l = (dying_keeps s q p l).turns q (same_turns q)

-- ---- the end of a run that was not broken off

end_due : (s : Start) (p : List Entry) (e : Entry) → agenda s p ≡ Ends → PlanAdmits p (end p) e → Due s p e
end_due s p e due d = subst (λ (k : Agenda). Admits s p k e) (sym due) d

ends_on : (s : Start) (p : List Entry) (e : Entry) → agenda s p ≡ Ends → PlanAdmits p (end p) e → agenda s (e ∷ p) ≡ Ends
ends_on s p e due d = agenda_plan s p e (end_is_plan e (of_end p e d)) ∙ ap (λ (k : Agenda). settle (e ∷ p) (rest e k)) due

pub dying_ends : (s : Start) (q p : List Entry) → Dying q p → agenda s q ≡ Ends → agenda s p ≡ Ends
dying_ends s q p l due = elim l as (λ p _. agenda s p ≡ Ends) [
  | Alive ↦ due
  | Dies e p (l → h) d ↦ ends_on s p e h d
]

pub dying_run : (s : Start) (q p : List Entry) → Dying q p → IsRun s q → agenda s q ≡ Ends → IsRun s p
dying_run s q p l r due = elim l as (λ p _. IsRun s p) [
  | Alive ↦ r
  | Dies e p (l → h) d ↦ (end_due s p e (dying_ends s q p l due) d, h)
]

pub dying_then : (p q r : List Entry) → Dying p q → Dying q r → Dying p r
dying_then p q r first second = elim second as (λ r _. Dying p r) [
  | Alive ↦ first
  | Dies e r (l → h) d ↦ Dies e r h d
]

-- ---- the end of one job, as its plan says

record TellsBoth (p : List Entry) (host hooks : Option (List Entry)) (p' : List Entry) (host' hooks' : Option (List Entry)) : Type 0 where
  of_world : TellsOn is_world p host p' host'
  of_hooks : TellsOn (anywhere is_hooks) p hooks p' hooks'

tells_both : (k : Plan) (p : List Entry) (host hooks : Option (List Entry)) (n : ℕ) (k' : Plan) (p' : List Entry) (host' hooks' : Option (List Entry)) (n' : ℕ) → PlanLeads k p host hooks n k' p' host' hooks' n' → TellsBoth p host hooks p' host' hooks'
tells_both k p host hooks n k' p' host' hooks' n' l = elim l as (λ k' p' host' hooks' n' _. TellsBoth p host hooks p' host' hooks') [
  | PlanHere ↦ record { of_world = λ before is. is; of_hooks = λ before is. is }
  | PlanThen e k₁ p₁ host₁ hooks₁ n₁ n₂ (l → h) d counts ↦
      record { of_world = λ before is. ap (tell_if (is_world p₁ e) e) (h.of_world before is); of_hooks = λ before is. ap (tell_if (is_hooks e) e) (h.of_hooks before is) }
]

-- what is told while a plan is followed
pub world_told : (k : Plan) (p : List Entry) (host hooks : Option (List Entry)) (n : ℕ) (k' : Plan) (p' : List Entry) (host' hooks' : Option (List Entry)) (n' : ℕ) → PlanLeads k p host hooks n k' p' host' hooks' n' → TellsOn is_world p host p' host'
world_told k p host hooks n k' p' host' hooks' n' l = (tells_both k p host hooks n k' p' host' hooks' n' l).of_world

pub hooks_told : (k : Plan) (p : List Entry) (host hooks : Option (List Entry)) (n : ℕ) (k' : Plan) (p' : List Entry) (host' hooks' : Option (List Entry)) (n' : ℕ) → PlanLeads k p host hooks n k' p' host' hooks' n' → TellsOn (anywhere is_hooks) p hooks p' hooks'
hooks_told k p host hooks n k' p' host' hooks' n' l = (tells_both k p host hooks n k' p' host' hooks' n' l).of_hooks

-- the first job that lives has ended
pub record HasEnded (id : Id) (p : List Entry) (host hooks : Option (List Entry)) (p' : List Entry) (host' hooks' : Option (List Entry)) : Type 0 where
  pub dying : Dying p p'
  pub dead : lives id p' ≡ false
  pub world_told : TellsOn is_world p host p' host'
  pub hooks_told : TellsOn (anywhere is_hooks) p hooks p' hooks'
  pub follows : (s : Start) → agenda s p ≡ Ends → Follows s p host hooks p' host' hooks'

-- what is left of the end of a job: nothing where it is gone, else its end from here
abbrev OwesEnd : Id → List Id → List Entry → Plan → Type 0
OwesEnd id ids p Done = lives id p ≡ false
OwesEnd id ids p (k) = (jobs p ≡ id ∷ ids) × (lives id p ≡ true) × (k ≡ end_plan id p)

owes_drop : (id : Id) (ids : List Id) (p : List Entry) (running : Option ℕ) → child id p ≡ running → jobs p ≡ id ∷ ids → lives id p ≡ true → OwesEnd id ids p (drop_plan running (adds (Gone id) Done))
owes_drop id ids p None runs first alive = (first, alive, rw (alive, runs) refl)
owes_drop id ids p (Some c) runs first alive = (first, alive, rw (alive, runs) refl)

end_plan_is : (id : Id) (p : List Entry) → lives id p ≡ true → end_plan id p ≡ drop_plan (child id p) (adds (Gone id) Done)
end_plan_is id p alive = rw alive refl

owes_first : (id : Id) (ids : List Id) (p : List Entry) → jobs p ≡ id ∷ ids → lives id p ≡ true → OwesEnd id ids p (end_plan id p)
owes_first id ids p first alive = subst (OwesEnd id ids p) (sym (end_plan_is id p alive)) (owes_drop id ids p (child id p) refl first alive)

-- such a plan is that of the end
owed_end : (id : Id) (ids : List Id) (p : List Entry) (k : Plan) (e : Entry) → OwesEnd id ids p k → PlanAdmits p k e → PlanAdmits p (end p) e
owed_end id ids p Done e o d = absurd d
owed_end id ids p (k) e o d = subst (λ (j : Plan). PlanAdmits p j e) (o.2 ∙ sym (ap (λ js. first_end js p) o.0)) d

next_drop : (id : Id) (ids : List Id) (p : List Entry) (running : Option ℕ) (e : Entry) → child id p ≡ running → jobs p ≡ id ∷ ids → lives id p ≡ true → PlanAdmits p (drop_plan running (adds (Gone id) Done)) e → OwesEnd id ids (e ∷ p) (next (drop_plan running (adds (Gone id) Done)) e)
next_drop id ids p None e runs first alive d = rw d.1 (rw (self id) refl)
next_drop id ids p (Some c) e runs first alive d = rw d.1 (first, alive, rw (alive, runs, eq-eqb c c refl) refl)

next_owed : (id : Id) (ids : List Id) (p : List Entry) (k : Plan) (e : Entry) → OwesEnd id ids p k → PlanAdmits p k e → OwesEnd id ids (e ∷ p) (next k e)
next_owed id ids p Done e o d = absurd d
next_owed id ids p (k) e o d =
    let is : k ≡ drop_plan (child id p) (adds (Gone id) Done) = o.2 ∙ end_plan_is id p o.1 in
    subst (λ (j : Plan). OwesEnd id ids (e ∷ p) (next j e)) (sym is) (next_drop id ids p (child id p) e refl o.0 o.1 (subst (λ (j : Plan). PlanAdmits p j e) is d))

-- on the way to the end of a job
record IsOnTheWay (id : Id) (ids : List Id) (p : List Entry) (host hooks : Option (List Entry)) (k : Plan) (p' : List Entry) (host' hooks' : Option (List Entry)) : Type 0 where
  dying : Dying p p'
  owes : OwesEnd id ids p' k
  world_told : TellsOn is_world p host p' host'
  hooks_told : TellsOn (anywhere is_hooks) p hooks p' hooks'
  follows : (s : Start) → agenda s p ≡ Ends → Follows s p host hooks p' host' hooks'

way_on : (id : Id) (ids : List Id) (p : List Entry) (host hooks : Option (List Entry)) (k : Plan) (q : List Entry) (host' hooks' : Option (List Entry)) (e : Entry) → PlanAdmits q k e → IsOnTheWay id ids p host hooks k q host' hooks' → IsOnTheWay id ids p host hooks (next k e) (e ∷ q) (tell_if (is_world q e) e host') (tell_if (is_hooks e) e hooks')
way_on id ids p host hooks k q host' hooks' e d h =
    let of : PlanAdmits q (end q) e = owed_end id ids q k e h.owes d in record {
      dying = Dies e q h.dying of;
      owes = next_owed id ids q k e h.owes d;
      world_told = λ before is. ap (tell_if (is_world q e) e) (h.world_told before is);
      hooks_told = λ before is. ap (tell_if (is_hooks e) e) (h.hooks_told before is);
      follows = λ s due p₀ world₀ hooks₀ l. Then e q host' hooks' (h.follows s due p₀ world₀ hooks₀ l) (end_due s q e (dying_ends s p q h.dying due) of);
    }

way : (id : Id) (ids : List Id) (p : List Entry) (host hooks : Option (List Entry)) (n : ℕ) (k' : Plan) (p' : List Entry) (host' hooks' : Option (List Entry)) (n' : ℕ) → PlanLeads (end_plan id p) p host hooks n k' p' host' hooks' n' → jobs p ≡ id ∷ ids → lives id p ≡ true → IsOnTheWay id ids p host hooks k' p' host' hooks'
way id ids p host hooks n k' p' host' hooks' n' l first alive = elim l as (λ k' p' host' hooks' n' _. IsOnTheWay id ids p host hooks k' p' host' hooks') [
  | PlanHere ↦ record { dying = Alive; owes = owes_first id ids p first alive; world_told = λ before is. is; hooks_told = λ before is. is; follows = λ s due p₀ world₀ hooks₀ l. l }
  | PlanThen e k₁ p₁ host₁ hooks₁ n₁ n₂ (l → h) d counts ↦ way_on id ids p host hooks k₁ p₁ host₁ hooks₁ e d h
]

pub end_leads : (id : Id) (ids : List Id) (p : List Entry) (host hooks : Option (List Entry)) (n : ℕ) (p' : List Entry) (host' hooks' : Option (List Entry)) (n' : ℕ) → jobs p ≡ id ∷ ids → PlanLeads (end_plan id p) p host hooks n Done p' host' hooks' n' → HasEnded id p host hooks p' host' hooks'
end_leads id ids p host hooks n p' host' hooks' n' first l =
    let here : IsIn id (jobs p) = subst (IsIn id) (sym first) (inl refl) in
    let h = way id ids p host hooks n Done p' host' hooks' n' l first (of_filter (λ job. lives job p) id (set p) here).1 in record {
      dying = h.dying;
      dead = h.owes;
      world_told = h.world_told;
      hooks_told = h.hooks_told;
      follows = h.follows;
    }

-- ---- which job is the first that lives

abbrev pub AreGone : List Entry → List Id → Type 0
AreGone p ids = AllByRecursion (λ id. lives id p ≡ false) ids

first_living : (p : List Entry) (before : List Id) (id : Id) (after : List Id) → AreGone p before → lives id p ≡ true → filter (λ job. lives job p) (before ++ id ∷ after) ≡ id ∷ filter (λ job. lives job p) after
first_living p [] id after gone alive = rw alive refl
first_living p (job ∷ before) id after gone alive = rw gone.0 (first_living p before id after gone.1 alive)

pub next_to_end : (p : List Entry) (before : List Id) (id : Id) (after : List Id) → set p ≡ before ++ id ∷ after → AreGone p before → lives id p ≡ true → jobs p ≡ id ∷ filter (λ job. lives job p) after
next_to_end p before id after is gone alive = ap (filter (λ job. lives job p)) is ∙ first_living p before id after gone alive

none_living : (p : List Entry) (ids : List Id) → AreGone p ids → filter (λ job. lives job p) ids ≡ []
none_living p [] gone = refl
none_living p (id ∷ ids) gone = rw gone.0 (none_living p ids gone.1)

pub none_left : (p : List Entry) → AreGone p (set p) → jobs p ≡ []
none_left p gone = none_living p (set p) gone

pub still_gone : (s : Start) (q p : List Entry) (ids : List Id) → Dying q p → AreGone q ids → AreGone p ids
still_gone s q p [] l gone = tt
still_gone s q p (id ∷ ids) l gone = ((dying_keeps s q p l).gone id gone.0, still_gone s q p ids l gone.1)

-- ---- no child runs whose job is gone

-- the end of a run that was broken off keeps this
none_one : (p : List Entry) (e : Entry) → IsOfEnd e → PlanAdmits p (end p) e → GoneRunNone p → GoneRunNone (e ∷ p)
none_one p (Dropped c) o d h id e = ap (unless c) (h id e)
none_one p (Gone job) o d h id e = gone_gone p job id (same job id) refl e (free_end p (Gone job) d) (h id)
none_one p (_) o d h id e = absurd o

pub dying_none : (q p : List Entry) → Dying q p → GoneRunNone q → GoneRunNone p
dying_none q p l start = elim l as (λ p _. GoneRunNone p) [
  | Alive ↦ start
  | Dies e p (l → h) d ↦ none_one p e (of_end p e d) d h
]

none_in : (id : Id) (p : List Entry) (b : Bool) → lives id p ≡ b → jobs p ≡ [] → b ≡ false
none_in id p true is none = absurd (subst (IsIn id) none (in_jobs id p is))
none_in id p false is none = refl

-- where no job lives no child of any job runs
pub no_child : (p : List Entry) (id : Id) → GoneRunNone p → jobs p ≡ [] → child id p ≡ None
no_child p id h none = h id (none_in id p (lives id p) refl none)
