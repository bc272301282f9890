-- In a run each child of a job is reaped before the next spawn, save a last one, and after the end no child runs.
use Rattle.std.proofs.Common.{◌≡◌, ℕ, Bool, true, false, cond, List, [], ◌∷◌, Ok, Err, inl, inr, refl, ap, sym, subst, ◌∙◌}
use Rattle.std.specs.Prelude.{Option, None, Some, ◌&&◌, ◌||◌, not}
use Rattle.wx_control.specs.declared.id.Id.{Id}
use Rattle.wx_journal.specs.declared.entry.Entry.{Entry}
use Rattle.wx_journal.specs.declared.entry.Entry.TheVariants.{Made, Asked, GraceOver, Spawn, Signal, Dropped, Gone}
use Rattle.wx_journal.specs.Sorts.{sort}
use Rattle.wx_journal.specs.Names.{NamesItsOwn}
use Rattle.wx_machine.specs.History.{same, lives, child, unless, reaped_child, still_running, is_child}
use Rattle.wx_machine.specs.Table.{Plan, Done, adds, drop_plan}
use Rattle.wx_machine.specs.Case.{PlanAdmits, next}
use Rattle.wx_machine.specs.JobLaws.{unreaped, AreReaped, IsReaping, Earlier, EachIsReaping, AfterFaults, NamesChildren, NamesTickets}
use Rattle.wx_machine.specs.Afterwards.{GoesOnAfterFaults}
use Rattle.wx_machine.proofs.Owners.{self, same-is, children_named, is_child_some}
use Rattle.wx_machine.proofs.Tickets.{tickets_named}
use Rattle.wx_machine.proofs.Sound.{RunsIn, Goes, goes_gone, gone_child, after_fault, goes_on}
use Rattle.wx_machine.proofs.AfterwardsLemmas.{GoesBy}
use Rattle.wx_error.specs.declared.error.CriticalError.TheVariants.{IoError, Memory}
use Rattle.wx_machine.specs.Start.{Start}
use Rattle.wx_machine.specs.Jobs.{jobs, first_end}
use Rattle.wx_machine.specs.Due.{Agenda, Open, Comes, Steps, Plans, Ends, Breaks, Admits, plans, rest, settle, agenda, Due, IsRun}
use Rattle.wx_journal.specs.Lines.{Answer}
use Rattle.wx_machine.specs.Answer.{Dying, Alive, Dies, IsComplete, IsBroken, Wishes, MemoryCuts, Answers}
use Rattle.wx_machine.proofs.Orderly.{IsFit, GoneRunNone}
use Rattle.wx_machine.proofs.RunLaws.{brought, came, orderly, free, free_end}
use Rattle.wx_machine.proofs.AllJobs.{one_parent}
use Rattle.wx_machine.proofs.JobSets.{IsIn, in_jobs, may_dead}
use Rattle.wx_machine.proofs.PlanLaws.{lawful_now, of_end}
use Rattle.wx_machine.proofs.Lawful.{InOrder, IsOfEnd, IsFree}
use Rattle.wx_machine.proofs.EndLaws.{dying_none, no_child}

-- ---- a child that was let go

-- the newest entry lets the child of this job go: what comes next is that the job is gone
abbrev pub is_let_go : Id → List Entry → Bool
is_let_go id (Dropped c ∷ p) = is_child c (child id p)
is_let_go id (_) = false

-- Each child of a job was reaped before the next spawn, in each of its histories. While the job lives a last one that wasn't is the
-- one that runs, but for where this was just let go, and then nothing is due but that the job is gone.
pub record IsReaped (s : Start) (p : List Entry) : Type 0 where
  pub before : (id : Id) → Earlier id (IsReaping id) p
  pub each : (id : Id) → AreReaped id p
  pub last : (id : Id) → lives id p ≡ true → is_let_go id p ≡ false → unreaped id p ≡ child id p
  pub next : (id : Id) → is_let_go id p ≡ true → (e : Entry) → Due s p e → e ≡ Gone id

-- behind a plan that says next that a job is gone
goes_next : (s : Start) (id : Id) (k : Plan) (more : Agenda) (p : List Entry) (e : Entry) → Goes id k → Admits s p (settle p (plans k more)) e → e ≡ Gone id
goes_next s id Done more p e g d = absurd g
goes_next s id (k) more p e g d = goes_gone id p k e d g

-- behind an end that let the child of the first job go
dropped_by_plan : (p : List Entry) (id : Id) (b : Bool) (running : Option ℕ) (c : ℕ) → PlanAdmits p (cond b (drop_plan running (adds (Gone id) Done)) Done) (Dropped c) → running ≡ Some c
dropped_by_plan p id true None c d = absurd cc
dropped_by_plan p id true (Some x) c d = cc
dropped_by_plan p id false running c d = absurd d

gone_by_plan : (p : List Entry) (id : Id) (b : Bool) (running : Option ℕ) (e : Entry) → running ≡ None → PlanAdmits p (cond b (drop_plan running (adds (Gone id) Done)) Done) e → e ≡ Gone id
gone_by_plan p id true None e none d = d.1
gone_by_plan p id true (Some x) e none d = absurd cc
gone_by_plan p id false running e none d = absurd d

end_next : (p : List Entry) (ids : List Id) (c : ℕ) (id : Id) (e : Entry) → NamesItsOwn p → child id p ≡ Some c → PlanAdmits p (first_end ids p) (Dropped c) → PlanAdmits (Dropped c ∷ p) (first_end ids (Dropped c ∷ p)) e → e ≡ Gone id
end_next p [] c id e own its dropped d = absurd d
end_next p (job ∷ ids) c id e own its dropped d =
    let runs = dropped_by_plan p job (lives job p) (child job p) c dropped in
    let mine : job ≡ id = one_parent c id job p own its runs in
    gone_by_plan (Dropped c ∷ p) job (lives job p) (unless c (child job p)) e (gone_child c (child job p) runs) d ∙ ap (λ j. Gone j) mine

next_dropped : (s : Start) (p : List Entry) (k : Agenda) (c : ℕ) (id : Id) (e : Entry) → NamesItsOwn p → IsFit s p k → child id p ≡ Some c → Admits s p k (Dropped c) → Admits s (Dropped c ∷ p) (settle (Dropped c ∷ p) (rest (Dropped c) k)) e → e ≡ Gone id
next_dropped s p Open c id e own fit its dropped d = absurd dropped
next_dropped s p (Comes x more) c id e own fit its dropped d = absurd (brought s p x more (Dropped c) dropped fit)
next_dropped s p (Steps untouched more) c id e own fit its dropped d = absurd (came s p untouched more (Dropped c) dropped fit)
next_dropped s p (Plans k more) c id e own fit its dropped d =
    let go = (lawful_now p k (Dropped c) dropped fit.0).lets_go in
    let mine : go.0 ≡ id = one_parent c id go.0 p own its go.1 in
    goes_next s go.0 (next k (Dropped c)) more (Dropped c ∷ p) e go.2 d ∙ ap (λ j. Gone j) mine
next_dropped s p Ends c id e own fit its dropped d = end_next p (jobs p) c id e own its dropped d
next_dropped s p Breaks c id e own fit its dropped d = absurd dropped

-- ---- one entry more

-- before another entry than that its job is gone no child was let go
none_let_go : (s : Start) (p : List Entry) (e : Entry) (id : Id) (b : Bool) → is_let_go id p ≡ b → (e ≡ Gone id → ⊥) → Due s p e → IsReaped s p → is_let_go id p ≡ false
none_let_go s p e id true is other d h = absurd (other (h.next id is e d))
none_let_go s p e id false is other d h = is

last_before : (s : Start) (p : List Entry) (e : Entry) (id : Id) → (e ≡ Gone id → ⊥) → Due s p e → IsReaped s p → lives id p ≡ true → unreaped id p ≡ child id p
last_before s p e id other d h alive = h.last id alive (none_let_go s p e id (is_let_go id p) refl other d h)

last_made : (b l : Bool) (u c : Option ℕ) → (b || l) ≡ true → (l ≡ true → u ≡ c) → cond b None u ≡ cond b None c
last_made true l u c e h = refl
last_made false l u c e h = h e

unless_other : (c : ℕ) (running : Option ℕ) → is_child c running ≡ false → unless c running ≡ running
unless_other c None e = refl
unless_other c (Some d) e = rw e refl

alive_other : (a b : Bool) → (not a && b) ≡ true → (a ≡ false) × (b ≡ true)
alive_other true b e = absurd cc
alive_other false b e = (refl, e)

another : (job id : Id) → same job id ≡ false → Gone job ≡ Gone id → ⊥
another job id other is =
    let mine : job ≡ id = cc in
    let its : same job id ≡ true = subst (λ j. same job j ≡ true) mine (self job) in
    let both : true ≡ false = sym its ∙ other in absurd cc

-- where the job of the child is spawned for, no child of it is left
each_spawned : (s : Start) (p : List Entry) (e : Entry) (job : Id) → (e ≡ Gone job → ⊥) → Due s p e → IsReaped s p → (lives job p ≡ true) × (child job p ≡ None) → (id : Id) → same job id ≡ true → unreaped id p ≡ None
each_spawned s p e job other d h free id is = subst (λ j. unreaped j p ≡ None) (same-is job id is) (last_before s p e job other d h free.0 ∙ free.1)

-- a job that is made again doesn't live, so its children were reaped, and none runs
reaped_made : (s : Start) (p : List Entry) (job id : Id) → lives job p ≡ false → GoneRunNone p → IsReaped s p → same job id ≡ true → IsReaping id p
reaped_made s p job id dead idle h mine =
    let gone : lives id p ≡ false = subst (λ i. lives i p ≡ false) (same-is job id mine) dead in
    record { each = h.each id; last = λ alive. (let both : true ≡ false = sym alive ∙ gone in absurd cc); none = λ g. idle id gone }

reaps_on : (s : Start) (p : List Entry) (e : Entry) → NamesItsOwn p → InOrder p e → GoneRunNone p → IsFit s p (agenda s p) → Due s p e → IsReaped s p → IsReaped s (e ∷ p)
reaps_on s p (Made job) own may idle fit d h = record {
  before = λ id. (reaped_made s p job id (may_dead p job may) idle h, h.before id);
  each = λ id other. h.each id;
  last = λ id alive other. last_made (same job id) (lives id p) (unreaped id p) (child id p) alive (λ l. last_before s p (Made job) id (λ is. cc) d h l);
  next = λ id is. absurd cc;
}
reaps_on s p (Spawn c job tag what (Ok done)) own may idle fit d h =
    let free_is = free s p (agenda s p) (Spawn c job tag what (Ok done)) d fit own in record {
      before = h.before;
      each = λ id. (λ is. each_spawned s p (Spawn c job tag what (Ok done)) job (λ is. cc) d h free_is id is, h.each id);
      last = λ id alive other. ap (cond (same job id) (Some c)) (last_before s p (Spawn c job tag what (Ok done)) id (λ is. cc) d h alive);
      next = λ id is. absurd cc;
    }
reaps_on s p (Spawn c job tag what (Err fault)) own may idle fit d h =
    let free_is = free s p (agenda s p) (Spawn c job tag what (Err fault)) d fit own in record {
      before = h.before;
      each = λ id. (λ is. each_spawned s p (Spawn c job tag what (Err fault)) job (λ is. cc) d h free_is id is, h.each id);
      last = λ id alive other. last_before s p (Spawn c job tag what (Err fault)) id (λ is. cc) d h alive;
      next = λ id is. absurd cc;
    }
reaps_on s p (Dropped c) own may idle fit d h = record {
  before = h.before;
  each = h.each;
  last = λ id alive other. last_before s p (Dropped c) id (λ is. cc) d h alive ∙ sym (unless_other c (child id p) other);
  next = λ id is e due. next_dropped s p (agenda s p) c id e own fit (is_child_some c (child id p) is) d due;
}
reaps_on s p (Gone job) own may idle fit d h = record {
  before = h.before;
  each = h.each;
  last = λ id alive other. (let both = alive_other (same job id) (lives id p) alive in last_before s p (Gone job) id (another job id both.0) d h both.1);
  next = λ id is. absurd cc;
}
reaps_on s p (e) own may idle fit d h = record { before = h.before; each = h.each; last = λ id alive other. ap (still_running (reaped_child e)) (last_before s p e id (λ is. cc) d h alive); next = λ id is. absurd cc }

-- ---- whole runs

-- what holds of the children of every run, also where one was just let go
run_reaped : (s : Start) (p : List Entry) → IsRun s p → IsReaped s p
run_reaped s [] r = record { before = λ id. tt; each = λ id. tt; last = λ id alive other. refl; next = λ id is. absurd cc }
run_reaped s (e ∷ p) r = let o = orderly s p r.1 in reaps_on s p e o.own (orderly s (e ∷ p) r).in_order.0 o.idle o.fit r.0 (run_reaped s p r.1)

-- ---- what faults leave

free_runs : (e : Entry) (p : List Entry) → IsFree p e → RunsIn p (sort e).subject
free_runs (Spawn c job tag what answer) p f = tt
free_runs (Gone job) p f = tt
free_runs (GraceOver job) p f = tt
free_runs (Signal c number answer) p f = (f.0, f.1)
free_runs (Asked ticket job level control) p f = tt
free_runs (_) p f = f

run_after_faults : (s : Start) (p : List Entry) → IsRun s p → AfterFaults p
run_after_faults s [] r = tt
run_after_faults s (e ∷ p) r = let o = orderly s p r.1 in after_fault e p (free_runs e p (free s p (agenda s p) e r.0 o.fit o.own)) (run_after_faults s p r.1)

dying_after_faults : (q p : List Entry) → Dying q p → AfterFaults q → AfterFaults p
dying_after_faults q p l start = elim l as (λ p _. AfterFaults p) [
  | Alive ↦ start
  | Dies e p (l → h) d ↦ after_fault e p (free_runs e p (free_end p e d)) h
]

free_by : (e : Entry) (p : List Entry) → IsFree p e → GoesBy p e
free_by (GraceOver job) p f = f
free_by (Signal c number answer) p f = f
free_by (Asked ticket job level control) p f = f
free_by (_) p f = tt

run_goes_on : (s : Start) (p : List Entry) → IsRun s p → GoesOnAfterFaults p
run_goes_on s [] r = record { children = tt; tickets = tt; levels = tt; standing = λ id g e. cc; born = tt; over = tt }
run_goes_on s (e ∷ p) r =
    let before = orderly s p r.1 in
    let f = free s p (agenda s p) e r.0 before.fit before.own in
    let own = (orderly s (e ∷ p) r).own in
    goes_on e p (free_runs e p f) (free_by e p f) (children_named (e ∷ p) own) (tickets_named (e ∷ p) own) (run_goes_on s p r.1)

end_children : (e : Entry) (p : List Entry) → IsOfEnd e → NamesChildren p → NamesChildren (e ∷ p)
end_children (Dropped c) p o h = h
end_children (Gone job) p o h = h
end_children (_) p o h = absurd o

end_tickets : (e : Entry) (p : List Entry) → IsOfEnd e → NamesTickets p → NamesTickets (e ∷ p)
end_tickets (Dropped c) p o h = h
end_tickets (Gone job) p o h = h
end_tickets (_) p o h = absurd o

dying_goes_on : (q p : List Entry) → Dying q p → GoesOnAfterFaults q → GoesOnAfterFaults p
dying_goes_on q p l start = elim l as (λ p _. GoesOnAfterFaults p) [
  | Alive ↦ start
  | Dies e p (l → h) d ↦ (let f = free_end p e d in let o = of_end p e d in goes_on e p (free_runs e p f) (free_by e p f) (end_children e p o h.children) (end_tickets e p o h.tickets) h)
]

-- ---- after the end

each_end : (p : List Entry) (e : Entry) (id : Id) → IsOfEnd e → AreReaped id p → AreReaped id (e ∷ p)
each_end p (Dropped c) id o h = h
each_end p (Gone job) id o h = h
each_end p (_) id o h = absurd o

dying_each : (q p : List Entry) (id : Id) → Dying q p → AreReaped id q → AreReaped id p
dying_each q p id l start = elim l as (λ p _. AreReaped id p) [
  | Alive ↦ start
  | Dies e p (l → h) d ↦ each_end p e id (of_end p e d) h
]

before_end : (p : List Entry) (e : Entry) (id : Id) → IsOfEnd e → Earlier id (IsReaping id) p → Earlier id (IsReaping id) (e ∷ p)
before_end p (Dropped c) id o h = h
before_end p (Gone job) id o h = h
before_end p (_) id o h = absurd o

dying_before : (q p : List Entry) (id : Id) → Dying q p → Earlier id (IsReaping id) q → Earlier id (IsReaping id) p
dying_before q p id l start = elim l as (λ p _. Earlier id (IsReaping id) p) [
  | Alive ↦ start
  | Dies e p (l → h) d ↦ before_end p e id (of_end p e d) h
]

ended : (p : List Entry) (id : Id) → AreReaped id p → GoneRunNone p → jobs p ≡ [] → IsReaping id p
ended p id each gone none = record { each = each; last = λ alive. absurd (subst (IsIn id) none (in_jobs id p alive)); none = gone id }

-- The children of each job were reaped, and none runs. What faults left is as it must be.
pub record HasReaped (p : List Entry) : Type 0 where
  pub reaped : (id : Id) → EachIsReaping id p
  pub none : (id : Id) → child id p ≡ None
  pub failed : AfterFaults p
  pub afterwards : GoesOnAfterFaults p

has_reaped : (p : List Entry) → ((id : Id) → AreReaped id p) → ((id : Id) → Earlier id (IsReaping id) p) → GoneRunNone p → jobs p ≡ [] → AfterFaults p → GoesOnAfterFaults p → HasReaped p
has_reaped p each before gone none failed afterwards = record { reaped = λ id. record { now = ended p id (each id) gone none; before = before id }; none = λ id. no_child p id gone none; failed = failed; afterwards = afterwards }

complete_reaps : (s : Start) (p : List Entry) → IsComplete s p → HasReaped p
complete_reaps s p c = has_reaped p (run_reaped s p c.run).each (run_reaped s p c.run).before (orderly s p c.run).idle c.none (run_after_faults s p c.run) (run_goes_on s p c.run)

broken_reaps : (place : List Entry → Type 0) (s : Start) (p : List Entry) → IsBroken place s p → HasReaped p
broken_reaps place s p b =
    has_reaped p (λ id. dying_each b.before p id b.dying ((run_reaped s b.before b.run).each id)) (λ id. dying_before b.before p id b.dying ((run_reaped s b.before b.run).before id)) (dying_none b.before p b.dying (orderly s b.before b.run).idle) b.none
    (dying_after_faults b.before p b.dying (run_after_faults s b.before b.run)) (dying_goes_on b.before p b.dying (run_goes_on s b.before b.run))

-- whatever a run answers
pub ran_reaps : (s : Start) (p : List Entry) (answer : Answer) → Answers s p answer → HasReaped p
ran_reaps s p (Ok u) h = complete_reaps s p h.0
ran_reaps s p (Err (IoError about err)) (inl failed) = complete_reaps s p failed.complete
ran_reaps s p (Err (IoError about err)) (inr broken) = broken_reaps (Wishes (IoError about err)) s p broken
ran_reaps s p (Err Memory) h = broken_reaps (MemoryCuts s) s p h
ran_reaps s p (Err error) h = broken_reaps (Wishes error) s p h
