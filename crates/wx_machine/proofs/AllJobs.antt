-- The jobs of a run: their names, their commands, their children, and the plans that are followed for them.
use Rattle.std.proofs.Common.{◌≡◌, ◌≢◌, ℕ, ◌<◌, Bool, true, false, cond, List, [], ◌∷◌, ◌++◌, inl, inr, arith, refl, ap, sym, subst, ◌∙◌, eq-eqb, ne_eqb}
use Rattle.std.specs.Prelude.{Option, None, Some, ◌||◌, ◌&&◌, not}
use Rattle.std.specs.List.{filter, list_any}
use Rattle.std.proofs.lemmas.Bool.{eqb-false, or_left, or_right}
use Rattle.std.proofs.Math.Bool.{and-false}
use Rattle.wx_words.specs.OptionLaws.{neither}
use Rattle.wx_command.specs.declared.command.Command.{Command}
use Rattle.wx_control.specs.declared.id.Id.{Id}
use Rattle.wx_control.specs.declared.ask.Ask.{Ask}
use Rattle.wx_control.specs.declared.control.Control.{Control}
use Rattle.wx_control.specs.declared.level.Level.{Level}
use Rattle.wx_control.specs.Asks.{sends_of}
use Rattle.wx_journal.specs.Acts.{JournalAct as Act}
use Rattle.wx_journal.specs.declared.entry.Act.TheVariants.{Create}
use Rattle.wx_journal.specs.declared.entry.Entry.{Entry}
use Rattle.wx_journal.specs.declared.entry.Entry.TheVariants.{Turn as Turned, TurnFault, Hand, Made, Changed}
use Rattle.wx_journal.specs.Names.{creates, is_created, above, next_job, was_made, NamesItsOwn}
use Rattle.wx_journal.specs.Told.{tell_if, is_world, is_hooks, is_turn}
use Rattle.wx_machine.specs.History.{same, lives, child, is_child, creation, or_else, command, JobHistory}
use Rattle.wx_machine.specs.Leaves.{SameHistory}
use Rattle.wx_machine.specs.Table.{Plan, Done, step_plan, ask_second, ask_plan, end_plan}
use Rattle.wx_machine.specs.Case.{PlanAdmits, next, PlanLeads, PlanHere, PlanThen}
use Rattle.wx_machine.proofs.Owners.{self, same-is, children_named, child_owner, is_child_some}
use Rattle.wx_machine.proofs.Always.{Always, always_now, always_next, always_also}
use Rattle.wx_machine.proofs.Sound.{Fits, IsSound, Sound, sound_step, sound_end}
use Rattle.wx_machine.specs.Start.{Start}
use Rattle.wx_machine.specs.Jobs.{with_id, set, is_seen, UnseenRunNone, parent_among, parent, is_free, MayCreate, but, AreLawfulBy, AreLawful}
use Rattle.wx_machine.specs.Quits.{is_aborting}
use Rattle.wx_machine.proofs.SettleLaws.{aborting_over}
use Rattle.wx_machine.specs.Due.{Agenda, Admits, plans, rest, settle, agenda, Due}
use Rattle.wx_machine.specs.Kept.{StaysQuiet, More}
use Rattle.wx_machine.specs.Leads.{Follows, Then}
use Rattle.wx_machine.specs.Turns.{SameTurns, StaysInTurn}
use Rattle.wx_machine.proofs.PlanLaws.{plan_fit}
use Rattle.wx_machine.proofs.Lawful.{IsOfPlan}
use Rattle.wx_machine.proofs.RunLaws.{follow_plan}
use Rattle.wx_machine.proofs.JobSets.{IsIn, in_others, of_with, any_in, seen_in, in_filter, of_filter, all_in, above_one, above_others, set_rising}

-- ---- each job of the set has a command, which stays

-- an id that may be given is none that is taken
may_apart : (free : Id → Bool) (next : ℕ) (job id : Id) → MayCreate free next job → id.0 < next → free id ≡ false → same job id ≡ false
may_apart free next job id (inl is) lt taken = ne_eqb job.0 id.0 (λ e. absurd (omega (arith, is, lt)))
may_apart free next job id (inr e) lt taken = by_name (same job id) refl
  where
    by_name : (b : Bool) → same job id ≡ b → b ≡ false
    by_name true is = let both : true ≡ false = sym e ∙ ap free (same-is job id is) ∙ taken in absurd cc
    by_name false is = refl

but_taken : (job id : Id) (free : Id → Bool) → free id ≡ false → but job free id ≡ false
but_taken job id free taken = rw taken (and-false (not (same job id)))

apart_turned : (id job : Id) → same id job ≡ false → same job id ≡ false
apart_turned id job e = ne_eqb job.0 id.0 (λ is. absurd (eqb-false id.0 job.0 e (sym is)))

creation_none : (free : Id → Bool) (next : ℕ) (id : Id) (acts : List Act) → AreLawfulBy free next acts → id.0 < next → free id ≡ false → creation id acts ≡ None
creation_none free next id [] l lt taken = refl
creation_none free next id (Create job command ∷ acts) l lt taken =
    rw (may_apart free next job id l.0 lt taken) (creation_none (but job free) (above next job) id acts l.1 (above_others next id.0 job lt) (but_taken job id free taken))
creation_none free next id (_ ∷ acts) l lt taken = creation_none free next id acts l lt taken

seen_taken : (made seen : Bool) → seen ≡ true → (made && not seen) ≡ false
seen_taken true true e = refl
seen_taken false seen e = refl
seen_taken true false e = absurd cc

pub command_kept : (p : List Entry) (n : ℕ) (names : List ℕ) (acts : List Act) (id : Id) → AreLawful p acts → IsIn id (set p) → command id (Hand n names acts ∷ p) ≡ command id p
command_kept p n names acts id lawful here =
    ap (λ o. or_else o (command id p))
    (creation_none (is_free p) (next_job p) id acts lawful (all_in (λ job. job.0 < next_job p) id (set p) (set_rising p).below here) (seen_taken (was_made id p) (is_seen id p) (any_in id (set p) here)))

created_in : (id : Id) (p : List Entry) → NamesItsOwn p → IsIn id (set p) → is_created id p ≡ true
created_in id [] own h = absurd h
created_in id (Made job ∷ p) own h = elim (of_with id (set p) job h) [ inl g ↦ created_in id p own.1 g | inr e ↦ subst (λ j. is_created j p ≡ true) e own.0 ]
created_in id (Hand n names acts ∷ p) own h = or_right (creates id acts) (is_created id p) (created_in id p own.1 (of_filter (λ job. lives job p) id (set p) h).0)
created_in id (_ ∷ p) own h = created_in id p own.1 h

abbrev pub IsThere : Option Command → Type 0
IsThere o = (c : Command) × (o ≡ Some c)

there_first : (b : Bool) (c : Command) (o : Option Command) → (b ≡ false → IsThere o) → IsThere (cond b (Some c) o)
there_first true c o h = (c, refl)
there_first false c o h = h refl

there_else : (a b : Option Command) → IsThere b → IsThere (or_else a b)
there_else None b h = h
there_else (Some c) b h = (c, refl)

there_made : (a b : Option Command) → IsThere a → IsThere (or_else a b)
there_made a b h = (h.0, ap (λ o. or_else o b) h.1)

or_of : (a b : Bool) → (a || b) ≡ true → a ≡ false → b ≡ true
or_of true b e f = absurd cc
or_of false b e f = e

creation_there : (id : Id) (acts : List Act) → creates id acts ≡ true → IsThere (creation id acts)
creation_there id [] e = absurd cc
creation_there id (Create job command ∷ acts) e = there_first (same job id) command (creation id acts) (λ f. creation_there id acts (or_of (same job id) (creates id acts) e f))
creation_there id (_ ∷ acts) e = creation_there id acts e

command_of_hand : (id : Id) (acts : List Act) (b c : Bool) (before : Option Command) → creates id acts ≡ b → (c ≡ true → IsThere before) → (b || c) ≡ true → IsThere (or_else (creation id acts) before)
command_of_hand id acts true c before is h e = there_made (creation id acts) before (creation_there id acts is)
command_of_hand id acts false c before is h e = there_else (creation id acts) before (h e)

pub created_command : (id : Id) (p : List Entry) → is_created id p ≡ true → IsThere (command id p)
created_command id [] e = absurd cc
created_command id (Hand n names acts ∷ p) e = command_of_hand id acts (creates id acts) (is_created id p) (command id p) refl (λ g. created_command id p g) e
created_command id (_ ∷ p) e = created_command id p e

-- one that runs something was created
creates_or : (b : Bool) (command c : Command) (o : Option Command) (t : Bool) → (o ≡ Some c → t ≡ true) → cond b (Some command) o ≡ Some c → (b || t) ≡ true
creates_or true command c o t h e = refl
creates_or false command c o t h e = h e

creates_by : (id : Id) (acts : List Act) (c : Command) → creation id acts ≡ Some c → creates id acts ≡ true
creates_by id [] c e = absurd cc
creates_by id (Create job command ∷ acts) c e = creates_or (same job id) command c (creation id acts) (creates id acts) (λ g. creates_by id acts c g) e
creates_by id (_ ∷ acts) c e = creates_by id acts c e

created_or : (a b : Option Command) (c : Command) (x y : Bool) → (a ≡ Some c → x ≡ true) → (b ≡ Some c → y ≡ true) → or_else a b ≡ Some c → (x || y) ≡ true
created_or None b c x y f g e = or_right x y (g e)
created_or (Some d) b c x y f g e = or_left x y (f e)

pub commanded_created : (id : Id) (p : List Entry) (c : Command) → command id p ≡ Some c → is_created id p ≡ true
commanded_created id [] c e = absurd cc
commanded_created id (Hand n names acts ∷ p) c e = created_or (creation id acts) (command id p) c (creates id acts) (is_created id p) (λ g. creates_by id acts c g) (λ g. commanded_created id p c g) e
commanded_created id (_ ∷ p) c e = commanded_created id p c e

-- ---- the job whose child it is

record IsParent (c : ℕ) (id : Id) (ids : List Id) (p : List Entry) : Type 0 where
  here : IsIn id ids
  runs : child id p ≡ Some c

parent_first : (c : ℕ) (id job : Id) (ids : List Id) (p : List Entry) (b : Bool) (o : Option Id) → is_child c (child job p) ≡ b → (o ≡ Some id → IsParent c id ids p) → cond b (Some job) o ≡ Some id → IsParent c id (job ∷ ids) p
parent_first c id job ids p true o is more e = let found : job ≡ id = cc in record { here = inl found; runs = subst (λ j. child j p ≡ Some c) found (is_child_some c (child job p) is) }
parent_first c id job ids p false o is more e = let h = more e in record { here = inr h.here; runs = h.runs }

parent_of : (c : ℕ) (id : Id) (ids : List Id) (p : List Entry) → parent_among ids c p ≡ Some id → IsParent c id ids p
parent_of c id [] p e = absurd cc
parent_of c id (job ∷ ids) p e = parent_first c id job ids p (is_child c (child job p)) (parent_among ids c p) refl (λ g. parent_of c id ids p g) e

pub parent_runs : (c : ℕ) (id : Id) (p : List Entry) → parent c p ≡ Some id → child id p ≡ Some c
parent_runs c id p e = (parent_of c id (set p) p e).runs

pub parent_in : (c : ℕ) (id : Id) (p : List Entry) → parent c p ≡ Some id → IsIn id (set p)
parent_in c id p e = (parent_of c id (set p) p e).here

none_of : (c : ℕ) (id : Id) (ids : List Id) (p : List Entry) → parent_among ids c p ≡ None → IsIn id ids → child id p ≡ Some c → ⊥
none_of c id [] p e h runs = h
none_of c id (job ∷ ids) p e (inl is) runs =
    let other = (neither (is_child c (child job p)) job (parent_among ids c p) e).0 in
    let its : is_child c (child job p) ≡ true = ap (λ j. is_child c (child j p)) is ∙ ap (is_child c) runs ∙ eq-eqb c c refl in
    let both : true ≡ false = sym its ∙ other in cc
none_of c id (job ∷ ids) p e (inr h) runs = none_of c id ids p (neither (is_child c (child job p)) job (parent_among ids c p) e).1 h runs

pub parent_none : (c : ℕ) (id : Id) (p : List Entry) → parent c p ≡ None → IsIn id (set p) → child id p ≡ Some c → ⊥
parent_none c id p e here runs = none_of c id (set p) p e here runs

-- ---- no child runs of a job that isn't seen

-- where the set is as it was, and all jobs but one that is seen
pub unseen_others : (id : Id) (p p' : List Entry) → IsIn id (set p) → set p' ≡ set p → ((other : Id) → other ≢ id → SameHistory other p p') → UnseenRunNone p → UnseenRunNone p'
unseen_others id p p' here kept others idle other none =
    let unseen : is_seen other p ≡ false = ap (λ (ids : List Id). list_any (λ job. same job other) ids) (sym kept) ∙ none in
    let apart : other ≢ id = λ e. (let both : true ≡ false = sym (any_in other (set p) (subst (λ j. IsIn j (set p)) (sym e) here)) ∙ unseen in absurd cc) in
    ap (λ (h : JobHistory). h.child) (others other apart).history_same ∙ idle other unseen

-- one that is made runs none
unseen_before : (other id : Id) (p : List Entry) (b : Bool) → is_seen other p ≡ b → is_seen other (Made id ∷ p) ≡ false → is_seen other p ≡ false
unseen_before other id p true is none = let both : true ≡ false = sym (any_in other (with_id id (set p)) (in_others other (set p) id (seen_in other (set p) is))) ∙ none in absurd cc
unseen_before other id p false is none = is

unseen_of : (other id : Id) (b : Bool) (p : List Entry) → same id other ≡ b → (is_seen other p ≡ false → child other p ≡ None) → is_seen other (Made id ∷ p) ≡ false → cond b None (child other p) ≡ None
unseen_of other id true p is idle none = refl
unseen_of other id false p is idle none = idle (unseen_before other id p (is_seen other p) refl none)

pub unseen_made : (id : Id) (p : List Entry) → UnseenRunNone p → UnseenRunNone (Made id ∷ p)
unseen_made id p idle other none = unseen_of other id (same id other) p refl (idle other) none

-- where those that are gone leave the set, and none of their children runs
left_unseen : (id : Id) (p : List Entry) (seen alive : Bool) → is_seen id p ≡ seen → lives id p ≡ alive → UnseenRunNone p → (IsIn id (set p) → lives id p ≡ false → child id p ≡ None) → list_any (λ job. same job id) (filter (λ job. lives job p) (set p)) ≡ false → child id p ≡ None
left_unseen id p false alive is l idle gone none = idle id is
left_unseen id p true false is l idle gone none = gone (seen_in id (set p) is) l
left_unseen id p true true is l idle gone none =
    let both : true ≡ false = sym (any_in id (filter (λ job. lives job p) (set p)) (in_filter (λ job. lives job p) id (set p) (seen_in id (set p) is) l)) ∙ none in absurd cc

pub unseen_hand : (n : ℕ) (names : List ℕ) (acts : List Act) (p : List Entry) → UnseenRunNone p → ((id : Id) → IsIn id (set p) → lives id p ≡ false → child id p ≡ None) → UnseenRunNone (Hand n names acts ∷ p)
unseen_hand n names acts p idle gone id none = left_unseen id p (is_seen id p) (lives id p) refl refl idle (gone id) none

-- ---- entries of plans

-- an entry of a plan takes from what is owed
pub agenda_plan : (s : Start) (p : List Entry) (e : Entry) → IsOfPlan e → agenda s (e ∷ p) ≡ settle (e ∷ p) (rest e (agenda s p))
agenda_plan s p e o = ap (settle (e ∷ p)) (follow_plan s p e (rest e (agenda s p)) o)

-- a plan without calls on the hooks
abbrev pub CallsNone : List Entry → Plan → Type 0
CallsNone p k = Always (λ q e j. is_hooks e ≡ false) p k

calls_none_second : (id : Id) (level : Level) (second : Option Control) (p : List Entry) → CallsNone p (ask_second id level second Done)
calls_none_second id level None p = tt
calls_none_second id level (Some control) p = λ a. (refl, tt)

pub calls_none_ask : (id : Id) (ask : Ask) (p : List Entry) → CallsNone p (ask_plan id (sends_of ask) Done)
calls_none_ask id ask p = λ a. (refl, calls_none_second id (sends_of ask).level (sends_of ask).second _)

-- a journal has its own turns
pub same_turns : (p : List Entry) → SameTurns p p
same_turns p = record { count = refl; early = refl; fault = refl; now = refl; rise = λ h. h; told = λ before. refl }

-- an entry that is no turn leaves them
pub turns_over : (e : Entry) (p : List Entry) → is_turn e ≡ false → StaysInTurn p (e ∷ p)
turns_over (Turned t) p other = absurd cc
turns_over (TurnFault code) p other = absurd cc
turns_over (_) p other = λ p₀ h. record { count = h.count; early = h.early; fault = h.fault; now = h.now; rise = h.rise; told = h.told }

no_turn : (e : Entry) → IsOfPlan e → is_turn e ≡ false
no_turn (Turned t) o = absurd o
no_turn (TurnFault code) o = absurd o
no_turn (_) o = refl

pub turns_plan : (e : Entry) (p₀ p : List Entry) → IsOfPlan e → SameTurns p₀ p → SameTurns p₀ (e ∷ p)
turns_plan e p₀ p o h = turns_over e p (no_turn e o) p₀ h

pub command_plan : (e : Entry) (id : Id) (p : List Entry) → IsOfPlan e → command id (e ∷ p) ≡ command id p
command_plan (Hand n names acts) id p o = absurd o
command_plan (_) id p o = refl

-- ---- a plan that is owed leads on in the run

-- each entry that this plan brings is an entry of plans
abbrev pub AreOfPlan : List Entry → Plan → Type 0
AreOfPlan p k = Always (λ q e j. IsOfPlan e) p k

-- what is known of a journal to which a plan led that was owed before these agendas
pub record IsLed (s : Start) (more : Agenda) (k : Plan) (p : List Entry) (host hooks : Option (List Entry)) (k' : Plan) (p' : List Entry) (host' hooks' : Option (List Entry)) : Type 0 where
  pub of_plan : AreOfPlan p' k'
  pub due : agenda s p' ≡ settle p' (plans k' more)
  pub aborts : is_aborting p' ≡ is_aborting p
  pub follows : Follows s p host hooks p' host' hooks'
  pub quiet : CallsNone p k → CallsNone p' k' × StaysQuiet p p'
  pub turns : StaysInTurn p p'
  pub commands : (id : Id) → command id p' ≡ command id p

admits_plans : (s : Start) (p : List Entry) (k : Plan) (more : Agenda) (e : Entry) → PlanAdmits p k e → Admits s p (settle p (plans k more)) e
admits_plans s p Done more e d = absurd d
admits_plans s p (k) more e d = d

rest_plans : (p : List Entry) (k : Plan) (more : Agenda) (e : Entry) → PlanAdmits p k e → rest e (settle p (plans k more)) ≡ plans (next k e) more
rest_plans p Done more e d = absurd d
rest_plans p (k) more e d = refl

led_one : (s : Start) (more : Agenda) (k₀ : Plan) (p : List Entry) (host hooks : Option (List Entry)) (k : Plan) (q : List Entry) (host' hooks' : Option (List Entry)) (e : Entry) → PlanAdmits q k e → IsLed s more k₀ p host hooks k q host' hooks' → IsLed s more k₀ p host hooks (next k e) (e ∷ q) (tell_if (is_world q e) e host') (tell_if (is_hooks e) e hooks')
led_one s more k₀ p host hooks k q host' hooks' e d h =
    let kind : IsOfPlan e = always_now (λ r x i. IsOfPlan x) q k e d h.of_plan in
    let due : Due s q e = subst (λ (j : Agenda). Admits s q j e) (sym h.due) (admits_plans s q k more e d) in record {
      of_plan = always_next (λ r x i. IsOfPlan x) q k e d h.of_plan;
      due = agenda_plan s q e kind ∙ ap (λ (j : Agenda). settle (e ∷ q) (rest e j)) h.due ∙ ap (settle (e ∷ q)) (rest_plans q k more e d);
      aborts = aborting_over e q kind ∙ h.aborts;
      follows = λ p₀ world₀ hooks₀ l. Then e q host' hooks' (h.follows p₀ world₀ hooks₀ l) due;
      quiet = λ none. (
        always_next (λ r x i. is_hooks x ≡ false) q k e d (h.quiet none).0,
        λ p₀ a. More e q ((h.quiet none).1 p₀ a) (always_now (λ r x i. is_hooks x ≡ false) q k e d (h.quiet none).0),
      );
      turns = λ p₀ t. turns_plan e p₀ q kind (h.turns p₀ t);
      commands = λ id. command_plan e id q kind ∙ h.commands id;
    }

pub plans_lead : (s : Start) (more : Agenda) (k : Plan) (p : List Entry) (host hooks : Option (List Entry)) (n : ℕ) (k' : Plan) (p' : List Entry) (host' hooks' : Option (List Entry)) (n' : ℕ) → PlanLeads k p host hooks n k' p' host' hooks' n' → AreOfPlan p k → agenda s p ≡ settle p (plans k more) → IsLed s more k p host hooks k' p' host' hooks'
plans_lead s more k p host hooks n k' p' host' hooks' n' l of_plan due = elim l as (λ k' p' host' hooks' n' _. IsLed s more k p host hooks k' p' host' hooks') [
  | PlanHere ↦ record { of_plan = of_plan; due = due; aborts = refl; follows = λ p₀ world₀ hooks₀ l. l; quiet = λ none. (none, λ p₀ a. a); turns = λ p₀ t. t; commands = λ id. refl }
  | PlanThen e k₁ p₁ host₁ hooks₁ n₁ n₂ (l → h) d counts ↦ led_one s more k p host hooks k₁ p₁ host₁ hooks₁ e d h
]

-- ---- a plan that makes no job and changes no setting leaves the set and the settings

-- the entries that such plans let come
abbrev pub IsOfJob : Entry → Type 0
IsOfJob (Made id) = ⊥
IsOfJob (Changed revision) = ⊥
IsOfJob (e) = IsOfPlan e

abbrev pub MakesNone : List Entry → Plan → Type 0
MakesNone p k = Always (λ q e j. IsOfJob e) p k

of_job : (e : Entry) → IsOfJob e → IsOfPlan e
of_job (Made id) h = absurd h
of_job (Changed revision) h = absurd h
of_job (_) h = h

pub none_of_plan : (p : List Entry) (k : Plan) → MakesNone p k → AreOfPlan p k
none_of_plan p k none = always_also (λ q. Unit {0}) (λ q e j. IsOfJob e) (λ q e j. IsOfPlan e) (λ q e j u s. (of_job e s, tt)) p k tt none

job_fit : (id : Id) (e : Entry) (p : List Entry) → Fits id p e → IsOfJob e
job_fit id (Made job) p s = s
job_fit id (Changed revision) p s = s
job_fit id (e) p s = plan_fit id e p s

-- the plans of a job make none
sound_makes_none : (id : Id) (p : List Entry) (k : Plan) → Sound id p k → MakesNone p k
sound_makes_none id p k s = always_also (λ q. Unit {0}) (IsSound id) (λ q e j. IsOfJob e) (λ q e j u s. (job_fit id e q s.fits, tt)) p k tt s

pub none_by_step : (id : Id) (command : Command) (p : List Entry) → MakesNone p (step_plan id command p)
none_by_step id command p = sound_makes_none id p (step_plan id command p) (sound_step false id command p)

none_by_second : (id : Id) (level : Level) (second : Option Control) (p : List Entry) → MakesNone p (ask_second id level second Done)
none_by_second id level None p = tt
none_by_second id level (Some control) p = λ a. (tt, tt)

pub none_by_ask : (id : Id) (ask : Ask) (p : List Entry) → MakesNone p (ask_plan id (sends_of ask) Done)
none_by_ask id ask p = λ a. (tt, none_by_second id (sends_of ask).level (sends_of ask).second _)

pub none_by_end : (id : Id) (p : List Entry) → MakesNone p (end_plan id p)
none_by_end id p = sound_makes_none id p (end_plan id p) (sound_end id p)

-- ---- what the task of a job is found by

-- a child has one parent
pub one_parent : (c : ℕ) (id job : Id) (p : List Entry) → NamesItsOwn p → child id p ≡ Some c → child job p ≡ Some c → job ≡ id
one_parent c id job p own its other =
    let named = children_named p own in
    let a = child_owner id c p named its in
    let b = child_owner job c p named other in
    let same : Some job ≡ Some id = sym b ∙ a in cc

found_parent : (c : ℕ) (id : Id) (p : List Entry) (o : Option Id) → parent c p ≡ o → NamesItsOwn p → IsIn id (set p) → child id p ≡ Some c → o ≡ Some id
found_parent c id p None is own here runs = absurd (parent_none c id p is here runs)
found_parent c id p (Some job) is own here runs = ap (λ j. Some j) (one_parent c id job p own runs (parent_runs c job p is))

pub parent_is : (c : ℕ) (id : Id) (p : List Entry) → NamesItsOwn p → IsIn id (set p) → child id p ≡ Some c → parent c p ≡ Some id
parent_is c id p own here runs = found_parent c id p (parent c p) refl own here runs

found_none : (c : ℕ) (p : List Entry) (o : Option Id) → parent c p ≡ o → ((id : Id) → IsIn id (set p) → child id p ≡ Some c → ⊥) → o ≡ None
found_none c p None is never = refl
found_none c p (Some job) is never = absurd (never job (parent_in c job p is) (parent_runs c job p is))

pub parent_is_none : (c : ℕ) (p : List Entry) → ((id : Id) → IsIn id (set p) → child id p ≡ Some c → ⊥) → parent c p ≡ None
parent_is_none c p never = found_none c p (parent c p) refl never

-- ---- the command of a job that lawful acts create

-- none of those behind has the id of one that is taken
later_apart : (free : Id → Bool) (next : ℕ) (before : List Act) (id : Id) (what : Command) (after : List Act) (job : Id) → AreLawfulBy free next (before ++ Create id what ∷ after) → job.0 < next → free job ≡ false → same job id ≡ false
later_apart free next [] id what after job l lt taken = apart_turned id job (may_apart free next id job l.0 lt taken)
later_apart free next (Create other command ∷ before) id what after job l lt taken = later_apart (but other free) (above next other) before id what after job l.1 (above_others next job.0 other lt) (but_taken other job free taken)
later_apart free next (_ ∷ before) id what after job l lt taken = later_apart free next before id what after job l lt taken

pub creation_is : (free : Id → Bool) (next : ℕ) (before : List Act) (id : Id) (what : Command) (after : List Act) → AreLawfulBy free next (before ++ Create id what ∷ after) → creation id (before ++ Create id what ∷ after) ≡ Some what
creation_is free next [] id what after l = rw (eq-eqb id.0 id.0 refl) refl
creation_is free next (Create job command ∷ before) id what after l =
    rw (later_apart (but job free) (above next job) before id what after job l.1 (above_one next job) (rw (self job) refl)) (creation_is (but job free) (above next job) before id what after l.1)
creation_is free next (_ ∷ before) id what after l = creation_is free next before id what after l
