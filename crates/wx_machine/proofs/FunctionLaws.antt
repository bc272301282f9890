-- In a run nothing else is done of a job while a function of it is begun.
use Rattle.std.proofs.Common.{◌≡◌, ℕ, Bool, true, false, cond, List, [], ◌∷◌, refl, sym, subst, ◌∙◌}
use Rattle.std.specs.Prelude.{Option, None, Some, not, ◌||◌}
use Rattle.std.proofs.lemmas.Bool.{and_parts, or_right}
use Rattle.wx_command.specs.declared.command.Command.{Command}
use Rattle.wx_control.specs.declared.id.Id.{Id}
use Rattle.wx_control.specs.declared.ask.Ask.{Ask as AnAsk}
use Rattle.wx_control.specs.Asks.{sends_of}
use Rattle.wx_journal.specs.declared.entry.Entry.{Entry}
use Rattle.wx_journal.specs.declared.entry.Entry.TheVariants.{Turn as Turned, TurnFault, Word as Said, Hand, Made, Gone, Dropped}
use Rattle.wx_journal.specs.declared.entry.TurnKind.{TurnKind}
use Rattle.wx_journal.specs.declared.entry.TurnKind.TheVariants.{Job, Ended, Ask}
use Rattle.wx_journal.specs.declared.entry.Word.TheVariants.{Ignored}
use Rattle.wx_journal.specs.Sorts.{Subject, OfWord, sort}
use Rattle.wx_journal.specs.Names.{creates, is_created, NamesItsOwn}
use Rattle.wx_machine.specs.Added.{Each}
use Rattle.wx_machine.specs.History.{same, lives, child, command}
use Rattle.wx_machine.specs.TicketLaws.{is_turn_of, is_in_turn, is_of, is_of_or_said, WaitsForFunction, AllWait, WaitForFunctions}
use Rattle.wx_machine.specs.Table.{Plan, Done, step_plan, ask_plan}
use Rattle.wx_machine.specs.Case.{next}
use Rattle.wx_machine.specs.Start.{Start}
use Rattle.wx_machine.specs.Jobs.{living, parent}
use Rattle.wx_machine.specs.Due.{Says, Agenda, Open, Comes, Steps, Plans, Ends, Breaks, IsTurn, Admits, plans, says, rest, job_turn, ended_turn, turn_agenda, follow, settle, agenda, Due, IsRun}
use Rattle.wx_machine.specs.Answer.{Dying, Alive, Dies}
use Rattle.wx_machine.proofs.Owners.{same-is, either, is_child_some}
use Rattle.wx_machine.proofs.Functions.{begun_none}
use Rattle.wx_machine.proofs.Always.{Always, always_now, always_next, always_also}
use Rattle.wx_machine.proofs.OneJob.{IsInTurn, placed_of}
use Rattle.wx_machine.proofs.Placing.{InTurn, free_waits}
use Rattle.wx_machine.proofs.PlacedPlans.{turns_step, turns_ask}
use Rattle.wx_machine.proofs.PlanLaws.{lawful_now, of_end, end_is_plan}
use Rattle.wx_machine.proofs.Lawful.{IsOfPlan, IsOfEnd}
use Rattle.wx_machine.proofs.Orderly.{IsFit, IsOrderly}
use Rattle.wx_machine.proofs.RunLaws.{follow_plan, orderly, orderly_turn, open_at_turn}
use Rattle.wx_machine.proofs.AllJobs.{created_command, parent_runs, parent_none, one_parent}
use Rattle.wx_machine.proofs.JobSets.{in_set}

-- a word that a plan brings is said of this job
abbrev Speaks : Id → List Entry → Entry → Plan → Type 0
Speaks id p (Said word) k = WaitsForFunction id p (Said word)
Speaks id p (_) k = Unit {0}

speaks : (id : Id) (p : List Entry) (e : Entry) (k : Plan) → IsInTurn id p e → Speaks id p e k
speaks id p (Said word) k o = o.waits
speaks id p (_) k o = tt

plan_speaks : (id : Id) (p : List Entry) (k : Plan) → Always (InTurn id) p k → Always (Speaks id) p k
plan_speaks id p k s = always_also (λ q. Unit {0}) (InTurn id) (Speaks id) (λ q e j u o. (speaks id q e j o, tt)) p k tt s

-- What may be owed in a turn about a job: a word, or a plan, which says no more than may be said of it, and nothing behind.
abbrev Turning : Id → List Entry → Agenda → Type 0
Turning id p Open = Unit {0}
Turning id p (Comes (Says word) Open) = WaitsForFunction id p (Said word)
Turning id p (Comes x more) = ⊥
Turning id p (Steps untouched more) = ⊥
Turning id p (Plans k Open) = Always (Speaks id) p k
Turning id p (Plans k more) = ⊥
Turning id p Ends = Unit {0}
Turning id p Breaks = Unit {0}

turning_plans : (id : Id) (p : List Entry) (k : Plan) → Always (Speaks id) p k → Turning id p (plans k Open)
turning_plans id p Done s = tt
turning_plans id p (k) s = s

turning_settle : (id : Id) (p : List Entry) (k : Agenda) → Turning id p k → Turning id p (settle p k)
turning_settle id p Open h = either (Turning id p) _ Ends Open tt tt
turning_settle id p (k) h = h

-- ---- a turn about the job

-- a job that lives was created, and so has a command
lived_created : (id : Id) (p : List Entry) → NamesItsOwn p → lives id p ≡ true → is_created id p ≡ true
lived_created id [] own e = absurd cc
lived_created id (Made job ∷ p) own e = by_test (same job id) refl e (λ h. lived_created id p own.1 h)
  where
    by_test : (b : Bool) → same job id ≡ b → (b || lives id p) ≡ true → (lives id p ≡ true → is_created id p ≡ true) → is_created id p ≡ true
    by_test true is h more = subst (λ j. is_created j p ≡ true) (same-is job id is) own.0
    by_test false is h more = more h
lived_created id (Gone job ∷ p) own e = lived_created id p own.1 (and_parts (not (same job id)) (lives id p) e).1
lived_created id (Hand n names acts ∷ p) own e = or_right (creates id acts) (is_created id p) (lived_created id p own.1 e)
lived_created id (_ ∷ p) own e = lived_created id p own.1 e

dead_where : (id : Id) (p : List Entry) (b : Bool) → NamesItsOwn p → lives id p ≡ b → cond b (command id p) None ≡ None → b ≡ false
dead_where id p true own alive none =
    let there = created_command id p (lived_created id p own alive) in
    let both : Some there.0 ≡ None = sym there.1 ∙ none in absurd cc
dead_where id p false own dead none = refl

-- where it doesn't live nothing is begun
turning_ignored : (id : Id) (p : List Entry) → lives id p ≡ false → Turning id p (says Ignored)
turning_ignored id p dead = free_waits id p (Said Ignored) (begun_none id p dead)

turning_job : (s : Start) (id : Id) (p : List Entry) (what : Option Command) → IsOrderly s p → living id p ≡ what → Turning id p (job_turn id what p)
turning_job s id p None o is = turning_ignored id p (dead_where id p (lives id p) o.own refl is)
turning_job s id p (Some command) o is = turning_plans id p (step_plan id command p) (plan_speaks id p (step_plan id command p) (turns_step false id command p (λ alive. placed_of id p alive o.placed)))

turning_ended : (s : Start) (id : Id) (c : ℕ) (p : List Entry) (job : Option Id) → IsOrderly s p → child id p ≡ Some c → parent c p ≡ job → Turning id p (ended_turn job p)
turning_ended s id c p None o runs is = absurd (by_life (lives id p) refl)
  where
    by_life : (b : Bool) → lives id p ≡ b → ⊥
    by_life true alive = parent_none c id p is (in_set id p alive) runs
    by_life false dead = let none : None ≡ Some c = sym (o.idle id dead) ∙ runs in cc
turning_ended s id c p (Some job) o runs is =
    let mine : job ≡ id = one_parent c id job p o.own runs (parent_runs c job p is) in
    rw mine (turning_job s id p (living id p) o refl)

turning_ask : (s : Start) (id : Id) (ask : AnAsk) (p : List Entry) (b : Bool) → lives id p ≡ b → Turning id p (cond b (plans (ask_plan id (sends_of ask) Done) Open) (says Ignored))
turning_ask s id ask p true alive = turning_plans id p (ask_plan id (sends_of ask) Done) (plan_speaks id p (ask_plan id (sends_of ask) Done) (turns_ask id ask p alive))
turning_ask s id ask p false dead = turning_ignored id p dead

turning_turn : (s : Start) (id : Id) (p q : List Entry) (kind : TurnKind) (at : ℕ) → child id q ≡ child id p → IsOrderly s q → is_turn_of id p kind ≡ true → Turning id q (turn_agenda s kind at q)
turning_turn s id p q (Job job) at same_child o is = rw (same-is job id is) (turning_job s id q (living id q) o refl)
turning_turn s id p q (Ask job ask) at same_child o is = rw (same-is job id is) (turning_ask s id ask q (lives id q) refl)
turning_turn s id p q (Ended c) at same_child o is = turning_ended s id c q (parent c q) o (same_child ∙ is_child_some c (child id p) is) refl
turning_turn s id p q (_) at same_child o is = absurd cc

-- ---- an entry that is due in it

turning_plan : (s : Start) (id : Id) (p : List Entry) (e : Entry) (k : Agenda) → IsOfPlan e → Turning id (e ∷ p) (rest e k) → Turning id (e ∷ p) (settle (e ∷ p) (follow s e p (rest e k)))
turning_plan s id p e k o h = turning_settle id (e ∷ p) (follow s e p (rest e k)) (subst (Turning id (e ∷ p)) (sym (follow_plan s p e (rest e k) o)) h)

turning_more : (s : Start) (id : Id) (p : List Entry) (k : Agenda) (e : Entry) → (IsTurn e → ⊥) → Admits s p k e → IsFit s p k → Turning id p k → Turning id (e ∷ p) (settle (e ∷ p) (follow s e p (rest e k)))
turning_more s id p Open e other d f h = absurd (other d)
turning_more s id p (Comes (Says word) Open) e other d f h = subst (λ x. Turning id (x ∷ p) (settle (x ∷ p) (follow s x p Open))) (sym d.1) (turning_settle id (Said word ∷ p) Open tt)
turning_more s id p (Comes x more) e other d f h = absurd h
turning_more s id p (Steps untouched more) e other d f h = absurd h
turning_more s id p (Plans k Open) e other d f h =
    turning_plan s id p e (Plans k Open) (lawful_now p k e d f.0).of_plan (turning_plans id (e ∷ p) (next k e) (always_next (Speaks id) p k e d h))
turning_more s id p (Plans k more) e other d f h = absurd h
turning_more s id p Ends e other d f h = turning_plan s id p e Ends (end_is_plan e (of_end p e d)) tt
turning_more s id p Breaks e other d f h = absurd d

-- what is owed in a turn about the job
turning : (s : Start) (id : Id) (p : List Entry) → IsRun s p → is_in_turn id p ≡ true → Turning id p (agenda s p)
turning s id [] r is = absurd cc
turning s id (Turned t ∷ p) r is = turning_settle id (Turned t ∷ p) (turn_agenda s t.kind t.at (Turned t ∷ p)) (turning_turn s id p (Turned t ∷ p) t.kind t.at refl (orderly_turn s t p (open_at_turn s p (agenda s p) (Turned t) tt r.0 (orderly s p r.1).fit) (orderly s p r.1)) is)
turning s id (TurnFault code ∷ p) r is = tt
turning s id (e ∷ p) r is = turning_more s id p (agenda s p) e (λ turn. turn) r.0 (orderly s p r.1).fit (turning s id p r.1 is)

-- ---- words

-- no turn and nothing of an end is one
no_turn : (e : Entry) → (sort e).subject ≡ OfWord → IsTurn e → ⊥
no_turn (Turned t) word i = absurd cc
no_turn (TurnFault code) word i = absurd cc
no_turn (_) word i = i

no_end : (e : Entry) → (sort e).subject ≡ OfWord → IsOfEnd e → ⊥
no_end (Dropped c) word o = absurd cc
no_end (Gone job) word o = absurd cc
no_end (_) word o = o

spoken : (id : Id) (p : List Entry) (e : Entry) (k : Plan) → (sort e).subject ≡ OfWord → Speaks id p e k → WaitsForFunction id p e
spoken id p (Said said) k word h = h
spoken id p (_) k word h = absurd cc

-- a word that is due in a turn about the job may be said of it
says_so : (s : Start) (id : Id) (p : List Entry) (k : Agenda) (e : Entry) → (sort e).subject ≡ OfWord → Admits s p k e → Turning id p k → WaitsForFunction id p e
says_so s id p Open e word d h = absurd (no_turn e word d)
says_so s id p (Comes (Says said) Open) e word d h = rw d.1 h
says_so s id p (Comes x more) e word d h = absurd h
says_so s id p (Steps untouched more) e word d h = absurd h
says_so s id p (Plans k Open) e word d h = spoken id p e (next k e) word (always_now (Speaks id) p k e d h)
says_so s id p (Plans k more) e word d h = absurd h
says_so s id p Ends e word d h = absurd (no_end e word (of_end p e d))
says_so s id p Breaks e word d h = absurd d

-- of each entry that is due, where what isn't said waits
waits_said : (s : Start) (p : List Entry) (e : Entry) → Due s p e → ((id : Id) → is_in_turn id p ≡ true → Turning id p (agenda s p)) → AllWait is_of p e → (subject : Subject) → (sort e).subject ≡ subject → (id : Id) → is_of_or_said id p subject ≡ true → WaitsForFunction id p e
waits_said s p e d turns unsaid OfWord is id mine = says_so s id p (agenda s p) e is d (turns id mine)
waits_said s p e d turns unsaid (subject) is id mine = unsaid id (rw is mine)

-- while a function is begun nothing else comes in a run
pub run_waits : (s : Start) (p : List Entry) → IsRun s p → Each (AllWait is_of) p → WaitForFunctions p
run_waits s [] r unsaid = tt
run_waits s (e ∷ p) r unsaid = (λ id mine. waits_said s p e r.0 (λ i is. turning s i p r.1 is) unsaid.0 (sort e).subject refl id mine, run_waits s p r.1 unsaid.1)

-- nor where entries of the end stand on top
end_waits : (e : Entry) (p : List Entry) → IsOfEnd e → AllWait is_of_or_said p e
end_waits (Dropped c) p o = λ id mine f is. tt
end_waits (Gone job) p o = λ id mine f is. tt
end_waits (_) p o = absurd o

pub dying_waits : (q p : List Entry) → Dying q p → WaitForFunctions q → WaitForFunctions p
dying_waits q _ Alive h = h
dying_waits q _ (Dies e p so_far due) h = (end_waits e p (of_end p e due), dying_waits q p so_far h)
