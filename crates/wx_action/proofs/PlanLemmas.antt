-- A plan of jobs is followed.
use Rattle.std.proofs.Common.{◌≡◌, ◌≢◌, ℕ, ◌<◌, false, List, [], ◌∷◌, length, get_or, arith, ap, sym, subst, ◌∙◌}
use Rattle.std.specs.Prelude.{Option}
use Rattle.std.specs.List.{AllByRecursion}
use Rattle.wx_words.specs.EachLaws.{each_weaker}
use Rattle.wx_control.specs.declared.id.Id.{Id}
use Rattle.wx_journal.specs.declared.entry.Entry.{Entry}
use Rattle.wx_machine.specs.Table.{Plan}
use Rattle.wx_machine.specs.Case.{PlanLeads}
use Rattle.wx_machine.specs.Leaves.{LeavesOthers}
use Rattle.wx_machine.proofs.Frame.{same_history}
use Rattle.wx_hooks.specs.declared.held.Held.{Held}
use Rattle.wx_worker.specs.declared.worker_state.Worker.{Worker}
use Rattle.wx_machine.specs.Start.{Start}
use Rattle.wx_machine.specs.Jobs.{set, AreRising, UnseenRunNone}
use Rattle.wx_machine.specs.Due.{Agenda, settle, agenda, plans, is_quitting}
use Rattle.wx_machine.specs.Quits.{is_aborting}
use Rattle.wx_machine.proofs.SettleLaws.{settle_calm}
use Rattle.wx_machine.specs.Kept.{StaysQuiet}
use Rattle.wx_machine.specs.Leads.{Follows}
use Rattle.wx_machine.specs.Turns.{StaysInTurn}
use Rattle.wx_machine.proofs.AllJobs.{unseen_others, MakesNone, CallsNone, none_of_plan, plans_lead}
use Rattle.wx_machine.proofs.JobSets.{set_rising}
use Rattle.wx_worker.specs.Stands.{Stands}
use Rattle.wx_hooks.specs.JobsStand.{JobsStand, AreDistinct, held_id}
use Rattle.wx_hooks.proofs.QuietLemmas.{SameRest, same_rest, still_led}
use Rattle.wx_worker.proofs.StandsLemmas.{stands_rest}
use Rattle.wx_hooks.proofs.JobsLemmas.{is_in_place, Changes, jobs_change}

-- ---- a job among those of a worker followed a plan

pub record JobDone (s : Start) (w' : Worker) (k : Plan) (more : Agenda) (p p' : List Entry) (world world' hooks hooks' : Option (List Entry)) : Type 0 where
  pub stands : Stands s w' p'
  pub done : agenda s p' ≡ settle p' more
  pub aborts : is_aborting p' ≡ is_aborting p
  pub follows : Follows s p world hooks p' world' hooks'
  pub quiet : CallsNone p k → StaysQuiet p p'
  pub turns : StaysInTurn p p'

apart_all : (id : Id) (ids : List Id) → AllByRecursion (λ job. id.0 < job.0) ids → AllByRecursion (λ job. job ≢ id) ids
apart_all id ids h = each_weaker (λ job. id.0 < job.0) (λ job. job ≢ id) (λ job lt e. let same : job.0 ≡ id.0 = ap (λ (j : Id). j.0) e in absurd (omega (arith, lt))) ids h

apart_rising : (ids : List Id) → AreRising ids → AreDistinct ids
apart_rising [] r = tt
apart_rising (id ∷ ids) r = (apart_all id ids r.0, apart_rising ids r.1)

pub jobs_stand : (s : Start) (w : Worker) (p : List Entry) → Stands s w p → JobsStand p w.jobs
jobs_stand s w p stands = record { ids_are = stands.jobs_kept; tasks_stand = stands.tasks_kept; ids_apart = rw stands.jobs_kept (apart_rising (set p) (set_rising p).rising) }

-- no child runs of a job that isn't held, where one that is went on alone
pub idle_then : (s : Start) (w : Worker) (at : ℕ) (h : Held) (p p' : List Entry) → Stands s w p → at < length w.jobs → h ≡ get_or w.jobs at h → SameRest p p' → LeavesOthers (held_id h) p p' → UnseenRunNone p'
idle_then s w at h p p' stands within held still leaves = unseen_others (held_id h) p p' (rw stands.jobs_kept at (is_in_place w.jobs at h within held)) still.set_same leaves.others stands.idle_kept

pub plan_done : (s : Start) (w w' : Worker) (at : ℕ) (h h' : Held) (p p' : List Entry) (k k' : Plan) (more : Agenda) (world world' hooks hooks' : Option (List Entry)) (n n' : ℕ)
    → Stands s w p → is_quitting p ≡ false → agenda s p ≡ plans k more → MakesNone p k → w' ≡ record w { jobs = w'.jobs } → Changes w.jobs w'.jobs at h h' p' → LeavesOthers (held_id h) p p' → PlanLeads k p world hooks n k' p' world' hooks' n'
    → JobDone s w' k (plans k' more) p p' world world' hooks hooks'
plan_done s w w' at h h' p p' k k' more world world' hooks hooks' n n' stands going due none fields change leaves l =
    let g = plans_lead s more k p world hooks n k' p' world' hooks' n' l (none_of_plan p k none) (due ∙ sym (settle_calm p (plans k more) going)) in
    let still = (still_led k p world hooks n k' p' world' hooks' n' none l).still in
    let j = jobs_change p p' w.jobs w'.jobs at h h' (jobs_stand s w p stands) still leaves change in record {
      stands = stands_rest s w w' p p' stands leaves.own (idle_then s w at h p p' stands change.within change.held still leaves) still fields j.0 j.1;
      done = g.due;
      aborts = g.aborts;
      follows = g.follows;
      quiet = λ none. (g.quiet none).1;
      turns = g.turns;
    }

-- the same where all is as before
pub same_done : (s : Start) (w w' : Worker) (at : ℕ) (h h' : Held) (p p' : List Entry) → Stands s w p → p' ≡ p → w' ≡ record w { jobs = w'.jobs } → Changes w.jobs w'.jobs at h h' p' → Stands s w' p'
same_done s w w' at h h' p p' stands same fields change =
    let change' : Changes w.jobs w'.jobs at h h' p = subst (Changes w.jobs w'.jobs at h h') same change in
    let j = jobs_change p p w.jobs w'.jobs at h h' (jobs_stand s w p stands) (same_rest p) (record { own = stands.own; others = λ i ne. same_history i p }) change' in
    rw same (stands_rest s w w' p p stands stands.own stands.idle_kept (same_rest p) fields j.0 j.1)
