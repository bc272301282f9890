-- The beginning of a run.
use Rattle.std.proofs.Common.{◌≡◌, ℕ, false, suc, ◌+◌, ◌*◌, ◌<◌, List, [], ◌∷◌, length, drop, get_or, drop-cons, add-one, arith, refl, ap, sym, subst, ◌∙◌}
use Rattle.std.specs.Prelude.{None, map}
use Rattle.std.specs.List.{filter}
use Rattle.wx_events.specs.declared.event.Event.{Event}
use Rattle.wx_events.specs.declared.priority.Priority.{Priority}
use Rattle.wx_journal.specs.declared.entry.Entry.{Entry}
use Rattle.wx_machine.specs.History.{lives}
use Rattle.wx_hooks.specs.declared.held.Held.{Held}
use Rattle.wx_worker.specs.declared.worker_state.Worker.{Worker}
use Rattle.wx_machine.specs.Start.{Start}
use Rattle.wx_machine.specs.Journal.{closed, bag}
use Rattle.wx_machine.proofs.SettleLaws.{settle_calm}
use Rattle.wx_machine.specs.Due.{begin_of, Sends, Comes, sends, is_quitting, agenda, IsRun}
use Rattle.wx_machine.specs.Kept.{StaysQuiet, More}
use Rattle.wx_machine.specs.Leads.{FollowsAlone, Then}
use Rattle.wx_worker.specs.Serves.{AddsAlone}
use Rattle.wx_machine.specs.Turns.{StaysInTurn}
use Rattle.wx_machine.specs.Jobs.{set, jobs}
use Rattle.wx_worker.specs.Stands.{Stands, end_room}
use Rattle.wx_hooks.specs.JobsStand.{held_id}
use Rattle.wx_machine.proofs.Orderly.{IsGoing}
use Rattle.wx_machine.proofs.RunLaws.{orderly}
use Rattle.wx_machine.proofs.BatchLaws.{run_led}
use Rattle.wx_machine.proofs.AllJobs.{turns_over}

-- what is known once the beginning is listed
pub record Begun (s : Start) (w : Worker) (p p' : List Entry) : Type 0 where
  pub stands : Stands s w p'
  pub due : agenda s p' ≡ sends s.events
  pub count : length (bag p') ≡ 0
  pub takes : closed p' ≡ false
  pub follows : FollowsAlone s p p'
  pub quiet : StaysQuiet p p'
  pub turns : StaysInTurn p p'

pub begun : (s : Start) (w : Worker) (e : Entry) (p p' : List Entry) → p ≡ [] → e ≡ begin_of s → p' ≡ e ∷ p → Stands s w (begin_of s ∷ []) → Begun s w p p'
begun s w e p p' empty is grown stands = rw (grown, is, empty) (record {
  stands = stands;
  due = settle_calm (begin_of s ∷ []) (sends s.events) refl;
  count = refl;
  takes = refl;
  follows = λ world hooks p₀ world₀ hooks₀ l. Then (begin_of s) [] world hooks l (tt, refl);
  quiet = λ p₀ a. More (begin_of s) [] a refl;
  turns = turns_over _ _ refl;
})

-- what is listed at the beginning is a run, in which the end wasn't asked for
pub begun_run : (s : Start) (p p' : List Entry) → p ≡ [] → AddsAlone s p p' → IsRun s p'
begun_run s p p' empty adds = run_led s p None None p' None None (adds.follows None None) (rw empty tt)

going_sends : (p : List Entry) (xs : List (Event × Priority)) → IsGoing p (sends xs) → is_quitting p ≡ false
going_sends p [] going = going
going_sends p (x ∷ xs) going = going

pub going_begun : (s : Start) (p p' : List Entry) (xs : List (Event × Priority)) → p ≡ [] → AddsAlone s p p' → agenda s p' ≡ sends xs → is_quitting p' ≡ false
going_begun s p p' xs empty adds due = going_sends p' xs (subst (IsGoing p') due (orderly s p' (begun_run s p p' empty adds)).going)

-- the next event that was sent
pub next_sent : (s : Start) (p : List Entry) (xs : List (Event × Priority)) (i : ℕ) (x : Event × Priority) → i < length xs → x ≡ get_or xs i x → agenda s p ≡ sends (drop i xs) → agenda s p ≡ Comes (Sends x.0 x.1) (sends (drop (i + 1) xs))
next_sent s p xs i x lt is due =
    due ∙ ap sends (drop-cons xs i x lt ∙ ap (λ (y : Event × Priority). y ∷ drop (suc i) xs) (sym is)) ∙ ap (λ (k : ℕ). Comes (Sends x.0 x.1) (sends (drop k xs))) (sym (add-one i))

-- no job lives while a worker holds none
none_by : (p : List Entry) (hs : List Held) → 2 * length hs ≡ 0 → map held_id hs ≡ set p → jobs p ≡ []
none_by p [] none is = ap (filter (λ id. lives id p)) (sym is)
none_by p (h ∷ hs) none is = absurd (omega (arith, none))

pub none_yet : (s : Start) (w : Worker) (p : List Entry) → Stands s w p → end_room w ≡ 0 → jobs p ≡ []
none_yet s w p stands none = none_by p w.jobs none stands.jobs_kept
