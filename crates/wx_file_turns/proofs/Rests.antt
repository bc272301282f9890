-- An entry that came where there was no step to take.
use Rattle.std.proofs.Common.{◌≡◌, ◌<◌, ◌≤◌, ◌+◌, ℕ, Bool, true, false, cond, List, [], ◌∷◌, inl, inr, arith, refl, ap, sym, subst, ◌∙◌, eq-eqb}
use Rattle.std.specs.Prelude.{◌⊎◌, Option, None, Some, Result, Ok, Err, OnOk, OnErr, drop, ◌^◌, ◌-◌, min}
use Rattle.std.specs.Option.{IsSomeAnd}
use Rattle.wx_scan.specs.declared.backend.Backend.{Ghosts}
use Rattle.wx_events.specs.declared.event.Event.{Event}
use Rattle.wx_events.specs.declared.priority.Priority.TheVariants.{Normal}
use Rattle.wx_lane.specs.declared.lane.LaneItem.{LaneItem}
use Rattle.wx_lane.specs.Lanes.{LaneState}
use Rattle.wx_journal.specs.declared.entry.Entry.{Entry}
use Rattle.wx_journal.specs.declared.entry.Entry.TheVariants.{Word as Said, LetGo, Ready}
use Rattle.wx_journal.specs.declared.entry.LetGoCause.{LetGoCause}
use Rattle.wx_journal.specs.declared.entry.LetGoCause.TheVariants.{Full, Obsolete, Uncovered}
use Rattle.wx_journal.specs.declared.entry.Word.TheVariants.{Quiet}
use Rattle.wx_journal.specs.Names.{item_count, NamesItsOwn}
use Rattle.wx_journal.specs.Written.{Written}
use Rattle.wx_machine.specs.Start.{Start}
use Rattle.wx_error.specs.declared.error.CriticalError.TheVariants.{Memory}
use Rattle.wx_machine.specs.Answer.{BreaksHere, NoneIsToGo}
use Rattle.wx_machine.specs.Seen.{Seen, Hooked}
use Rattle.wx_machine.specs.Kept.{More}
use Rattle.wx_machine.specs.Leads.{Then}
use Rattle.wx_machine.specs.Progress.{Progress}
use Rattle.wx_machine.specs.Settings.{settings}
use Rattle.wx_machine.specs.Steady.{Tells}
use Rattle.wx_machine.specs.Steps.{step_count, work_count}
use Rattle.wx_machine.specs.Files.{source, first_item, leave}
use Rattle.wx_machine.specs.Due.{Open, Steps, agenda, is_quitting, rest_entry, Due}
use Rattle.wx_machine.proofs.AllJobs.{turns_over}
use Rattle.wx_machine.proofs.SettleLaws.{settle_calm}
use Rattle.wx_worker.specs.Calls.{offer_of}
use Rattle.wx_worker.specs.declared.worker_state.Worker.{Worker}
use Rattle.wx_worker.specs.Serves.{Grows}
use Rattle.wx_worker.specs.Stands.{Stands, end_room}
use Rattle.wx_worker.proofs.ArriveLemmas.{StepsOver, grows, grows_none}
use Rattle.wx_worker.proofs.StandsLemmas.{tasks_silent}
use Rattle.wx_file_turns.specs.declared.files.Watching.{Watching}
use Rattle.wx_file_turns.specs.declared.intake.Intake.{Intake}
use Rattle.wx_file_turns.specs.Intake.{left, told}
use Rattle.wx_file_turns.specs.Resting.{IsFirst, IsOfTurn, Rested}
use Rattle.wx_file_turns.specs.Serves.{unmade_count, Attends, AttendsAlone, GrowsAlone, PaysOn}
use Rattle.wx_file_turns.specs.Standing.{IntakeStands, owed, works}
use Rattle.wx_file_turns.specs.Stepping.{IsWatching}
use Rattle.wx_file_turns.proofs.Entries.{grown_by_none}
use Rattle.wx_file_turns.proofs.Intakes.{intake_told}
use Rattle.wx_file_turns.proofs.Onward.{attends_adds, unmade_same}
use Rattle.wx_file_turns.proofs.Rising.{AreRising, lane_rises}
use Rattle.wx_file_turns.proofs.Standing.{intake_still}
use Rattle.wx_file_turns.proofs.Steps.{owed_one, rest_follows, still_paid}

-- ---- the first item

first_of : (o : Option LaneItem) (item : ℕ) → IsSomeAnd o (λ (i : LaneItem). i.name ≡ item) → (i : LaneItem) × (o ≡ Some i) × (i.name ≡ item)
first_of None item h = absurd h
first_of (Some i) item h = (i, refl, h)

first_below : (high : ℕ) (items : List LaneItem) (i : LaneItem) → AreRising 0 high items → first_item items ≡ Some i → i.name < high
first_below high [] i h there = absurd cc
first_below high (x ∷ items) i h there = let at : Some x ≡ Some i = there in let same : x ≡ i = cc in subst (λ (y : LaneItem). y.name < high) same h.1

-- all but it are left
left_first : (item : ℕ) (items : List LaneItem) (i : LaneItem) → first_item items ≡ Some i → i.name ≡ item → drop 1 items ≡ leave item items
left_first item [] i there name = absurd cc
left_first item (x ∷ items) i there name =
    let at : Some x ≡ Some i = there in
    let same : x ≡ i = cc in
    sym (ap (λ (b : Bool). cond b items (x ∷ leave item items)) (eq-eqb x.name item (ap (λ (y : LaneItem). y.name) same ∙ name)))

lane_left : (s : Start) (i : Intake) (p : List Entry) (item : ℕ) (first : LaneItem) → first_item (source s p).lane ≡ Some first → first.name ≡ item → IntakeStands s i p → (left i).lane ≡ record { items = leave item (source s p).lane; size = s.config.event_channel_size }
lane_left s i p item first there name h =
    ap (λ (l : LaneState). record l { items = drop 1 l.items }) h.lane_kept
    ∙ ap (λ (items : List LaneItem). record { items = items; size = s.config.event_channel_size }) (left_first item (source s p).lane first there name)

-- it has a name
pub item_is_named : (s : Start) (p : List Entry) (item : ℕ) → NamesItsOwn p → IsFirst s item p → item < item_count p
item_is_named s p item own first =
    let found = first_of (first_item (source s p).lane) item first in
    subst (λ (n : ℕ). n < item_count p) found.2 (first_below (item_count p) (source s p).lane found.0 (lane_rises s p own) found.1)

-- ---- nothing is owed behind it, and what is kept stands on

pub quiet_rested : {B : Type 0} {G : Ghosts B} (s : Start) (w : Watching B G) (i : Intake) (p p' : List Entry) → agenda s p ≡ Steps true Open → rest_entry s p ≡ Said Quiet → is_quitting p ≡ false → p' ≡ Said Quiet ∷ p → IsWatching s w p → IntakeStands s i p → Rested s w i p p'
quiet_rested s w i p p' owes is going grown h stands = rw grown (record {
  served = rest_follows s p (Said Quiet ∷ p) (Said Quiet) owes is refl ∙ settle_calm (Said Quiet ∷ p) Open going;
  watching = record { applied_now = h.applied_now; back = h.back; current = h.current; watches = h.watches };
  intake = intake_still s i p (Said Quiet ∷ p) refl stands;
  steps_kept = refl;
  work_more = omega arith;
})

pub ready_rested : {B : Type 0} {G : Ghosts B} (s : Start) (w : Watching B G) (i i' : Intake) (p p' : List Entry) (named : ℕ) → agenda s p ≡ Steps true Open → rest_entry s p ≡ Ready named → is_quitting p ≡ false → p' ≡ Ready named ∷ p → i' ≡ told i → IsWatching s w p → IntakeStands s i p → Rested s w i' p p'
ready_rested s w i i' p p' named owes is going grown new h stands = rw (grown, new) (record {
  served = rest_follows s p (Ready named ∷ p) (Ready named) owes is refl ∙ settle_calm (Ready named ∷ p) Open going;
  watching = record { applied_now = h.applied_now; back = h.back; current = h.current; watches = h.watches };
  intake = intake_told s i p named stands;
  steps_kept = refl;
  work_more = omega arith;
})

pub gone_rested : {B : Type 0} {G : Ghosts B} (s : Start) (w : Watching B G) (i i' : Intake) (p p' : List Entry) (item : ℕ) (cause : LetGoCause) → agenda s p ≡ Steps true Open → rest_entry s p ≡ LetGo item cause → IsOfTurn cause → IsFirst s item p → is_quitting p ≡ false → p' ≡ LetGo item cause ∷ p → i' ≡ left i → IsWatching s w p → IntakeStands s i p → Rested s w i' p p'
gone_rested s w i i' p p' item Full owes is of first going grown new h stands = absurd of
gone_rested s w i i' p p' item Obsolete owes is of first going grown new h stands =
    let found = first_of (first_item (source s p).lane) item first in
    rw (grown, new) (record {
      served = rest_follows s p (LetGo item Obsolete ∷ p) (LetGo item Obsolete) owes is refl ∙ settle_calm (LetGo item Obsolete ∷ p) Open going;
      watching = record { applied_now = h.applied_now; back = h.back; current = h.current; watches = h.watches };
      intake = record { lane_kept = lane_left s i p item found.0 found.1 found.2 stands; asks_kept = stands.asks_kept; since_kept = stands.since_kept; fence_kept = stands.fence_kept; fenced_kept = stands.fenced_kept };
      steps_kept = refl;
      work_more = omega arith;
    })
gone_rested s w i i' p p' item Uncovered owes is of first going grown new h stands =
    let found = first_of (first_item (source s p).lane) item first in
    rw (grown, new) (record {
      served = rest_follows s p (LetGo item Uncovered ∷ p) (LetGo item Uncovered) owes is refl ∙ settle_calm (LetGo item Uncovered ∷ p) Open going;
      watching = record { applied_now = h.applied_now; back = h.back; current = h.current; watches = h.watches };
      intake = record { lane_kept = lane_left s i p item found.0 found.1 found.2 stands; asks_kept = stands.asks_kept; since_kept = stands.since_kept; fence_kept = stands.fence_kept; fenced_kept = stands.fenced_kept };
      steps_kept = refl;
      work_more = omega arith;
    })

pub offered_rested : {B : Type 0} {G : Ghosts B} (s : Start) (w : Watching B G) (i i' : Intake) (p p' : List Entry) (item : ℕ) (event : Event) → agenda s p ≡ Steps true Open → rest_entry s p ≡ offer_of s p (Some item) event Normal → IsFirst s item p → is_quitting p ≡ false → p' ≡ offer_of s p (Some item) event Normal ∷ p → i' ≡ left i → IsWatching s w p → IntakeStands s i p → Rested s w i' p p'
offered_rested s w i i' p p' item event owes is first going grown new h stands =
    let found = first_of (first_item (source s p).lane) item first in
    let e : Entry = offer_of s p (Some item) event Normal in
    rw (grown, new) (record {
      served = rest_follows s p (e ∷ p) e owes is refl ∙ settle_calm (e ∷ p) Open going;
      watching = record { applied_now = h.applied_now; back = h.back; current = h.current; watches = h.watches };
      intake = record { lane_kept = lane_left s i p item found.0 found.1 found.2 stands; asks_kept = stands.asks_kept; since_kept = stands.since_kept; fence_kept = stands.fence_kept; fenced_kept = stands.fenced_kept };
      steps_kept = refl;
      work_more = omega arith;
    })

-- ---- memory may be wanted

pub rest_breaks : (s : Start) (p p' : List Entry) → agenda s p ≡ Steps true Open → p' ≡ p → BreaksHere s p' Memory
rest_breaks s p p' owes same = let none : NoneIsToGo (agenda s p') = rw (same, owes) tt in (none, inr none)

-- ---- steps are paid for as they were

pub rested_paid : {B Plan : Type 0} {G : Ghosts B} (s : Start) (w : Watching B G) (i : Intake) (p p' : List Entry) (a b : Seen Plan) → a.looked.looks ≤ b.looked.looks → Rested s w i p p' → PaysOn p a (owed (works w)) p' b (owed (works w))
rested_paid s w i p p' a b looks h = still_paid p p' a b (owed (works w)) (owed (works w)) (record { steps_kept = h.steps_kept; work_more = h.work_more; looks_more = looks }) (omega arith)

-- no entry was added
pub same_paid : {Plan : Type 0} (p p' : List Entry) (a b : Seen Plan) (owing : ℕ) → a.looked.looks ≤ b.looked.looks → p' ≡ p → PaysOn p a owing p' b owing
same_paid p p' a b owing looks same = still_paid p p' a b owing owing (record { steps_kept = ap step_count same; work_more = (let is : work_count p' ≡ work_count p = ap work_count same in omega (arith, is)); looks_more = looks }) (omega arith)

-- ---- it was told that all is watched

ready_stands : (s : Start) (w : Worker) (p : List Entry) (named : ℕ) → Stands s w p → Stands s w (Ready named ∷ p)
ready_stands s w p named stands = record {
  own = (tt, stands.own);
  config_kept = stands.config_kept;
  queue_kept = stands.queue_kept;
  size_kept = stands.size_kept;
  closed_kept = stands.closed_kept;
  named_kept = stands.named_kept;
  names_kept = stands.names_kept;
  events_kept = stands.events_kept;
  first_kept = stands.first_kept;
  jobs_kept = stands.jobs_kept;
  tasks_kept = tasks_silent (Ready named) p w.jobs refl stands.tasks_kept;
  idle_kept = stands.idle_kept;
  graceful_kept = stands.graceful_kept;
  ended_kept = stands.ended_kept;
}

-- in room that was taken
pub ready_alone : {Plan : Type 0} (s : Start) (w : Worker) (j j' : Written) (a b : Seen Plan) (named : ℕ) → Stands s w j.past → Due s j.past (Ready named) → Tells (Ready named) false a b → b.shown.faults ≡ a.shown.faults → j'.past ≡ Ready named ∷ j.past → 1 + end_room w ≤ j.spare → j'.spare + 1 ≡ j.spare → 1 + end_room w ≤ a.spare → AttendsAlone s w j a j' b
ready_alone s w j j' a b named stands due tells faults grown room used host = record {
  stands = rw grown (ready_stands s w j.past named stands);
  serves = λ hooks. record {
    follows = rw (grown, tells.told) (λ p₀ world₀ hooks₀ l. Then (Ready named) j.past a.shown.told hooks l due);
    turns = rw grown (turns_over (Ready named) j.past refl);
    counts = rw grown (λ p₀ n₀ c. (let more = tells.counts.later in record { later = omega (arith, c.later, more); rose = omega (arith, c.rose, more) }));
    unmade = unmade_same j.past j'.past a.progress.maker_faults b.progress.maker_faults (ap unmade_count grown) (ap (λ (x : Progress). x.maker_faults) tells.steady.progress_kept);
    steady = record {
      plan_kept = tells.steady.plan_kept;
      progress_kept = tells.steady.progress_kept ∙ sym (ap (λ (x : Progress). record a.progress { maker_faults = x.maker_faults }) tells.steady.progress_kept);
      host_faults = faults;
      place_kept = tells.steady.place_kept;
      looked_kept = tells.steady.looked_kept;
    };
    settings_kept = ap (settings s) grown;
    quits_kept = rw grown refl;
  };
  quiet = rw grown (λ p₀ q. More (Ready named) j.past q refl);
  room = λ r. record { in_journal = omega (arith, room, used); in_host = omega (arith, host, tells.room) };
}

-- ---- an item was let go

gone_stands : (s : Start) (w : Worker) (p : List Entry) (item : ℕ) (cause : LetGoCause) → item < item_count p → Stands s w p → Stands s w (LetGo item cause ∷ p)
gone_stands s w p item cause named stands = record {
  own = (named, stands.own);
  config_kept = stands.config_kept;
  queue_kept = stands.queue_kept;
  size_kept = stands.size_kept;
  closed_kept = stands.closed_kept;
  named_kept = stands.named_kept;
  names_kept = stands.names_kept;
  events_kept = stands.events_kept;
  first_kept = stands.first_kept;
  jobs_kept = stands.jobs_kept;
  tasks_kept = tasks_silent (LetGo item cause) p w.jobs refl stands.tasks_kept;
  idle_kept = stands.idle_kept;
  graceful_kept = stands.graceful_kept;
  ended_kept = stands.ended_kept;
}

gone_over : (s : Start) (w : Worker) (p p' : List Entry) (item : ℕ) (cause : LetGoCause) → item < item_count p → Stands s w p → Due s p (LetGo item cause) → p' ≡ LetGo item cause ∷ p → StepsOver s w p p'
gone_over s w p p' item cause named stands due grown = rw grown (record {
  stands = gone_stands s w p item cause named stands;
  follows = λ world hooks p₀ world₀ hooks₀ l. Then (LetGo item cause) p world hooks l due;
  quiet = λ p₀ a. More _ p a refl;
  turns = turns_over _ _ refl;
})

pub gone_grows : (s : Start) (w : Worker) (j j' : Written) (item : ℕ) (cause : LetGoCause) → Stands s w j.past → IsFirst s item j.past → Due s j.past (LetGo item cause) → j'.past ≡ LetGo item cause ∷ j.past → end_room w ≤ j'.spare → GrowsAlone s w j j'
gone_grows s w j j' item cause stands first due grown room = record {
  grows = grows s w w j j' (gone_over s w j.past j'.past item cause (item_is_named s j.past item stands.own first) stands due grown) refl room;
  settings_kept = ap (settings s) grown;
  quits_kept = rw grown refl;
  unmade_kept = ap unmade_count grown;
}

-- where only room was taken
pub none_grows : (s : Start) (w : Worker) (j j' : Written) → Stands s w j.past → j'.past ≡ j.past → j.spare ≤ j'.spare → GrowsAlone s w j j'
none_grows s w j j' stands same more = grown_by_none s w j j' (grows_none s w w j j' (rw same stands) same refl (λ room. omega (arith, room, more))) same

-- ---- an event was offered

pub attends_offered : {K Fixed Plan X E : Type 0} (P : Type 0) (seen : K → Hooked Fixed) (rule : Fixed → List Entry → Entry → Type 0) (holds : K → List Entry → Type 0) (s : Start) (w : Worker) (j : Written) (a : Seen Plan) (x : K) (w' : Worker) (j' : Written) (item : ℕ) (event : Event) (result : Result X E) → Grows s w j w' j' → OnOk result ((j'.past ≡ offer_of s j.past (Some item) event Normal ∷ j.past) × P) → OnErr result (j'.past ≡ j.past) → Attends seen rule holds s w j a x w' j' a x
attends_offered P seen rule holds s w j a x w' j' item event (Ok u) h grown err = attends_adds seen rule holds s w j a x w' j' h (ap (settings s) grown.0) (rw grown.0 refl) (ap unmade_count grown.0)
attends_offered P seen rule holds s w j a x w' j' item event (Err e) h grown err = attends_adds seen rule holds s w j a x w' j' h (ap (settings s) err) (rw err refl) (ap unmade_count err)

-- ---- an item was heard, or nothing came of it

-- what was heard brings work
heard_on : (before steps steps' work work' looks owing owing' : ℕ) → steps' ≡ steps → work + 1 ≤ work' → owing' ≤ 1 → min (before + steps + owing) (2 ^ 64 - 1 + work) ≤ looks + work → min (before + steps' + owing') (2 ^ 64 - 1 + work') ≤ looks + work'
heard_on before steps steps' work work' looks owing owing' same more few h = omega (arith, same, more, few, h)

pub heard_paid : {B Plan : Type 0} {G : Ghosts B} (w v : Watching B G) (p p' : List Entry) (a : Seen Plan) → step_count p' ≡ step_count p → work_count p ≤ work_count p' → (work_count p + 1 ≤ work_count p') ⊎ (v ≡ w) → PaysOn p a (owed (works w)) p' a (owed (works v))
heard_paid w v p p' a same more (inl heard) = λ before paid. heard_on before (step_count p) (step_count p') (work_count p) (work_count p') a.looked.looks (owed (works w)) (owed (works v)) same heard (owed_one (works v)) paid
heard_paid w v p p' a same more (inr still) = still_paid p p' a a (owed (works w)) (owed (works v)) (record { steps_kept = same; work_more = more; looks_more = omega arith }) (rw still (omega arith))
