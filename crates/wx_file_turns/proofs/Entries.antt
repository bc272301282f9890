-- What entries about what is watched leave of a journal.
use Rattle.std.proofs.Common.{◌≡◌, ◌≤◌, ◌+◌, ℕ, Bool, true, false, List, ◌∷◌, inl, inr, arith, refl, ap}
use Rattle.std.specs.Prelude.{Option, not, Result, Ok, Err, OnOk, OnErr}
use Rattle.wx_watch.specs.declared.notify_fault.NotifyFault.{NotifyFault}
use Rattle.wx_watch.specs.declared.watched.Watcher.{Watcher}
use Rattle.wx_tree.specs.Trees.{Tree}
use Rattle.wx_scan.specs.Backings.{Backing, failed_by, is_memory}
use Rattle.wx_error.specs.declared.runtime.RuntimeError.{RuntimeError}
use Rattle.wx_journal.specs.declared.entry.Entry.{Entry}
use Rattle.wx_journal.specs.declared.entry.Entry.TheVariants.{Word as Said, Show, Dir, Make, Applied}
use Rattle.wx_journal.specs.declared.entry.Word.{Word}
use Rattle.wx_journal.specs.declared.wish.Wish.{Wish}
use Rattle.wx_journal.specs.Names.{back_count}
use Rattle.wx_journal.specs.Told.{Counts}
use Rattle.wx_journal.specs.Written.{Written}
use Rattle.wx_machine.specs.Start.{Start}
use Rattle.wx_machine.specs.Seen.{Seen, Hooked}
use Rattle.wx_machine.specs.Kept.{More}
use Rattle.wx_machine.specs.Leads.{Then}
use Rattle.wx_machine.specs.Settings.{settings}
use Rattle.wx_machine.specs.Due.{Due}
use Rattle.wx_machine.proofs.AllJobs.{turns_over}
use Rattle.wx_hooks.specs.Given.{made, GivesBackend}
use Rattle.wx_worker.specs.declared.worker_state.Worker.{Worker}
use Rattle.wx_worker.specs.Serves.{Grows, GrowsWithin}
use Rattle.wx_worker.specs.Stands.{Stands, MayShow, end_room}
use Rattle.wx_worker.proofs.StandsLemmas.{tasks_silent}
use Rattle.wx_file_turns.specs.Serves.{is_unmade, unmade_count, CountsUnmade, LeavesWatch, ServesWatch, AttendsAlone, GrowsAlone}
use Rattle.wx_file_turns.specs.Judged.{StepsHand}
use Rattle.wx_file_turns.proofs.Onward.{leaves_same, unmade_same}

-- ---- entries of a step

pub leaves_dir : (s : Start) (p p' : List Entry) (n : ℕ) (path : List ℕ) (answer : Result Bool RuntimeError) → p' ≡ Dir n path answer ∷ p → LeavesWatch s p p'
leaves_dir s p p' n path answer grown = rw grown (record { settings_kept = refl; source_kept = refl; quits_kept = refl; steps_kept = refl; work_kept = refl; unmade_kept = refl; items_kept = refl })

pub leaves_show : (s : Start) (p p' : List Entry) (n : ℕ) (error : RuntimeError) (wish : Wish) → p' ≡ Show n error wish ∷ p → LeavesWatch s p p'
leaves_show s p p' n error wish grown = rw grown (record { settings_kept = refl; source_kept = refl; quits_kept = refl; steps_kept = refl; work_kept = refl; unmade_kept = refl; items_kept = refl })

-- an error was shown, in room that was taken
may_leave : (s : Start) (p p' : List Entry) → MayShow p p' → LeavesWatch s p p'
may_leave s p p' (inl same) = leaves_same s p p' same
may_leave s p p' (inr shown) = leaves_show s p p' shown.0 shown.1 shown.2 shown.3

pub shown_hand : {K Fixed : Type 0} (seen : K → Hooked Fixed) (rule : Fixed → List Entry → Entry → Type 0) (holds : K → List Entry → Type 0) (s : Start) (w : Worker) (j : Written) (x : K) (w' : Worker) (j' : Written) (x' : K) → GrowsWithin seen rule holds s 1 1 w j x w' j' x' → MayShow j.past j'.past → 1 + end_room w ≤ j.spare → StepsHand seen rule holds s w j x w' j' x'
shown_hand seen rule holds s w j x w' j' x' within may room = record {
  grows = within.grows;
  leaves = may_leave s j.past j'.past may;
  end_kept = within.end_kept;
  room = λ r. omega (arith, within.end_kept, within.in_journal, room);
}

-- a word
pub grown_by_word : (s : Start) (w : Worker) (j j' : Written) (word : Word) → Grows s w j w j' → j'.past ≡ Said word ∷ j.past → GrowsAlone s w j j'
grown_by_word s w j j' word g said = record { grows = g; settings_kept = ap (settings s) said; quits_kept = rw said refl; unmade_kept = ap unmade_count said }

pub grown_by_none : (s : Start) (w : Worker) (j j' : Written) → Grows s w j w j' → j'.past ≡ j.past → GrowsAlone s w j j'
grown_by_none s w j j' g same = record { grows = g; settings_kept = ap (settings s) same; quits_kept = rw same refl; unmade_kept = ap unmade_count same }

pub said_grows : {X E : Type 0} (s : Start) (w : Worker) (j j' : Written) (word : Word) (result : Result X E) → Grows s w j w j' → OnOk result (j'.past ≡ Said word ∷ j.past) → OnErr result (j'.past ≡ j.past) → GrowsAlone s w j j'
said_grows s w j j' word (Ok x) g said err = grown_by_word s w j j' word g said
said_grows s w j j' word (Err e) g said err = grown_by_none s w j j' g err

-- ---- the worker stands behind settings that were applied, and behind a backend that was made, or couldn't be

pub applied_stands : (s : Start) (w : Worker) (p : List Entry) (revision : ℕ) → Stands s w p → Stands s w (Applied revision ∷ p)
applied_stands s w p revision stands = record {
  own = (tt, stands.own);
  config_kept = stands.config_kept;
  queue_kept = stands.queue_kept;
  size_kept = stands.size_kept;
  closed_kept = stands.closed_kept;
  named_kept = stands.named_kept;
  names_kept = stands.names_kept;
  events_kept = stands.events_kept;
  first_kept = stands.first_kept;
  jobs_kept = stands.jobs_kept;
  tasks_kept = tasks_silent (Applied revision) p w.jobs refl stands.tasks_kept;
  idle_kept = stands.idle_kept;
  graceful_kept = stands.graceful_kept;
  ended_kept = stands.ended_kept;
}

made_stands : (s : Start) (w : Worker) (p : List Entry) (back : ℕ) (kind : Watcher) (follow : Bool) (answer : Result (Unit {0}) NotifyFault) → back ≡ back_count p → Stands s w p → Stands s w (Make back kind follow answer ∷ p)
made_stands s w p back kind follow answer next stands = record {
  own = (next, stands.own);
  config_kept = stands.config_kept;
  queue_kept = stands.queue_kept;
  size_kept = stands.size_kept;
  closed_kept = stands.closed_kept;
  named_kept = stands.named_kept;
  names_kept = stands.names_kept;
  events_kept = stands.events_kept;
  first_kept = stands.first_kept;
  jobs_kept = stands.jobs_kept;
  tasks_kept = tasks_silent (Make back kind follow answer) p w.jobs refl stands.tasks_kept;
  idle_kept = stands.idle_kept;
  graceful_kept = stands.graceful_kept;
  ended_kept = stands.ended_kept;
}

-- ---- settings were applied, in room that was taken

pub applied_alone : {Plan : Type 0} (s : Start) (w : Worker) (j j' : Written) (a : Seen Plan) (revision : ℕ) → Stands s w j.past → Due s j.past (Applied revision) → j'.past ≡ Applied revision ∷ j.past → 1 + end_room w ≤ j.spare → j'.spare + 1 ≡ j.spare → AttendsAlone s w j a j' a
applied_alone s w j j' a revision stands due grown room used = record {
  stands = rw grown (applied_stands s w j.past revision stands);
  serves = λ hooks. record {
    follows = rw grown (λ p₀ world₀ hooks₀ l. Then (Applied revision) j.past a.shown.told hooks l due);
    turns = rw grown (turns_over (Applied revision) j.past refl);
    counts = rw grown (λ p₀ n₀ c. record { later = c.later; rose = c.rose });
    unmade = unmade_same j.past j'.past a.progress.maker_faults a.progress.maker_faults (ap unmade_count grown) refl;
    steady = record { plan_kept = refl; progress_kept = refl; host_faults = refl; place_kept = refl; looked_kept = record { looks_kept = omega arith; faults_kept = omega arith; exact_kept = λ e. e; shape_kept = λ t e. e; tree_kept = λ t e. refl } };
    settings_kept = ap (settings s) grown;
    quits_kept = rw grown refl;
  };
  quiet = rw grown (λ p₀ q. More (Applied revision) j.past q refl);
  room = λ r. record { in_journal = omega (arith, room, used); in_host = r.in_host };
}

-- ---- a backend was asked for

failed_made : {B : Type 0} (result : Result B NotifyFault) → failed_by (λ k. not (is_memory k)) (made result) ≡ failed_by (λ k. not (is_memory k)) result
failed_made (Ok back) = refl
failed_made (Err fault) = refl

unmade_by : (bad : Bool) (e : Entry) (p : List Entry) (n n' : ℕ) → is_unmade e ≡ bad → Counts bad n n' → CountsUnmade p n (e ∷ p) n'
unmade_by true e p n n' is counts =
    let one : unmade_count (e ∷ p) ≡ unmade_count p + 1 = rw is refl in
    let rose = counts.rose refl in
    record { more = omega (arith, one); later = counts.later; rose = omega (arith, one, rose) }
unmade_by false e p n n' is counts =
    let none : unmade_count (e ∷ p) ≡ unmade_count p = rw is refl in
    record { more = omega (arith, none); later = counts.later; rose = omega (arith, none, counts.later) }

module _ {Plan B : Type 0} (backing : B → Backing) (fits : B → Tree → Type 0) (s : Start) (w : Worker) (back : ℕ) (kind : Watcher) (follow : Bool) where
  serves_made : (result : Result B NotifyFault) (p p' : List Entry) (a b : Seen Plan) (hooks : Option (List Entry)) → Due s p (Make back kind follow (made result)) → GivesBackend backing fits back kind follow result a b → p' ≡ Make back kind follow (made result) ∷ p → ServesWatch s p a hooks p' b hooks
  serves_made result p p' a b hooks due gives grown = rw grown (record {
    follows = rw gives.told (λ p₀ world₀ hooks₀ l. Then (Make back kind follow (made result)) p a.shown.told hooks l due);
    turns = turns_over (Make back kind follow (made result)) p refl;
    counts = rw gives.host_faults (λ p₀ n₀ c. record { later = c.later; rose = c.rose });
    unmade = unmade_by (failed_by (λ k. not (is_memory k)) result) (Make back kind follow (made result)) p a.progress.maker_faults b.progress.maker_faults (failed_made result) gives.maker_faults;
    steady = record { plan_kept = gives.plan_kept; progress_kept = gives.progress_kept; host_faults = gives.host_faults; place_kept = gives.place_kept; looked_kept = gives.looked };
    settings_kept = refl;
    quits_kept = refl;
  })

  -- it was listed, in room that was taken
  pub made_alone : (result : Result B NotifyFault) (answer : Result (Unit {0}) NotifyFault) (j j' : Written) (a b : Seen Plan) → made result ≡ answer → back ≡ back_count j.past → Stands s w j.past → Due s j.past (Make back kind follow answer) → GivesBackend backing fits back kind follow result a b → j'.past ≡ Make back kind follow answer ∷ j.past → 1 + end_room w ≤ j.spare → j'.spare + 1 ≡ j.spare → 1 + end_room w ≤ a.spare → AttendsAlone s w j a j' b
  made_alone result answer j j' a b is next stands due gives grown room used host = record {
    stands = rw grown (made_stands s w j.past back kind follow answer next stands);
    serves = λ hooks. serves_made result j.past j'.past a b hooks (rw is due) gives (rw is grown);
    quiet = rw grown (λ p₀ q. More (Make back kind follow answer) j.past q refl);
    room = λ r. record { in_journal = omega (arith, room, used); in_host = omega (arith, host, gives.room) };
  }
