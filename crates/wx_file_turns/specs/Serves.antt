-- What entries about what is watched do to a journal, and to a world.
use Rattle.std.specs.Prelude.{◌≡◌, ◌≤◌, ◌+◌, ◌-◌, ◌^◌, ℕ, min, Bool, false, not, Option, List, [], ◌∷◌}
use Rattle.wx_scan.specs.Backings.{failed_by, is_memory}
use Rattle.wx_journal.specs.declared.entry.Entry.{Entry}
use Rattle.wx_journal.specs.declared.entry.Entry.TheVariants.{Make}
use Rattle.wx_journal.specs.Names.{count, item_count}
use Rattle.wx_journal.specs.Written.{Written}
use Rattle.wx_machine.specs.Start.{Start}
use Rattle.wx_machine.specs.Seen.{Seen, Hooked}
use Rattle.wx_machine.specs.Kept.{StaysQuiet, KeepsOn}
use Rattle.wx_machine.specs.Faults.{CountsOn}
use Rattle.wx_machine.specs.Leads.{Follows}
use Rattle.wx_machine.specs.Steady.{StaysLooked}
use Rattle.wx_machine.specs.Turns.{StaysInTurn}
use Rattle.wx_machine.specs.Settings.{settings}
use Rattle.wx_machine.specs.Steps.{step_count, work_count, IsPaid}
use Rattle.wx_machine.specs.Files.{source}
use Rattle.wx_machine.specs.Due.{is_quitting}
use Rattle.wx_worker.specs.declared.worker_state.Worker.{Worker}
use Rattle.wx_worker.specs.Stands.{Stands, HasEndRoom, end_room}
use Rattle.wx_worker.specs.Serves.{Grows, GrowsHand}

-- a backend couldn't be made, but for want of memory
abbrev pub is_unmade : Entry → Bool
is_unmade (Make back watcher follow answer) = failed_by (λ k. not (is_memory k)) answer
is_unmade (_) = false

abbrev pub unmade_count : List Entry → ℕ
unmade_count p = count is_unmade p

-- the newest entry is one that couldn't
abbrev pub ends_unmade : List Entry → Bool
ends_unmade [] = false
ends_unmade (e ∷ p) = is_unmade e

-- Each backend that couldn't be made raised the count of these, which ends at its greatest number.
pub record CountsUnmade (p : List Entry) (n : ℕ) (p' : List Entry) (n' : ℕ) : Type 0 where
  pub more : unmade_count p ≤ unmade_count p'
  pub later : n ≤ n'
  pub rose : min (n + (unmade_count p' - unmade_count p)) (2 ^ 64 - 1) ≤ n'

-- What entries of a step leave of what a journal says, but those of backends: the settings that stand and that were applied, the
-- backend that stands, whether the end is due, and how many steps, entries that bring work, and items there are.
pub record LeavesWatch (s : Start) (p p' : List Entry) : Type 0 where
  pub settings_kept : settings s p' ≡ settings s p
  pub source_kept : source s p' ≡ source s p
  pub quits_kept : is_quitting p' ≡ is_quitting p
  pub steps_kept : step_count p' ≡ step_count p
  pub work_kept : work_count p' ≡ work_count p
  pub unmade_kept : unmade_count p' ≡ unmade_count p
  pub items_kept : item_count p' ≡ item_count p

-- Files were looked at, backends were asked for, or it was told that all is watched. The world's plan, turns and place, and its count of
-- faults of children, are as they were. Its count of failed makes may have risen; its counts of looks never fall.
pub record OnlyWatched {Plan : Type 0} (a b : Seen Plan) : Type 0 where
  pub plan_kept : b.plan ≡ a.plan
  pub progress_kept : b.progress ≡ record a.progress { maker_faults = b.progress.maker_faults }
  pub host_faults : b.shown.faults ≡ a.shown.faults
  pub place_kept : b.place ≡ a.place
  pub looked_kept : StaysLooked a.looked b.looked

-- What entries about what is watched add: each was due, and was told by just the one that it is a call on; none is a turn, nor ends
-- a job. Each backend that couldn't be made raised the count of these. Steps are paid for as they were.
pub record ServesWatch {Plan : Type 0} (s : Start) (p : List Entry) (a : Seen Plan) (hooks : Option (List Entry)) (p' : List Entry) (b : Seen Plan) (hooks' : Option (List Entry)) : Type 0 where
  pub follows : Follows s p a.shown.told hooks p' b.shown.told hooks'
  pub turns : StaysInTurn p p'
  pub counts : CountsOn p a.shown.faults p' b.shown.faults
  pub unmade : CountsUnmade p a.progress.maker_faults p' b.progress.maker_faults
  pub steady : OnlyWatched a b
  pub settings_kept : settings s p' ≡ settings s p
  pub quits_kept : is_quitting p' ≡ is_quitting p

-- The same with the worker, which stands for the longer journal, and with the hooks, which keep what each call promises. The room
-- for the end of all jobs is kept where it was there.
pub record Attends {K Fixed Plan : Type 0} (seen : K → Hooked Fixed) (rule : Fixed → List Entry → Entry → Type 0) (holds : K → List Entry → Type 0) (s : Start) (w : Worker) (j : Written) (a : Seen Plan) (x : K) (w' : Worker) (j' : Written) (b : Seen Plan) (x' : K) : Type 0 where
  pub stands : Stands s w' j'.past
  pub serves : ServesWatch s j.past a (seen x).told j'.past b (seen x').told
  pub keeps : KeepsOn seen rule holds x j.past x' j'.past
  pub room : HasEndRoom w j.spare a.spare → HasEndRoom w' j'.spare b.spare

-- The same where hooks aren't called, and the worker stays as it is.
pub record AttendsAlone {Plan : Type 0} (s : Start) (w : Worker) (j : Written) (a : Seen Plan) (j' : Written) (b : Seen Plan) : Type 0 where
  pub stands : Stands s w j'.past
  pub serves : (hooks : Option (List Entry)) → ServesWatch s j.past a hooks j'.past b hooks
  pub quiet : StaysQuiet j.past j'.past
  pub room : HasEndRoom w j.spare a.spare → HasEndRoom w j'.spare b.spare

-- the same where the world isn't called either
pub record GrowsAlone (s : Start) (w : Worker) (j j' : Written) : Type 0 where
  pub grows : Grows s w j w j'
  pub settings_kept : settings s j'.past ≡ settings s j.past
  pub quits_kept : is_quitting j'.past ≡ is_quitting j.past
  pub unmade_kept : unmade_count j'.past ≡ unmade_count j.past

-- the same where the worker may change, and hooks may be called; no step was said to be taken
pub record AttendsHand {K Fixed : Type 0} (seen : K → Hooked Fixed) (rule : Fixed → List Entry → Entry → Type 0) (holds : K → List Entry → Type 0) (s : Start) (w : Worker) (j : Written) (x : K) (w' : Worker) (j' : Written) (x' : K) : Type 0 where
  pub grows : GrowsHand seen rule holds s j.past x w' j'.past x'
  pub settings_kept : settings s j'.past ≡ settings s j.past
  pub quits_kept : is_quitting j'.past ≡ is_quitting j.past
  pub unmade_kept : unmade_count j'.past ≡ unmade_count j.past
  pub steps_kept : step_count j'.past ≡ step_count j.past
  pub work_more : work_count j.past ≤ work_count j'.past
  pub end_kept : end_room w' ≡ end_room w
  pub room : end_room w ≤ j.spare → end_room w' ≤ j'.spare

-- so many steps that may come without a look are paid for still
abbrev pub PaysOn : {Plan : Type 0} → List Entry → Seen Plan → ℕ → List Entry → Seen Plan → ℕ → Type 0
PaysOn p a owing p' b owing' = (before : ℕ) → IsPaid before p a.looked.looks owing → IsPaid before p' b.looked.looks owing'

-- no step was said to be taken, and neither what brings work nor looks fell
pub record CountsOnward {Plan : Type 0} (p : List Entry) (a : Seen Plan) (p' : List Entry) (b : Seen Plan) : Type 0 where
  pub steps_kept : step_count p' ≡ step_count p
  pub work_more : work_count p ≤ work_count p'
  pub looks_more : a.looked.looks ≤ b.looked.looks
