-- A directory was shown to the filter in a step.
use Rattle.std.proofs.Common.{◌≡◌, ◌≤◌, ◌+◌, ℕ, Bool, true, List, ◌∷◌, arith, refl}
use Rattle.std.specs.Prelude.{◌||◌, Option, Result}
use Rattle.prio_channel.specs.Channel.{Channel}
use Rattle.wx_tree.specs.Places.{place}
use Rattle.wx_scan.specs.Checks.{is_below_any}
use Rattle.wx_error.specs.declared.runtime.RuntimeError.{RuntimeError}
use Rattle.wx_journal.specs.declared.entry.Entry.{Entry}
use Rattle.wx_journal.specs.declared.entry.Entry.TheVariants.{Dir}
use Rattle.wx_journal.specs.declared.entry.Named.{Named}
use Rattle.wx_journal.specs.Told.{tell}
use Rattle.wx_journal.specs.Written.{Written}
use Rattle.wx_machine.specs.Start.{Start}
use Rattle.wx_machine.specs.Seen.{Hooked}
use Rattle.wx_machine.specs.Kept.{TellsHooks, Keeps, OnlyHooksRoom}
use Rattle.wx_machine.specs.Leads.{FollowsHooks, Then}
use Rattle.wx_machine.specs.Journal.{is_exit}
use Rattle.wx_machine.specs.Due.{Due}
use Rattle.wx_machine.specs.Added.{Same, More}
use Rattle.wx_action.specs.declared.worker_state.Worker.{Worker}
use Rattle.wx_action.specs.Stands.{Stands, end_room}
use Rattle.wx_action.proofs.CallLemmas.{dir_stands}
use Rattle.wx_action.proofs.WorkLemmas.{called_grows}
use Rattle.wx_file_turns.specs.Judged.{AddsDirs, recursive_places, IsStepping, IsUpToDate, StepsHand, Base, IsKept}
use Rattle.wx_file_turns.specs.Serves.{LeavesWatch}
use Rattle.wx_file_turns.proofs.Entries.{leaves_dir}
use Rattle.wx_file_turns.proofs.Onward.{steps_hand_then, steps_hand_room, hand_none}
use Rattle.wx_file_turns.proofs.Steps.{dir_due, dir_on}

dir_follows : (s : Start) (p p' : List Entry) (n : ℕ) (path : List ℕ) (answer : Result Bool RuntimeError) (hooks hooks' : Option (List Entry)) → Due s p (Dir n path answer) → p' ≡ Dir n path answer ∷ p → hooks' ≡ tell (Dir n path answer) hooks → FollowsHooks s p hooks p' hooks'
dir_follows s p p' n path answer hooks hooks' due grown told = rw (grown, told) (λ world p₀ world₀ hooks₀ l. Then (Dir n path answer) p world hooks l due)

module _ {K Fixed : Type 0} (seen : K → Hooked Fixed) (rule : Fixed → List Entry → Entry → Type 0) (holds : K → List Entry → Type 0) where
  -- what is known of worker, journal and hooks where only room was taken
  pub kept_room : (b : Base K) (folder : List ℕ) (w : Worker) (j k : Written) (x y : K) → IsKept seen rule holds b folder w j x → k.past ≡ j.past → j.spare ≤ k.spare → OnlyHooksRoom seen holds x y → IsKept seen rule holds b folder w k y
  kept_room b folder w j k x y h same more only = record {
    hand = steps_hand_then seen rule holds b.start b.worker w w b.journal j k b.hooks x y h.hand (steps_hand_room seen rule holds b.start w j k x y h.hand.grows.stands same more only);
    dirs = rw same h.dirs;
    stepping = rw same h.stepping;
    applied_now = rw same h.applied_now;
    folder_kept = h.folder_kept;
  }

  -- and where a directory was shown to the filter
  pub kept_more : (b : Base K) (folder : List ℕ) (w w' : Worker) (j k l : Written) (x y z : K) (n : ℕ) (path : List ℕ) (answer : Result Bool RuntimeError) (queue : Channel Named) → IsKept seen rule holds b folder w j x → k.past ≡ j.past → j.spare ≤ k.spare → 1 + end_room w ≤ k.spare → OnlyHooksRoom seen holds x y
      → TellsHooks (Dir n path answer) (seen y) (seen z) → Keeps seen rule holds y k.past (Dir n path answer) z → n ≡ w.config.filterer → is_below_any (recursive_places folder w.config.pathset) (place path) ≡ true
      → queue.items ≡ w.queue.items → queue.size ≡ w.queue.size → queue.closed ≡ (is_exit answer || w.queue.closed) → w' ≡ record w { queue = queue } → l.past ≡ Dir n path answer ∷ k.past → l.spare + 1 ≡ k.spare → IsKept seen rule holds b folder w' l z
  kept_more b folder w w' j k l x y z n path answer queue h same more room only tells keeps number below items size shut with_queue grown used =
      let r = kept_room b folder w j k x y h same more only in
      let due = dir_due b.start w k.past folder n path answer r.hand.grows.stands r.stepping r.applied_now r.folder_kept number below in
      let stood = dir_stands b.start w k.past l.past n path answer queue r.hand.grows.stands items size shut grown in
      let grew = called_grows seen rule holds b.start k.past l.past y z w' (Dir n path answer) refl (dir_follows b.start k.past l.past n path answer (seen y).told (seen z).told due grown tells.told) grown keeps (rw with_queue stood) in
      let one : StepsHand seen rule holds b.start w k y w' l z = record { grows = grew; leaves = leaves_dir b.start k.past l.past n path answer grown; end_kept = rw with_queue refl; room = λ r. rw with_queue (omega (arith, room, used)) } in
      record {
        hand = steps_hand_then seen rule holds b.start b.worker w w' b.journal k l b.hooks y z r.hand one;
        dirs = rw grown (More (Dir n path answer) k.past r.dirs tt);
        stepping = dir_on b.start k.past l.past n path answer r.stepping grown;
        applied_now = rw grown r.applied_now;
        folder_kept = h.folder_kept;
      }

  -- at the beginning
  pub kept_first : (s : Start) (folder : List ℕ) (w : Worker) (j : Written) (x : K) → Stands s w j.past → IsStepping s j.past → IsUpToDate s j.past → folder ≡ s.folder → IsKept seen rule holds (record { start = s; worker = w; journal = j; hooks = x }) folder w j x
  kept_first s folder w j x stands step now same = record { hand = hand_none seen rule holds s w j x stands; dirs = Same; stepping = step; applied_now = now; folder_kept = same }

  -- what stands behind the references afterwards
  pub kept_behind : (b : Base K) (folder folder' : List ℕ) (w w' : Worker) (j j' : Written) (x x' : K) → IsKept seen rule holds b folder w j x → folder' ≡ folder → w' ≡ w → j' ≡ j → x' ≡ x → IsKept seen rule holds b folder' w' j' x'
  kept_behind b folder folder' w w' j j' x x' h ef ew ej ex = rw ef (rw ew (rw ej (rw ex h)))

-- and behind that of the journal
pub leaves_behind : (s : Start) (p q q' : List Entry) → LeavesWatch s p q → q' ≡ q → LeavesWatch s p q'
leaves_behind s p q q' h same = rw same h

pub dirs_behind : (p q q' : List Entry) → AddsDirs p q → q' ≡ q → AddsDirs p q'
dirs_behind p q q' h same = rw same h
