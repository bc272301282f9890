-- An item is heard, and its fault is shown.
use Rattle.std.proofs.Common.{◌≡◌, ◌≤◌, ◌+◌, ℕ, Bool, true, false, List, ◌∷◌, inl, arith, refl, ap, sym, ◌∙◌, subst}
use Rattle.std.specs.Prelude.{◌⊎◌, Option, None, Some, Result, Ok, Err, IfErr, IsErrAnd, OnOk}
use Rattle.wx_scan.specs.declared.backend.Backend.{Ghosts}
use Rattle.wx_watch.specs.declared.notify_fault.NotifyFault.{NotifyFault}
use Rattle.wx_watch.specs.declared.source_errors.FsWatcherError.{FsWatcherError}
use Rattle.wx_watch.specs.declared.source_errors.FsWatcherError.TheVariants.{Event as EventFault}
use Rattle.wx_watch.specs.declared.watched.Watcher.{Watcher}
use Rattle.wx_tree.specs.declared.root.Root.{Root}
use Rattle.wx_config.specs.declared.config.Config.{Config}
use Rattle.wx_error.specs.declared.error.CriticalError.{CriticalError}
use Rattle.wx_error.specs.declared.error.CriticalError.TheVariants.{Memory}
use Rattle.wx_error.specs.declared.runtime.RuntimeError.{RuntimeError}
use Rattle.wx_error.specs.declared.runtime.RuntimeError.TheVariants.{FsWatcher}
use Rattle.wx_fs.specs.Kept.{kept_roots}
use Rattle.wx_journal.specs.declared.entry.Entry.{Entry}
use Rattle.wx_journal.specs.declared.entry.Entry.TheVariants.{Heard}
use Rattle.wx_journal.specs.Written.{Written}
use Rattle.wx_machine.specs.Start.{Start}
use Rattle.wx_machine.specs.Seen.{Hooked}
use Rattle.wx_machine.specs.Kept.{More}
use Rattle.wx_machine.specs.Leads.{Then}
use Rattle.wx_machine.specs.Journal.{closed}
use Rattle.wx_machine.specs.Settings.{settings}
use Rattle.wx_machine.specs.Steps.{step_count, work_count}
use Rattle.wx_machine.specs.Files.{applied, item_fault, item_named, source}
use Rattle.wx_machine.specs.Answer.{BreaksHere, NoneIsToGo}
use Rattle.wx_machine.specs.Due.{Comes, Open, Shows, Steps, after_fault, agenda, is_quitting, Due}
use Rattle.wx_machine.proofs.AllJobs.{turns_over}
use Rattle.wx_machine.proofs.SettleLaws.{settle_calm}
use Rattle.wx_worker.specs.declared.worker_state.Worker.{Worker}
use Rattle.wx_worker.specs.Calls.{IsShown, OwesShow}
use Rattle.wx_worker.specs.Serves.{AddsAlone}
use Rattle.wx_worker.specs.Stands.{Owes, Stands, end_room}
use Rattle.wx_worker.proofs.CallLemmas.{owes_show, shown_then, wants_here}
use Rattle.wx_worker.proofs.Serving.{hand_adds, hand_then, hooks_none}
use Rattle.wx_worker.proofs.StandsLemmas.{tasks_silent}
use Rattle.wx_file_turns.specs.declared.files.Watching.{Watching}
use Rattle.wx_file_turns.specs.declared.hearing.Hearing.{Hearing}
use Rattle.wx_file_turns.specs.declared.intake.Intake.{Intake}
use Rattle.wx_file_turns.specs.Hearing.{IsToHear, StaysWatching}
use Rattle.wx_file_turns.specs.Intake.{heard}
use Rattle.wx_file_turns.specs.Judged.{StepsHand}
use Rattle.wx_file_turns.specs.Serves.{unmade_count, AttendsHand, LeavesWatch}
use Rattle.wx_file_turns.specs.Standing.{IntakeStands, SameRoots, WatchesBy}
use Rattle.wx_file_turns.specs.Stepping.{IsWatching}
use Rattle.wx_file_turns.proofs.Intakes.{intake_heard}
use Rattle.wx_file_turns.proofs.Named.{heard_named}
use Rattle.wx_file_turns.proofs.Onward.{steps_hand_room}
use Rattle.wx_file_turns.proofs.Rebuilt.{watching_still}
use Rattle.wx_file_turns.proofs.Standing.{applied_is, intake_still}
use Rattle.wx_file_turns.proofs.Steps.{rest_due, rest_follows}

-- ---- a fault is shown

-- this is owed, where the end wasn't asked for
fault_none : (shut : Bool) (kind : Watcher) (fault : Option NotifyFault) → NoneIsToGo (after_fault shut kind fault Open)
fault_none shut kind None = tt
fault_none true kind (Some fault) = tt
fault_none false kind (Some fault) = tt

fault_is_none : (s : Start) (p : List Entry) (shut : Bool) (kind : Watcher) (fault : Option NotifyFault) → agenda s p ≡ after_fault shut kind fault Open → NoneIsToGo (agenda s p)
fault_is_none s p shut kind fault owes = subst NoneIsToGo (sym owes) (fault_none shut kind fault)

-- where it is none, nothing is owed
pub none_open : (s : Start) (p : List Entry) (shut : Bool) (kind : Watcher) (fault : Option NotifyFault) → agenda s p ≡ after_fault shut kind fault Open → fault ≡ None → agenda s p ≡ Open
none_open s p shut kind fault owes is = owes ∙ ap (λ (o : Option NotifyFault). after_fault shut kind o Open) is

pub found_owed : (s : Start) (w : Worker) (p : List Entry) (shut : Bool) (kind : Watcher) (found : Option NotifyFault) (fault : NotifyFault) → Owes s w p (after_fault shut kind found Open) → found ≡ Some fault → Owes s w p (after_fault shut kind (Some fault) Open)
found_owed s w p shut kind found fault owes is = record { stands = owes.stands; due = owes.due ∙ ap (λ (o : Option NotifyFault). after_fault shut kind o Open) is }

-- nor is it where the queue is closed
pub closed_open : (s : Start) (w : Worker) (p : List Entry) (kind : Watcher) (fault : NotifyFault) → Owes s w p (after_fault (closed p) kind (Some fault) Open) → w.queue.closed ≡ true → agenda s p ≡ Open
closed_open s w p kind fault owes shut = owes.due ∙ ap (λ (b : Bool). after_fault b kind (Some fault) Open) (sym owes.stands.closed_kept ∙ shut)

-- and else it is to be shown
pub fault_shows : (s : Start) (w : Worker) (p : List Entry) (kind : Watcher) (fault : NotifyFault) (err : FsWatcherError) → err ≡ EventFault fault → Owes s w p (after_fault (closed p) kind (Some fault) Open) → w.queue.closed ≡ false → Owes s w p (Comes (Shows (FsWatcher kind err)) Open)
fault_shows s w p kind fault err made owes shut = rw made (record { stands = owes.stands; due = owes.due ∙ ap (λ (b : Bool). after_fault b kind (Some fault) Open) (sym owes.stands.closed_kept ∙ shut) })

pub error_shows : (s : Start) (w : Worker) (p q : List Entry) (error : RuntimeError) → q ≡ p → Owes s w p (Comes (Shows error) Open) → OwesShow s w error q
error_shows s w p q error same owes = rw same (owes_show s w error p Open owes.stands owes.due)

-- and then nothing is owed
pub shown_open : {X E : Type 0} (s : Start) (w : Worker) (p q p' : List Entry) (error : RuntimeError) (result : Result X E) → q ≡ p → Owes s w p (Comes (Shows error) Open) → is_quitting p ≡ false → OnOk result (IsShown s error q p') → OnOk result (agenda s p' ≡ Open)
shown_open s w p q p' error (Ok x) same owes going done =
    let shown : IsShown s error p p' = subst (λ (r : List Entry). IsShown s error r p') same done in
    shown_then s p p' error shown Open owes.due ∙ settle_calm p Open going
shown_open s w p q p' error (Err e) same owes going done = tt

-- want of memory breaks off there

shows_none : (s : Start) (p q : List Entry) (error : RuntimeError) → q ≡ p → agenda s p ≡ Comes (Shows error) Open → NoneIsToGo (agenda s q)
shows_none s p q error same owes = rw same (subst NoneIsToGo (sym owes) tt)

pub shows_wants : {T : Type 0} (s : Start) (w : Worker) (p q : List Entry) (error : RuntimeError) (result : Result T CriticalError) → q ≡ p → Owes s w p (Comes (Shows error) Open) → IsErrAnd result (λ e. e ≡ Memory) → IfErr result (λ e. BreaksHere s q e)
shows_wants s w p q error result same owes is = wants_here s q result is (shows_none s p q error same owes.due)

-- ---- an item is heard

-- it is due
pub hears_due : (s : Start) (w : Worker) (h : Hearing) (p : List Entry) → Owes s w p (Steps true Open) → IsToHear s h p → Due s p (Heard h.name)
hears_due s w h p owes next = rest_due s p (Heard h.name) owes.due next.next

-- the worker stands behind it
heard_stands : (s : Start) (w : Worker) (h : Hearing) (p : List Entry) → Stands s w p → IsToHear s h p → Stands s w (Heard h.name ∷ p)
heard_stands s w h p stands next = record {
  own = (heard_named s p h.name stands.own next.next, stands.own);
  config_kept = stands.config_kept;
  queue_kept = stands.queue_kept;
  size_kept = stands.size_kept;
  closed_kept = stands.closed_kept;
  named_kept = stands.named_kept;
  names_kept = stands.names_kept;
  events_kept = stands.events_kept;
  first_kept = stands.first_kept;
  jobs_kept = stands.jobs_kept;
  tasks_kept = tasks_silent (Heard h.name) p w.jobs refl stands.tasks_kept;
  idle_kept = stands.idle_kept;
  graceful_kept = stands.graceful_kept;
  ended_kept = stands.ended_kept;
}

-- and its fault is owed
pub heard_owes : (s : Start) (w : Worker) (h : Hearing) (kind : Watcher) (p p' : List Entry) → Owes s w p (Steps true Open) → IsToHear s h p → is_quitting p ≡ false → kind ≡ (applied s p).file_watcher → p' ≡ Heard h.name ∷ p → Owes s w p' (after_fault (closed p') kind h.fault Open)
heard_owes s w h kind p p' owes next going by grown = record {
  stands = rw grown (heard_stands s w h p owes.stands next);
  due =
      rest_follows s p p' (Heard h.name) owes.due next.next grown
      ∙ settle_calm (Heard h.name ∷ p) (after_fault (closed p) (applied s p).file_watcher (item_fault (item_named h.name (source s p).lane)) Open) going
      ∙ ap (λ (k : Watcher). after_fault (closed p) k (item_fault (item_named h.name (source s p).lane)) Open) (sym by)
      ∙ ap (λ (o : Option NotifyFault). after_fault (closed p) kind o Open) (sym next.fault)
      ∙ ap (λ (b : Bool). after_fault b kind h.fault Open) (sym (ap closed grown));
}

-- want of memory breaks off before it, and behind it

rests_none : (s : Start) (p q : List Entry) → q ≡ p → agenda s p ≡ Steps true Open → NoneIsToGo (agenda s q)
rests_none s p q same owes = rw same (subst NoneIsToGo (sym owes) tt)

pub rests_wants : {T : Type 0} (s : Start) (w : Worker) (p q : List Entry) (result : Result T CriticalError) → q ≡ p → Owes s w p (Steps true Open) → IsErrAnd result (λ e. e ≡ Memory) → IfErr result (λ e. BreaksHere s q e)
rests_wants s w p q result same owes is = wants_here s q result is (rests_none s p q same owes.due)

pub fault_wants : {T : Type 0} (s : Start) (w : Worker) (p : List Entry) (shut : Bool) (kind : Watcher) (fault : Option NotifyFault) (result : Result T CriticalError) → Owes s w p (after_fault shut kind fault Open) → IsErrAnd result (λ e. e ≡ Memory) → IfErr result (λ e. BreaksHere s p e)
fault_wants s w p shut kind fault result owes is = wants_here s p result is (fault_is_none s p shut kind fault owes.due)

-- the kind of the watcher is the one that was applied
pub kind_applied : {B : Type 0} {G : Ghosts B} (s : Start) (w : Watching B G) (p : List Entry) → IsWatching s w p → w.recursor.kind ≡ (applied s p).file_watcher
kind_applied s w p h = h.watches.kind_kept ∙ sym (ap (λ (c : Config). c.file_watcher) (applied_is s p h.applied_now))

-- what keeps watches does so behind it
watches_told : {B : Type 0} {G : Ghosts B} (folder : List ℕ) (c : Config) (back : ℕ) (w v : Watching B G) → WatchesBy folder c back w → v.back ≡ w.back → StaysWatching w.recursor v.recursor → WatchesBy folder c back v
watches_told folder c back w v h named stays = record {
  named = named ∙ h.named;
  unspent = stays.spent_kept ∙ h.unspent;
  has_backend = rw stays.back_kept h.has_backend;
  installed = stays.place_kept ∙ h.installed;
  kind_kept = stays.kind_kept ∙ h.kind_kept;
  follow_kept = stays.follow_kept ∙ h.follow_kept;
  folder_kept = stays.folder_kept ∙ h.folder_kept;
  roots_kept = subst (λ (rs : List Root). SameRoots rs (kept_roots folder c.pathset)) (sym stays.roots_kept) h.roots_kept;
  filter_kept = stays.filter_kept ∙ h.filter_kept;
}

heard_watching : {B : Type 0} {G : Ghosts B} (s : Start) (w v : Watching B G) (p p' : List Entry) (item : ℕ) → IsWatching s w p → p' ≡ Heard item ∷ p → v.back ≡ w.back → StaysWatching w.recursor v.recursor → IsWatching s v p'
heard_watching s w v p p' item h grown named stays = rw grown (record {
  applied_now = h.applied_now;
  back = h.back;
  current = h.current;
  watches = watches_told s.folder (settings s p) h.back w v h.watches named stays;
})

-- and behind its fault
pub heard_watched : {B X E : Type 0} {G : Ghosts B} (s : Start) (w v : Watching B G) (p q r : List Entry) (item : ℕ) (result : Result X E) → IsWatching s w p → q ≡ Heard item ∷ p → v.back ≡ w.back → StaysWatching w.recursor v.recursor → LeavesWatch s q r → OnOk result (IsWatching s v r)
heard_watched s w v p q r item (Ok x) h grown named stays leaves = watching_still s v q r (heard_watching s w v p q item h grown named stays) leaves
heard_watched s w v p q r item (Err e) h grown named stays leaves = tt

pub heard_intake : {X E : Type 0} (s : Start) (i k : Intake) (p q r : List Entry) (item : ℕ) (result : Result X E) → IntakeStands s i p → k ≡ heard item i → q ≡ Heard item ∷ p → LeavesWatch s q r → OnOk result (IntakeStands s k r)
heard_intake s i k p q r item (Ok x) h is grown leaves = intake_still s k q r leaves.source_kept (rw (grown, is) (intake_heard s i p item h))
heard_intake s i k p q r item (Err e) h is grown leaves = tt

heard_work : (s : Start) (p q r : List Entry) (item : ℕ) → q ≡ Heard item ∷ p → LeavesWatch s q r → work_count p + 1 ≤ work_count r
heard_work s p q r item grown leaves = let one : work_count q ≡ work_count p + 1 = ap work_count grown in let same = leaves.work_kept in omega (arith, one, same)

pub heard_works : {X E : Type 0} (s : Start) (p q r : List Entry) (item : ℕ) (result : Result X E) → q ≡ Heard item ∷ p → LeavesWatch s q r → OnOk result (work_count p + 1 ≤ work_count r)
heard_works s p q r item (Ok x) grown leaves = heard_work s p q r item grown leaves
heard_works s p q r item (Err e) grown leaves = tt

-- whatever the handler of errors wished
pub heard_worked : (s : Start) (p q r : List Entry) (item : ℕ) (same : Type 0) → q ≡ Heard item ∷ p → LeavesWatch s q r → (work_count p + 1 ≤ work_count r) ⊎ same
heard_worked s p q r item same grown leaves = inl (heard_work s p q r item grown leaves)

-- ---- what that adds

module _ {K Fixed : Type 0} (seen : K → Hooked Fixed) (rule : Fixed → List Entry → Entry → Type 0) (holds : K → List Entry → Type 0) (s : Start) where
  pub called_then : (u v w : Worker) (j k l : Written) (x y z : K) → AttendsHand seen rule holds s u j x v k y → AttendsHand seen rule holds s v k y w l z → AttendsHand seen rule holds s u j x w l z
  called_then u v w j k l x y z g h =
      let more = g.work_more in
      let later = h.work_more in
      record {
        grows = hand_then seen rule holds s j.past k.past l.past x y z v w g.grows h.grows;
        settings_kept = h.settings_kept ∙ g.settings_kept;
        quits_kept = h.quits_kept ∙ g.quits_kept;
        unmade_kept = h.unmade_kept ∙ g.unmade_kept;
        steps_kept = h.steps_kept ∙ g.steps_kept;
        work_more = omega (arith, more, later);
        end_kept = h.end_kept ∙ g.end_kept;
        room = λ r. h.room (g.room r);
      }

  -- entries of a step
  pub called_steps : (w : Worker) (j : Written) (x : K) (w' : Worker) (j' : Written) (x' : K) → StepsHand seen rule holds s w j x w' j' x' → AttendsHand seen rule holds s w j x w' j' x'
  called_steps w j x w' j' x' h =
      let same = h.leaves.work_kept in
      record {
        grows = h.grows;
        settings_kept = h.leaves.settings_kept;
        quits_kept = h.leaves.quits_kept;
        unmade_kept = h.leaves.unmade_kept;
        steps_kept = h.leaves.steps_kept;
        work_more = omega (arith, same);
        end_kept = h.end_kept;
        room = h.room;
      }

  -- only room was taken
  pub called_room : (w : Worker) (j k : Written) (x : K) → Stands s w j.past → k.past ≡ j.past → j.spare ≤ k.spare → AttendsHand seen rule holds s w j x w k x
  called_room w j k x stands same kept = called_steps w j x w k x (steps_hand_room seen rule holds s w j k x x stands same kept (hooks_none seen holds x))

  heard_adds : (p p' : List Entry) (item : ℕ) → Due s p (Heard item) → p' ≡ Heard item ∷ p → AddsAlone s p p'
  heard_adds p p' item due grown = rw grown (record {
    follows = λ world hooks p₀ world₀ hooks₀ l. Then (Heard item) p world hooks l due;
    quiet = λ p₀ q. More (Heard item) p q refl;
    turns = turns_over (Heard item) p refl;
    counts = λ n p₀ n₀ c. record { later = c.later; rose = c.rose };
  })

  -- an item was heard, in room that was taken
  pub called_heard : (w : Worker) (h : Hearing) (j k l : Written) (x : K) → Owes s w j.past (Steps true Open) → IsToHear s h j.past → k.past ≡ j.past → 1 + end_room w ≤ k.spare → l.past ≡ Heard h.name ∷ k.past → l.spare + 1 ≡ k.spare → AttendsHand seen rule holds s w j x w l x
  called_heard w h j k l x owes next same room pushed used =
      let grown : l.past ≡ Heard h.name ∷ j.past = rw same at pushed in
      record {
        grows = hand_adds seen rule holds s j.past x w l.past (rw grown (heard_stands s w h j.past owes.stands next)) (heard_adds j.past l.past h.name (hears_due s w h j.past owes next) grown);
        settings_kept = ap (settings s) grown;
        quits_kept = ap is_quitting grown;
        unmade_kept = ap unmade_count grown;
        steps_kept = ap step_count grown;
        work_more = let one : work_count l.past ≡ work_count j.past + 1 = ap work_count grown in omega (arith, one);
        end_kept = refl;
        room = λ r. omega (arith, room, used);
      }
