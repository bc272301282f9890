-- The end behind the turns of a run.
use Rattle.std.proofs.Common.{◌≡◌, ℕ, ◌≤◌, ◌⊎◌, Bool, true, false, cond, None, Some, List, [], ◌∷◌, Ok, Err, inl, inr, arith, refl, ap, subst, ◌∙◌}
use Rattle.std.specs.Prelude.{not, Result, IsErrAnd, IfErr}
use Rattle.wx_events.specs.declared.event.Event.{Event}
use Rattle.wx_events.specs.declared.priority.Priority.{Priority}
use Rattle.wx_journal.specs.declared.entry.Entry.{Entry}
use Rattle.wx_journal.specs.declared.entry.Entry.TheVariants.{Turn as Turned, TurnFault, Show, Make}
use Rattle.wx_journal.specs.declared.wish.Wish.{Wish}
use Rattle.wx_journal.specs.declared.wish.Wish.TheVariants.{Nothing, Elevate, Critical}
use Rattle.wx_error.specs.declared.runtime.RuntimeError.{RuntimeError}
use Rattle.wx_error.specs.declared.error.CriticalError.{CriticalError}
use Rattle.wx_error.specs.declared.error.CriticalError.TheVariants.{Exit, IoError, FsWatcherInit, Memory}
use Rattle.wx_watch.specs.declared.notify_fault.NotifyFault.{NotifyFault}
use Rattle.wx_watch.specs.declared.watched.Watcher.{Watcher}
use Rattle.wx_scan.specs.Backings.{failed_by, is_memory}
use Rattle.wx_journal.specs.Told.{Rose, Counts}
use Rattle.wx_machine.specs.Progress.{Progress}
use Rattle.wx_machine.specs.Files.{init_fault, init_error}
use Rattle.wx_machine.specs.Journal.{ending}
use Rattle.wx_file_turns.specs.Serves.{ends_unmade}
use Rattle.wx_machine.specs.Start.{Start}
use Rattle.wx_machine.specs.Jobs.{jobs}
use Rattle.wx_machine.specs.Due.{Hands, Agenda, Comes, agenda, Ends, sends, rest, after_show, settle, IsRun}
use Rattle.wx_machine.specs.Answer.{Dying, Alive, IsComplete, IsBroken, IsBehindTurn, NoneIsToGo, MemoryCuts, Wishes, BreaksOff, Answers}
use Rattle.wx_machine.specs.RunLaws.{NoneUrgentWaits}
use Rattle.wx_machine.proofs.BatchLaws.{is_to_hand, none_waits, run_is_served}
use Rattle.wx_journal.specs.Lines.{Answer}
use Rattle.wx_machine.proofs.EndLaws.{dying_turns, dying_run, dying_ends}
use Rattle.wx_engine.specs.Run.{EndsByWish, Stops, HasCause, HasTurnCause}

-- an exit is no error that a wish ends the run with
none_exits : (error : RuntimeError) (wish : Wish) → ending error wish ≡ Some Exit → ⊥
none_exits error Nothing is = cc
none_exits error Elevate is = cc
none_exits error (Critical Exit) is = cc
none_exits error (Critical wished) is = cc

-- what is said of a backend that couldn't be made is of what watches files
init_of : (watcher : Watcher) (fault : NotifyFault) (error : CriticalError) (short : Bool) → cond short None (Some (FsWatcherInit watcher (init_fault fault))) ≡ Some error → (short ≡ false) × (error ≡ FsWatcherInit watcher (init_fault fault))
init_of watcher fault error true is = cc
init_of watcher fault error false is = (refl, cc)

abbrev pub IsInit : CriticalError → Type 0
IsInit (FsWatcherInit watcher err) = Unit {0}
IsInit (_) = ⊥

pub init_only : (watcher : Watcher) (answer : Result (Unit {0}) NotifyFault) (error : CriticalError) → init_error watcher answer ≡ Some error → IsInit error
init_only watcher (Ok done) error is = absurd cc
init_only watcher (Err fault) error is = rw ((init_of watcher fault error (is_memory fault.kind) is).1) tt

no_exit : (p : List Entry) → Wishes Exit p → ⊥
no_exit [] is = cc
no_exit (Show n error wish ∷ p) is = none_exits error wish is
no_exit (Make back watcher links answer ∷ p) is = init_only watcher answer Exit is
no_exit (_ ∷ p) is = cc

complete : (s : Start) (q p : List Entry) → IsRun s q → agenda s q ≡ Ends → Dying q p → jobs p ≡ [] → IsComplete s p
complete s q p run due dying none = record { run = dying_run s q p dying run due; ended = dying_ends s q p dying due; none = none }

-- what is answered once the end is done
broken_off : (place : List Entry → Type 0) (s : Start) (q p : List Entry) → IsRun s q → place q → Dying q p → jobs p ≡ [] → IsBroken place s p
broken_off place s q p run cut dying none = record { before = q; run = run; cut = cut; dying = dying; none = none }

pub stopped : (s : Start) (q p : List Entry) (answer : Answer) → IsRun s q → Stops s q answer → Dying q p → jobs p ≡ [] → Answers s p answer
stopped s q p (Ok u) run stops dying none = (complete s q p run stops.0 dying none, (dying_turns s q p dying).fault ∙ stops.1)
stopped s q p (Err (IoError about err)) run (inl failed) dying none = inl (record { complete = complete s q p run failed.0 dying none; is_turn = failed.1; fault = (dying_turns s q p dying).fault ∙ failed.2 })
stopped s q p (Err (IoError about err)) run (inr wished) dying none = inr (broken_off (Wishes (IoError about err)) s q p run wished dying none)
stopped s q p (Err Memory) run (inl failed) dying none = absurd failed
stopped s q p (Err Memory) run (inr cut) dying none = broken_off (MemoryCuts s) s q p run cut dying none
stopped s q p (Err error) run (inl failed) dying none = absurd failed
stopped s q p (Err error) run (inr wished) dying none = broken_off (Wishes error) s q p run wished dying none

-- an error that ends the run, and isn't about what watches files, was wished
pub wished_other : (p : List Entry) (error : CriticalError) → (IsInit error → ⊥) → Wishes error p → EndsByWish error p
wished_other [] error other is = cc
wished_other (Show n shown wish ∷ p) error other is = is
wished_other (Make back watcher links answer ∷ p) error other is = absurd (other (init_only watcher answer error is))
wished_other (_ ∷ p) error other is = cc

-- its cause
broken_by : (s : Start) (q p : List Entry) (error : CriticalError) (R : Type 0) → IsRun s q → Dying q p → jobs p ≡ [] → R ⊎ EndsByWish error q → R ⊎ IsBroken (EndsByWish error) s p
broken_by s q p error R run dying none (inl rose) = inl rose
broken_by s q p error R run dying none (inr wished) = inr (broken_off (EndsByWish error) s q p run wished dying none)

caused : (s : Start) (q p : List Entry) (error : CriticalError) (old new : Progress) → IsRun s q → Dying q p → jobs p ≡ [] → Answers s p (Err error) → HasTurnCause q error old new → HasCause s p error old new
caused s q p (IoError about err) old new run dying none answers cause = broken_by s q p (IoError about err) (Rose old.turn_faults new.turn_faults) run dying none cause
caused s q p (FsWatcherInit watcher err) old new run dying none answers cause = broken_by s q p (FsWatcherInit watcher err) (Rose old.maker_faults new.maker_faults) run dying none cause
caused s q p Exit old new run dying none answers cause = absurd (no_exit answers.before answers.cut)
caused s q p (_) old new run dying none answers cause = tt

pub caused_by : (s : Start) (q p : List Entry) (answer : Answer) (old mid new : Progress) → mid ≡ new → IsRun s q → Dying q p → jobs p ≡ [] → Answers s p answer → IfErr answer (λ error. HasTurnCause q error old mid) → IfErr answer (λ error. HasCause s p error old new)
caused_by s q p (Ok u) old mid new same run dying none answers cause = tt
caused_by s q p (Err error) old mid new same run dying none answers cause = caused s q p error old new run dying none answers (subst (λ (n : Progress). HasTurnCause q error old n) same cause)

-- where turns break off: a backend that couldn't be made raised the count of these
unmade_init : (watcher : Watcher) (answer : Result (Unit {0}) NotifyFault) (error : CriticalError) → init_error watcher answer ≡ Some error → failed_by (λ k. not (is_memory k)) answer ≡ true
unmade_init watcher (Ok done) error is = absurd cc
unmade_init watcher (Err fault) error is = ap not ((init_of watcher fault error (is_memory fault.kind) is).0)

rose_between : (old mid mid' new : ℕ) → old ≤ mid → Rose mid mid' → mid' ≤ new → Rose old new
rose_between old mid mid' new before rose later = omega (arith, before, rose, later)

pub turn_cause : (s : Start) (p : List Entry) (error : CriticalError) (old new : Progress) (makers : ℕ) → BreaksOff s p error → old.maker_faults ≤ makers → Counts (ends_unmade p) makers new.maker_faults → HasTurnCause p error old new
turn_cause s p (IoError about err) old new makers breaks before counts = inr (wished_other p (IoError about err) (λ i. i) breaks)
turn_cause s [] (FsWatcherInit watcher err) old new makers breaks before counts = absurd cc
turn_cause s (Show n shown wish ∷ p) (FsWatcherInit watcher err) old new makers breaks before counts = inr breaks
turn_cause s (Make back by links answer ∷ p) (FsWatcherInit watcher err) old new makers breaks before counts =
    inl (rose_between old.maker_faults makers new.maker_faults new.maker_faults before (counts.rose (unmade_init by answer (FsWatcherInit watcher err) breaks)) (omega arith))
turn_cause s (_ ∷ p) (FsWatcherInit watcher err) old new makers breaks before counts = absurd cc
turn_cause s p (_) old new makers breaks before counts = tt

-- ---- want of memory

-- a run that was broken off before any job was made
pub broken : (s : Start) (p : List Entry) → IsRun s p → jobs p ≡ [] → NoneIsToGo (agenda s p) → IsBroken (MemoryCuts s) s p
broken s p run none go = record { before = p; run = run; cut = inr go; dying = Alive; none = none }

-- want of memory is answered where it is broken off
pub wants : (s : Start) (p : List Entry) (answer : Answer) → IsErrAnd answer (λ e. e ≡ Memory) → IsBroken (MemoryCuts s) s p → Answers s p answer
wants s p (Ok u) is broken = absurd is
wants s p (Err e) is broken = rw is broken

-- turns are served until memory is wanted, where it may be
pub stops_wanting : (s : Start) (p : List Entry) (answer : Answer) → IsErrAnd answer (λ e. e ≡ Memory) → MemoryCuts s p → Stops s p answer
stops_wanting s p (Ok u) is cut = absurd is
stops_wanting s p (Err e) is cut = rw is (inr cut)

-- nothing is to be shown or handed where a turn may come, nor while events are listed as sent
none_of_sends : (xs : List (Event × Priority)) → NoneIsToGo (sends xs)
none_of_sends [] = tt
none_of_sends (x ∷ xs) = tt

pub none_when_sending : (s : Start) (p : List Entry) (xs : List (Event × Priority)) → agenda s p ≡ sends xs → NoneIsToGo (agenda s p)
none_when_sending s p xs is = rw is (none_of_sends xs)

-- ---- no urgent event waits where turns are served no longer

none_to_hand : (k : Agenda) → NoneIsToGo k → is_to_hand k ≡ false
none_to_hand (Comes Hands more) none = absurd none
none_to_hand (_) none = refl

calm_behind : (s : Start) (p : List Entry) → IsRun s p → IsBehindTurn p → NoneUrgentWaits p
calm_behind s [] r behind = absurd behind
calm_behind s (Turned t ∷ p) r behind = none_waits s p r.1 (ap is_to_hand (run_is_served s (Turned t ∷ p) r).0)
calm_behind s (TurnFault code ∷ p) r behind = none_waits s p r.1 (ap is_to_hand (run_is_served s (TurnFault code ∷ p) r).0)
calm_behind s (_ ∷ p) r behind = absurd behind

calm_cut : (s : Start) (p : List Entry) → IsRun s p → MemoryCuts s p → NoneUrgentWaits p
calm_cut s p r (inl behind) = calm_behind s p r behind
calm_cut s p r (inr none) = none_waits s p r (none_to_hand (agenda s p) none)

unmade_waits : (s : Start) (p : List Entry) (back : ℕ) (watcher : Watcher) (links : Bool) (answer : Result (Unit {0}) NotifyFault) (error : CriticalError) → init_error watcher answer ≡ Some error → is_to_hand (agenda s (Make back watcher links answer ∷ p)) ≡ false
unmade_waits s p back watcher links (Ok done) error is = absurd cc
unmade_waits s p back watcher links (Err fault) error is = refl

calm_wished : (s : Start) (p : List Entry) (error : CriticalError) → IsRun s p → Wishes error p → NoneUrgentWaits p
calm_wished s [] error r is = absurd cc
calm_wished s (Show n shown wish ∷ p) error r is = none_waits s (Show n shown wish ∷ p) r (ap (λ o. is_to_hand (settle (Show n shown wish ∷ p) (after_show o (rest (Show n shown wish) (agenda s p))))) is)
calm_wished s (Make back watcher links answer ∷ p) error r is = none_waits s (Make back watcher links answer ∷ p) r (unmade_waits s p back watcher links answer error is)
calm_wished s (_ ∷ p) error r is = absurd cc

pub calm_stops : (s : Start) (p : List Entry) (answer : Answer) → IsRun s p → Stops s p answer → NoneUrgentWaits p
calm_stops s p (Ok u) r stops = none_waits s p r (ap is_to_hand stops.0)
calm_stops s p (Err (IoError about err)) r (inl failed) = none_waits s p r (ap is_to_hand failed.0)
calm_stops s p (Err (IoError about err)) r (inr wished) = calm_wished s p (IoError about err) r wished
calm_stops s p (Err Memory) r (inl failed) = absurd failed
calm_stops s p (Err Memory) r (inr cut) = calm_cut s p r cut
calm_stops s p (Err error) r (inl failed) = absurd failed
calm_stops s p (Err error) r (inr wished) = calm_wished s p error r wished

-- nor where it was broken off at the beginning
pub calm_begun : (s : Start) (p : List Entry) → IsRun s p → NoneIsToGo (agenda s p) → NoneUrgentWaits p
calm_begun s p r none = none_waits s p r (none_to_hand (agenda s p) none)
