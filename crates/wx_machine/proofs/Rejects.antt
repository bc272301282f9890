-- What is refused after faults, while a function is begun, and of what is watched.
use Rattle.std.proofs.Common.{◌≡◌, ℕ, Bool, List, [], ◌∷◌, Ok, Err, true, false, refl, ap, sym, arith}
use Rattle.std.specs.Prelude.{pos, codes, Result, Some, None}
use Rattle.wx_events.specs.declared.event.Event.{Event}
use Rattle.wx_events.specs.declared.priority.Priority.{Priority}
use Rattle.wx_journal.specs.declared.entry.Offered.{Offered}
use Rattle.wx_notify.specs.declared.notify.Notify.{Notify}
use Rattle.wx_lane.specs.FileEvents.{event_of}
use Rattle.wx_command.specs.declared.spawnable.Spawnable.{Spawnable}
use Rattle.wx_events.specs.declared.process.ProcessEnd.{ProcessEnd}
use Rattle.wx_control.specs.declared.control.Control.TheVariants.{Start, GracefulStop, AsyncFunc}
use Rattle.wx_control.specs.declared.level.Level.TheVariants.{Normal}
use Rattle.wx_events.specs.declared.process.Signal.{Signal as ASignal}
use Rattle.wx_journal.specs.declared.child.SpawnTag.TheVariants.{Default}
use Rattle.wx_journal.specs.declared.entry.Entry.TheVariants.{Turn as Turned, Offer, Word as Said, Made, Asked, Pick, GraceOver, Spawn, Signal, Kill, Wait, Raise, Gone, Run, Begun, Poll, Dir, Make, Applied, Heard, Brought, Ready}
use Rattle.wx_journal.specs.declared.entry.TurnKind.TheVariants.{Job, Listen, File}
use Rattle.wx_journal.specs.declared.entry.Word.TheVariants.{Idle, Ignored, Stepped}
use Rattle.wx_journal.specs.declared.entry.Turn.{Turn}
use Rattle.wx_watch.specs.declared.notify_fault.NotifyFault.{NotifyFault}
use Rattle.wx_watch.specs.declared.watched.Watcher.{Watcher}
use Rattle.wx_config.specs.declared.config.Config.{Config}
use Rattle.wx_control.specs.declared.id.Id.{Id}
use Rattle.wx_error.specs.declared.runtime.RuntimeError.{RuntimeError}
use Rattle.wx_tree.specs.Places.{place}
use Rattle.wx_machine.specs.Start.{Start as AStart}
use Rattle.wx_machine.specs.Steps.{IsPaid}
use Rattle.wx_machine.specs.Due.{Applies, Open, Comes, turn_agenda, says}
use Rattle.wx_machine.specs.Files.{unwatched, asked, are_same_roots, has_paths, is_deaf, is_live, is_to_make, is_below_recursive, roots, step_on}
use Rattle.wx_machine.specs.FileLaws.{AreFromFiles, AreWatchedByRule, UnmadeEnds}
use Rattle.wx_machine.specs.TicketLaws.{WaitForFunctions}
use Rattle.wx_machine.specs.Afterwards.{GoesOnAfterFaults, AreOverOnce}

unborn_refused : (what : Spawnable) (t : Turn) (status : ProcessEnd) → GoesOnAfterFaults (Wait 0 (Ok status) ∷ Kill 0 (Ok tt) ∷ Pick (record { 0 = 0 }) 1 ∷ Turned t ∷ Raise 0 ∷ Spawn 0 (record { 0 = 0 }) Default what (Err (record { 0 = 1 })) ∷ []) → ⊥
unborn_refused what t status h = let is = h.born.0 in absurd cc

again_refused : (what : Spawnable) (t : Turn) (s : ASignal) → GoesOnAfterFaults (Kill 0 (Ok tt) ∷ GraceOver (record { 0 = 0 }) ∷ Turned t ∷ Raise 1 ∷ Kill 0 (Err (record { 0 = 1 })) ∷ GraceOver (record { 0 = 0 }) ∷ Signal 0 (pos 15) (Ok tt) ∷ Pick (record { 0 = 0 }) 1 ∷ Asked 1 (record { 0 = 0 }) Normal (GracefulStop s 5) ∷ Spawn 0 (record { 0 = 0 }) Default what (Ok tt) ∷ Asked 0 (record { 0 = 0 }) Normal Start ∷ Made (record { 0 = 0 }) ∷ []) → ⊥
again_refused what t s h = let is = h.over.0 in absurd cc

never_sent_refused : (what : Spawnable) (t : Turn) (s : ASignal) → GoesOnAfterFaults (Kill 0 (Ok tt) ∷ GraceOver (record { 0 = 0 }) ∷ Turned t ∷ Raise 1 ∷ Signal 0 (pos 15) (Err (record { 0 = 1 })) ∷ Pick (record { 0 = 0 }) 1 ∷ Asked 1 (record { 0 = 0 }) Normal (GracefulStop s 5) ∷ Spawn 0 (record { 0 = 0 }) Default what (Ok tt) ∷ Asked 0 (record { 0 = 0 }) Normal Start ∷ Made (record { 0 = 0 }) ∷ []) → ⊥
never_sent_refused what t s h = let is = h.over.0 in absurd cc

-- nor after a signal that failed, where an earlier one began a grace
failed_refused : (what : Spawnable) (t : Turn) (s : ASignal) → GoesOnAfterFaults (GraceOver (record { 0 = 0 }) ∷ Turned t ∷ Raise 2 ∷ Signal 0 (pos 15) (Err (record { 0 = 1 })) ∷ Pick (record { 0 = 0 }) 2 ∷ Asked 2 (record { 0 = 0 }) Normal (GracefulStop s 5) ∷ Signal 0 (pos 15) (Ok tt) ∷ Pick (record { 0 = 0 }) 1 ∷ Asked 1 (record { 0 = 0 }) Normal (GracefulStop s 5) ∷ Spawn 0 (record { 0 = 0 }) Default what (Ok tt) ∷ Asked 0 (record { 0 = 0 }) Normal Start ∷ Made (record { 0 = 0 }) ∷ []) → ⊥
failed_refused what t s h = let is = h.over.0 in absurd cc

-- one that is as it must be is not
sent_taken : (what : Spawnable) (t : Turn) (s : ASignal) → AreOverOnce (Kill 0 (Ok tt) ∷ GraceOver (record { 0 = 0 }) ∷ Turned t ∷ Signal 0 (pos 15) (Ok tt) ∷ Pick (record { 0 = 0 }) 1 ∷ Asked 1 (record { 0 = 0 }) Normal (GracefulStop s 5) ∷ Spawn 0 (record { 0 = 0 }) Default what (Ok tt) ∷ Asked 0 (record { 0 = 0 }) Normal Start ∷ Made (record { 0 = 0 }) ∷ [])
sent_taken what t s = (refl, tt)

-- ---- while a function is begun

idle_refused : WaitForFunctions (Said Idle ∷ Turned (record { at = 0; kind = Job (record { 0 = 0 }) }) ∷ Begun (record { 0 = 0 }) 7 ∷ Pick (record { 0 = 0 }) 0 ∷ Asked 0 (record { 0 = 0 }) Normal (AsyncFunc 7) ∷ Made (record { 0 = 0 }) ∷ []) → ⊥
idle_refused h = h.0 (record { 0 = 0 }) refl (record { n = 7; ticket = 0 }) refl

run_refused : WaitForFunctions (Run (record { 0 = 0 }) 3 ∷ Begun (record { 0 = 0 }) 7 ∷ Pick (record { 0 = 0 }) 0 ∷ Asked 0 (record { 0 = 0 }) Normal (AsyncFunc 7) ∷ Made (record { 0 = 0 }) ∷ []) → ⊥
run_refused h = h.0 (record { 0 = 0 }) refl (record { n = 7; ticket = 0 }) refl

signal_refused : (what : Spawnable) → WaitForFunctions (Signal 0 (pos 15) (Ok tt) ∷ Begun (record { 0 = 0 }) 7 ∷ Pick (record { 0 = 0 }) 0 ∷ Asked 0 (record { 0 = 0 }) Normal (AsyncFunc 7) ∷ Spawn 0 (record { 0 = 0 }) Default what (Ok tt) ∷ Made (record { 0 = 0 }) ∷ []) → ⊥
signal_refused what h = h.0 (record { 0 = 0 }) refl (record { n = 7; ticket = 0 }) refl

-- another function is none of it
other_refused : WaitForFunctions (Poll (record { 0 = 0 }) 8 false ∷ Begun (record { 0 = 0 }) 7 ∷ Pick (record { 0 = 0 }) 0 ∷ Asked 0 (record { 0 = 0 }) Normal (AsyncFunc 7) ∷ Made (record { 0 = 0 }) ∷ []) → ⊥
other_refused h = let is = h.0 (record { 0 = 0 }) refl (record { n = 7; ticket = 0 }) refl in absurd cc

-- ---- what is watched

-- nothing but the end comes behind a backend that couldn't be made
unmade_refused : (watcher : Watcher) (links : Bool) (fault : NotifyFault) → UnmadeEnds (Said Idle ∷ Make 0 watcher links (Err fault) ∷ []) → ⊥
unmade_refused watcher links fault h = let is = h.0 refl in absurd cc

unmade_taken : (watcher : Watcher) (links : Bool) (fault : NotifyFault) (job : Id) → UnmadeEnds (Gone job ∷ Make 0 watcher links (Err fault) ∷ [])
unmade_taken watcher links fault job = (λ is. refl, (λ is. absurd cc, tt))

-- no directory is judged before settings were applied
unapplied_refused : (s : AStart) (n : ℕ) (path : List ℕ) (answer : Result Bool RuntimeError) → AreWatchedByRule s (Dir n path answer ∷ []) → ⊥
unapplied_refused s n path answer h = let is = h.0.some_applied in absurd cc

-- a directory lies strictly below a recursive path, seen from the folder
below_taken : is_below_recursive (codes "/w") (record { path = codes "a/../src"; recursive = true } ∷ []) (place (codes "/w/src/b")) ≡ true
below_taken = refl

itself_refused : is_below_recursive (codes "/w") (record { path = codes "src"; recursive = true } ∷ []) (place (codes "/w/src")) ≡ false
itself_refused = refl

beside_refused : is_below_recursive (codes "/w") (record { path = codes "/src"; recursive = true } ∷ []) (place (codes "/w/src/b")) ≡ false
beside_refused = refl

flat_refused : is_below_recursive (codes "/w") (record { path = codes "src"; recursive = false } ∷ []) (place (codes "/w/src/b")) ≡ false
flat_refused = refl

-- where no backend stands one is to be made, if a path is to be watched
none_stands : (c d : Config) → has_paths c ≡ true → is_to_make c (record unwatched { applied = Some d }) ≡ true
none_stands c d some = rw some refl

-- the first turn about files applies the settings
first_applies : (s : AStart) → turn_agenda s File 7 [] ≡ Comes Applies Open
first_applies s = refl

-- settings that were applied bring one step without a look, and not two
swept_taken : IsPaid 5 (Said Stepped ∷ Applied 0 ∷ []) 5 0
swept_taken = omega arith

twice_refused : IsPaid 5 (Said Stepped ∷ Said Stepped ∷ Applied 0 ∷ []) 5 0 → ⊥
twice_refused h = omega (arith, h)

-- a look brings the second
looked_taken : IsPaid 5 (Said Stepped ∷ Said Stepped ∷ Applied 0 ∷ []) 6 0
looked_taken = omega arith

-- and so does what was heard
heard_taken : IsPaid 5 (Said Stepped ∷ Heard 0 ∷ []) 5 0
heard_taken = omega arith

-- ---- what was brought

-- nothing is offered that wasn't brought
invented_refused : (s : AStart) (result : Offered) (event : Event) (priority : Priority) → AreFromFiles s (Offer 0 (Some 0) result event priority ∷ []) → ⊥
invented_refused s result event priority h = let is = h.0.was_brought in absurd cc

-- nor another event, and nothing twice
has_tags : (n : Notify) → (event_of n).tags ≡ [] → ⊥
has_tags n e = absurd cc

other_event_refused : (s : AStart) (n : Notify) (result : Offered) (priority : Priority) → AreFromFiles s (Offer 0 (Some 0) result (record { tags = [] }) priority ∷ Brought 0 0 (Ok n) ∷ []) → ⊥
other_event_refused s n result priority h = has_tags h.0.notify (ap (λ (event : Event). event.tags) (sym h.0.becomes))

twice_offered_refused : (s : AStart) (answer : Result Notify NotifyFault) (result : Offered) (event : Event) (priority : Priority) → AreFromFiles s (Offer 1 (Some 0) result event priority ∷ Offer 0 (Some 0) result event priority ∷ Brought 0 0 answer ∷ []) → ⊥
twice_offered_refused s answer result event priority h = let later = h.0.later in omega (arith, later)

-- nor an earlier one behind a later one
earlier_refused : (s : AStart) (result : Offered) (event : Event) (priority : Priority) → AreFromFiles s (Offer 1 (Some 3) result event priority ∷ Offer 0 (Some 4) result event priority ∷ []) → ⊥
earlier_refused s result event priority h = let later = h.0.later in omega (arith, later)

-- an event names no item, and is of none
arrived_taken : (s : AStart) (result : Offered) (event : Event) (priority : Priority) → AreFromFiles s (Offer 0 None result event priority ∷ [])
arrived_taken s result event priority = tt

-- where no backend stands nothing is brought, and it isn't told that all is watched where nobody asked
unasked_refused : (s : AStart) (named : ℕ) → AreWatchedByRule s (Ready named ∷ []) → ⊥
unasked_refused s named h = let is = h.0.asked in absurd cc

unbacked_refused : (s : AStart) (answer : Result Notify NotifyFault) → AreWatchedByRule s (Brought 0 0 answer ∷ []) → ⊥
unbacked_refused s answer h = let is = h.0.stands in absurd cc

none_listens : (s : AStart) → turn_agenda s Listen 7 [] ≡ says Ignored
none_listens s = refl

-- it isn't told of the first settings
first_unasked : asked 0 ≡ None
first_unasked = refl

third_asked : asked 3 ≡ Some 3
third_asked = refl

-- a backend that was made before other settings is live only where it stands
old_refused : is_live (record unwatched { current = Some 1; since = 1 }) 0 ≡ false
old_refused = refl

standing_taken : is_live (record unwatched { current = Some 0; since = 1 }) 0 ≡ true
standing_taken = refl

-- and one that was made again for the same settings leaves those before live
replaced_taken : is_live (record unwatched { current = Some 4; since = 2 }) 3 ≡ true
replaced_taken = refl

-- roots in another order are the same, and one that is watched whole isn't one that is watched flat
turned_taken : are_same_roots (roots (codes "/w") (record { path = codes "a"; recursive = true } ∷ record { path = codes "/b"; recursive = false } ∷ [])) (roots (codes "/w") (record { path = codes "/c/../b"; recursive = false } ∷ record { path = codes "/w/a"; recursive = true } ∷ [])) ≡ true
turned_taken = refl

flat_is_other : are_same_roots (roots (codes "/w") (record { path = codes "a"; recursive = true } ∷ [])) (roots (codes "/w") (record { path = codes "a"; recursive = false } ∷ [])) ≡ false
flat_is_other = refl

fewer_is_other : are_same_roots (roots (codes "/w") (record { path = codes "a"; recursive = true } ∷ [])) (roots (codes "/w") (record { path = codes "a"; recursive = true } ∷ record { path = codes "b"; recursive = true } ∷ [])) ≡ false
fewer_is_other = refl

-- a fault is to be heard, also where it was marked
marked_fault : (fault : NotifyFault) → is_deaf (record { name = 0; back = 0; item = Err fault; heard = true; full = false }) ≡ true
marked_fault fault = refl

-- the fence rises with each step until it stands
fence_rises : (step_on 3 (record unwatched { fence = 1 })).fence ≡ 3
fence_rises = refl

fence_stands : (step_on 3 (record unwatched { fence = 1; fenced = true })).fence ≡ 1
fence_stands = refl
