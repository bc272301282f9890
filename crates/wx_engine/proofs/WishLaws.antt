-- A run ends with what the error handler wished, or with what is said of a backend that couldn't be made.
use Rattle.std.proofs.Common.{◌≡◌, false, inl, inr, Option, None, Some, IfSome, List, [], ◌∷◌, Ok, Err, refl}
use Rattle.wx_error.specs.declared.error.CriticalError.{CriticalError}
use Rattle.wx_error.specs.declared.error.CriticalError.TheVariants.{IoError, Memory}
use Rattle.wx_journal.specs.declared.entry.Entry.{Entry}
use Rattle.wx_journal.specs.declared.entry.Entry.TheVariants.{Show, Make, Dropped, Gone}
use Rattle.wx_journal.specs.Lines.{Answer}
use Rattle.wx_machine.specs.Start.{Start}
use Rattle.wx_machine.specs.Journal.{ending}
use Rattle.wx_machine.specs.FileLaws.{is_unmade}
use Rattle.wx_machine.proofs.FileLaws.{all_made}
use Rattle.wx_machine.specs.Due.{Agenda, Ends, Breaks, Admits, rest, after_show, settle, agenda, IsRun}
use Rattle.wx_machine.specs.Answer.{Dying, Alive, Dies, IsComplete, IsBroken, Wishes, Answers}
use Rattle.wx_machine.proofs.Lawful.{IsOfEnd}
use Rattle.wx_machine.proofs.PlanLaws.{of_end}
use Rattle.wx_engine.specs.Completes.{NoneEnds, IsErrorOrMemory, AreGranted}

-- nothing comes behind a wish that ends the run, nor is the end due there
goes_on : (s : Start) (shown e : Entry) (p : List Entry) (wished : Option CriticalError) (more : Agenda) → Admits s (shown ∷ p) (settle (shown ∷ p) (after_show wished more)) e → wished ≡ None
goes_on s shown e p None more due = refl
goes_on s shown e p (Some error) more due = absurd due

ends_calm : (shown : Entry) (p : List Entry) (wished : Option CriticalError) (more : Agenda) → settle (shown ∷ p) (after_show wished more) ≡ Ends → wished ≡ None
ends_calm shown p None more due = refl
ends_calm shown p (Some error) more due = absurd cc

-- so no wish but the last entry's ends a run
none_below : (s : Start) (e : Entry) (p : List Entry) → IsRun s (e ∷ p) → NoneEnds p
none_below s e [] run = tt
none_below s e (Show n error wish ∷ p) run = (goes_on s (Show n error wish) e p (ending error wish) (rest (Show n error wish) (agenda s p)) run.0, none_below s (Show n error wish) p run.1)
none_below s e (x ∷ p) run = none_below s x p run.1

-- and none ends one whose end is due
none_complete : (s : Start) (p : List Entry) → IsComplete s p → NoneEnds p
none_complete s [] complete = tt
none_complete s (Show n error wish ∷ p) complete = (ends_calm (Show n error wish) p (ending error wish) (rest (Show n error wish) (agenda s p)) complete.ended, none_below s (Show n error wish) p complete.run)
none_complete s (x ∷ p) complete = none_below s x p complete.run

-- nor is it due where a backend couldn't be made
made_complete : (s : Start) (p : List Entry) → IsComplete s p → is_unmade p ≡ false
made_complete s [] complete = refl
made_complete s (Make back watcher links (Err fault) ∷ p) complete = let due : Breaks ≡ Ends = complete.ended in absurd cc
made_complete s (Make back watcher links (Ok done) ∷ p) complete = all_made s (Make back watcher links (Ok done)) p complete.run
made_complete s (x ∷ p) complete = all_made s x p complete.run

-- where no wish ends the run, and each backend could be made, any answer will do, and want of memory always does
any_granted : (answer : Answer) (p : List Entry) → NoneEnds p → is_unmade p ≡ false → AreGranted answer p
any_granted answer [] none made = tt
any_granted answer (Show n error wish ∷ p) none made = (rw none.0 tt, any_granted answer p none.1 made)
any_granted answer (Make back watcher links (Err fault) ∷ p) none made = absurd cc
any_granted answer (Make back watcher links (Ok done) ∷ p) none made = any_granted answer p none made
any_granted answer (_ ∷ p) none made = any_granted answer p none made

complete_granted : (s : Start) (answer : Answer) (p : List Entry) → IsComplete s p → AreGranted answer p
complete_granted s answer p complete = any_granted answer p (none_complete s p complete) (made_complete s p complete)

memory_will : (wished : Option CriticalError) → IfSome wished (λ error. IsErrorOrMemory (Err Memory) error)
memory_will None = tt
memory_will (Some error) = tt

memory_granted : (p : List Entry) → AreGranted (Err Memory) p
memory_granted [] = tt
memory_granted (Show n error wish ∷ p) = (memory_will (ending error wish), memory_granted p)
memory_granted (Make back watcher links (Err fault) ∷ p) = (tt, memory_granted p)
memory_granted (Make back watcher links (Ok done) ∷ p) = memory_granted p
memory_granted (_ ∷ p) = memory_granted p

-- the error that the last entry ends the run with is granted
same_error : (error : CriticalError) → IsErrorOrMemory (Err error) error
same_error Memory = tt
same_error (_) = refl

last_granted : (s : Start) (error : CriticalError) (p : List Entry) → IsRun s p → Wishes error p → AreGranted (Err error) p
last_granted s error [] run is = cc
last_granted s error (Show n shown wish ∷ p) run is = (rw is (same_error error), any_granted (Err error) p (none_below s (Show n shown wish) p run) (all_made s (Show n shown wish) p run))
last_granted s error (Make back watcher links (Err fault) ∷ p) run is = (rw is (same_error error), any_granted (Err error) p (none_below s (Make back watcher links (Err fault)) p run) (all_made s (Make back watcher links (Err fault)) p run))
last_granted s error (Make back watcher links (Ok done) ∷ p) run is = cc
last_granted s error (_ ∷ p) run is = cc

-- the end brings neither
end_granted : (answer : Answer) (e : Entry) (p : List Entry) → IsOfEnd e → AreGranted answer p → AreGranted answer (e ∷ p)
end_granted answer (Dropped c) p o granted = granted
end_granted answer (Gone job) p o granted = granted
end_granted answer (_) p o granted = absurd o

dying_granted : (answer : Answer) (q p : List Entry) → Dying q p → AreGranted answer q → AreGranted answer p
dying_granted answer q p l granted = elim l as (λ p _. AreGranted answer p) [
  | Alive ↦ granted
  | Dies e p (l → h) d ↦ end_granted answer e p (of_end p e d) h
]

broken_granted : (s : Start) (error : CriticalError) (p : List Entry) → IsBroken (Wishes error) s p → AreGranted (Err error) p
broken_granted s error p broken = dying_granted (Err error) broken.before p broken.dying (last_granted s error broken.before broken.run broken.cut)

pub answered_granted : (s : Start) (p : List Entry) (answer : Answer) → Answers s p answer → AreGranted answer p
answered_granted s p (Ok u) a = complete_granted s (Ok u) p a.0
answered_granted s p (Err (IoError about err)) (inl failed) = complete_granted s (Err (IoError about err)) p failed.complete
answered_granted s p (Err (IoError about err)) (inr broken) = broken_granted s (IoError about err) p broken
answered_granted s p (Err Memory) a = memory_granted p
answered_granted s p (Err error) a = broken_granted s error p a
