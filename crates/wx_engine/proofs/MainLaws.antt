-- What a run that led from the empty journal to this one told.
use Rattle.std.proofs.Common.{◌≡◌, false, inl, inr, Option, None, Some, List, [], ◌∷◌, Ok, Err, refl, ap, sym, ◌∙◌}
use Rattle.std.specs.Prelude.{IfErr}
use Rattle.wx_journal.specs.declared.entry.Entry.{Entry}
use Rattle.wx_journal.specs.declared.entry.Entry.TheVariants.{Offer, Show, Dropped, Gone}
use Rattle.wx_journal.specs.Told.{Rose, tell_if, tells, anywhere, is_world, is_hooks}
use Rattle.wx_machine.specs.TicketLaws.{Throughout, WaitForFunctions, GracesNeedChildren, IsPlaced}
use Rattle.wx_machine.proofs.Graces.{graces_need_children}
use Rattle.wx_machine.specs.Start.{Start}
use Rattle.wx_machine.specs.Progress.{Progress}
use Rattle.wx_machine.specs.Added.{Same, More}
use Rattle.wx_machine.specs.Files.{AddsNoFiles, is_about_files}
use Rattle.wx_machine.specs.FileLaws.{AreFromFiles, AreWatchedByRule, UnmadeEnds}
use Rattle.wx_machine.proofs.NoFiles.{dying_adds_none}
use Rattle.wx_machine.proofs.FileLaws.{run_is_watched, run_is_from_files, run_ends_unmade}
use Rattle.wx_error.specs.declared.error.CriticalError.{CriticalError}
use Rattle.wx_error.specs.declared.error.CriticalError.TheVariants.{IoError, FsWatcherInit, Memory}
use Rattle.wx_machine.specs.Answer.{Dying, Alive, Dies, IsBroken, AtAnyPlace, Wishes, MemoryCuts, Answers}
use Rattle.wx_journal.specs.Lines.{Answer}
use Rattle.wx_machine.specs.RunLaws.{IsBatched, AreBatches, NoneUnseenIsShown, NoneIsShownClosed, AreMadeByRule, AreServed, AreRevised}
use Rattle.wx_machine.specs.Leads.{Leads, Here, Then}
use Rattle.wx_machine.proofs.MadeLaws.{run_makes_by_rule}
use Rattle.wx_machine.proofs.RunLaws.{orderly}
use Rattle.wx_machine.proofs.BatchLaws.{run_is_batched, run_has_batches, run_shows, run_shows_open, run_is_served, run_is_revised}
use Rattle.wx_machine.proofs.FunctionLaws.{run_waits, dying_waits}
use Rattle.wx_machine.proofs.PlanLaws.{of_end}
use Rattle.wx_machine.proofs.Lawful.{IsOfEnd}
use Rattle.wx_machine.proofs.EndLaws.{dying_keeps}
use Rattle.wx_engine.specs.Run.{EndsByWish, Ran, HasCause}
use Rattle.wx_engine.specs.Completes.{IsOkOrMemory, NoneEnds}
use Rattle.wx_engine.proofs.RunLemmas.{IsInit, wished_other}

-- the world was told its entries, and no other
pub leads_world : (s : Start) (world hooks : Option (List Entry)) (p' : List Entry) (world' hooks' : Option (List Entry)) → Leads s [] world hooks p' world' hooks' → world' ≡ tells is_world p' world
leads_world s world hooks _ _ _ Here = refl
leads_world s world hooks _ _ _ (Then e p' world' hooks' so_far due) = ap (λ (told : Option (List Entry)). tell_if (is_world p' e) e told) (leads_world s world hooks p' world' hooks' so_far)

-- and so were the hooks
pub leads_hooks : (s : Start) (world hooks : Option (List Entry)) (p' : List Entry) (world' hooks' : Option (List Entry)) → Leads s [] world hooks p' world' hooks' → hooks' ≡ tells (anywhere is_hooks) p' hooks
leads_hooks s world hooks _ _ _ Here = refl
leads_hooks s world hooks _ _ _ (Then e p' world' hooks' so_far due) = ap (λ (told : Option (List Entry)). tell_if (is_hooks e) e told) (leads_hooks s world hooks p' world' hooks' so_far)

-- the end of a run is no call on the hooks
no_call : (e : Entry) (told : Option (List Entry)) → IsOfEnd e → tell_if (is_hooks e) e told ≡ told
no_call (Dropped c) told o = refl
no_call (Gone job) told o = refl
no_call (_) told o = absurd o

pub dying_hooks : (q p : List Entry) (before : Option (List Entry)) → Dying q p → tells (anywhere is_hooks) p before ≡ tells (anywhere is_hooks) q before
dying_hooks q _ before Alive = refl
dying_hooks q _ before (Dies e p l d) = no_call e (tells (anywhere is_hooks) p before) (of_end p e d) ∙ dying_hooks q p before l

-- a run that was cut at some places was cut at any
anywhere_broken : (place : List Entry → Type 0) (s : Start) (p : List Entry) → IsBroken place s p → IsBroken AtAnyPlace s p
anywhere_broken place s p broken = record { before = broken.before; run = broken.run; cut = tt; dying = broken.dying; none = broken.none }

-- whatever was answered, the end of the run is done
pub answered_ran : (s : Start) (p : List Entry) (answer : Answer) → Answers s p answer → Ran s p
answered_ran s p (Ok u) a = inl a.0
answered_ran s p (Err (IoError about err)) (inl failed) = inl failed.complete
answered_ran s p (Err (IoError about err)) (inr broken) = inr (anywhere_broken (Wishes (IoError about err)) s p broken)
answered_ran s p (Err Memory) broken = inr (anywhere_broken (MemoryCuts s) s p broken)
answered_ran s p (Err error) broken = inr (anywhere_broken (Wishes error) s p broken)

-- the laws of batches, with the end
pub ran_is_batched : (s : Start) (p : List Entry) → Ran s p → IsBatched p
ran_is_batched s p (inl complete) = run_is_batched s p complete.run
ran_is_batched s p (inr broken) = (dying_keeps s broken.before p broken.dying).batched (run_is_batched s broken.before broken.run)

pub ran_has_batches : (s : Start) (p : List Entry) → Ran s p → AreBatches s p
ran_has_batches s p (inl complete) = run_has_batches s p complete.run
ran_has_batches s p (inr broken) = (dying_keeps s broken.before p broken.dying).batches (run_has_batches s broken.before broken.run)

-- no event that passes unseen was shown to a filter
pub ran_shows : (s : Start) (p : List Entry) → Ran s p → NoneUnseenIsShown p
ran_shows s p (inl complete) = run_shows s p complete.run
ran_shows s p (inr broken) = (dying_keeps s broken.before p broken.dying).shows (run_shows s broken.before broken.run)

-- nothing was shown once the queue was closed
pub ran_shows_open : (s : Start) (p : List Entry) → Ran s p → NoneIsShownClosed p
ran_shows_open s p (inl complete) = run_shows_open s p complete.run
ran_shows_open s p (inr broken) = (dying_keeps s broken.before p broken.dying).shows_open (run_shows_open s broken.before broken.run)

-- where no wish ended the run with an error, none does
none_before : (q p : List Entry) → Dying q p → NoneEnds p → NoneEnds q
none_before q _ Alive none = none
none_before q _ (Dies (Dropped c) p l d) none = none_before q p l none
none_before q _ (Dies (Gone job) p l d) none = none_before q p l none
none_before q _ (Dies e p l d) none = absurd (of_end p e d)

none_wished : (error : CriticalError) (p : List Entry) → NoneEnds p → EndsByWish error p → ⊥
none_wished error [] none is = is
none_wished error (Show n shown wish ∷ p) none is = let both : None ≡ Some error = sym none.0 ∙ is in cc
none_wished error (_ ∷ p) none is = is

unbroken : (error : CriticalError) (s : Start) (p : List Entry) → NoneEnds p → IsBroken (EndsByWish error) s p → ⊥
unbroken error s p none broken = none_wished error broken.before (none_before broken.before p broken.dying none) broken.cut

unbroken_other : (error : CriticalError) (s : Start) (p : List Entry) → (IsInit error → ⊥) → NoneEnds p → IsBroken (Wishes error) s p → ⊥
unbroken_other error s p other none broken = none_wished error broken.before (none_before broken.before p broken.dying none) (wished_other broken.before error other broken.cut)

pub completed : (s : Start) (p : List Entry) (answer : Answer) (old new : Progress) → Answers s p answer → IfErr answer (λ error. HasCause s p error old new) → (Rose old.turn_faults new.turn_faults → ⊥) → (Rose old.maker_faults new.maker_faults → ⊥) → NoneEnds p → IsOkOrMemory answer
completed s p (Ok u) old new a cause calm made none = tt
completed s p (Err Memory) old new a cause calm made none = tt
completed s p (Err (IoError about err)) old new a (inl rose) calm made none = calm rose
completed s p (Err (IoError about err)) old new a (inr broken) calm made none = unbroken (IoError about err) s p none broken
completed s p (Err (FsWatcherInit watcher err)) old new a (inl rose) calm made none = made rose
completed s p (Err (FsWatcherInit watcher err)) old new a (inr broken) calm made none = unbroken (FsWatcherInit watcher err) s p none broken
completed s p (Err error) old new a cause calm made none = unbroken_other error s p (λ i. i) none a

-- each job was made under a new id, or again
pub ran_makes_by_rule : (s : Start) (p : List Entry) → Ran s p → AreMadeByRule p
ran_makes_by_rule s p (inl complete) = run_makes_by_rule s p complete.run
ran_makes_by_rule s p (inr broken) = (dying_keeps s broken.before p broken.dying).made_by_rule (run_makes_by_rule s broken.before broken.run)

-- each turn came where nothing was owed
pub ran_is_served : (s : Start) (p : List Entry) → Ran s p → AreServed s p
ran_is_served s p (inl complete) = run_is_served s p complete.run
ran_is_served s p (inr broken) = (dying_keeps s broken.before p broken.dying).served (run_is_served s broken.before broken.run)

-- each entry that tells a change names the next revision, and answers a change that waits
pub ran_is_revised : (s : Start) (p : List Entry) → Ran s p → AreRevised s p
ran_is_revised s p (inl complete) = run_is_revised s p complete.run
ran_is_revised s p (inr broken) = (dying_keeps s broken.before p broken.dying).revised (run_is_revised s broken.before broken.run)

-- each entry about what is watched was brought by its rule
pub ran_is_watched : (s : Start) (p : List Entry) → Ran s p → AreWatchedByRule s p
ran_is_watched s p (inl complete) = run_is_watched s p complete.run
ran_is_watched s p (inr broken) = (dying_keeps s broken.before p broken.dying).watched (run_is_watched s broken.before broken.run)

-- an entry about nothing that is watched offers no item
from_files_over : (s : Start) (e : Entry) (p : List Entry) → is_about_files e ≡ false → AreFromFiles s p → AreFromFiles s (e ∷ p)
from_files_over s (Offer name None result event priority) p other h = h
from_files_over s (Offer name (Some item) result event priority) p other h = absurd cc
from_files_over s (_) p other h = h

from_files_on : (s : Start) (q p : List Entry) → AddsNoFiles q p → AreFromFiles s q → AreFromFiles s p
from_files_on s q _ Same h = h
from_files_on s q _ (More e p a other) h = from_files_over s e p other (from_files_on s q p a h)

-- each event that was offered of an item was brought
pub ran_is_from_files : (s : Start) (p : List Entry) → Ran s p → AreFromFiles s p
ran_is_from_files s p (inl complete) = run_is_from_files s p complete.run
ran_is_from_files s p (inr broken) = from_files_on s broken.before p (dying_adds_none broken.before p broken.dying) (run_is_from_files s broken.before broken.run)

-- behind a backend that couldn't be made nothing but the end comes
pub ran_ends_unmade : (s : Start) (p : List Entry) → Ran s p → UnmadeEnds p
ran_ends_unmade s p (inl complete) = run_ends_unmade s p complete.run
ran_ends_unmade s p (inr broken) = (dying_keeps s broken.before p broken.dying).ends_unmade (run_ends_unmade s broken.before broken.run)

-- the tickets of the jobs are placed
pub ran_is_placed : (s : Start) (p : List Entry) → Ran s p → IsPlaced p
ran_is_placed s p (inl complete) = (orderly s p complete.run).placed
ran_is_placed s p (inr broken) = (dying_keeps s broken.before p broken.dying).placed (orderly s broken.before broken.run).placed

-- while a function is begun nothing else is done of its job
pub ran_waits : (s : Start) (p : List Entry) → Ran s p → WaitForFunctions p
ran_waits s p (inl complete) = run_waits s p complete.run (orderly s p complete.run).placed.polled
ran_waits s p (inr broken) = dying_waits broken.before p broken.dying (run_waits s broken.before broken.run (orderly s broken.before broken.run).placed.polled)

-- no grace of a journal stands without a child
pub graces_have_children : (p : List Entry) → Throughout GracesNeedChildren p
graces_have_children [] = graces_need_children []
graces_have_children (e ∷ p) = (graces_need_children (e ∷ p), graces_have_children p)
