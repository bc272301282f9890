-- Why a run breaks off in a Work turn.
use Rattle.std.proofs.Common.{◌≡◌, ℕ, List, ◌∷◌, inl, inr, ap, ◌∙◌}
use Rattle.std.specs.Prelude.{Result, Ok, Err, IfErr, IsErrAnd}
use Rattle.wx_error.specs.declared.error.CriticalError.{CriticalError}
use Rattle.wx_error.specs.declared.error.CriticalError.TheVariants.{Memory}
use Rattle.wx_journal.specs.declared.entry.Entry.{Entry}
use Rattle.wx_journal.specs.declared.entry.Entry.TheVariants.{Take, Filter, Show}
use Rattle.wx_journal.specs.declared.entry.TurnKind.{TurnKind}
use Rattle.wx_worker.specs.declared.worker_state.Worker.{Worker}
use Rattle.wx_machine.specs.Start.{Start}
use Rattle.wx_machine.specs.Journal.{bag, window}
use Rattle.wx_machine.specs.Due.{Open, agenda}
use Rattle.wx_machine.specs.Answer.{MemoryCuts, BreaksOff, Fails}
use Rattle.wx_worker.specs.Serves.{LeavesOff}
use Rattle.wx_worker.specs.Stands.{AtTurn, AtWork, MayShow, HasFailed, Collects}
use Rattle.wx_worker.specs.declared.collecting.Collected.TheVariants as collected

-- nothing was added behind the turn
pub behind : (s : Start) (w : Worker) (at : ℕ) (p p' : List Entry) → AtWork s w at p → p' ≡ p → MemoryCuts s p'
behind s w at p p' turn same = inl (rw (same, turn.last) tt)

-- where want of memory is answered
pub breaks_want : {T : Type 0} (s : Start) (p : List Entry) (result : Result T CriticalError) → IsErrAnd result (λ e. e ≡ Memory) → MemoryCuts s p → IfErr result (λ e. BreaksOff s p e)
breaks_want s p (Ok x) is cuts = tt
breaks_want s p (Err e) is cuts = rw is cuts

-- where that error is answered
pub breaks_on : {T : Type 0} (s : Start) (p : List Entry) (result : Result T CriticalError) (error : CriticalError) → IsErrAnd result (λ e. e ≡ error) → BreaksOff s p error → IfErr result (λ e. BreaksOff s p e)
breaks_on s p (Ok x) error is breaks = tt
breaks_on s p (Err e) error is breaks = rw is breaks

-- where collecting failed
pub breaks_fails : (s : Start) (w : Worker) (at : ℕ) (p q p' : List Entry) (error : CriticalError) → AtWork s w at p → q ≡ p → Fails s q p' error → BreaksOff s p' error
breaks_fails s w at p q p' error turn same (inl want) = rw want.0 (behind s w at p p' turn (want.1 ∙ same))
breaks_fails s w at p q p' error turn same (inr here) = here.1

-- ---- want of memory left a turn of a job

pub breaks_left : (s : Start) (w : Worker) (at : ℕ) (kind : TurnKind) (p p' : List Entry) → AtTurn s w at kind p → LeavesOff s p p' → MemoryCuts s p'
breaks_left s w at kind p p' turn (inl same) = inl (rw (same, turn.last) tt)
breaks_left s w at kind p p' turn (inr given) = inr (rw given.due tt)

-- ---- the error of a filter was shown

-- the event was dropped, and the error of its filter may be shown
taken_shown : (p p' p'' : List Entry) (failed : HasFailed p p') → MayShow p' p'' → MayShow (Filter failed.n failed.name failed.answer ∷ Take failed.name ∷ p) p''
taken_shown p p' p'' failed (inl same) = inl (same ∙ failed.shown)
taken_shown p p' p'' failed (inr shown) = inr (shown.0, shown.1, shown.2, shown.3 ∙ ap (λ (q : List Entry). Show shown.0 shown.1 shown.2 ∷ q) failed.shown)

-- showing it takes no event, nor does one join the window
same_bag : (p p' : List Entry) → MayShow p p' → (bag p' ≡ bag p) × (window p' ≡ window p)
same_bag p p' (inl same) = (ap (λ (q : List Entry). bag q) same, ap (λ (q : List Entry). window q) same)
same_bag p p' (inr shown) = (ap (λ (q : List Entry). bag q) shown.3, ap (λ (q : List Entry). window q) shown.3)

pub collects_shown : (s : Start) (p p' p'' : List Entry) → HasFailed p p' → MayShow p' p'' → agenda s p'' ≡ Open → Collects s p collected.Dropped p''
collects_shown s p p' p'' failed shown done =
    let same = same_bag p' p'' shown in (
      record {
        name = failed.name;
        taken = record {
          taken = rw failed.seen (failed.n, failed.answer, taken_shown p p' p'' failed shown);
          was = failed.was;
          left = rw same.0 failed.left;
        };
        stays = same.1 ∙ failed.stays;
      },
      done,
    )
