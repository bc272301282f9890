-- An error is shown, a word is said, or a directory is kept, by what is due.
use Rattle.std.proofs.Common.{◌≡◌, ℕ, Bool, List, ◌∷◌, inr, refl, ap, ◌∙◌}
use Rattle.std.specs.Prelude.{Option, Result, Ok, Err, IfErr, IsErrAnd, OnOk, ◌||◌}
use Rattle.wx_error.specs.declared.runtime.RuntimeError.{RuntimeError}
use Rattle.wx_error.specs.declared.error.CriticalError.{CriticalError}
use Rattle.wx_error.specs.declared.error.CriticalError.TheVariants.{Memory}
use Rattle.wx_journal.specs.declared.wish.Wish.{Wish}
use Rattle.wx_journal.specs.declared.wish.Wish.TheVariants.{Nothing}
use Rattle.wx_journal.specs.declared.entry.Entry.{Entry}
use Rattle.wx_journal.specs.declared.entry.Entry.TheVariants.{Show, Dir}
use Rattle.wx_journal.specs.declared.entry.Named.{Named}
use Rattle.wx_journal.specs.Told.{tell}
use Rattle.prio_channel.specs.Channel.{Channel}
use Rattle.wx_machine.specs.Start.{Start}
use Rattle.wx_machine.specs.Seen.{Hooked}
use Rattle.wx_machine.specs.Kept.{Keeps}
use Rattle.wx_machine.specs.Journal.{is_exit, is_close, ending}
use Rattle.wx_machine.specs.Answer.{NoneIsToGo, BreaksHere}
use Rattle.wx_machine.specs.Due.{Filters, Hands, Shows as ShowsNext, Agenda, Comes, Admits, rest, settle, after_show, agenda, Due}
use Rattle.wx_machine.proofs.SettleLaws.{settle_over}
use Rattle.wx_worker.specs.declared.worker_state.Worker.{Worker}
use Rattle.wx_worker.specs.Calls.{OwesShow, IsShown, shows}
use Rattle.wx_worker.specs.Serves.{GrowsHand, OwesRest}
use Rattle.wx_worker.specs.Stands.{Stands}
use Rattle.wx_worker.proofs.StandsLemmas.{tasks_silent}
use Rattle.wx_worker.proofs.WorkLemmas.{called_grows, show_follows}

-- ---- what is due where an error may be shown

none_admitted : (s : Start) (p : List Entry) (k : Agenda) (n : ℕ) (error : RuntimeError) (wish : Wish) → Admits s p k (Show n error wish) → NoneIsToGo k
none_admitted s p (Comes (Filters name) more) n error wish d = let no = d.1 in absurd cc
none_admitted s p (Comes Hands more) n error wish d = let no = d.1 in absurd cc
none_admitted s p (_) n error wish d = tt

pub owes_none : (s : Start) (w : Worker) (error : RuntimeError) (p : List Entry) → OwesShow s w error p → NoneIsToGo (agenda s p)
owes_none s w error p owes = none_admitted s p (agenda s p) _ error Nothing (owes.due Nothing)

-- an error that is owed may be shown
pub owes_show : (s : Start) (w : Worker) (error : RuntimeError) (p : List Entry) (more : Agenda) → Stands s w p → agenda s p ≡ Comes (ShowsNext error) more → OwesShow s w error p
owes_show s w error p more stands due = record { stands = stands; due = λ wish. rw due (wish, refl) }

-- ---- it was shown

-- the worker whose queue may be closed
pub shown_stands : (s : Start) (w : Worker) (p p' : List Entry) (n : ℕ) (error : RuntimeError) (wish : Wish) (queue : Channel Named) → Stands s w p → queue.items ≡ w.queue.items → queue.size ≡ w.queue.size → queue.closed ≡ (is_close wish || w.queue.closed) → p' ≡ Show n error wish ∷ p → Stands s (record w { queue = queue }) p'
shown_stands s w p p' n error wish queue stands items size shut grown = rw grown (record {
  own = (tt, stands.own);
  config_kept = stands.config_kept;
  queue_kept = rw items stands.queue_kept;
  size_kept = size ∙ stands.size_kept;
  closed_kept = shut ∙ ap (λ (b : Bool). is_close wish || b) stands.closed_kept;
  named_kept = stands.named_kept;
  names_kept = stands.names_kept;
  events_kept = stands.events_kept;
  first_kept = stands.first_kept;
  jobs_kept = stands.jobs_kept;
  tasks_kept = tasks_silent (Show n error wish) p w.jobs refl stands.tasks_kept;
  idle_kept = stands.idle_kept;
  graceful_kept = stands.graceful_kept;
  ended_kept = stands.ended_kept;
})

-- the call that showed it: the error that was lent came back, and was pushed with what was wished
pub show_grows : {K Fixed : Type 0} (seen : K → Hooked Fixed) (rule : Fixed → List Entry → Entry → Type 0) (holds : K → List Entry → Type 0) (s : Start) (w : Worker) (p p' : List Entry) (x x' : K) (n : ℕ) (error lent pushed : RuntimeError) (wish asked : Wish) (queue : Channel Named) → OwesShow s w error p → n ≡ w.config.error_handler
    → lent ≡ error → pushed ≡ lent → asked ≡ wish → queue.items ≡ w.queue.items → queue.size ≡ w.queue.size → queue.closed ≡ (is_close asked || w.queue.closed) → p' ≡ Show n pushed asked ∷ p → (seen x').told ≡ tell (Show n lent wish) (seen x).told → Keeps seen rule holds x p (Show n lent wish) x'
    → GrowsHand seen rule holds s p x (record w { queue = queue }) p' x'
show_grows seen rule holds s w p p' x x' n error lent pushed wish asked queue owes number same_error same_pushed same_wish items size shut grown told keeps =
    let grew : p' ≡ Show n lent wish ∷ p = grown ∙ ap (λ (e : RuntimeError). Show n e asked ∷ p) same_pushed ∙ ap (λ (m : Wish). Show n lent m ∷ p) same_wish in
    let due : Due s p (Show n lent wish) = rw (number, owes.stands.config_kept, same_error) (owes.due wish) in
    let stood = shown_stands s w p p' n lent wish queue owes.stands items size (shut ∙ ap (λ (m : Wish). is_close m || w.queue.closed) same_wish) grew in
    called_grows seen rule holds s p p' x x' (record w { queue = queue }) (Show n lent wish) refl (show_follows s p p' n lent wish (seen x).told (seen x').told due grew told) grew keeps stood

-- there was no memory for it, so it wasn't
pub wants_here : {T : Type 0} (s : Start) (p : List Entry) (result : Result T CriticalError) → IsErrAnd result (λ e. e ≡ Memory) → NoneIsToGo (agenda s p) → IfErr result (λ e. BreaksHere s p e)
wants_here s p (Ok x) is none = tt
wants_here s p (Err e) is none = rw is (none, inr none)

-- what stood behind an error that was owed is owed
pub shown_then : (s : Start) (p p' : List Entry) (error : RuntimeError) → IsShown s error p p' → OwesRest s (ShowsNext error) p p'
shown_then s p p' error done more due =
    let e : Entry = shows s p error done.wish in
    let after : agenda s (e ∷ p) ≡ settle (e ∷ p) more = ap (λ (k : Agenda). settle (e ∷ p) (after_show (ending error done.wish) (rest e k))) due ∙ ap (λ (o : Option CriticalError). settle (e ∷ p) (after_show o more)) done.calm in
    ap (agenda s) done.shown ∙ after ∙ settle_over (e ∷ p) p more refl

pub shows_rest : {X E : Type 0} (s : Start) (p p' : List Entry) (error : RuntimeError) (result : Result X E) → OnOk result (IsShown s error p p') → OnOk result (OwesRest s (ShowsNext error) p p')
shows_rest s p p' error (Ok u) done = shown_then s p p' error done
shows_rest s p p' error (Err e) done = tt

-- ---- a directory was shown to the filter

pub dir_stands : (s : Start) (w : Worker) (p p' : List Entry) (n : ℕ) (path : List ℕ) (answer : Result Bool RuntimeError) (queue : Channel Named) → Stands s w p → queue.items ≡ w.queue.items → queue.size ≡ w.queue.size → queue.closed ≡ (is_exit answer || w.queue.closed) → p' ≡ Dir n path answer ∷ p → Stands s (record w { queue = queue }) p'
dir_stands s w p p' n path answer queue stands items size shut grown = rw grown (record {
  own = (tt, stands.own);
  config_kept = stands.config_kept;
  queue_kept = rw items stands.queue_kept;
  size_kept = size ∙ stands.size_kept;
  closed_kept = shut ∙ ap (λ (b : Bool). is_exit answer || b) stands.closed_kept;
  named_kept = stands.named_kept;
  names_kept = stands.names_kept;
  events_kept = stands.events_kept;
  first_kept = stands.first_kept;
  jobs_kept = stands.jobs_kept;
  tasks_kept = tasks_silent (Dir n path answer) p w.jobs refl stands.tasks_kept;
  idle_kept = stands.idle_kept;
  graceful_kept = stands.graceful_kept;
  ended_kept = stands.ended_kept;
})
