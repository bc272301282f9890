-- What is due in a turn about what is watched.
use Rattle.wx_scan.specs.declared.backend.Backend.{Ghosts}
use Rattle.std.proofs.Common.{◌≡◌, ◌≤◌, ◌+◌, ℕ, Bool, true, false, cond, List, ◌∷◌, inl, inr, arith, refl, ap, sym, ◌∙◌}
use Rattle.std.specs.Prelude.{◌⊎◌, ◌^◌, ◌-◌, min, Some, Result, Ok, Err, OnOk}
use Rattle.wx_watch.specs.declared.notify_fault.NotifyFault.{NotifyFault}
use Rattle.wx_watch.specs.declared.watched.Watcher.{Watcher}
use Rattle.wx_scan.specs.Looked.{Rose}
use Rattle.wx_tree.specs.Places.{place}
use Rattle.wx_scan.specs.Checks.{is_below_any}
use Rattle.wx_error.specs.declared.runtime.RuntimeError.{RuntimeError}
use Rattle.wx_journal.specs.declared.entry.Entry.{Entry}
use Rattle.wx_journal.specs.declared.entry.Entry.TheVariants.{Word as Said, Dir, Make, Applied}
use Rattle.wx_journal.specs.declared.entry.Word.TheVariants.{Stepped, Quiet}
use Rattle.wx_journal.specs.Names.{back_count, item_count}
use Rattle.wx_machine.specs.Start.{Start}
use Rattle.wx_machine.specs.Seen.{Seen}
use Rattle.wx_machine.specs.Settings.{settings, revision}
use Rattle.wx_machine.specs.Steps.{step_count, work_count}
use Rattle.wx_machine.specs.Files.{Source, source, applied, may_be_judged, is_below_recursive}
use Rattle.wx_machine.specs.Answer.{NoneIsToGo}
use Rattle.wx_machine.specs.Due.{Open, Comes, Steps, Breaks, Makes, Applies, agenda, follow, is_quitting, rest_entry, settle, Due}
use Rattle.wx_machine.proofs.SettleLaws.{settle_calm}
use Rattle.wx_machine.proofs.Stepping.{judges_due, judges_on, errs_due, errs_on, remakes_due, remakes_on, remakes_break, makes_due, makes_then, applies_due, finishes_due, finishes_over, rests_due, rests_over}
use Rattle.wx_action.specs.declared.worker_state.Worker.{Worker}
use Rattle.wx_action.specs.Calls.{OwesShow, IsShown}
use Rattle.wx_action.specs.Stands.{Stands}
use Rattle.wx_file_turns.specs.declared.files.Watching.{Watching}
use Rattle.wx_file_turns.specs.Judged.{recursive_places, IsStepping, IsUpToDate}
use Rattle.wx_file_turns.specs.Making.{IsToMake}
use Rattle.wx_file_turns.specs.Serves.{CountsOnward, PaysOn}
use Rattle.wx_file_turns.specs.Standing.{owed, works}
use Rattle.wx_file_turns.specs.Stepping.{IsWatching, IsWorthwhile, KeepsBrought, StaysBrought}
use Rattle.wx_file_turns.proofs.Standing.{applied_is, below_known}

-- ---- of a step

pub stepping_none : (s : Start) (p : List Entry) → IsStepping s p → NoneIsToGo (agenda s p)
stepping_none s p h = rw h.1 tt

pub open_none : (s : Start) (p : List Entry) → agenda s p ≡ Open → NoneIsToGo (agenda s p)
open_none s p h = rw h tt

pub breaks_none : (s : Start) (p : List Entry) → agenda s p ≡ Breaks → NoneIsToGo (agenda s p)
breaks_none s p h = rw h tt

-- a directory that lies where it may be asked about
pub dir_due : (s : Start) (w : Worker) (p : List Entry) (folder : List ℕ) (n : ℕ) (path : List ℕ) (answer : Result Bool RuntimeError) → Stands s w p → IsStepping s p → IsUpToDate s p → folder ≡ s.folder → n ≡ w.config.filterer → is_below_any (recursive_places folder w.config.pathset) (place path) ≡ true → Due s p (Dir n path answer)
dir_due s w p folder n path answer stands step now same number below =
    let config = stands.config_kept ∙ sym (applied_is s p now) in
    let known : is_below_recursive folder w.config.pathset (place path) ≡ true = below_known folder w.config.pathset (place path) below in
    let may : may_be_judged s p path ≡ true = rw (config, same) at known in
    rw (number, config) (judges_due s p Open path answer (record { untouched = step.0; owes = step.1 }) may)

pub dir_on : (s : Start) (p p' : List Entry) (n : ℕ) (path : List ℕ) (answer : Result Bool RuntimeError) → IsStepping s p → p' ≡ Dir n path answer ∷ p → IsStepping s p'
dir_on s p p' n path answer step grown = let h = judges_on s p Open n path answer (record { untouched = step.0; owes = step.1 }) in rw grown (h.untouched, h.owes)

-- an error, while the queue isn't closed
pub error_owed : (s : Start) (w : Worker) (p : List Entry) (error : RuntimeError) → Stands s w p → IsStepping s p → w.queue.closed ≡ false → OwesShow s w error p
error_owed s w p error stands step shut = record {
  stands = stands;
  due = λ wish. errs_due s p Open error wish (record { untouched = step.0; owes = step.1 }) (sym stands.closed_kept ∙ shut);
}

pub error_on : (s : Start) (p p' : List Entry) (error : RuntimeError) → IsStepping s p → IsShown s error p p' → IsStepping s p'
error_on s p p' error step done = let h = errs_on s p Open (settings s p).error_handler error done.wish (record { untouched = step.0; owes = step.1 }) done.calm in rw done.shown (h.untouched, h.owes)

pub errors_on : {X E : Type 0} (s : Start) (p p' : List Entry) (error : RuntimeError) (result : Result X E) → IsStepping s p → OnOk result (IsShown s error p p') → OnOk result (IsStepping s p')
errors_on s p p' error (Ok x) step done = error_on s p p' error step done
errors_on s p p' error (Err e) step done = tt

-- a backend in place of the one that stands
pub remake_due : {B : Type 0} {G : Ghosts B} (s : Start) (w : Watching B G) (kind : Watcher) (follow : Bool) (p : List Entry) → IsStepping s p → IsWatching s w p → kind ≡ w.recursor.kind → follow ≡ w.recursor.follow → IsToMake s kind follow p
remake_due s w kind follow p step watching same_kind same_follow =
    let by_kind : kind ≡ (applied s p).file_watcher = same_kind ∙ watching.watches.kind_kept ∙ sym (ap (λ c. c.file_watcher) (applied_is s p watching.applied_now)) in
    let by_links : follow ≡ (applied s p).follow_symlinks = same_follow ∙ watching.watches.follow_kept ∙ sym (ap (λ c. c.follow_symlinks) (applied_is s p watching.applied_now)) in
    record {
      due = λ answer. rw (by_kind, by_links) (remakes_due s p Open answer (record { untouched = step.0; owes = step.1 }));
      breaks = λ fault. remakes_break s p Open (back_count p) kind follow fault (record { untouched = step.0; owes = step.1 });
      none_is_to_go = stepping_none s p step;
    }

pub remake_on : (s : Start) (p p' : List Entry) (back : ℕ) (kind : Watcher) (follow : Bool) → IsStepping s p → p' ≡ Make back kind follow (Ok tt) ∷ p → IsStepping s p'
remake_on s p p' back kind follow step grown = let h = remakes_on s p Open back kind follow tt (record { untouched = step.0; owes = step.1 }) in rw grown (h.untouched, h.owes)

-- what was applied stays so behind a backend
pub made_up_to_date : (s : Start) (p p' : List Entry) (back : ℕ) (kind : Watcher) (follow : Bool) → IsUpToDate s p → p' ≡ Make back kind follow (Ok tt) ∷ p → IsUpToDate s p'
made_up_to_date s p p' back kind follow now grown = rw grown now

pub made_current : (s : Start) (p p' : List Entry) (back : ℕ) (kind : Watcher) (follow : Bool) → p' ≡ Make back kind follow (Ok tt) ∷ p → (source s p').current ≡ Some back
made_current s p p' back kind follow grown = rw grown refl

-- what waits stays
pub brought_made : (s : Start) (p p' : List Entry) (back : ℕ) (kind : Watcher) (follow : Bool) (answer : Result (Unit {0}) NotifyFault) → p' ≡ Make back kind follow answer ∷ p → StaysBrought s p p'
brought_made s p p' back kind follow (Ok done) grown = rw grown (record { lane_kept = refl; asks_kept = refl; since_kept = refl; fence_kept = refl; fenced_kept = refl; items_kept = refl })
brought_made s p p' back kind follow (Err fault) grown = rw grown (record { lane_kept = refl; asks_kept = refl; since_kept = refl; fence_kept = refl; fenced_kept = refl; items_kept = refl })

pub stepped_due : (s : Start) (p : List Entry) → IsStepping s p → Due s p (Said Stepped)
stepped_due s p step = finishes_due s p Open (record { untouched = step.0; owes = step.1 })

pub stepped_open : (s : Start) (p p' : List Entry) → IsStepping s p → is_quitting p ≡ false → p' ≡ Said Stepped ∷ p → agenda s p' ≡ Open
stepped_open s p p' step going grown = rw grown (finishes_over s p Open (record { untouched = step.0; owes = step.1 }) ∙ settle_calm (Said Stepped ∷ p) Open going)

-- what waits stays, but for the fence
record MovesFence (b : Bool) (n : ℕ) (x y : Source) : Type 0 where
  lane_is : y.lane ≡ x.lane
  asks_is : y.asks ≡ x.asks
  since_is : y.since ≡ x.since
  fenced_is : y.fenced ≡ x.fenced
  fence_is : y.fence ≡ cond b x.fence n

moves : (b : Bool) (n : ℕ) (x : Source) → MovesFence b n x (cond b x (record x { fence = n }))
moves true n x = record { lane_is = refl; asks_is = refl; since_is = refl; fenced_is = refl; fence_is = refl }
moves false n x = record { lane_is = refl; asks_is = refl; since_is = refl; fenced_is = refl; fence_is = refl }

pub brought_stepped : (s : Start) (p q p' : List Entry) → StaysBrought s p q → p' ≡ Said Stepped ∷ q → KeepsBrought s p p'
brought_stepped s p q p' k grown =
    let m = moves (source s q).fenced (item_count q) (source s q) in
    rw grown (record {
      lane_kept = m.lane_is ∙ k.lane_kept;
      asks_kept = m.asks_is ∙ k.asks_kept;
      since_kept = m.since_is ∙ k.since_kept;
      fenced_kept = m.fenced_is ∙ k.fenced_kept;
      items_kept = k.items_kept;
      fence_is = m.fence_is ∙ (rw (k.fenced_kept, k.fence_kept, k.items_kept) refl);
    })

-- ---- where there is none to take

-- what comes then is due, and leaves what follows it
pub rest_due : (s : Start) (p : List Entry) (e : Entry) → agenda s p ≡ Steps true Open → rest_entry s p ≡ e → Due s p e
rest_due s p e owes is = rests_due s p Open e owes is

pub rest_follows : (s : Start) (p p' : List Entry) (e : Entry) → agenda s p ≡ Steps true Open → rest_entry s p ≡ e → p' ≡ e ∷ p → agenda s p' ≡ settle (e ∷ p) (follow s e p Open)
rest_follows s p p' e owes is grown = rw grown (rests_over s p Open e owes is)

pub quiet_due : (s : Start) (p : List Entry) → agenda s p ≡ Steps true Open → rest_entry s p ≡ Said Quiet → Due s p (Said Quiet)
quiet_due s p owes is = rest_due s p (Said Quiet) owes is

-- ---- of settings that are applied

-- under the revision that the worker keeps
pub applied_now_due : (s : Start) (w : Worker) (p : List Entry) → Stands s w p → agenda s p ≡ Comes Applies Open → Due s p (Applied w.config.change_signal)
applied_now_due s w p stands owes = rw stands.config_kept (applies_due s p Open owes)

pub make_due : (s : Start) (kind : Watcher) (follow : Bool) (p : List Entry) → agenda s p ≡ Comes Makes Open → IsUpToDate s p → kind ≡ (settings s p).file_watcher → follow ≡ (settings s p).follow_symlinks → IsToMake s kind follow p
make_due s kind follow p owes now same_kind same_follow =
    let by_kind : kind ≡ (applied s p).file_watcher = same_kind ∙ sym (ap (λ c. c.file_watcher) (applied_is s p now)) in
    let by_links : follow ≡ (applied s p).follow_symlinks = same_follow ∙ sym (ap (λ c. c.follow_symlinks) (applied_is s p now)) in
    record {
      due = λ answer. rw (by_kind, by_links) (makes_due s p Open answer owes);
      breaks = λ fault. makes_then s p (back_count p) kind follow (Err fault) Open owes;
      none_is_to_go = rw owes tt;
    }

pub make_open : (s : Start) (p p' : List Entry) (back : ℕ) (kind : Watcher) (follow : Bool) → agenda s p ≡ Comes Makes Open → is_quitting p ≡ false → p' ≡ Make back kind follow (Ok tt) ∷ p → agenda s p' ≡ Open
make_open s p p' back kind follow owes going grown = rw grown (makes_then s p back kind follow (Ok tt) Open owes ∙ settle_calm (Make back kind follow (Ok tt) ∷ p) Open going)

-- ---- what steps are paid with

pub owed_one : (b : Bool) → owed b ≤ 1
owed_one true = omega arith
owed_one false = omega arith

-- a step that was worthwhile
worth : (before steps steps' work work' looks looks' owing : ℕ) → steps' ≡ steps → work ≤ work' → looks ≤ looks' → owing ≤ 1 → (work + 1 ≤ work') ⊎ (Rose looks looks' ⊎ (owing ≡ 0)) → min (before + steps + 1) (2 ^ 64 - 1 + work) ≤ looks + work → min (before + (steps' + 1) + owing) (2 ^ 64 - 1 + work') ≤ looks' + work'
worth before steps steps' work work' looks looks' owing same more later few (inl made) h = omega (arith, same, more, later, few, made, h)
worth before steps steps' work work' looks looks' owing same more later few (inr (inl (inl rose))) h = omega (arith, same, more, later, few, rose, h)
worth before steps steps' work work' looks looks' owing same more later few (inr (inl (inr full))) h = omega (arith, same, more, later, few, full, h)
worth before steps steps' work work' looks looks' owing same more later few (inr (inr none)) h = omega (arith, same, more, later, none, h)

worth_owed : {B Plan : Type 0} {G : Ghosts B} (w : Watching B G) (p p' : List Entry) (a b : Seen Plan) → IsWorthwhile w p a p' b → (work_count p + 1 ≤ work_count p') ⊎ (Rose a.looked.looks b.looked.looks ⊎ (owed (works w) ≡ 0))
worth_owed w p p' a b (inl made) = inl made
worth_owed w p p' a b (inr (inl rose)) = inr (inl rose)
worth_owed w p p' a b (inr (inr none)) = inr (inr (ap owed none))

pub step_paid : {B Plan : Type 0} {G : Ghosts B} (w : Watching B G) (p q p' : List Entry) (a b : Seen Plan) → CountsOnward p a q b → IsWorthwhile w p a q b → p' ≡ Said Stepped ∷ q → PaysOn p a 1 p' b (owed (works w))
step_paid w p q p' a b onward worthwhile grown = rw grown (λ before paid. worth before (step_count p) (step_count q) (work_count p) (work_count q) a.looked.looks b.looked.looks (owed (works w)) onward.steps_kept onward.work_more onward.looks_more (owed_one (works w)) (worth_owed w p q a b worthwhile) paid)

-- where no step was said to be taken
pub still_paid : {Plan : Type 0} (p p' : List Entry) (a b : Seen Plan) (owing owing' : ℕ) → CountsOnward p a p' b → owing' ≤ owing → PaysOn p a owing p' b owing'
still_paid p p' a b owing owing' onward few = λ before paid. paid_on before (step_count p) (step_count p') (work_count p) (work_count p') a.looked.looks b.looked.looks onward.steps_kept onward.work_more onward.looks_more paid
  where
    paid_on : (before steps steps' work work' looks looks' : ℕ) → steps' ≡ steps → work ≤ work' → looks ≤ looks' → min (before + steps + owing) (2 ^ 64 - 1 + work) ≤ looks + work → min (before + steps' + owing') (2 ^ 64 - 1 + work') ≤ looks' + work'
    paid_on before steps steps' work work' looks looks' same more later h = omega (arith, same, more, later, few, h)

-- settings that were applied bring work
pub applied_paid : {Plan : Type 0} (p q p' : List Entry) (a b : Seen Plan) (revision owing owing' : ℕ) → q ≡ Applied revision ∷ p → CountsOnward q a p' b → owing' ≤ 1 → PaysOn p a owing p' b owing'
applied_paid p q p' a b revision owing owing' first onward few = λ before paid. paid_on before (step_count p) (step_count p') (work_count p) (work_count p') a.looked.looks b.looked.looks (onward.steps_kept ∙ ap step_count first) (let one : work_count q ≡ work_count p + 1 = ap work_count first in omega (arith, onward.work_more, one)) onward.looks_more paid
  where
    paid_on : (before steps steps' work work' looks looks' : ℕ) → steps' ≡ steps → work + 1 ≤ work' → looks ≤ looks' → min (before + steps + owing) (2 ^ 64 - 1 + work) ≤ looks + work → min (before + steps' + owing') (2 ^ 64 - 1 + work') ≤ looks' + work'
    paid_on before steps steps' work work' looks looks' same more later h = omega (arith, same, more, later, few, h)
