-- The laws of what is watched, proved of every run.
use Rattle.std.proofs.Common.{◌≡◌, ℕ, true, false, List, [], ◌∷◌, arith, refl, ap, sym, ◌∙◌}
use Rattle.wx_events.specs.declared.event.Event.{Event}
use Rattle.wx_events.specs.declared.priority.Priority.{Priority}
use Rattle.wx_notify.specs.declared.notify.Notify.{Notify}
use Rattle.wx_watch.specs.declared.notify_fault.NotifyFault.{NotifyFault}
use Rattle.wx_lane.specs.declared.lane.LaneItem.{LaneItem}
use Rattle.std.specs.Prelude.{None, Some, Result, Ok, Err}
use Rattle.wx_journal.specs.declared.entry.Entry.{Entry}
use Rattle.wx_journal.specs.declared.entry.Entry.TheVariants.{Offer, Word as Said, Dir, Make, Applied, Heard, Brought, LetGo, Ready}
use Rattle.wx_machine.specs.Start.{Start}
use Rattle.wx_machine.specs.Files.{source}
use Rattle.wx_machine.specs.Due.{agenda, IsRun}
use Rattle.wx_machine.specs.FileLaws.{AreWatchedByRule, is_unmade, UnmadeEnds, IsNextEvent, MayBeOffered, IsFromFiles, AreFromFiles, brought, offered_below}
use Rattle.wx_machine.proofs.Orderly.{IsSourced}
use Rattle.wx_machine.proofs.RestLaws.{first_known}
use Rattle.wx_machine.proofs.RunLaws.{admitted, orderly}
use Rattle.wx_machine.proofs.Watching.{watches, dir_at, make_at, word_at}

-- each entry about what is watched was brought by its rule
pub run_is_watched : (s : Start) (p : List Entry) → IsRun s p → AreWatchedByRule s p
run_is_watched s [] r = tt
run_is_watched s (Dir n path answer ∷ p) r =
    let fit = (orderly s p r.1).fit in
    let b = admitted s p (agenda s p) (Dir n path answer) (λ i. i) (λ i. i) r.0 fit in
    let at = dir_at s p (agenda s p) n path answer r.0 fit (watches s p r.1) in
    (record { some_applied = at.0; stands = at.1; filter = b.0; below = b.1 }, run_is_watched s p r.1)
run_is_watched s (Make back watcher links answer ∷ p) r =
    let fit = (orderly s p r.1).fit in
    let b = admitted s p (agenda s p) (Make back watcher links answer) (λ i. i) (λ i. i) r.0 fit in
    (record { some_applied = make_at s p (agenda s p) back watcher links answer r.0 fit (watches s p r.1); next = b.0; by_watcher = b.1; by_links = b.2 }, run_is_watched s p r.1)
run_is_watched s (Applied named ∷ p) r =
    let b = admitted s p (agenda s p) (Applied named) (λ i. i) (λ i. i) r.0 (orderly s p r.1).fit in
    (record { stands = b.0; new = b.1 }, run_is_watched s p r.1)
run_is_watched s (Said word ∷ p) r = (λ is. word_at s p (agenda s p) word is r.0 (orderly s p r.1).fit (watches s p r.1), run_is_watched s p r.1)
run_is_watched s (Brought item back answer ∷ p) r = ((admitted s p (agenda s p) (Brought item back answer) (λ i. i) (λ i. i) r.0 (orderly s p r.1).fit).0, run_is_watched s p r.1)
run_is_watched s (LetGo item cause ∷ p) r = ((admitted s p (agenda s p) (LetGo item cause) (λ i. i) (λ i. i) r.0 (orderly s p r.1).fit).1, run_is_watched s p r.1)
run_is_watched s (Heard item ∷ p) r = ((admitted s p (agenda s p) (Heard item) (λ i. i) (λ i. i) r.0 (orderly s p r.1).fit).1, run_is_watched s p r.1)
run_is_watched s (Ready named ∷ p) r = (admitted s p (agenda s p) (Ready named) (λ i. i) (λ i. i) r.0 (orderly s p r.1).fit, run_is_watched s p r.1)
run_is_watched s (Offer name item result event priority ∷ p) r = ((admitted s p (agenda s p) (Offer name item result event priority) (λ i. i) (λ i. i) r.0 (orderly s p r.1).fit).1.1, run_is_watched s p r.1)
run_is_watched s (_ ∷ p) r = run_is_watched s p r.1

-- ---- what is offered from files was brought

was_brought : (p : List Entry) (item : ℕ) (i : LaneItem) (notify : Notify) → i.name ≡ item → i.item ≡ Ok notify → brought i.name p ≡ Some (i.back, i.item) → brought item p ≡ Some (i.back, Ok notify)
was_brought p item i notify name is so = ap (λ (n : ℕ). brought n p) (sym name) ∙ so ∙ ap (λ (x : Result Notify NotifyFault). Some (i.back, x)) is

from_files : (s : Start) (p : List Entry) (item : ℕ) (event : Event) (priority : Priority) → IsSourced s p → IsNextEvent s p item (MayBeOffered s p event priority) → IsFromFiles s p item event priority
from_files s p item event priority h x =
    let known = (first_known p (offered_below p) (source s p).lane x.found h.waiting x.there).0 in
    let later = known.later in
    let name = x.name in
    record {
      back = x.found.back;
      notify = x.notify;
      was_brought = was_brought p item x.found x.notify x.name x.event known.was_brought;
      becomes = x.so.becomes;
      normal = x.so.normal;
      live = x.so.live;
      public = x.so.public;
      later = omega (arith, later, name);
    }

-- so it is with each
pub run_is_from_files : (s : Start) (p : List Entry) → IsRun s p → AreFromFiles s p
run_is_from_files s [] r = tt
run_is_from_files s (Offer name None result event priority ∷ p) r = run_is_from_files s p r.1
run_is_from_files s (Offer name (Some item) result event priority ∷ p) r =
    let o = orderly s p r.1 in
    (from_files s p item event priority o.sourced (admitted s p (agenda s p) (Offer name (Some item) result event priority) (λ i. i) (λ i. i) r.0 o.fit).1.1, run_is_from_files s p r.1)
run_is_from_files s (_ ∷ p) r = run_is_from_files s p r.1

-- ---- behind a backend that couldn't be made

-- where an entry is due each backend could be made
pub all_made : (s : Start) (e : Entry) (p : List Entry) → IsRun s (e ∷ p) → is_unmade p ≡ false
all_made s e [] r = refl
all_made s e (Make back watcher links (Err fault) ∷ p) r = absurd r.0
all_made s e (Make back watcher links (Ok done) ∷ p) r = all_made s (Make back watcher links (Ok done)) p r.1
all_made s e (x ∷ p) r = all_made s x p r.1

-- so nothing is due behind one that couldn't
pub run_ends_unmade : (s : Start) (p : List Entry) → IsRun s p → UnmadeEnds p
run_ends_unmade s [] r = tt
run_ends_unmade s (e ∷ p) r = (λ is. (let both : true ≡ false = sym is ∙ all_made s e p r in absurd cc), run_ends_unmade s p r.1)
