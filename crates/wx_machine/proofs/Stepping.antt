-- What comes of a turn about what is watched: of settings that are applied, of a backend that is made, of what one brought, of a step of any
-- length, and of what comes where there is none.
use Rattle.std.proofs.Common.{◌≡◌, ℕ, Bool, true, false, cond, List, [], ◌∷◌, Ok, refl, ap, sym, subst, ◌∙◌}
use Rattle.std.specs.Prelude.{Option, None, Some, Result, Ok, Err, not}
use Rattle.wx_events.specs.declared.priority.Priority.TheVariants.{Normal}
use Rattle.wx_notify.specs.declared.notify.Notify.{Notify}
use Rattle.wx_lane.specs.declared.lane.LaneItem.{LaneItem}
use Rattle.wx_lane.specs.Lanes.{fenced}
use Rattle.wx_lane.specs.FileEvents.{event_of}
use Rattle.wx_watch.specs.declared.notify_fault.NotifyFault.{NotifyFault}
use Rattle.wx_watch.specs.declared.watched.Watcher.{Watcher}
use Rattle.wx_error.specs.declared.runtime.RuntimeError.{RuntimeError}
use Rattle.wx_error.specs.declared.error.CriticalError.{CriticalError}
use Rattle.wx_journal.specs.declared.entry.Entry.{Entry}
use Rattle.wx_journal.specs.declared.entry.Entry.TheVariants.{Offer, Word as Said, Show, Dir, Make, Applied, Heard, Brought, LetGo, Ready}
use Rattle.wx_journal.specs.declared.entry.LetGoCause.{LetGoCause}
use Rattle.wx_journal.specs.declared.entry.LetGoCause.TheVariants.{Full, Obsolete, Uncovered}
use Rattle.wx_journal.specs.declared.entry.Word.TheVariants.{Quiet, Stepped}
use Rattle.wx_journal.specs.declared.wish.Wish.{Wish}
use Rattle.wx_journal.specs.Names.{back_count, event_count, item_count}
use Rattle.wx_machine.specs.Start.{Start}
use Rattle.wx_machine.specs.Settings.{settings, revision}
use Rattle.wx_machine.specs.Journal.{closed, ending, offered}
use Rattle.wx_machine.specs.Files.{source, applied, may_be_judged, first_item, is_deaf, is_live, is_public, finds_full}
use Rattle.wx_machine.specs.Due.{Applies, Makes, Listens, LetsGo, Judges, Errs, Remakes, Finishes, Rests, Agenda, Comes, Steps, Breaks, Admits, asks_entry, event_entry, fence_entry, goes_on, item_entry, lane_entry, listened, rest, rest_entry, follow, settle, after_show, after_applied, after_make, after_brought, agenda, Due}
use Rattle.wx_machine.proofs.RestLaws.{rest_ends, rest_is}

may : (s : Start) (p : List Entry) (k : Agenda) (e : Entry) → agenda s p ≡ k → Admits s p k e → Due s p e
may s p k e owes d = subst (λ (k : Agenda). Admits s p k e) (sym owes) d

behind : (s : Start) (p : List Entry) (k : Agenda) (e : Entry) → agenda s p ≡ k → agenda s (e ∷ p) ≡ settle (e ∷ p) (follow s e p (rest e k))
behind s p k e owes = ap (λ (k : Agenda). settle (e ∷ p) (follow s e p (rest e k))) owes

-- ---- settings are applied, and a backend is made

pub applies_due : (s : Start) (p : List Entry) (more : Agenda) → agenda s p ≡ Comes Applies more → Due s p (Applied (revision s p))
applies_due s p more owes = may s p (Comes Applies more) (Applied (revision s p)) owes (tt, refl)

pub applies_then : (s : Start) (p : List Entry) (named : ℕ) (more : Agenda) → agenda s p ≡ Comes Applies more → agenda s (Applied named ∷ p) ≡ settle (Applied named ∷ p) (after_applied (settings s p) (source s p) more)
applies_then s p named more owes = behind s p (Comes Applies more) (Applied named) owes

-- what stands is what is applied
pub applied_now : (s : Start) (p : List Entry) (named : ℕ) → applied s (Applied named ∷ p) ≡ settings s p
applied_now s p named = refl

pub makes_due : (s : Start) (p : List Entry) (more : Agenda) (answer : Result (Unit {0}) NotifyFault) → agenda s p ≡ Comes Makes more → Due s p (Make (back_count p) (applied s p).file_watcher (applied s p).follow_symlinks answer)
makes_due s p more answer owes = may s p (Comes Makes more) (Make (back_count p) (applied s p).file_watcher (applied s p).follow_symlinks answer) owes (answer, refl)

pub makes_then : (s : Start) (p : List Entry) (back : ℕ) (watcher : Watcher) (links : Bool) (answer : Result (Unit {0}) NotifyFault) (more : Agenda) → agenda s p ≡ Comes Makes more → agenda s (Make back watcher links answer ∷ p) ≡ settle (Make back watcher links answer ∷ p) (after_make answer more)
makes_then s p back watcher links answer more owes = behind s p (Comes Makes more) (Make back watcher links answer) owes

-- a backend leaves which settings were applied
pub applied_made : (s : Start) (p : List Entry) (back : ℕ) (watcher : Watcher) (links : Bool) (answer : Result (Unit {0}) NotifyFault) → applied s (Make back watcher links answer ∷ p) ≡ applied s p
applied_made s p back watcher links (Ok done) = refl
applied_made s p back watcher links (Err fault) = refl

-- ---- a step

-- a step goes on, and this stands behind it
pub record IsStepping (s : Start) (p : List Entry) (more : Agenda) : Type 0 where
  pub untouched : Bool
  pub owes : agenda s p ≡ Steps untouched more

-- each entry of it is due

pub judges_due : (s : Start) (p : List Entry) (more : Agenda) (path : List ℕ) (answer : Result Bool RuntimeError) → IsStepping s p more → may_be_judged s p path ≡ true → Due s p (Dir (applied s p).filterer path answer)
judges_due s p more path answer h below = may s p (Steps h.untouched more) (Dir (applied s p).filterer path answer) h.owes (Judges path below answer, refl)

pub errs_due : (s : Start) (p : List Entry) (more : Agenda) (error : RuntimeError) (wish : Wish) → IsStepping s p more → closed p ≡ false → Due s p (Show (settings s p).error_handler error wish)
errs_due s p more error wish h is_open = may s p (Steps h.untouched more) (Show (settings s p).error_handler error wish) h.owes (Errs error wish is_open, refl)

pub remakes_due : (s : Start) (p : List Entry) (more : Agenda) (answer : Result (Unit {0}) NotifyFault) → IsStepping s p more → Due s p (Make (back_count p) (applied s p).file_watcher (applied s p).follow_symlinks answer)
remakes_due s p more answer h = may s p (Steps h.untouched more) (Make (back_count p) (applied s p).file_watcher (applied s p).follow_symlinks answer) h.owes (Remakes answer, refl)

pub finishes_due : (s : Start) (p : List Entry) (more : Agenda) → IsStepping s p more → Due s p (Said Stepped)
finishes_due s p more h = may s p (Steps h.untouched more) (Said Stepped) h.owes (Finishes, refl)

-- in place of one that nothing came of comes what is to be done without
pub rests_due : (s : Start) (p : List Entry) (more : Agenda) (e : Entry) → agenda s p ≡ Steps true more → rest_entry s p ≡ e → Due s p e
rests_due s p more e owes is = may s p (Steps true more) e owes (Rests refl, sym is)

-- it goes on behind each

pub judges_on : (s : Start) (p : List Entry) (more : Agenda) (n : ℕ) (path : List ℕ) (answer : Result Bool RuntimeError) → IsStepping s p more → IsStepping s (Dir n path answer ∷ p) more
judges_on s p more n path answer h = record { untouched = false; owes = behind s p (Steps h.untouched more) (Dir n path answer) h.owes }

pub errs_on : (s : Start) (p : List Entry) (more : Agenda) (n : ℕ) (error : RuntimeError) (wish : Wish) → IsStepping s p more → ending error wish ≡ None → IsStepping s (Show n error wish ∷ p) more
errs_on s p more n error wish h calm = record {
  untouched = false;
  owes = behind s p (Steps h.untouched more) (Show n error wish) h.owes ∙ ap (λ (o : Option CriticalError). settle (Show n error wish ∷ p) (after_show o (Steps false more))) calm;
}

pub remakes_on : (s : Start) (p : List Entry) (more : Agenda) (back : ℕ) (watcher : Watcher) (links : Bool) (done : Unit {0}) → IsStepping s p more → IsStepping s (Make back watcher links (Ok done) ∷ p) more
remakes_on s p more back watcher links done h = record { untouched = false; owes = behind s p (Steps h.untouched more) (Make back watcher links (Ok done)) h.owes }

-- or the run breaks off

pub errs_break : (s : Start) (p : List Entry) (more : Agenda) (n : ℕ) (error : RuntimeError) (wish : Wish) (last : CriticalError) → IsStepping s p more → ending error wish ≡ Some last → agenda s (Show n error wish ∷ p) ≡ Breaks
errs_break s p more n error wish last h bad = behind s p (Steps h.untouched more) (Show n error wish) h.owes ∙ ap (λ (o : Option CriticalError). settle (Show n error wish ∷ p) (after_show o (Steps false more))) bad

pub remakes_break : (s : Start) (p : List Entry) (more : Agenda) (back : ℕ) (watcher : Watcher) (links : Bool) (fault : NotifyFault) → IsStepping s p more → agenda s (Make back watcher links (Err fault) ∷ p) ≡ Breaks
remakes_break s p more back watcher links fault h = behind s p (Steps h.untouched more) (Make back watcher links (Err fault)) h.owes

-- where it is done what stood behind it is owed, and where there was none what comes of the entry that came in its place

pub finishes_over : (s : Start) (p : List Entry) (more : Agenda) → IsStepping s p more → agenda s (Said Stepped ∷ p) ≡ settle (Said Stepped ∷ p) more
finishes_over s p more h = behind s p (Steps h.untouched more) (Said Stepped) h.owes

pub rests_over : (s : Start) (p : List Entry) (more : Agenda) (e : Entry) → agenda s p ≡ Steps true more → rest_entry s p ≡ e → agenda s (e ∷ p) ≡ settle (e ∷ p) (follow s e p more)
rests_over s p more e owes is =
    let ends : goes_on e ≡ false = subst (λ (x : Entry). goes_on x ≡ false) is (rest_ends (rest_entry s p) (rest_is s p)) in
    behind s p (Steps true more) e owes ∙ ap (λ (b : Bool). settle (e ∷ p) (follow s e p (cond b (Steps false more) more))) ends

-- ---- which entry comes where there is no step to take

-- it is told that all is watched, where nothing below the fence is to be heard
pub ready_rests : (s : Start) (p : List Entry) (named : ℕ) → (source s p).asks ≡ Some named → fenced (source s p).fence (source s p).lane ≡ None → rest_entry s p ≡ Ready named
ready_rests s p named asks none = ap (asks_entry s p) asks ∙ ap (fence_entry named) none

pub fenced_rests : (s : Start) (p : List Entry) (named : ℕ) (i : LaneItem) → (source s p).asks ≡ Some named → fenced (source s p).fence (source s p).lane ≡ Some i → rest_entry s p ≡ Heard i.name
fenced_rests s p named i asks there = ap (asks_entry s p) asks ∙ ap (fence_entry named) there

-- nothing waits
pub quiet_rests : (s : Start) (p : List Entry) → (source s p).asks ≡ None → (source s p).lane ≡ [] → rest_entry s p ≡ Said Quiet
quiet_rests s p asks empty = ap (asks_entry s p) asks ∙ ap (λ (items : List LaneItem). lane_entry s p (first_item items)) empty

-- what comes of the first item
first_rests : (s : Start) (p : List Entry) (i : LaneItem) → (source s p).asks ≡ None → first_item (source s p).lane ≡ Some i → rest_entry s p ≡ item_entry s p i
first_rests s p i asks there = ap (asks_entry s p) asks ∙ ap (lane_entry s p) there

pub deaf_rests : (s : Start) (p : List Entry) (i : LaneItem) → (source s p).asks ≡ None → first_item (source s p).lane ≡ Some i → is_deaf i ≡ true → rest_entry s p ≡ Heard i.name
deaf_rests s p i asks there deaf = first_rests s p i asks there ∙ ap (λ (b : Bool). cond b (Heard i.name) (event_entry s p i i.item)) deaf

event_rests : (s : Start) (p : List Entry) (i : LaneItem) (n : Notify) → (source s p).asks ≡ None → first_item (source s p).lane ≡ Some i → is_deaf i ≡ false → i.item ≡ Ok n → rest_entry s p ≡ event_entry s p i (Ok n)
event_rests s p i n asks there deaf is = first_rests s p i asks there ∙ ap (λ (b : Bool). cond b (Heard i.name) (event_entry s p i i.item)) deaf ∙ ap (event_entry s p i) is

pub obsolete_rests : (s : Start) (p : List Entry) (i : LaneItem) (n : Notify) → (source s p).asks ≡ None → first_item (source s p).lane ≡ Some i → is_deaf i ≡ false → i.item ≡ Ok n → is_live (source s p) i.back ≡ false → rest_entry s p ≡ LetGo i.name Obsolete
obsolete_rests s p i n asks there deaf is live =
    event_rests s p i n asks there deaf is
    ∙ ap (λ (b : Bool). cond (not b) (LetGo i.name Obsolete) (cond (not (is_public s p n)) (LetGo i.name Uncovered) (Offer (event_count p) (Some i.name) (offered s p) (event_of n) Normal))) live

by_public : (s : Start) (p : List Entry) (i : LaneItem) (n : Notify) (public : Bool) → (source s p).asks ≡ None → first_item (source s p).lane ≡ Some i → is_deaf i ≡ false → i.item ≡ Ok n → is_live (source s p) i.back ≡ true → is_public s p n ≡ public → rest_entry s p ≡ cond (not public) (LetGo i.name Uncovered) (Offer (event_count p) (Some i.name) (offered s p) (event_of n) Normal)
by_public s p i n public asks there deaf is live of_any =
    event_rests s p i n asks there deaf is
    ∙ ap (λ (b : Bool). cond (not b) (LetGo i.name Obsolete) (cond (not (is_public s p n)) (LetGo i.name Uncovered) (Offer (event_count p) (Some i.name) (offered s p) (event_of n) Normal))) live
    ∙ ap (λ (b : Bool). cond (not b) (LetGo i.name Uncovered) (Offer (event_count p) (Some i.name) (offered s p) (event_of n) Normal)) of_any

pub uncovered_rests : (s : Start) (p : List Entry) (i : LaneItem) (n : Notify) → (source s p).asks ≡ None → first_item (source s p).lane ≡ Some i → is_deaf i ≡ false → i.item ≡ Ok n → is_live (source s p) i.back ≡ true → is_public s p n ≡ false → rest_entry s p ≡ LetGo i.name Uncovered
uncovered_rests s p i n asks there deaf is live other = by_public s p i n false asks there deaf is live other

pub offer_rests : (s : Start) (p : List Entry) (i : LaneItem) (n : Notify) → (source s p).asks ≡ None → first_item (source s p).lane ≡ Some i → is_deaf i ≡ false → i.item ≡ Ok n → is_live (source s p) i.back ≡ true → is_public s p n ≡ true → rest_entry s p ≡ Offer (event_count p) (Some i.name) (offered s p) (event_of n) Normal
offer_rests s p i n asks there deaf is live public = by_public s p i n true asks there deaf is live public

-- ---- what a backend brought

pub listens_due : (s : Start) (p : List Entry) (more : Agenda) (back : ℕ) (answer : Option (Result Notify NotifyFault)) → agenda s p ≡ Comes (Listens back) more → Due s p (listened (item_count p) back answer)
listens_due s p more back answer owes = may s p (Comes (Listens back) more) (listened (item_count p) back answer) owes (answer, refl)

-- nothing
pub unheard_over : (s : Start) (p : List Entry) (more : Agenda) (back : ℕ) → agenda s p ≡ Comes (Listens back) more → agenda s (Said Quiet ∷ p) ≡ settle (Said Quiet ∷ p) more
unheard_over s p more back owes = behind s p (Comes (Listens back) more) (Said Quiet) owes

-- or an item, which is let go where there is no room for it
pub brought_then : (s : Start) (p : List Entry) (more : Agenda) (back item from : ℕ) (answer : Result Notify NotifyFault) → agenda s p ≡ Comes (Listens back) more → agenda s (Brought item from answer ∷ p) ≡ settle (Brought item from answer ∷ p) (after_brought (finds_full s p answer) item more)
brought_then s p more back item from answer owes = behind s p (Comes (Listens back) more) (Brought item from answer) owes

pub full_due : (s : Start) (p : List Entry) (more : Agenda) (item : ℕ) → agenda s p ≡ Comes (LetsGo item) more → Due s p (LetGo item Full)
full_due s p more item owes = may s p (Comes (LetsGo item) more) (LetGo item Full) owes (tt, refl)

pub full_over : (s : Start) (p : List Entry) (more : Agenda) (item named : ℕ) (cause : LetGoCause) → agenda s p ≡ Comes (LetsGo item) more → agenda s (LetGo named cause ∷ p) ≡ settle (LetGo named cause ∷ p) more
full_over s p more item named cause owes = behind s p (Comes (LetsGo item) more) (LetGo named cause) owes
