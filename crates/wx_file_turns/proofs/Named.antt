-- The backend that stands, and each item that waits, has a name, where a journal names its own.
use Rattle.std.proofs.Common.{◌≡◌, ◌<◌, ◌≤◌, ◌+◌, ℕ, true, false, List, [], ◌∷◌, ◌++◌, arith, refl, sym, subst}
use Rattle.std.specs.Prelude.{Option, None, Some, Result, Ok, Err, ◌==◌, ◌&&◌, not}
use Rattle.wx_events.specs.declared.priority.Priority.TheVariants.{Normal}
use Rattle.wx_notify.specs.declared.notify.Notify.{Notify}
use Rattle.wx_watch.specs.declared.notify_fault.NotifyFault.{NotifyFault}
use Rattle.wx_lane.specs.declared.lane.LaneItem.{LaneItem}
use Rattle.wx_lane.specs.Lanes.{LaneState, fenced, has_changes, hear, hear_first, is_full, is_unheard, is_waiting, put_item}
use Rattle.wx_lane.specs.FileEvents.{event_of}
use Rattle.wx_journal.specs.declared.entry.Entry.{Entry}
use Rattle.wx_journal.specs.declared.entry.Entry.TheVariants.{Offer, Word as Said, Make, Applied, Heard, Brought, LetGo}
use Rattle.wx_journal.specs.declared.entry.LetGoCause.{LetGoCause}
use Rattle.wx_journal.specs.declared.entry.LetGoCause.TheVariants.{Full, Obsolete, Uncovered}
use Rattle.wx_journal.specs.Names.{back_count, event_count, item_count, NamesItsOwn}
use Rattle.wx_machine.specs.Start.{Start}
use Rattle.wx_machine.specs.Settings.{settings}
use Rattle.wx_machine.specs.Journal.{offered}
use Rattle.wx_machine.specs.Files.{Source, first_item, has_paths, is_deaf, is_live, is_public, leave, let_go, offer_item, source, stand}
use Rattle.wx_machine.specs.Due.{asks_entry, event_entry, fence_entry, lane_entry, rest_entry}
use Rattle.wx_machine.proofs.Owners.{either}
use Rattle.wx_machine.proofs.LaneLaws.{stand_keeps, said_keeps}

-- ---- what entries leave of it

offer_keeps : (item : Option ℕ) (x : Source) → (offer_item item x).current ≡ x.current
offer_keeps None x = refl
offer_keeps (Some item) x = refl

let_go_keeps : (cause : LetGoCause) (item : ℕ) (x : Source) → (let_go cause item x).current ≡ x.current
let_go_keeps Full item x = refl
let_go_keeps Obsolete item x = refl
let_go_keeps Uncovered item x = refl

-- ---- the backend that stands

abbrev IsBelow : ℕ → Option ℕ → Type 0
IsBelow n None = Unit {0}
IsBelow n (Some back) = back < n

below_later : (n m : ℕ) (o : Option ℕ) → n ≤ m → IsBelow n o → IsBelow m o
below_later n m None le h = tt
below_later n m (Some back) le h = omega (arith, le, h)

stand_below : (n back : ℕ) (answer : Result (Unit {0}) NotifyFault) (x : Source) → back ≡ n → IsBelow n x.current → IsBelow (n + 1) (stand back answer x).current
stand_below n back (Ok done) x next h = omega (arith, next)
stand_below n back (Err fault) x next h = below_later n (n + 1) x.current (omega arith) h

current_below : (s : Start) (p : List Entry) → NamesItsOwn p → IsBelow (back_count p) (source s p).current
current_below s [] own = tt
current_below s (Make back watcher links answer ∷ p) own = stand_below (back_count p) back answer (source s p) own.0 (current_below s p own.1)
current_below s (Applied revision ∷ p) own = either (IsBelow (back_count p)) (has_paths (settings s p)) (source s p).current None (current_below s p own.1) tt
current_below s (LetGo item cause ∷ p) own = subst (IsBelow (back_count p)) (sym (let_go_keeps cause item (source s p))) (current_below s p own.1)
current_below s (Offer name item result event priority ∷ p) own = subst (IsBelow (back_count p)) (sym (offer_keeps item (source s p))) (current_below s p own.1)
current_below s (Said word ∷ p) own = subst (IsBelow (back_count p)) (sym (said_keeps (item_count p) word (source s p)).1) (current_below s p own.1)
current_below s (_ ∷ p) own = current_below s p own.1

pub current_named : (s : Start) (p : List Entry) (back : ℕ) → NamesItsOwn p → (source s p).current ≡ Some back → back < back_count p
current_named s p back own is = subst (IsBelow (back_count p)) is (current_below s p own)

-- ---- what waits

abbrev AreBelow : ℕ → List LaneItem → Type 0
AreBelow n [] = Unit {0}
AreBelow n (i ∷ items) = (i.name < n) × AreBelow n items

all_later : (n m : ℕ) (items : List LaneItem) → n ≤ m → AreBelow n items → AreBelow m items
all_later n m [] le h = tt
all_later n m (i ∷ items) le h = let first = h.0 in (omega (arith, le, first), all_later n m items le h.1)

left_below : (n item : ℕ) (items : List LaneItem) → AreBelow n items → AreBelow n (leave item items)
left_below n item [] h = tt
left_below n item (i ∷ items) h = either (AreBelow n) (i.name == item) items (i ∷ leave item items) h.1 (h.0, left_below n item items h.1)

first_below : (n : ℕ) (i : LaneItem) (items : List LaneItem) → AreBelow n (i ∷ items) → AreBelow n (hear_first (i ∷ items))
first_below n i items h = either (λ (front : List LaneItem). AreBelow n (front ++ items)) (is_waiting i) (record i { heard = true } ∷ []) [] (h.0, h.1) h.1

heard_below : (n item : ℕ) (items : List LaneItem) → AreBelow n items → AreBelow n (hear item items)
heard_below n item [] h = tt
heard_below n item (i ∷ items) h = either (AreBelow n) (i.name == item) (hear_first (i ∷ items)) (i ∷ hear item items) (first_below n i items h) (h.0, heard_below n item items h.1)

joined_below : (n : ℕ) (i : LaneItem) (items : List LaneItem) → i.name < n → AreBelow n items → AreBelow n (items ++ i ∷ [])
joined_below n i [] named h = (named, tt)
joined_below n i (x ∷ items) named h = (h.0, joined_below n i items named h.1)

put_below : (n item back : ℕ) (answer : Result Notify NotifyFault) (lane : LaneState) → item < n → AreBelow n lane.items → AreBelow n (put_item item back answer lane).items
put_below n item back answer lane named h =
    let full = is_full lane answer in
    either
    (λ (l : LaneState). AreBelow n l.items)
    (full && not (has_changes answer))
    lane
    (record lane { items = lane.items ++ record { name = item; back = back; item = answer; heard = false; full = full } ∷ [] })
    h
    (joined_below n (record { name = item; back = back; item = answer; heard = false; full = full }) lane.items named h)

let_go_below : (n : ℕ) (cause : LetGoCause) (item : ℕ) (x : Source) → AreBelow n x.lane → AreBelow n (let_go cause item x).lane
let_go_below n Full item x h = h
let_go_below n Obsolete item x h = left_below n item x.lane h
let_go_below n Uncovered item x h = left_below n item x.lane h

offer_below : (n : ℕ) (item : Option ℕ) (x : Source) → AreBelow n x.lane → AreBelow n (offer_item item x).lane
offer_below n None x h = h
offer_below n (Some item) x h = left_below n item x.lane h

waiting_below : (s : Start) (p : List Entry) → NamesItsOwn p → AreBelow (item_count p) (source s p).lane
waiting_below s [] own = tt
waiting_below s (Make back watcher links answer ∷ p) own = subst (AreBelow (item_count p)) (sym (stand_keeps back answer (source s p))) (waiting_below s p own.1)
waiting_below s (Brought item back answer ∷ p) own =
    let next = own.0.0 in
    put_below (item_count p + 1) item back answer (record { items = (source s p).lane; size = s.config.event_channel_size }) (omega (arith, next)) (all_later (item_count p) (item_count p + 1) (source s p).lane (omega arith) (waiting_below s p own.1))
waiting_below s (LetGo item cause ∷ p) own = let_go_below (item_count p) cause item (source s p) (waiting_below s p own.1)
waiting_below s (Heard item ∷ p) own = heard_below (item_count p) item (source s p).lane (waiting_below s p own.1)
waiting_below s (Offer name item result event priority ∷ p) own = offer_below (item_count p) item (source s p) (waiting_below s p own.1)
waiting_below s (Said word ∷ p) own = subst (AreBelow (item_count p)) (sym (said_keeps (item_count p) word (source s p)).0) (waiting_below s p own.1)
waiting_below s (_ ∷ p) own = waiting_below s p own.1

-- ---- what is heard next

-- an item that this entry hears has a name below this one
abbrev HearsBelow : ℕ → Entry → Type 0
HearsBelow n (Heard item) = item < n
HearsBelow n (_) = Unit {0}

event_below : (n : ℕ) (s : Start) (p : List Entry) (i : LaneItem) (item : Result Notify NotifyFault) → i.name < n → HearsBelow n (event_entry s p i item)
event_below n s p i (Ok event) named =
    either (HearsBelow n) (not (is_live (source s p) i.back)) (LetGo i.name Obsolete) _ tt (either (HearsBelow n) (not (is_public s p event)) (LetGo i.name Uncovered) (Offer (event_count p) (Some i.name) (offered s p) (event_of event) Normal) tt tt)
event_below n s p i (Err fault) named = named

lane_below : (n : ℕ) (s : Start) (p : List Entry) (items : List LaneItem) → AreBelow n items → HearsBelow n (lane_entry s p (first_item items))
lane_below n s p [] h = tt
lane_below n s p (i ∷ items) h = either (HearsBelow n) (is_deaf i) (Heard i.name) (event_entry s p i i.item) h.0 (event_below n s p i i.item h.0)

fence_below : (n revision below : ℕ) (items : List LaneItem) → AreBelow n items → HearsBelow n (fence_entry revision (fenced below items))
fence_below n revision below [] h = tt
fence_below n revision below (i ∷ items) h = either (λ (o : Option LaneItem). HearsBelow n (fence_entry revision o)) (is_unheard below i) (Some i) (fenced below items) h.0 (fence_below n revision below items h.1)

asks_below : (n : ℕ) (s : Start) (p : List Entry) (asks : Option ℕ) → AreBelow n (source s p).lane → HearsBelow n (asks_entry s p asks)
asks_below n s p None h = lane_below n s p (source s p).lane h
asks_below n s p (Some revision) h = fence_below n revision (source s p).fence (source s p).lane h

pub heard_named : (s : Start) (p : List Entry) (item : ℕ) → NamesItsOwn p → rest_entry s p ≡ Heard item → item < item_count p
heard_named s p item own is = subst (HearsBelow (item_count p)) is (asks_below (item_count p) s p (source s p).asks (waiting_below s p own))
