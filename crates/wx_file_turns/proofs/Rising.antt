-- Names rise in the lane of each journal that names its own.
use Rattle.std.proofs.Common.{◌≡◌, ℕ, ◌+◌, ◌<◌, ◌≤◌, Bool, true, false, cond, List, [], ◌∷◌, ◌++◌, arith, refl, subst, ne_eqb}
use Rattle.std.specs.Prelude.{Option, None, Some, Result, ◌==◌, ◌&&◌, not}
use Rattle.wx_events.specs.declared.event.Event.{Event}
use Rattle.wx_events.specs.declared.priority.Priority.{Priority}
use Rattle.wx_notify.specs.declared.notify.Notify.{Notify}
use Rattle.wx_watch.specs.declared.notify_fault.NotifyFault.{NotifyFault}
use Rattle.wx_lane.specs.declared.lane.LaneItem.{LaneItem}
use Rattle.wx_lane.specs.Lanes.{LaneState, fenced, has_changes, hear, hear_first, is_full, is_unheard, is_waiting, put_item}
use Rattle.wx_journal.specs.declared.entry.Entry.{Entry}
use Rattle.wx_journal.specs.declared.entry.Entry.TheVariants.{Offer, Word as Said, Make, Applied, Heard, Brought, LetGo, Ready}
use Rattle.wx_journal.specs.declared.entry.LetGoCause.{LetGoCause}
use Rattle.wx_journal.specs.declared.entry.LetGoCause.TheVariants.{Full, Obsolete, Uncovered}
use Rattle.wx_journal.specs.declared.entry.Offered.{Offered}
use Rattle.wx_journal.specs.declared.entry.Word.{Word}
use Rattle.wx_journal.specs.declared.entry.Word.TheVariants.{Stepped}
use Rattle.wx_journal.specs.Names.{item_count, names_item, NamesItsOwn}
use Rattle.wx_machine.specs.Start.{Start}
use Rattle.wx_machine.specs.Files.{Source, source, first_item, item_named, leave, said}
use Rattle.wx_machine.proofs.LaneLaws.{stand_keeps, rises}
use Rattle.wx_machine.proofs.RestLaws.{same_there}

-- from this name on, and below that one, each behind those before it
abbrev pub AreRising : ℕ → ℕ → List LaneItem → Type 0
AreRising low high [] = Unit {0}
AreRising low high (i ∷ items) = (low ≤ i.name) × (i.name < high) × AreRising (i.name + 1) high items

-- ---- what stays

raised : (low high above : ℕ) (items : List LaneItem) → high ≤ above → AreRising low high items → AreRising low above items
raised low high above [] more h = tt
raised low high above (i ∷ items) more h = let below = h.1 in (h.0, omega (arith, below, more), raised (i.name + 1) high above items more h.2)

lowered : (under low high : ℕ) (items : List LaneItem) → under ≤ low → AreRising low high items → AreRising under high items
lowered under low high [] less h = tt
lowered under low high (i ∷ items) less h = let later = h.0 in (omega (arith, less, later), h.1, h.2)

behind : (low high : ℕ) (i : LaneItem) (items : List LaneItem) → AreRising low high (i ∷ items) → AreRising low high items
behind low high i items h = let later = h.0 in lowered low (i.name + 1) high items (omega (arith, later)) h.2

by_either : (b : Bool) (low high : ℕ) (xs ys : List LaneItem) → AreRising low high xs → AreRising low high ys → AreRising low high (cond b xs ys)
by_either true low high xs ys h g = h
by_either false low high xs ys h g = g

rising_left : (low high item : ℕ) (items : List LaneItem) → AreRising low high items → AreRising low high (leave item items)
rising_left low high item [] h = tt
rising_left low high item (i ∷ items) h = by_either (i.name == item) low high items (i ∷ leave item items) (behind low high i items h) (h.0, h.1, rising_left (i.name + 1) high item items h.2)

first_heard : (b : Bool) (low high : ℕ) (i : LaneItem) (items : List LaneItem) → AreRising low high (i ∷ items) → AreRising low high (cond b (record i { heard = true } ∷ []) [] ++ items)
first_heard true low high i items h = (h.0, h.1, h.2)
first_heard false low high i items h = behind low high i items h

rising_heard : (low high item : ℕ) (items : List LaneItem) → AreRising low high items → AreRising low high (hear item items)
rising_heard low high item [] h = tt
rising_heard low high item (i ∷ items) h = by_either (i.name == item) low high (hear_first (i ∷ items)) (i ∷ hear item items) (first_heard (is_waiting i) low high i items h) (h.0, h.1, rising_heard (i.name + 1) high item items h.2)

-- ---- what joins

rising_joined : (low high : ℕ) (items : List LaneItem) (new : LaneItem) → low ≤ high → new.name ≡ high → AreRising low high items → AreRising low (high + 1) (items ++ new ∷ [])
rising_joined low high [] new le is h = (omega (arith, le, is), omega (arith, is), tt)
rising_joined low high (i ∷ items) new le is h = let below = h.1 in (h.0, omega (arith, below), rising_joined (i.name + 1) high items new (omega (arith, below)) is h.2)

put_either : (b full : Bool) (size low high item back : ℕ) (answer : Result Notify NotifyFault) (items : List LaneItem) → low ≤ high → item ≡ high → AreRising low high items → AreRising low (high + 1) (cond {A = LaneState} b (record { items = items; size = size }) (record { items = items ++ record { name = item; back = back; item = answer; heard = false; full = full } ∷ []; size = size })).items
put_either true full size low high item back answer items le is h = raised low high (high + 1) items (omega arith) h
put_either false full size low high item back answer items le is h = rising_joined low high items (record { name = item; back = back; item = answer; heard = false; full = full }) le is h

rising_put : (size high item back : ℕ) (answer : Result Notify NotifyFault) (items : List LaneItem) → item ≡ high → AreRising 0 high items → AreRising 0 (high + 1) (put_item item back answer (record { items = items; size = size })).items
rising_put size high item back answer items is h = let lane : LaneState = record { items = items; size = size } in put_either (is_full lane answer && not (has_changes answer)) (is_full lane answer) size 0 high item back answer items (omega arith) is h

-- ---- in each journal

-- an entry that leaves the items, or takes some out
rising_over : (s : Start) (e : Entry) (p : List Entry) (items : List LaneItem) → (source s (e ∷ p)).lane ≡ items → AreRising 0 (item_count p) items → AreRising 0 (item_count (e ∷ p)) (source s (e ∷ p)).lane
rising_over s e p items is h = rw is (raised 0 (item_count p) (item_count (e ∷ p)) items (rises (names_item e) (item_count p)) h)

fence_only : (b : Bool) (x : Source) (items : ℕ) → (cond b x (record x { fence = items })).lane ≡ x.lane
fence_only true x items = refl
fence_only false x items = refl

said_only : (items : ℕ) (word : Word) (x : Source) → (said items word x).lane ≡ x.lane
said_only items Stepped x = fence_only x.fenced x items
said_only items (_) x = refl

let_go_rises : (s : Start) (item : ℕ) (cause : LetGoCause) (p : List Entry) → AreRising 0 (item_count p) (source s p).lane → AreRising 0 (item_count (LetGo item cause ∷ p)) (source s (LetGo item cause ∷ p)).lane
let_go_rises s item Full p h = h
let_go_rises s item Obsolete p h = rising_left 0 (item_count p) item (source s p).lane h
let_go_rises s item Uncovered p h = rising_left 0 (item_count p) item (source s p).lane h

offer_rises : (s : Start) (name : ℕ) (item : Option ℕ) (result : Offered) (event : Event) (priority : Priority) (p : List Entry) → AreRising 0 (item_count p) (source s p).lane → AreRising 0 (item_count (Offer name item result event priority ∷ p)) (source s (Offer name item result event priority ∷ p)).lane
offer_rises s name None result event priority p h = h
offer_rises s name (Some item) result event priority p h = rising_left 0 (item_count p) item (source s p).lane h

pub lane_rises : (s : Start) (p : List Entry) → NamesItsOwn p → AreRising 0 (item_count p) (source s p).lane
lane_rises s [] own = tt
lane_rises s (Make back watcher links answer ∷ p) own = rising_over s (Make back watcher links answer) p (source s p).lane (stand_keeps back answer (source s p)) (lane_rises s p own.1)
lane_rises s (Applied revision ∷ p) own = lane_rises s p own.1
lane_rises s (Brought item back answer ∷ p) own = rising_put s.config.event_channel_size (item_count p) item back answer (source s p).lane own.0.0 (lane_rises s p own.1)
lane_rises s (LetGo item cause ∷ p) own = let_go_rises s item cause p (lane_rises s p own.1)
lane_rises s (Heard item ∷ p) own = rising_heard 0 (item_count p) item (source s p).lane (lane_rises s p own.1)
lane_rises s (Offer name item result event priority ∷ p) own = offer_rises s name item result event priority p (lane_rises s p own.1)
lane_rises s (Ready revision ∷ p) own = lane_rises s p own.1
lane_rises s (Said word ∷ p) own = rising_over s (Said word) p (source s p).lane (said_only (item_count p) word (source s p)) (lane_rises s p own.1)
lane_rises s (_ ∷ p) own = lane_rises s p own.1

-- ---- an item is found by its name

-- the first
pub first_named : (items : List LaneItem) (i : LaneItem) → first_item items ≡ Some i → item_named i.name items ≡ Some i
first_named [] i e = absurd cc
first_named (x ∷ items) i e = same_there x i items e

record IsFound (low : ℕ) (items : List LaneItem) (i : LaneItem) : Type 0 where
  later : low ≤ i.name
  found : item_named i.name items ≡ Some i

found_by : (low high below : ℕ) (x : LaneItem) (items : List LaneItem) (i : LaneItem) (b : Bool) → low ≤ x.name → (fenced below items ≡ Some i → IsFound (x.name + 1) items i) → cond b (Some x) (fenced below items) ≡ Some i → IsFound low (x ∷ items) i
found_by low high below x items i true first more e =
    let at : Some x ≡ Some i = e in
    let same : x ≡ i = cc in
    subst (IsFound low (x ∷ items)) same (record { later = first; found = same_there x x items refl })
found_by low high below x items i false first more e =
    let h = more e in
    let later = h.later in
    record { later = omega (arith, first, later); found = rw (ne_eqb x.name i.name (λ same. omega (arith, later, same))) h.found }

fence_found : (low high below : ℕ) (items : List LaneItem) (i : LaneItem) → AreRising low high items → fenced below items ≡ Some i → IsFound low items i
fence_found low high below [] i h e = absurd cc
fence_found low high below (x ∷ items) i h e = found_by low high below x items i (is_unheard below x) h.0 (λ later. fence_found (x.name + 1) high below items i h.2 later) e

-- and that below a fence
pub fence_named : (high below : ℕ) (items : List LaneItem) (i : LaneItem) → AreRising 0 high items → fenced below items ≡ Some i → item_named i.name items ≡ Some i
fence_named high below items i h e = (fence_found 0 high below items i h e).found
