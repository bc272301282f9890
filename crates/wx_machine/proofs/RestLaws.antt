-- What comes where there is no step of what keeps watches to take.
use Rattle.std.proofs.Common.{◌≡◌, ℕ, ◌+◌, ◌<◌, ◌≤◌, Bool, true, false, cond, List, [], ◌∷◌, Ok, arith, refl, ap, sym, subst, ◌∙◌, eq-eqb, ne_eqb}
use Rattle.std.specs.Prelude.{Option, None, Some, Result, Ok, Err, ◌&&◌, ◌||◌, not, nat_lt}
use Rattle.wx_events.specs.declared.priority.Priority.TheVariants.{Normal}
use Rattle.wx_notify.specs.declared.notify.Notify.{Notify}
use Rattle.wx_watch.specs.declared.notify_fault.NotifyFault.{NotifyFault}
use Rattle.wx_lane.specs.declared.lane.LaneItem.{LaneItem}
use Rattle.wx_lane.specs.Lanes.{fenced, has_changes, is_event, is_unheard}
use Rattle.wx_lane.specs.FileEvents.{event_of}
use Rattle.wx_journal.specs.declared.entry.Entry.{Entry}
use Rattle.wx_journal.specs.declared.entry.Entry.TheVariants.{Offer, Word as Said, Show, Hand, Dir, Make, Heard, Brought, LetGo, Ready}
use Rattle.wx_journal.specs.declared.entry.LetGoCause.TheVariants.{Obsolete, Uncovered}
use Rattle.wx_journal.specs.Names.{event_count, item_count}
use Rattle.wx_journal.specs.Told.{is_hand}
use Rattle.wx_machine.specs.Start.{Start}
use Rattle.wx_machine.specs.Journal.{offered}
use Rattle.wx_machine.specs.Files.{source, first_item, is_deaf, is_live, is_public, item_named}
use Rattle.wx_machine.specs.FileLaws.{offered_below}
use Rattle.wx_machine.specs.Due.{asks_entry, event_entry, fence_entry, goes_on, lane_entry, listened, rest_entry}
use Rattle.wx_machine.proofs.Owners.{either}
use Rattle.wx_machine.proofs.Orderly.{AreKnown, IsBrought, IsKnown, IsSourced}

-- ---- which entries come

abbrev pub IsRest : Entry → Type 0
IsRest (Said word) = Unit {0}
IsRest (Offer name item result event priority) = Unit {0}
IsRest (LetGo item cause) = Unit {0}
IsRest (Heard item) = Unit {0}
IsRest (Ready named) = Unit {0}
IsRest (_) = ⊥

event_is : (s : Start) (p : List Entry) (i : LaneItem) (item : Result Notify NotifyFault) → IsRest (event_entry s p i item)
event_is s p i (Ok n) =
    either IsRest (not (is_live (source s p) i.back)) (LetGo i.name Obsolete) _ tt (either IsRest (not (is_public s p n)) (LetGo i.name Uncovered) (Offer (event_count p) (Some i.name) (offered s p) (event_of n) Normal) tt tt)
event_is s p i (Err fault) = tt

lane_is : (s : Start) (p : List Entry) (o : Option LaneItem) → IsRest (lane_entry s p o)
lane_is s p None = tt
lane_is s p (Some i) = either IsRest (is_deaf i) (Heard i.name) (event_entry s p i i.item) tt (event_is s p i i.item)

fence_is : (named : ℕ) (o : Option LaneItem) → IsRest (fence_entry named o)
fence_is named None = tt
fence_is named (Some i) = tt

asks_is : (s : Start) (p : List Entry) (o : Option ℕ) → IsRest (asks_entry s p o)
asks_is s p None = lane_is s p (first_item (source s p).lane)
asks_is s p (Some named) = fence_is named (fenced (source s p).fence (source s p).lane)

pub rest_is : (s : Start) (p : List Entry) → IsRest (rest_entry s p)
rest_is s p = asks_is s p (source s p).asks

-- none hands a batch, and with none a step goes on
pub rest_hands : (e : Entry) → IsRest e → is_hand e ≡ false
rest_hands (Hand n names acts) r = absurd r
rest_hands (_) r = refl

pub rest_ends : (e : Entry) → IsRest e → goes_on e ≡ false
rest_ends (Dir n path answer) r = absurd r
rest_ends (Show n error wish) r = absurd r
rest_ends (Make back watcher links answer) r = absurd r
rest_ends (_) r = refl

-- what a backend brought, or that it brought nothing
abbrev pub IsListened : Entry → Type 0
IsListened (Said word) = Unit {0}
IsListened (Brought item back answer) = Unit {0}
IsListened (_) = ⊥

pub listened_is : (item back : ℕ) (answer : Option (Result Notify NotifyFault)) → IsListened (listened item back answer)
listened_is item back None = tt
listened_is item back (Some answer) = tt

-- ---- what is known of it

pub same_there : (x i : LaneItem) (items : List LaneItem) → Some x ≡ Some i → item_named i.name (x ∷ items) ≡ Some i
same_there x i items e =
    let is : x ≡ i = cc in
    rw (eq-eqb x.name i.name (ap (λ (y : LaneItem). y.name) is)) e

unheard_deaf : (below unheard changes event : Bool) → ((below && unheard) && (changes || not event)) ≡ true → (not event || (changes && unheard)) ≡ true
unheard_deaf true true true true e = refl
unheard_deaf true true false true e = absurd cc
unheard_deaf true true changes false e = refl
unheard_deaf true false changes event e = absurd cc
unheard_deaf false unheard changes event e = absurd cc

-- the item that is heard before it is told that all is watched
record IsThere (p : List Entry) (low : ℕ) (items : List LaneItem) (i : LaneItem) : Type 0 where
  later : low ≤ i.name
  named : i.name < item_count p
  there : item_named i.name items ≡ Some i
  deaf : is_deaf i ≡ true

by_test : (p : List Entry) (low below : ℕ) (x : LaneItem) (items : List LaneItem) (i : LaneItem) (b : Bool) → is_unheard below x ≡ b → IsKnown p low x → (fenced below items ≡ Some i → IsThere p (x.name + 1) items i) → cond b (Some x) (fenced below items) ≡ Some i → IsThere p low (x ∷ items) i
by_test p low below x items i true is k behind e =
    let at : Some x ≡ Some i = e in
    let same : x ≡ i = cc in
    subst (IsThere p low (x ∷ items)) same (record { later = k.later; named = k.named; there = same_there x x items refl; deaf = unheard_deaf (nat_lt x.name below) (not x.heard) (has_changes x.item) (is_event x.item) is })
by_test p low below x items i false is k behind e =
    let h = behind e in
    let first = k.later in
    let later = h.later in
    record { later = omega (arith, first, later); named = h.named; there = rw (ne_eqb x.name i.name (λ same. omega (arith, later, same))) h.there; deaf = h.deaf }

fence_there : (p : List Entry) (low below : ℕ) (items : List LaneItem) (i : LaneItem) → AreKnown p low items → fenced below items ≡ Some i → IsThere p low items i
fence_there p low below [] i k e = absurd cc
fence_there p low below (x ∷ items) i k e = by_test p low below x items i (is_unheard below x) refl k.0 (λ later. fence_there p (x.name + 1) below items i k.1 later) e

fence_brought : (s : Start) (p : List Entry) (named : ℕ) (o : Option LaneItem) → (source s p).asks ≡ Some named → fenced (source s p).fence (source s p).lane ≡ o → IsSourced s p → IsBrought s p (fence_entry named o)
fence_brought s p named None asks e h = record { asked = asks; heard = e }
fence_brought s p named (Some i) asks e h =
    let there = fence_there p (offered_below p) (source s p).fence (source s p).lane i h.waiting e in
    (there.named, record { found = i; there = there.there; so = there.deaf })

-- the first item
pub first_known : (p : List Entry) (low : ℕ) (items : List LaneItem) (i : LaneItem) → AreKnown p low items → first_item items ≡ Some i → IsKnown p low i × (item_named i.name items ≡ Some i)
first_known p low [] i k e = absurd cc
first_known p low (x ∷ items) i k e =
    let at : Some x ≡ Some i = e in
    let same : x ≡ i = cc in
    (subst (IsKnown p low) same k.0, same_there x i items at)

pub fault_is_deaf : (item : Result Notify NotifyFault) (fault : NotifyFault) (heard : Bool) → item ≡ Err fault → (not (is_event item) || (has_changes item && not heard)) ≡ true
fault_is_deaf item fault heard is = rw is refl

by_public : (s : Start) (p : List Entry) (i : LaneItem) (n : Notify) (public : Bool) → first_item (source s p).lane ≡ Some i → is_deaf i ≡ false → i.item ≡ Ok n → i.name < item_count p → is_live (source s p) i.back ≡ true → is_public s p n ≡ public → IsBrought s p (cond (not public) (LetGo i.name Uncovered) (Offer (event_count p) (Some i.name) (offered s p) (event_of n) Normal))
by_public s p i n true there heard is named live e = (refl, (named, record { found = i; notify = n; there = there; name = refl; event = is; heard = heard; so = record { live = live; public = e; becomes = refl; normal = refl } }), refl)
by_public s p i n false there heard is named live e = (named, record { found = i; notify = n; there = there; name = refl; event = is; heard = heard; so = (live, e) })

by_live : (s : Start) (p : List Entry) (i : LaneItem) (n : Notify) (live : Bool) → first_item (source s p).lane ≡ Some i → is_deaf i ≡ false → i.item ≡ Ok n → i.name < item_count p → is_live (source s p) i.back ≡ live → IsBrought s p (cond (not live) (LetGo i.name Obsolete) (cond (not (is_public s p n)) (LetGo i.name Uncovered) (Offer (event_count p) (Some i.name) (offered s p) (event_of n) Normal)))
by_live s p i n true there heard is named e = by_public s p i n (is_public s p n) there heard is named e refl
by_live s p i n false there heard is named e = (named, record { found = i; notify = n; there = there; name = refl; event = is; heard = heard; so = e })

event_brought : (s : Start) (p : List Entry) (i : LaneItem) (item : Result Notify NotifyFault) → first_item (source s p).lane ≡ Some i → is_deaf i ≡ false → i.item ≡ item → i.name < item_count p → IsBrought s p (event_entry s p i item)
event_brought s p i (Ok n) there heard is named = by_live s p i n (is_live (source s p) i.back) there heard is named refl
event_brought s p i (Err fault) there heard is named = let both : true ≡ false = sym (fault_is_deaf i.item fault i.heard is) ∙ heard in absurd cc

item_brought : (s : Start) (p : List Entry) (i : LaneItem) (deaf : Bool) → first_item (source s p).lane ≡ Some i → is_deaf i ≡ deaf → IsKnown p (offered_below p) i → item_named i.name (source s p).lane ≡ Some i → IsBrought s p (cond deaf (Heard i.name) (event_entry s p i i.item))
item_brought s p i true first e k there = (k.named, record { found = i; there = there; so = e })
item_brought s p i false first e k there = event_brought s p i i.item first e refl k.named

lane_brought : (s : Start) (p : List Entry) (o : Option LaneItem) → first_item (source s p).lane ≡ o → IsSourced s p → IsBrought s p (lane_entry s p o)
lane_brought s p None e h = tt
lane_brought s p (Some i) e h =
    let known = first_known p (offered_below p) (source s p).lane i h.waiting e in
    item_brought s p i (is_deaf i) e refl known.0 known.1

asks_brought : (s : Start) (p : List Entry) (o : Option ℕ) → (source s p).asks ≡ o → IsSourced s p → IsBrought s p (asks_entry s p o)
asks_brought s p None e h = lane_brought s p (first_item (source s p).lane) refl h
asks_brought s p (Some named) e h = fence_brought s p named (fenced (source s p).fence (source s p).lane) e refl h

pub rest_brought : (s : Start) (p : List Entry) → IsSourced s p → IsBrought s p (rest_entry s p)
rest_brought s p h = asks_brought s p (source s p).asks refl h

-- what a backend that stands brings
pub listen_brought : (s : Start) (p : List Entry) (back : ℕ) (answer : Option (Result Notify NotifyFault)) → (source s p).current ≡ Some back → IsSourced s p → IsBrought s p (listened (item_count p) back answer)
listen_brought s p back None is h = tt
listen_brought s p back (Some answer) is h = (record { next = refl; stands = is }, h.current_named back is)
