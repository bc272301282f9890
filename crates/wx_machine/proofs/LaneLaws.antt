-- What waits in the lane of a run was brought so, in this order, and behind all that was offered.
use Rattle.std.proofs.Common.{◌≡◌, ℕ, ◌+◌, ◌<◌, ◌≤◌, Bool, true, false, cond, List, [], ◌∷◌, ◌++◌, Ok, arith, refl, ap, sym, subst, ◌∙◌, eq-eqb, ne_eqb}
use Rattle.std.specs.Prelude.{Option, None, Some, Result, Ok, Err, ◌==◌, ◌&&◌, not}
use Rattle.wx_events.specs.declared.event.Event.{Event}
use Rattle.wx_events.specs.declared.priority.Priority.{Priority}
use Rattle.wx_notify.specs.declared.notify.Notify.{Notify}
use Rattle.wx_watch.specs.declared.notify_fault.NotifyFault.{NotifyFault}
use Rattle.wx_lane.specs.declared.lane.LaneItem.{LaneItem}
use Rattle.wx_lane.specs.Lanes.{LaneState, has_changes, is_full, is_waiting, hear, hear_first, put_item}
use Rattle.wx_journal.specs.declared.entry.Entry.{Entry}
use Rattle.wx_journal.specs.declared.entry.Entry.TheVariants.{Begin, Sent, Offer, Word as Said, Take, Filter, Show, Hand, Dir, Make, Applied, Heard, Brought, LetGo, Ready}
use Rattle.wx_journal.specs.declared.entry.LetGoCause.{LetGoCause}
use Rattle.wx_journal.specs.declared.entry.LetGoCause.TheVariants.{Full, Obsolete, Uncovered}
use Rattle.wx_journal.specs.declared.entry.Offered.{Offered}
use Rattle.wx_journal.specs.declared.entry.Word.{Word}
use Rattle.wx_journal.specs.declared.entry.Word.TheVariants.{Idle, Ignored, Quitting, Later, Quiet, Stepped}
use Rattle.wx_journal.specs.Names.{back_count, item_count, names_back, names_item}
use Rattle.wx_machine.specs.Start.{Start}
use Rattle.wx_machine.specs.Settings.{settings}
use Rattle.wx_machine.specs.Files.{Source, source, has_paths, is_about_files, is_file_word, first_item, leave, said, stand}
use Rattle.wx_machine.specs.FileLaws.{brought, offered_below}
use Rattle.wx_machine.proofs.Owners.{either}
use Rattle.wx_machine.proofs.Lawful.{IsOfPlan}
use Rattle.wx_machine.proofs.Orderly.{AreKnown, IsBrought, IsKnown, IsOffered, IsSourced}

-- ---- entries about nothing that is watched

no_step_said : (s : Start) (word : Word) (p : List Entry) → is_file_word word ≡ false → source s (Said word ∷ p) ≡ source s p
no_step_said s Stepped p other = absurd cc
no_step_said s (_) p other = refl

none_offered : (s : Start) (name : ℕ) (item : Option ℕ) (result : Offered) (event : Event) (priority : Priority) (p : List Entry) → is_about_files (Offer name item result event priority) ≡ false → source s (Offer name item result event priority ∷ p) ≡ source s p
none_offered s name None result event priority p other = refl
none_offered s name (Some item) result event priority p other = absurd cc

-- each leaves what is said of what is watched
pub source_over : (s : Start) (e : Entry) (p : List Entry) → is_about_files e ≡ false → source s (e ∷ p) ≡ source s p
source_over s (Make back watcher links answer) p other = absurd cc
source_over s (Applied named) p other = absurd cc
source_over s (Brought item back answer) p other = absurd cc
source_over s (LetGo item cause) p other = absurd cc
source_over s (Heard item) p other = absurd cc
source_over s (Ready named) p other = absurd cc
source_over s (Said word) p other = no_step_said s word p other
source_over s (Offer name item result event priority) p other = none_offered s name item result event priority p other
source_over s (_) p other = refl

pub no_file_word : (word : Word) → IsOfPlan (Said word) → is_file_word word ≡ false
no_file_word Idle o = refl
no_file_word Ignored o = refl
no_file_word Quitting o = absurd o
no_file_word Later o = refl
no_file_word Quiet o = absurd o
no_file_word Stepped o = absurd o

-- an entry of a plan is such
pub planned_none : (e : Entry) → IsOfPlan e → is_about_files e ≡ false
planned_none (Dir n path answer) o = absurd o
planned_none (Make back watcher links answer) o = absurd o
planned_none (Applied named) o = absurd o
planned_none (Brought item back answer) o = absurd o
planned_none (LetGo item cause) o = absurd o
planned_none (Heard item) o = absurd o
planned_none (Ready named) o = absurd o
planned_none (Offer name item result event priority) o = absurd o
planned_none (Said word) o = no_file_word word o
planned_none (_) o = refl

-- ---- what is known of items, by the journal

pub rises : (b : Bool) (n : ℕ) → n ≤ cond b (n + 1) n
rises true n = omega arith
rises false n = omega arith

pub items_rise : (e : Entry) (p : List Entry) → item_count p ≤ item_count (e ∷ p)
items_rise e p = rises (names_item e) (item_count p)

pub backs_rise : (e : Entry) (p : List Entry) → back_count p ≤ back_count (e ∷ p)
backs_rise e p = rises (names_back e) (back_count p)

brought_over : (named : ℕ) (e : Entry) (p : List Entry) → names_item e ≡ false → brought named (e ∷ p) ≡ brought named p
brought_over named (Brought item back answer) p other = absurd cc
brought_over named (_) p other = refl

-- behind an entry that brings none all is known that was
known_over : (e : Entry) (p : List Entry) (low : ℕ) (i : LaneItem) → names_item e ≡ false → IsKnown p low i → IsKnown (e ∷ p) low i
known_over e p low i other k =
    let named = k.named in
    let items = items_rise e p in
    let back_named = k.back_named in
    let backs = backs_rise e p in
    record { later = k.later; named = omega (arith, named, items); back_named = omega (arith, back_named, backs); was_brought = brought_over i.name e p other ∙ k.was_brought }

all_known_over : (e : Entry) (p : List Entry) (low : ℕ) (items : List LaneItem) → names_item e ≡ false → AreKnown p low items → AreKnown (e ∷ p) low items
all_known_over e p low [] other k = tt
all_known_over e p low (i ∷ items) other k = (known_over e p low i other k.0, all_known_over e p (i.name + 1) items other k.1)

-- and so it is behind one that brings the next
known_next : (item back : ℕ) (answer : Result Notify NotifyFault) (p : List Entry) (low : ℕ) (i : LaneItem) → item ≡ item_count p → IsKnown p low i → IsKnown (Brought item back answer ∷ p) low i
known_next item back answer p low i next k =
    let named = k.named in
    let back_named = k.back_named in
    record { later = k.later; named = omega (arith, named); back_named = back_named; was_brought = rw (ne_eqb item i.name (λ e. omega (arith, named, next, e))) k.was_brought }

-- ---- what stays in the lane

known_lower : (p : List Entry) (low high : ℕ) (items : List LaneItem) → low ≤ high → AreKnown p high items → AreKnown p low items
known_lower p low high [] le k = tt
known_lower p low high (i ∷ items) le k =
    let later = k.0.later in
    (record { later = omega (arith, le, later); named = k.0.named; back_named = k.0.back_named; was_brought = k.0.was_brought }, k.1)

behind : (p : List Entry) (low : ℕ) (i : LaneItem) (items : List LaneItem) → AreKnown p low (i ∷ items) → AreKnown p low items
behind p low i items k = let later = k.0.later in known_lower p low (i.name + 1) items (omega (arith, later)) k.1

known_left : (p : List Entry) (low item : ℕ) (items : List LaneItem) → AreKnown p low items → AreKnown p low (leave item items)
known_left p low item [] k = tt
known_left p low item (i ∷ items) k = either (AreKnown p low) (i.name == item) items (i ∷ leave item items) (behind p low i items k) (k.0, known_left p (i.name + 1) item items k.1)

-- what waits behind the first is later
known_behind : (p : List Entry) (low item : ℕ) (items : List LaneItem) (i : LaneItem) → first_item items ≡ Some i → i.name ≡ item → AreKnown p low items → AreKnown p (item + 1) (leave item items)
known_behind p low item [] i there name k = absurd cc
known_behind p low item (x ∷ items) i there name k =
    let at : Some x ≡ Some i = there in
    let is : x ≡ i = cc in
    let same : x.name ≡ item = ap (λ (y : LaneItem). y.name) is ∙ name in
    rw (eq-eqb x.name item same) (subst (λ (n : ℕ). AreKnown p (n + 1) items) same k.1)

marked : (p : List Entry) (low : ℕ) (i : LaneItem) → IsKnown p low i → IsKnown p low (record i { heard = true })
marked p low i k = record { later = k.later; named = k.named; back_named = k.back_named; was_brought = k.was_brought }

known_first : (p : List Entry) (low : ℕ) (i : LaneItem) (items : List LaneItem) → AreKnown p low (i ∷ items) → AreKnown p low (hear_first (i ∷ items))
known_first p low i items k = either (λ (front : List LaneItem). AreKnown p low (front ++ items)) (is_waiting i) (record i { heard = true } ∷ []) [] (marked p low i k.0, k.1) (behind p low i items k)

known_heard : (p : List Entry) (low item : ℕ) (items : List LaneItem) → AreKnown p low items → AreKnown p low (hear item items)
known_heard p low item [] k = tt
known_heard p low item (i ∷ items) k = either (AreKnown p low) (i.name == item) (hear_first (i ∷ items)) (i ∷ hear item items) (known_first p low i items k) (k.0, known_heard p (i.name + 1) item items k.1)

-- ---- what joins it

known_all_next : (item back : ℕ) (answer : Result Notify NotifyFault) (p : List Entry) (low : ℕ) (items : List LaneItem) → item ≡ item_count p → AreKnown p low items → AreKnown (Brought item back answer ∷ p) low items
known_all_next item back answer p low [] next k = tt
known_all_next item back answer p low (i ∷ items) next k = (known_next item back answer p low i next k.0, known_all_next item back answer p (i.name + 1) items next k.1)

-- an item of the next name is known, whatever is said of it besides
known_new : (item back : ℕ) (answer : Result Notify NotifyFault) (p : List Entry) (low : ℕ) (heard full : Bool) → item ≡ item_count p → back < back_count p → low ≤ item_count p → IsKnown (Brought item back answer ∷ p) low (record { name = item; back = back; item = answer; heard = heard; full = full })
known_new item back answer p low heard full next named le = record { later = omega (arith, next, le); named = omega (arith, next); back_named = named; was_brought = rw (eq-eqb item item refl) refl }

known_joined : (item back : ℕ) (answer : Result Notify NotifyFault) (p : List Entry) (low : ℕ) (items : List LaneItem) (heard full : Bool) → item ≡ item_count p → back < back_count p → low ≤ item_count p → AreKnown p low items → AreKnown (Brought item back answer ∷ p) low (items ++ record { name = item; back = back; item = answer; heard = heard; full = full } ∷ [])
known_joined item back answer p low [] heard full next named le k = (known_new item back answer p low heard full next named le, tt)
known_joined item back answer p low (i ∷ items) heard full next named le k =
    let below = k.0.named in
    (known_next item back answer p low i next k.0, known_joined item back answer p (i.name + 1) items heard full next named (omega (arith, below)) k.1)

known_put : (size item back : ℕ) (answer : Result Notify NotifyFault) (p : List Entry) (low : ℕ) (items : List LaneItem) → item ≡ item_count p → back < back_count p → low ≤ item_count p → AreKnown p low items → AreKnown (Brought item back answer ∷ p) low (put_item item back answer (record { items = items; size = size })).items
known_put size item back answer p low items next named le k =
    let lane : LaneState = record { items = items; size = size } in
    let full = is_full lane answer in
    either
    (λ (l : LaneState). AreKnown (Brought item back answer ∷ p) low l.items)
    (full && not (has_changes answer))
    lane
    (record lane { items = items ++ record { name = item; back = back; item = answer; heard = false; full = full } ∷ [] })
    (known_all_next item back answer p low items next k)
    (known_joined item back answer p low items false full next named le k)

-- ---- what is known of what is watched

-- behind an entry that brings nothing, and offers nothing that was brought
sourced_by : (s : Start) (e : Entry) (p : List Entry) → names_item e ≡ false → offered_below (e ∷ p) ≡ offered_below p → AreKnown p (offered_below p) (source s (e ∷ p)).lane → ((back : ℕ) → (source s (e ∷ p)).current ≡ Some back → back < back_count (e ∷ p)) → IsSourced s p → IsSourced s (e ∷ p)
sourced_by s e p other same lane current h =
    let before = h.offered_named in
    let items = items_rise e p in
    record { offered_named = omega (arith, before, items, same); waiting = rw same (all_known_over e p (offered_below p) (source s (e ∷ p)).lane other lane); current_named = current }

later_named : (s : Start) (e : Entry) (p : List Entry) (back : ℕ) → IsSourced s p → (source s p).current ≡ Some back → back < back_count (e ∷ p)
later_named s e p back h is =
    let named = h.current_named back is in
    let backs = backs_rise e p in
    omega (arith, named, backs)

none_offers : (e : Entry) (p : List Entry) → is_about_files e ≡ false → offered_below (e ∷ p) ≡ offered_below p
none_offers (Offer name None result event priority) p other = refl
none_offers (Offer name (Some item) result event priority) p other = absurd cc
none_offers (_) p other = refl

none_brings : (e : Entry) → is_about_files e ≡ false → names_item e ≡ false
none_brings (Brought item back answer) other = absurd cc
none_brings (_) other = refl

-- an entry about nothing that is watched
pub sourced_other : (s : Start) (e : Entry) (p : List Entry) → is_about_files e ≡ false → IsSourced s p → IsSourced s (e ∷ p)
sourced_other s e p other h =
    let is = source_over s e p other in
    sourced_by s e p (none_brings e other) (none_offers e p other) (rw is h.waiting) (λ back now. later_named s e p back h (ap (λ (x : Source). x.current) (sym is) ∙ now)) h

-- a word
word_keeps : (x : Source) (b : Bool) (items : ℕ) → ((cond b x (record x { fence = items })).lane ≡ x.lane) × ((cond b x (record x { fence = items })).current ≡ x.current)
word_keeps x true items = (refl, refl)
word_keeps x false items = (refl, refl)

pub said_keeps : (items : ℕ) (word : Word) (x : Source) → ((said items word x).lane ≡ x.lane) × ((said items word x).current ≡ x.current)
said_keeps items Stepped x = word_keeps x x.fenced items
said_keeps items (_) x = (refl, refl)

sourced_said : (s : Start) (word : Word) (p : List Entry) → IsSourced s p → IsSourced s (Said word ∷ p)
sourced_said s word p h =
    let same = said_keeps (item_count p) word (source s p) in
    sourced_by s (Said word) p refl refl (rw same.0 h.waiting) (λ back now. later_named s (Said word) p back h (sym same.1 ∙ now)) h

-- a backend that was made, or couldn't be
pub stand_keeps : (back : ℕ) (answer : Result (Unit {0}) NotifyFault) (x : Source) → (stand back answer x).lane ≡ x.lane
stand_keeps back (Ok done) x = refl
stand_keeps back (Err fault) x = refl

stand_named : (s : Start) (e : Entry) (p : List Entry) (made : ℕ) (answer : Result (Unit {0}) NotifyFault) (back : ℕ) → made < back_count (e ∷ p) → IsSourced s p → (stand made answer (source s p)).current ≡ Some back → back < back_count (e ∷ p)
stand_named s e p made (Ok done) back named h is =
    let at : Some made ≡ Some back = is in
    let same : made ≡ back = cc in omega (arith, named, same)
stand_named s e p made (Err fault) back named h is = later_named s e p back h is

-- settings that were applied
applied_named : (s : Start) (e : Entry) (p : List Entry) (some : Bool) (back : ℕ) → IsSourced s p → cond some (source s p).current None ≡ Some back → back < back_count (e ∷ p)
applied_named s e p true back h is = later_named s e p back h is
applied_named s e p false back h is = absurd cc

sourced_let_go : (s : Start) (item : ℕ) (cause : LetGoCause) (p : List Entry) → IsSourced s p → IsSourced s (LetGo item cause ∷ p)
sourced_let_go s item Full p h = sourced_by s (LetGo item Full) p refl refl h.waiting (λ back now. later_named s (LetGo item Full) p back h now) h
sourced_let_go s item Obsolete p h = sourced_by s (LetGo item Obsolete) p refl refl (known_left p (offered_below p) item (source s p).lane h.waiting) (λ back now. later_named s (LetGo item Obsolete) p back h now) h
sourced_let_go s item Uncovered p h = sourced_by s (LetGo item Uncovered) p refl refl (known_left p (offered_below p) item (source s p).lane h.waiting) (λ back now. later_named s (LetGo item Uncovered) p back h now) h

sourced_offered : (s : Start) (name : ℕ) (item : Option ℕ) (result : Offered) (event : Event) (priority : Priority) (p : List Entry) → IsOffered s p item event priority → IsSourced s p → IsSourced s (Offer name item result event priority ∷ p)
sourced_offered s name None result event priority p b h = sourced_other s (Offer name None result event priority) p refl h
sourced_offered s name (Some item) result event priority p b h =
    let named : item < item_count p = b.0 in
    record {
      offered_named = omega (arith, named);
      waiting = all_known_over (Offer name (Some item) result event priority) p (item + 1) (leave item (source s p).lane) refl (known_behind p (offered_below p) item (source s p).lane b.1.found b.1.there b.1.name h.waiting);
      current_named = λ back now. h.current_named back now;
    }

sourced_brings : (s : Start) (item back : ℕ) (answer : Result Notify NotifyFault) (p : List Entry) → item ≡ item_count p → back < back_count p → IsSourced s p → IsSourced s (Brought item back answer ∷ p)
sourced_brings s item back answer p next named h =
    let before = h.offered_named in
    record {
      offered_named = omega (arith, before);
      waiting = known_put s.config.event_channel_size item back answer p (offered_below p) (source s p).lane next named before h.waiting;
      current_named = λ back now. h.current_named back now;
    }

-- an entry that a point brought, or a step
pub sourced_brought : (s : Start) (e : Entry) (p : List Entry) → IsBrought s p e → IsSourced s p → IsSourced s (e ∷ p)
sourced_brought s (Begin beginning) p b h = sourced_other s (Begin beginning) p refl h
sourced_brought s (Sent name event priority) p b h = sourced_other s (Sent name event priority) p refl h
sourced_brought s (Offer name item result event priority) p b h = sourced_offered s name item result event priority p b.1 h
sourced_brought s (Said word) p b h = sourced_said s word p h
sourced_brought s (Take name) p b h = sourced_other s (Take name) p refl h
sourced_brought s (Filter n name answer) p b h = sourced_other s (Filter n name answer) p refl h
sourced_brought s (Show n error wish) p b h = sourced_other s (Show n error wish) p refl h
sourced_brought s (Hand n names acts) p b h = sourced_other s (Hand n names acts) p refl h
sourced_brought s (Dir n path answer) p b h = sourced_by s (Dir n path answer) p refl refl h.waiting (λ back now. later_named s (Dir n path answer) p back h now) h
sourced_brought s (Make made watcher links answer) p b h =
    let next = b.0 in
    let named : made < back_count (Make made watcher links answer ∷ p) = omega (arith, next) in
    sourced_by s (Make made watcher links answer) p refl refl (rw (stand_keeps made answer (source s p)) h.waiting) (λ back now. stand_named s (Make made watcher links answer) p made answer back named h now) h
sourced_brought s (Applied named) p b h = sourced_by s (Applied named) p refl refl h.waiting (λ back now. applied_named s (Applied named) p (has_paths (settings s p)) back h now) h
sourced_brought s (Brought item back answer) p b h = sourced_brings s item back answer p b.0.next b.1 h
sourced_brought s (LetGo item cause) p b h = sourced_let_go s item cause p h
sourced_brought s (Heard item) p b h = sourced_by s (Heard item) p refl refl (known_heard p (offered_below p) item (source s p).lane h.waiting) (λ back now. later_named s (Heard item) p back h now) h
sourced_brought s (Ready named) p b h = sourced_by s (Ready named) p refl refl h.waiting (λ back now. later_named s (Ready named) p back h now) h
sourced_brought s (_) p b h = absurd b

pub sourced_none : (s : Start) → IsSourced s []
sourced_none s = record { offered_named = omega arith; waiting = tt; current_named = λ back now. absurd cc }
