-- What comes where there is no step to take, by what is kept.
use Rattle.std.proofs.Common.{◌≡◌, ℕ, Bool, true, false, cond, List, [], ◌∷◌, refl, ap, sym, subst, ◌∙◌}
use Rattle.std.specs.Prelude.{IfOk, Option, None, Some, Result, Ok, Err, not, slice_get}
use Rattle.std.proofs.lemmas.Result.{IfOk-weaker}
use Rattle.wx_scan.specs.declared.backend.Backend.{Ghosts}
use Rattle.wx_notify.specs.declared.notify.Notify.{Notify}
use Rattle.wx_watch.specs.declared.notify_fault.NotifyFault.{NotifyFault}
use Rattle.wx_lane.specs.FileEvents.{event_of}
use Rattle.wx_holding.specs.Holding.{state_of}
use Rattle.wx_lane.specs.declared.lane.LaneItem.{LaneItem}
use Rattle.wx_lane.specs.Lanes.{LaneState, fenced}
use Rattle.wx_lane.specs.Public.{event_is_public}
use Rattle.wx_journal.specs.declared.entry.Entry.{Entry}
use Rattle.wx_journal.specs.declared.entry.Entry.TheVariants.{Heard}
use Rattle.wx_journal.specs.declared.entry.LetGoCause.TheVariants.{Obsolete, Uncovered}
use Rattle.wx_journal.specs.Names.{item_count, NamesItsOwn}
use Rattle.wx_machine.specs.Start.{Start}
use Rattle.wx_machine.specs.Files.{source, first_item, is_deaf, is_live, is_public, item_fault, item_named}
use Rattle.wx_machine.specs.Due.{asks_entry, lane_entry, rest_entry}
use Rattle.wx_machine.proofs.Stepping.{deaf_rests, fenced_rests, obsolete_rests, offer_rests, ready_rests, uncovered_rests}
use Rattle.wx_machine.proofs.RestLaws.{fault_is_deaf}
use Rattle.wx_file_turns.specs.declared.files.Watching.{Watching}
use Rattle.wx_file_turns.specs.declared.intake.Intake.{Intake}
use Rattle.wx_file_turns.specs.declared.resting.Next.{Next}
use Rattle.wx_file_turns.specs.declared.resting.Next.TheVariants as next
use Rattle.wx_file_turns.specs.Hearing.{IsToHear, hearing_of, item_messages, messages_of}
use Rattle.wx_file_turns.specs.Intake.{is_live_by}
use Rattle.wx_file_turns.specs.Resting.{IsFirst, IsNext, next_asked, next_fenced, next_first, next_item, next_of}
use Rattle.wx_file_turns.specs.Standing.{IntakeStands}
use Rattle.wx_file_turns.specs.Stepping.{IsWatching}
use Rattle.wx_file_turns.proofs.Rising.{AreRising, fence_named, first_named, lane_rises}
use Rattle.wx_file_turns.proofs.SameRoots.{public_known}

-- ---- of one item

-- whether its backend is live, by what is kept
live_known : {B : Type 0} {G : Ghosts B} (s : Start) (w : Watching B G) (i : Intake) (p : List Entry) (back : ℕ) → IsWatching s w p → IntakeStands s i p → is_live (source s p) back ≡ is_live_by w i.since back
live_known s w i p back h stands = rw (h.current, h.watches.named, stands.since_kept) refl

is_to_hear : (s : Start) (p : List Entry) (live : Bool) (i : LaneItem) → is_live (source s p) i.back ≡ live → rest_entry s p ≡ Heard i.name → item_named i.name (source s p).lane ≡ Some i → IsToHear s (hearing_of live i) p
is_to_hear s p live i lives comes found = record {
  next = comes;
  messages = ap (λ (b : Bool). messages_of b i.item) (sym lives) ∙ sym (ap (item_messages (source s p)) found);
  fault = sym (ap item_fault found);
}

is_first : (s : Start) (p : List Entry) (i : LaneItem) → first_item (source s p).lane ≡ Some i → IsFirst s i.name p
is_first s p i there = rw there refl

-- ---- of the first item

module _ {B : Type 0} {G : Ghosts B} (s : Start) (w : Watching B G) (p : List Entry) (i : LaneItem) (asks : (source s p).asks ≡ None) (there : first_item (source s p).lane ≡ Some i) where
  by_public : (n : Notify) (public : Bool) → is_deaf i ≡ false → i.item ≡ Ok n → is_live (source s p) i.back ≡ true → is_public s p n ≡ public → IsNext s (cond (not public) (next.LetGo i.name Uncovered) (next.Offer i.name (event_of n))) p
  by_public n true deaf is live public = (offer_rests s p i n asks there deaf is live public, is_first s p i there)
  by_public n false deaf is live public = (uncovered_rests s p i n asks there deaf is live public, tt, is_first s p i there)

  by_live : (n : Notify) (live public : Bool) → is_deaf i ≡ false → i.item ≡ Ok n → is_live (source s p) i.back ≡ live → is_public s p n ≡ public → IsNext s (cond (not live) (next.LetGo i.name Obsolete) (cond (not public) (next.LetGo i.name Uncovered) (next.Offer i.name (event_of n)))) p
  by_live n true public deaf is live of_any = by_public n public deaf is live of_any
  by_live n false public deaf is live of_any = (obsolete_rests s p i n asks there deaf is live, tt, is_first s p i there)

  by_item : (live : Bool) (item : Result Notify NotifyFault) → IsWatching s w p → is_deaf i ≡ false → i.item ≡ item → is_live (source s p) i.back ≡ live → IsNext s (next_of w live i item) p
  by_item live (Ok n) h deaf is lives = by_live n live (event_is_public w.recursor.cwd (state_of w.recursor.held).roots n) deaf is lives (public_known s w p n h)
  by_item live (Err fault) h deaf is lives = let both : true ≡ false = sym (fault_is_deaf i.item fault i.heard is) ∙ deaf in absurd cc

  by_deaf : (live deaf : Bool) → IsWatching s w p → is_deaf i ≡ deaf → is_live (source s p) i.back ≡ live → IsNext s (cond deaf (next.Hear (hearing_of live i)) (next_of w live i i.item)) p
  by_deaf live true h deaf lives = is_to_hear s p live i lives (deaf_rests s p i asks there deaf) (first_named (source s p).lane i there)
  by_deaf live false h deaf lives = by_item live i.item h deaf refl lives

-- ---- what comes

by_first : {B : Type 0} {G : Ghosts B} (s : Start) (w : Watching B G) (i : Intake) (p : List Entry) (o : Option LaneItem) → IsWatching s w p → IntakeStands s i p → (source s p).asks ≡ None → first_item (source s p).lane ≡ o → IsNext s (next_first w i.since o) p
by_first s w i p None h stands asks there = ap (asks_entry s p) asks ∙ ap (lane_entry s p) there
by_first s w i p (Some x) h stands asks there = by_deaf s w p x asks there (is_live_by w i.since x.back) (is_deaf x) h refl (live_known s w i p x.back h stands)

by_fence : {B : Type 0} {G : Ghosts B} (s : Start) (w : Watching B G) (i : Intake) (p : List Entry) (named : ℕ) (o : Option LaneItem) → AreRising 0 (item_count p) (source s p).lane → IsWatching s w p → IntakeStands s i p → (source s p).asks ≡ Some named → fenced (source s p).fence (source s p).lane ≡ o → IsNext s (next_fenced w i.since named o) p
by_fence s w i p named None rising h stands asks there = ready_rests s p named asks there
by_fence s w i p named (Some x) rising h stands asks there = is_to_hear s p (is_live_by w i.since x.back) x (live_known s w i p x.back h stands) (fenced_rests s p named x asks there) (fence_named (item_count p) (source s p).fence (source s p).lane x rising there)

items_kept : (s : Start) (i : Intake) (p : List Entry) → IntakeStands s i p → (source s p).lane ≡ i.lane.items
items_kept s i p h = sym (ap (λ (l : LaneState). l.items) h.lane_kept)

by_asks : {B : Type 0} {G : Ghosts B} (s : Start) (w : Watching B G) (i : Intake) (p : List Entry) (o : Option ℕ) → NamesItsOwn p → IsWatching s w p → IntakeStands s i p → (source s p).asks ≡ o → IsNext s (next_asked w i o) p
by_asks s w i p None own h stands asks = by_first s w i p (first_item i.lane.items) h stands asks (ap first_item (items_kept s i p stands))
by_asks s w i p (Some named) own h stands asks = by_fence s w i p named (fenced i.fence i.lane.items) (lane_rises s p own) h stands asks (rw (stands.fence_kept, items_kept s i p stands) refl)

pub is_next : {B : Type 0} {G : Ghosts B} (s : Start) (w : Watching B G) (i : Intake) (p : List Entry) → NamesItsOwn p → IsWatching s w p → IntakeStands s i p → IsNext s (next_asked w i i.asks) p
is_next s w i p own h stands = by_asks s w i p i.asks own h stands (sym stands.asks_kept)

-- ---- as it is drafted

-- and as it is found
pub next_found : {B : Type 0} {G : Ghosts B} (s : Start) (w : Watching B G) (i : Intake) (p : List Entry) (drafted found : Next) → drafted ≡ next_asked w i i.asks → drafted ≡ found → NamesItsOwn p → IsWatching s w p → IntakeStands s i p → IsNext s found p
next_found s w i p drafted found is finds own h stands = subst (λ (x : Next). IsNext s x p) (sym is ∙ finds) (is_next s w i p own h stands)

-- ---- the first item, as it is got

pub first_got : (items : List LaneItem) → slice_get items 0 ≡ first_item items
first_got [] = refl
first_got (i ∷ items) = refl

pub first_drafted : {B E : Type 0} {G : Ghosts B} (w : Watching B G) (i : Intake) (x : LaneItem) (live : Bool) (result : Result Next E) → i.asks ≡ None → slice_get i.lane.items 0 ≡ Some x → live ≡ is_live_by w i.since x.back → IfOk result (λ n. n ≡ next_item w live x) → IfOk result (λ n. n ≡ next_asked w i i.asks)
first_drafted w i x live result none there lives drafted =
    let same : next_asked w i i.asks ≡ next_item w live x = ap (next_asked w i) none ∙ ap (next_first w i.since) (sym (first_got i.lane.items) ∙ there) ∙ ap (λ (b : Bool). next_item w b x) (sym lives) in
    IfOk-weaker result (λ n. n ≡ next_item w live x) (λ n. n ≡ next_asked w i i.asks) (λ n e. e ∙ sym same) drafted
