-- The plans of a job leave tickets in place, wherever they are cut.
use Rattle.std.proofs.Common.{◌≡◌, ◌≢◌, ℕ, ◌≤◌, Bool, true, false, cond, List, ◌∷◌, Option, Some, None, Result, Ok, Err, refl, arith, sym, ◌∙◌}
use Rattle.std.specs.Prelude.{◌+◌, not, is_err, nat_le}
use Rattle.std.specs.Bool.{MatchBool}
use Rattle.wx_events.specs.declared.process.Signal.{Signal as ASignal}
use Rattle.wx_command.specs.declared.command.Command.{Command}
use Rattle.wx_control.specs.declared.id.Id.{Id}
use Rattle.wx_control.specs.declared.ask.Ask.{Ask}
use Rattle.wx_control.specs.Asks.{sends_of}
use Rattle.wx_control.specs.Waits.{first}
use Rattle.wx_control.specs.declared.control.Control.{Control}
use Rattle.wx_control.specs.declared.control.Control.TheVariants.{Start, Stop, GracefulStop, TryRestart, TryGracefulRestart, ContinueTryGracefulRestart, Signal as Signalled, Delete, NextEnding, SyncFunc, AsyncFunc}
use Rattle.wx_control.specs.declared.level.Level.{Level}
use Rattle.wx_control.specs.declared.level.Level.TheVariants.{Normal, High, Urgent}
use Rattle.wx_journal.specs.declared.child.HostFault.{HostFault}
use Rattle.wx_journal.specs.declared.entry.Entry.{Entry}
use Rattle.wx_journal.specs.declared.entry.Entry.TheVariants.{Word as Said, Asked, Pick, GraceOver, Signal, Raise, Run, Begun, Poll as Polled}
use Rattle.wx_journal.specs.declared.entry.Word.TheVariants.{Idle as TheIdle, Later as TheLater}
use Rattle.wx_journal.specs.Names.{ticket_count, moment}
use Rattle.wx_machine.specs.declared.choice.Choice.{Choice}
use Rattle.wx_machine.specs.declared.choice.Choice.TheVariants.{Poll, Over, End, Next, Leave, Nothing}
use Rattle.wx_machine.specs.declared.function.Function.{Function}
use Rattle.wx_machine.specs.declared.grace.Grace.{Grace}
use Rattle.wx_machine.specs.States.{is_finished}
use Rattle.wx_machine.specs.History.{lives, waits, child, is_child, kept, state, grace, begun, begins, begins_by, begun_with, picked_last, picked_control, handler, parked, in_hand}
use Rattle.wx_machine.specs.Held.{times}
use Rattle.wx_machine.specs.Table.{Plan, Done, Kit, kit, kit_after, adds, asks, raises, shows, waiters, number_of, signalled, graceful, fresh, row, is_parking, fresh_over, over, ended_in, ended_by, ended, polled, choose, choose_last, choose_control, choose_end, choose_grace, choose_child, unless_grace, pick_by, case, step_by, ask_second, ask_plan, send_plan, end_plan, leave}
use Rattle.wx_machine.specs.Case.{PlanLeads, PlanHere, PlanThen}
use Rattle.wx_machine.specs.Added.{Added, Same, More}
use Rattle.wx_machine.specs.TicketLaws.{IsBusy, IsPlacedOf, IsPlaced}
use Rattle.wx_machine.proofs.Owners.{self, either}
use Rattle.wx_machine.proofs.Times.{unheld_without, parks-not, takes_it, IsFirst, is_first}
use Rattle.wx_machine.proofs.Always.{Always, both, always_now, always_next, always_also, always_if}
use Rattle.wx_machine.proofs.Moves.{placed_asked}
use Rattle.wx_machine.proofs.OneJob.{IsInTurn, IsRaisedOnce, of_more, once_more, placed_of, placed_more}
use Rattle.wx_machine.proofs.Placing.{Placing, InTurn, MayAct, MayBeRaised, MayBeWaitedFor, IsCalm, free_calm, free_waits, acts_more, placing_raise, placing_raises, placing_shows, placing_fault, placing_fresh, placing_waiters, placing_wait, placing_reap, placing_restart, placing_stop, placing_leave}

-- ---- the case of a control

record IsPicked (id : Id) (t : ℕ) (control : Control) (p : List Entry) : Type 0 where
  acts : MayAct id p
  first : IsFirst t control (waits id Urgent p) (waits id High p) (waits id Normal p) (grace id p)

turn_pick : (id : Id) (t : ℕ) (control : Control) (p : List Entry) → IsPicked id t control p → IsInTurn id p (Pick id t)
turn_pick id t control p x = record { alive = x.acts.alive; waits = free_waits id p (Pick id t) x.acts.free; raises = tt; moves = (refl, control, x.first) }

-- its ticket is in hand then, where it isn't parked
free_picked : (id : Id) (t : ℕ) (control : Control) (p : List Entry) → IsPicked id t control p → is_parking control (state id p) ≡ false → MayBeRaised id t (Pick id t ∷ p)
free_picked id t control p x hand = record {
  acts = acts_more id p (Pick id t) x.acts (turn_pick id t control p x) x.acts.alive x.acts.free;
  in_hand = rw (self id, x.first.found) (takes_it control t (state id p) (in_hand id p) hand);
  unheld = λ g e is.
      (let there : 1 ≤ times t (in_hand id p) = rw is (x.acts.placed.graces g e) in let waiting = x.first.some in
      let one = x.acts.placed.one t in absurd (omega (arith, one, there, waiting)));
}

busy_picked : (id : Id) (t : ℕ) (control : Control) (p : List Entry) → IsPicked id t control p → is_parking control (state id p) ≡ false → IsBusy id (Pick id t ∷ p)
busy_picked id t control p x hand u e =
    let is : Some t ≡ Some u = (rw (self id) at e) in
    let same : t ≡ u = cc in
    let le = (free_picked id t control p x hand).in_hand in rw (← same) le

parked_picked : (id : Id) (t : ℕ) (control : Control) (p : List Entry) → IsPicked id t control p → is_parking control (state id p) ≡ false → parked id (Pick id t ∷ p) ≡ parked id p
parked_picked id t control p x hand = rw (self id, x.first.found) (parks-not control t (state id p) (parked id p) hand)

-- it is the one that was picked last
picked_now : (id : Id) (t : ℕ) (control : Control) (p : List Entry) → picked_control id t p ≡ Some control → picked_last id (Pick id t ∷ p) ≡ Some (t, control)
picked_now id t control p found = rw (self id, found) refl

-- so a grace that its signal begins has its ticket in hand
begins_held : (t : ℕ) (control : Control) (at : ℕ) (before : Option Grace) (g : Grace) (hand : List ℕ) → 1 ≤ times t hand → (before ≡ Some g → 1 ≤ times g.ticket hand) → begins t control at before ≡ Some g → 1 ≤ times g.ticket hand
begins_held t (GracefulStop signal grace) at before g hand le were e = let is : record { ends = at + grace; ticket = t; restarts = false } ≡ g = cc in rw (← is) le
begins_held t (TryGracefulRestart signal grace) at before g hand le were e = let is : record { ends = at + grace; ticket = t; restarts = true } ≡ g = cc in rw (← is) le
begins_held t (_) at before g hand le were e = were e

sent_held : (id : Id) (t : ℕ) (control : Control) (p : List Entry) → picked_last id p ≡ Some (t, control) → MayBeRaised id t p → (g : Grace) → begins_by (picked_last id p) (moment p) (grace id p) ≡ Some g → 1 ≤ times g.ticket (in_hand id p)
sent_held id t control p last f g e = begins_held t control (moment p) (grace id p) g (in_hand id p) f.in_hand (f.acts.placed.graces g) (rw last at e)

turn_signal : (id : Id) (signal : ASignal) (t d : ℕ) (control : Control) (a : Result (Unit {0}) HostFault) (p : List Entry) → child id p ≡ Some d → picked_last id p ≡ Some (t, control) → MayBeRaised id t p → IsBusy id p → IsInTurn id p (Signal d (number_of signal) a)
turn_signal id signal t d control a p runs last f busy = record { alive = f.acts.alive; waits = free_waits id p (Signal d (number_of signal) a) f.acts.free; raises = busy; moves = (runs, sent_held id t control p last f) }

placing_graceful : (id : Id) (handler : Option ℕ) (signal : ASignal) (t : ℕ) (control : Control) (c : Option ℕ) (p : List Entry) → child id p ≡ c → picked_last id p ≡ Some (t, control) → MayBeRaised id t p → IsBusy id p → Always (InTurn id) p (graceful id handler signal t c)
placing_graceful id handler signal t control None p runs last f busy = placing_raises id t p f
placing_graceful id handler signal t control (Some d) p runs last f busy = λ a. (sent a, by_answer a (acts_more id p (Signal d (number_of signal) a) f.acts (sent a) f.acts.alive f.acts.free))
  where
    sent : (a : Result (Unit {0}) HostFault) → IsInTurn id p (Signal d (number_of signal) a)
    sent a = turn_signal id signal t d control a p runs last f busy

    by_answer : (a : Result (Unit {0}) HostFault) → MayAct id (Signal d (number_of signal) a ∷ p) → MatchBool (is_err a) (Always (InTurn id) (Signal d (number_of signal) a ∷ p) (shows id handler (raises t))) (Unit {0})
    by_answer (Ok done) m = tt
    by_answer (Err fault) m = placing_fault id handler t (Signal d (number_of signal) (Err fault) ∷ p) (record { acts = m; in_hand = f.in_hand; unheld = f.unheld }) busy

-- a signal that begins no grace leaves the one that stands
signal_grace : (id : Id) (signal : ASignal) (t d : ℕ) (a : Result (Unit {0}) HostFault) (p : List Entry) → picked_control id t p ≡ Some (Signalled signal) → grace id (Signal d (number_of signal) a ∷ Pick id t ∷ p) ≡ grace id p
signal_grace id signal t d (Ok done) p is = rw (self id, is) (either (λ o. o ≡ grace id p) (is_child d (child id p)) (grace id p) (grace id p) refl refl)
signal_grace id signal t d (Err fault) p is = refl

placing_signalled : (id : Id) (handler : Option ℕ) (signal : ASignal) (t : ℕ) (c : Option ℕ) (p : List Entry) → child id p ≡ c → picked_control id t p ≡ Some (Signalled signal) → MayBeRaised id t (Pick id t ∷ p) → IsBusy id (Pick id t ∷ p) → Always (InTurn id) (Pick id t ∷ p) (signalled id handler signal t c)
placing_signalled id handler signal t None p runs is f busy = placing_raises id t (Pick id t ∷ p) f
placing_signalled id handler signal t (Some d) p runs is f busy = λ a.
    let e : Entry = Signal d (number_of signal) a in
    let q : List Entry = e ∷ Pick id t ∷ p in
    let o = turn_signal id signal t d (Signalled signal) a (Pick id t ∷ p) runs (picked_now id t (Signalled signal) p is) f busy in
    let m : MayAct id q = acts_more id (Pick id t ∷ p) e f.acts o f.acts.alive f.acts.free in
    let after : MayBeRaised id t q = record { acts = m; in_hand = f.in_hand; unheld = λ g standing. f.unheld g (sym (signal_grace id signal t d a p is) ∙ standing) } in
    (o, both _ (placing_fault id handler t q after busy) (placing_raises id t q after))

placing_ending : (id : Id) (t : ℕ) (p : List Entry) → IsPicked id t NextEnding p → Always (InTurn id) (Pick id t ∷ p) (cond (is_finished (state id p)) (raises t) Done)
placing_ending id t p x = by_test (is_finished (state id p)) refl
  where
    by_test : (b : Bool) → is_finished (state id p) ≡ b → Always (InTurn id) (Pick id t ∷ p) (cond b (raises t) Done)
    by_test true is = placing_raises id t (Pick id t ∷ p) (free_picked id t NextEnding p x (rw is refl))
    by_test false is = tt

-- a function is run
placing_run : (id : Id) (n t : ℕ) (p : List Entry) → MayBeRaised id t p → IsBusy id p → Always (InTurn id) p (adds (Run id n) (raises t))
placing_run id n t p f busy =
    let o : IsInTurn id p (Run id n) = record { alive = f.acts.alive; waits = free_waits id p (Run id n) f.acts.free; raises = busy; moves = refl } in
    λ a. (o, placing_raises id t (Run id n ∷ p) (record { acts = acts_more id p (Run id n) f.acts o f.acts.alive f.acts.free; in_hand = f.in_hand; unheld = f.unheld }))

-- a function is begun, which holds the ticket that was picked last
begun_held : (id : Id) (n t : ℕ) (control : Control) (o : Option (ℕ × Control)) (p : List Entry) → o ≡ Some (t, control) → MayBeRaised id t p → (f : Function) → begun_with n o ≡ Some f → (1 ≤ times f.ticket (in_hand id p)) × ((g : Grace) → grace id p ≡ Some g → f.ticket ≢ g.ticket)
begun_held id n t control o p is m f e =
    let its : begun_with n (Some (t, control)) ≡ Some f = rw is at e in
    let same : record { n = n; ticket = t } ≡ f = cc in
    rw (← same) (m.in_hand, m.unheld)

placing_begun : (id : Id) (n t : ℕ) (control : Control) (p : List Entry) → IsPicked id t control p → is_parking control (state id p) ≡ false → Always (InTurn id) (Pick id t ∷ p) (adds (Begun id n) Done)
placing_begun id n t control p x hand =
    let f = free_picked id t control p x hand in
    let q : List Entry = Pick id t ∷ p in
    let last = picked_now id t control p x.first.found in
    λ a. (record { alive = x.acts.alive; waits = free_waits id q (Begun id n) f.acts.free; raises = busy_picked id t control p x hand; moves = (refl, begun_held id n t control (picked_last id q) q last f) }, tt)

placing_row : (id : Id) (command : Command) (t : ℕ) (control : Control) (c : Option ℕ) (p : List Entry) → child id p ≡ c → IsPicked id t control p → Always (InTurn id) (Pick id t ∷ p) (row id (kit_after control (kit id command p)) t control c)
placing_row id command t Start None p runs x = placing_fresh id (kit_after Start (kit id command p)) t (Pick id t ∷ p) (free_picked id t Start p x refl) (busy_picked id t Start p x refl)
placing_row id command t Stop (Some d) p runs x = placing_stop id (kit_after Stop (kit id command p)) d t (Pick id t ∷ p) runs (free_picked id t Stop p x refl) (busy_picked id t Stop p x refl) (parked_picked id t Stop p x refl) refl
placing_row id command t (GracefulStop signal grace) c p runs x = placing_graceful id (handler id p) signal t (GracefulStop signal grace) c (Pick id t ∷ p) runs (picked_now id t (GracefulStop signal grace) p x.first.found) (free_picked id t (GracefulStop signal grace) p x refl) (busy_picked id t (GracefulStop signal grace) p x refl)
placing_row id command t TryRestart (Some d) p runs x = placing_restart id (kit_after TryRestart (kit id command p)) d t (Pick id t ∷ p) runs (free_picked id t TryRestart p x refl) (busy_picked id t TryRestart p x refl) (parked_picked id t TryRestart p x refl)
placing_row id command t (TryGracefulRestart signal grace) c p runs x = placing_graceful id (handler id p) signal t (TryGracefulRestart signal grace) c (Pick id t ∷ p) runs (picked_now id t (TryGracefulRestart signal grace) p x.first.found) (free_picked id t (TryGracefulRestart signal grace) p x refl) (busy_picked id t (TryGracefulRestart signal grace) p x refl)
placing_row id command t ContinueTryGracefulRestart None p runs x =
    placing_fresh id (kit_after ContinueTryGracefulRestart (kit id command p)) t (Pick id t ∷ p) (free_picked id t ContinueTryGracefulRestart p x refl) (busy_picked id t ContinueTryGracefulRestart p x refl)
placing_row id command t ContinueTryGracefulRestart (Some d) p runs x =
    placing_restart id (kit_after ContinueTryGracefulRestart (kit id command p)) d t (Pick id t ∷ p) runs (free_picked id t ContinueTryGracefulRestart p x refl) (busy_picked id t ContinueTryGracefulRestart p x refl) (parked_picked id t ContinueTryGracefulRestart p x refl)
placing_row id command t (Signalled signal) c p runs x = placing_signalled id (handler id p) signal t c p runs x.first.found (free_picked id t (Signalled signal) p x refl) (busy_picked id t (Signalled signal) p x refl)
placing_row id command t Delete c p runs x = placing_raise id t (leave id c) (Pick id t ∷ p) (free_picked id t Delete p x refl) (λ m. placing_leave id c (Raise t ∷ Pick id t ∷ p) m.alive)
placing_row id command t NextEnding c p runs x = placing_ending id t p x
placing_row id command t (SyncFunc n) c p runs x = placing_run id n t (Pick id t ∷ p) (free_picked id t (SyncFunc n) p x refl) (busy_picked id t (SyncFunc n) p x refl)
placing_row id command t (AsyncFunc n) c p runs x = placing_begun id n t (AsyncFunc n) p x refl
placing_row id command t (control) (_) p runs x = placing_raises id t (Pick id t ∷ p) (free_picked id t control p x refl)

-- ---- the other cases

placing_fresh_over : (id : Id) (by : Kit) (g : Grace) (p : List Entry) → MayBeRaised id g.ticket p → IsBusy id p → Always (InTurn id) p (fresh_over id by g)
placing_fresh_over id by g p f busy = by_test g.restarts (placing_fresh id by g.ticket p f busy) (placing_raises id g.ticket p f)
  where
    by_test : (b : Bool) → Always (InTurn id) p (fresh id by (raises g.ticket)) → Always (InTurn id) p (raises g.ticket) → Always (InTurn id) p (cond b (fresh id by (raises g.ticket)) (raises g.ticket))
    by_test true x y = x
    by_test false x y = y

-- where a grace stands
record IsOver (id : Id) (d : ℕ) (g : Grace) (p : List Entry) : Type 0 where
  acts : MayAct id p
  runs : child id p ≡ Some d
  standing : grace id p ≡ Some g

turn_over : (id : Id) (p : List Entry) → MayAct id p → IsInTurn id p (GraceOver id)
turn_over id p m = record { alive = m.alive; waits = free_waits id p (GraceOver id) m.free; raises = tt; moves = refl }

-- the end of a grace takes its ticket up
free_over : (id : Id) (d : ℕ) (g : Grace) (p : List Entry) → IsOver id d g p → MayBeRaised id g.ticket (GraceOver id ∷ p)
free_over id d g p x = record { acts = acts_more id p (GraceOver id) x.acts (turn_over id p x.acts) x.acts.alive x.acts.free; in_hand = x.acts.placed.graces g x.standing; unheld = λ o e same. (let none : None ≡ Some o = (rw (self id) at e) in absurd cc) }

busy_over : (id : Id) (d : ℕ) (g : Grace) (p : List Entry) → IsOver id d g p → IsBusy id (GraceOver id ∷ p)
busy_over id d g p x t e =
    let its : Some g.ticket ≡ Some t = (rw (self id, x.standing) at e) in
    let same : g.ticket ≡ t = cc in rw (← same) (x.acts.placed.graces g x.standing)

placing_over : (id : Id) (by : Kit) (d : ℕ) (g : Grace) (p : List Entry) → IsOver id d g p → parked id p ≡ by.parked → Always (InTurn id) p (over id by d g)
placing_over id by d g p x is = λ a. (
  turn_over id p x.acts,
  placing_reap id by.handler d g.ticket by.parked (fresh_over id by g) (GraceOver id ∷ p) x.runs (free_over id d g p x) (busy_over id d g p x) is
      (λ q calm stay busy. placing_fresh_over id by g q (free_calm id g.ticket q calm (stay g.ticket (x.acts.placed.graces g x.standing))) busy),
)

placing_ended_in : (id : Id) (by : Kit) (g : Grace) (p : List Entry) → IsCalm id p → 1 ≤ times g.ticket (in_hand id p) → parked id p ≡ by.parked → IsBusy id p → Always (InTurn id) p (ended_in id by g)
placing_ended_in id by g p calm le is busy =
    by_test g.restarts
    (placing_waiters id by.parked (fresh id by (raises g.ticket)) p calm is (λ q calm' stay same. placing_fresh id by g.ticket q (free_calm id g.ticket q calm' (stay g.ticket le)) (same busy)))
    (placing_raise id g.ticket (waiters by.parked Done) p (free_calm id g.ticket p calm le) (λ m. placing_waiters id by.parked Done (Raise g.ticket ∷ p) (record { acts = m; none = calm.none }) parked_still (λ q calm' stay same. tt)))
  where
    parked_still : parked id (Raise g.ticket ∷ p) ≡ by.parked
    parked_still = let one = calm.acts.placed.one g.ticket in unheld_without g.ticket (parked id p) (omega (arith, one, le)) ∙ is

    by_test : (b : Bool) → Always (InTurn id) p (waiters by.parked (fresh id by (raises g.ticket))) → Always (InTurn id) p (adds (Raise g.ticket) (waiters by.parked Done)) → Always (InTurn id) p (cond b (waiters by.parked (fresh id by (raises g.ticket))) (adds (Raise g.ticket) (waiters by.parked Done)))
    by_test true x y = x
    by_test false x y = y

placing_ended_by : (id : Id) (by : Kit) (o : Option Grace) (p : List Entry) → IsCalm id p → ((g : Grace) → o ≡ Some g → 1 ≤ times g.ticket (in_hand id p)) → parked id p ≡ by.parked → IsBusy id p → Always (InTurn id) p (ended_by id by o)
placing_ended_by id by None p calm held is busy = placing_waiters id by.parked Done p calm is (λ q calm' stay same. tt)
placing_ended_by id by (Some g) p calm held is busy = placing_ended_in id by g p calm (held g refl) is busy

placing_ended : (id : Id) (command : Command) (d : ℕ) (p : List Entry) → MayBeWaitedFor id d p → Always (InTurn id) p (ended id (kit id command p) d)
placing_ended id command d p m =
    placing_wait id d (ended_by id (kit id command p) (grace id p)) (shows id (handler id p) Done) p m
    (λ fault acts busy. placing_shows id (handler id p) Done _ acts busy tt (λ n code acts'. tt))
    (λ status calm busy. placing_ended_by id (kit id command p) (grace id p) _ calm m.acts.placed.graces refl busy)

-- a begun function that is ready has its ticket raised
number_is : (f g : Function) (o : Option Function) → o ≡ Some f → o ≡ Some g → f.n ≡ g.n
number_is f g o is e = let one : Some f ≡ Some g = sym is ∙ e in let same : f ≡ g = cc in rw same refl

turn_poll : (id : Id) (f : Function) (ready : Bool) (p : List Entry) → lives id p ≡ true → begun id p ≡ Some f → IsPlacedOf id p → IsInTurn id p (Polled id f.n ready)
turn_poll id f ready p alive is s = record {
  alive = alive;
  waits = λ g e. number_is f g (begun id p) is e;
  raises = λ t e. (let its : Some f.ticket ≡ Some t = (rw (self id, is) at e) in let same : f.ticket ≡ t = cc in rw (← same) (s.functions f is));
  moves = (refl, f, is);
}

placing_polled : (id : Id) (f : Function) (p : List Entry) → lives id p ≡ true → begun id p ≡ Some f → IsPlacedOf id p → Always (InTurn id) p (polled id f)
placing_polled id f p alive is s = λ ready. (turn_poll id f ready p alive is s, by_answer ready (of_more id p (Polled id f.n ready) s (turn_poll id f ready p alive is s)))
  where
    by_answer : (ready : Bool) → IsPlacedOf id (Polled id f.n ready ∷ p) → MatchBool (not ready) (Always (InTurn id) (Polled id f.n ready ∷ p) (adds (Said TheLater) Done)) (Always (InTurn id) (Polled id f.n ready ∷ p) (raises f.ticket))
    by_answer true s' = placing_raises id f.ticket (Polled id f.n true ∷ p) (record { acts = record { placed = s'; alive = alive; free = rw (self id) refl }; in_hand = s.functions f is; unheld = λ g e. s.apart f g is e })
    by_answer false s' = λ a. (record { alive = alive; waits = λ g e. number_is f g (begun id p) is e; raises = tt; moves = tt }, tt)

-- ---- a step

-- What is picked: the function that is begun; and where none is, a grace that stands or a kept end, of the running child, the
-- control that is first, or the end of the job.
abbrev pub IsDue : Option Function → Option ℕ → Option Grace → Bool → Option (ℕ × Control) → Choice → Type 0
IsDue b c o end x (Poll f) = b ≡ Some f
IsDue b c o end x (Over d g) = (b ≡ None) × (c ≡ Some d) × (o ≡ Some g)
IsDue b c o end x (End d) = (b ≡ None) × (c ≡ Some d) × (end ≡ true)
IsDue b c o end x (Next t control) = (b ≡ None) × (x ≡ Some (t, control))
IsDue b c o end x Leave = b ≡ None
IsDue b c o end x Nothing = b ≡ None

-- the same of a job of this journal
abbrev pub MayPick : Id → List Entry → Choice → Type 0
MayPick id p choice = IsDue (begun id p) (child id p) (grace id p) (kept id p) (first (waits id Urgent p) (waits id High p) (unless_grace (grace id p) (waits id Normal p))) choice

due_last : (closed : Bool) (c : Option ℕ) (o : Option Grace) (end : Bool) (x : Option (ℕ × Control)) → IsDue None c o end x (choose_last closed o)
due_last false c o end x = refl
due_last true c None end x = refl
due_last true c (Some g) end x = refl

due_control : (c : Option ℕ) (o : Option Grace) (end : Bool) (last : Choice) (x : Option (ℕ × Control)) → IsDue None c o end x last → IsDue None c o end x (choose_control last x)
due_control c o end last None h = h
due_control c o end last (Some y) h = (refl, refl)

due_end : (d : ℕ) (o : Option Grace) (end : Bool) (x : Option (ℕ × Control)) (other : Choice) → IsDue None (Some d) o end x other → IsDue None (Some d) o end x (choose_end d end other)
due_end d o true x other h = (refl, refl, refl)
due_end d o false x other h = h

due_grace : (d : ℕ) (o : Option Grace) (at : ℕ) (end : Bool) (x : Option (ℕ × Control)) (other : Choice) → IsDue None (Some d) o end x other → IsDue None (Some d) o end x (choose_grace d o at other)
due_grace d None at end x other h = h
due_grace d (Some g) at end x other h = either (IsDue None (Some d) (Some g) end x) (nat_le g.ends at) (Over d g) other (refl, refl, refl) h

due_child : (c : Option ℕ) (o : Option Grace) (at : ℕ) (end : Bool) (x : Option (ℕ × Control)) (other : Choice) → IsDue None c o end x other → IsDue None c o end x (choose_child c o at end other)
due_child None o at end x other h = h
due_child (Some d) o at end x other h = due_grace d o at end x (choose_end d end other) (due_end d o end x other h)

pub due : (closed : Bool) (b : Option Function) (c : Option ℕ) (o : Option Grace) (at : ℕ) (end : Bool) (x : Option (ℕ × Control)) → IsDue b c o end x (choose closed b c o at end x)
due closed None c o at end x = due_child c o at end x (choose_control (choose_last closed o) x) (due_control c o end (choose_last closed o) x (due_last closed c o end x))
due closed (Some f) c o at end x = refl

placing_case : (id : Id) (command : Command) (choice : Choice) (p : List Entry) → lives id p ≡ true → IsPlacedOf id p
    → MayPick id p choice → Always (InTurn id) p (case id (kit id command p) (child id p) choice)
placing_case id command (Poll f) p alive s is = placing_polled id f p alive is s
placing_case id command (Over d g) p alive s is = placing_over id (kit id command p) d g p (record { acts = record { placed = s; alive = alive; free = is.0 }; runs = is.1; standing = is.2 }) refl
placing_case id command (End d) p alive s is = placing_ended id command d p (record { acts = record { placed = s; alive = alive; free = is.0 }; runs = is.1; busy = λ none. (let both_are : true ≡ false = sym is.2 ∙ none in absurd cc) })
placing_case id command (Next t control) p alive s is =
    let x : IsPicked id t control p = record { acts = record { placed = s; alive = alive; free = is.0 }; first = is_first t control (waits id Urgent p) (waits id High p) (waits id Normal p) (grace id p) is.1 } in
    λ a. (turn_pick id t control p x, placing_row id command t control (child id p) p refl x)
placing_case id command Leave p alive s is = placing_leave id (child id p) p alive
placing_case id command Nothing p alive s is = λ a. (record { alive = alive; waits = free_waits id p (Said TheIdle) is; raises = tt; moves = tt }, tt)

pub turns_step : (closed : Bool) (id : Id) (command : Command) (p : List Entry) → (lives id p ≡ true → IsPlacedOf id p) → Always (InTurn id) p (step_by closed id command p)
turns_step closed id command p s =
    always_if (InTurn id) p (lives id p) (case id (kit id command p) (child id p) (pick_by closed id p))
    (λ alive. placing_case id command (pick_by closed id p) p alive (s alive) (due closed (begun id p) (child id p) (grace id p) (moment p) (kept id p) (first (waits id Urgent p) (waits id High p) (unless_grace (grace id p) (waits id Normal p)))))

-- ---- asks, and the end of a job

turn_asks : (id : Id) (level : Level) (control : Control) (p : List Entry) → lives id p ≡ true → IsInTurn id p (Asked (ticket_count p) id level control)
turn_asks id level control p alive = record { alive = alive; waits = λ f is. tt; raises = tt; moves = (refl, refl) }

turns_second : (id : Id) (level : Level) (second : Option Control) (p : List Entry) → lives id p ≡ true → Always (InTurn id) p (ask_second id level second Done)
turns_second id level None p alive = tt
turns_second id level (Some control) p alive = λ a. (turn_asks id level control p alive, tt)

pub turns_ask : (id : Id) (ask : Ask) (p : List Entry) → lives id p ≡ true → Always (InTurn id) p (ask_plan id (sends_of ask) Done)
turns_ask id ask p alive = λ a. (turn_asks id (sends_of ask).level (sends_of ask).first p alive, turns_second id (sends_of ask).level (sends_of ask).second _ alive)

pub turns_send : (id : Id) (ask : Ask) (p : List Entry) → Always (InTurn id) p (send_plan id (sends_of ask) p)
turns_send id ask p = always_if (InTurn id) p (lives id p) (ask_plan id (sends_of ask) Done) (λ alive. turns_ask id ask p alive)

pub turns_end : (id : Id) (p : List Entry) → Always (InTurn id) p (end_plan id p)
turns_end id p = always_if (InTurn id) p (lives id p) (leave id (child id p)) (λ alive. placing_leave id (child id p) p alive)

-- ---- of all jobs

pub all_placed : (id : Id) (p : List Entry) (k : Plan) → IsPlaced p → Always (InTurn id) p k → Always Placing p k
all_placed id p k h s = always_also IsPlaced (InTurn id) Placing (λ q e j placed o. let h' = placed_more id q e placed o in (h', h')) p k h s

pub placed_step : (closed : Bool) (id : Id) (command : Command) (p : List Entry) → IsPlaced p → Always Placing p (step_by closed id command p)
placed_step closed id command p h = all_placed id p (step_by closed id command p) h (turns_step closed id command p (λ alive. placed_of id p alive h))

pub placed_ask : (id : Id) (ask : Ask) (p : List Entry) → lives id p ≡ true → IsPlaced p → Always Placing p (ask_plan id (sends_of ask) Done)
placed_ask id ask p alive h = all_placed id p (ask_plan id (sends_of ask) Done) h (turns_ask id ask p alive)

pub placed_asks : (id : Id) (level : Level) (control : Control) (k : Plan) (p : List Entry) → IsPlaced p → (IsPlaced (Asked (ticket_count p) id level control ∷ p) → Always Placing (Asked (ticket_count p) id level control ∷ p) k) → Always Placing p (asks id level control k)
placed_asks id level control k p h rest = let h' = placed_asked id level control p h in λ a. (h', rest h')

-- ---- a whole way, wherever it ends

-- what is known of the tickets of a job, where its plan led
pub record TurnsOn (id : Id) (p : List Entry) (k : Plan) (p' : List Entry) : Type 0 where
  pub always : Always (InTurn id) p' k
  pub placed : IsPlacedOf id p → IsPlacedOf id p'
  pub all : IsPlaced p → IsPlaced p'
  pub added : Added (IsInTurn id) p p'
  pub once : IsPlacedOf id p → (t : ℕ) → IsRaisedOnce id t p p'

pub turns_leads : (id : Id) (k : Plan) (p : List Entry) (host hooks : Option (List Entry)) (n : ℕ) (k' : Plan) (p' : List Entry) (host' hooks' : Option (List Entry)) (n' : ℕ) → PlanLeads k p host hooks n k' p' host' hooks' n' → Always (InTurn id) p k → TurnsOn id p k' p'
turns_leads id k p host hooks n k' p' host' hooks' n' l s = elim l as (λ k' p' host' hooks' n' _. TurnsOn id p k' p') [
  | PlanHere ↦ record { always = s; placed = λ h. h; all = λ h. h; added = Same; once = λ h t. record { sum = (let one = h.one t in omega (arith, one)); new = λ le. refl } }
  | PlanThen e k₁ p₁ host₁ hooks₁ n₁ n₂ (l → on) d counts ↦
      let o = always_now (InTurn id) p₁ k₁ e d on.always in record {
        always = always_next (InTurn id) p₁ k₁ e d on.always;
        placed = λ h. of_more id p₁ e (on.placed h) o;
        all = λ h. placed_more id p₁ e (on.all h) o;
        added = More e p₁ on.added o;
        once = λ h t. once_more id t p p₁ e (on.placed h) o (on.once h t);
      }
]
