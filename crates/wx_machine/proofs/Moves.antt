-- Entries that move tickets: a history begins or ends, and a control is asked, picked, or its ticket is raised.
use Rattle.std.proofs.Common.{◌≡◌, ◌≢◌, ℕ, ◌+◌, ◌≤◌, ◌<◌, Bool, true, false, cond, List, [], ◌∷◌, ◌++◌, Option, Some, refl, arith, ◌∙◌, ne_eqb}
use Rattle.std.specs.Prelude.{◌==◌, ◌-◌, ◌&&◌, ◌||◌, not}
use Rattle.std.proofs.lemmas.Bool.{eqb-true}
use Rattle.wx_control.specs.declared.id.Id.{Id}
use Rattle.wx_control.specs.declared.control.Control.{Control}
use Rattle.wx_control.specs.declared.level.Level.{Level}
use Rattle.wx_control.specs.declared.level.Level.TheVariants.{Normal, High, Urgent}
use Rattle.wx_control.specs.Levels.{rank}
use Rattle.wx_control.specs.Waits.{first}
use Rattle.wx_journal.specs.declared.entry.Entry.{Entry}
use Rattle.wx_journal.specs.declared.entry.Entry.TheVariants.{Made, Asked, Pick, Raise, Gone}
use Rattle.wx_journal.specs.Names.{ticket_count}
use Rattle.wx_machine.specs.declared.function.Function.{Function}
use Rattle.wx_machine.specs.declared.grace.Grace.{Grace}
use Rattle.wx_machine.specs.History.{same, lives, waits, state, grace, begun, picked_control, parked, in_hand, takes, without_ticket, asked_of}
use Rattle.wx_machine.specs.JobLaws.{NamesTickets}
use Rattle.wx_machine.specs.Held.{once, times, times_waiting}
use Rattle.wx_machine.specs.TicketLaws.{raises_of, is_asked, spots, is_of, AllWait, IsPlaced}
use Rattle.wx_machine.proofs.Owners.{same-is, either}
use Rattle.wx_machine.proofs.Tickets.{asked_below}
use Rattle.wx_machine.proofs.Times.{joined_times, times_without, picked_waits, picked_times, takes_more, IsFirst}
use Rattle.wx_machine.proofs.Places.{one_now, asked_was, unraised_spot, spot_of, AreHeld, HoldsTickets, held_of, gone_held}

-- ---- a history begins, and ends

made_spots : (i id : Id) (p : List Entry) (u : ℕ) → spots i u (Made id ∷ p) ≡ cond (same id i) 0 (spots i u p)
made_spots i id p u = by_test (same id i) refl
  where
    by_test : (b : Bool) → same id i ≡ b → spots i u (Made id ∷ p) ≡ cond b 0 (spots i u p)
    by_test true is = rw is refl
    by_test false is = rw is refl

pub placed_made : (id : Id) (p : List Entry) → AllWait is_of p (Made id) → IsPlaced p → IsPlaced (Made id ∷ p)
placed_made id p wait h =
    let o = one_now p h in record {
      children = h.children;
      tickets = h.tickets;
      one = (
        record {
          one_place = λ i u alive asked. rw (made_spots i id p u) (by_test i u (same id i) alive asked);
          raised_once = o.raised_once;
        },
        h.one,
      );
      nowhere = λ i u e. rw (made_spots i id p u) (no_spots i u (same id i) e);
      unnamed = h.unnamed;
      held = λ i. (held i).graces;
      begins = λ i. (held i).functions;
      last = h.last;
      pressing = h.pressing;
      polled = (wait, h.polled);
    }
  where
    by_test : (i : Id) (u : ℕ) (b : Bool) → (b || lives i p) ≡ true → cond b false (is_asked i u p) ≡ true → cond b 0 (spots i u p) + raises_of u p ≡ 1
    by_test i u true alive asked = cc
    by_test i u false alive asked = (one_now p h).one_place i u alive asked

    no_spots : (i : Id) (u : ℕ) (b : Bool) → cond b false (is_asked i u p) ≡ false → cond b 0 (spots i u p) ≡ 0
    no_spots i u true e = refl
    no_spots i u false e = h.nowhere i u e

    held : HoldsTickets (Made id ∷ p)
    held i = gone_held (same id i) (grace i p) (begun i p) (in_hand i p) (held_of p h i)

pub gone_spots : (i id : Id) (p : List Entry) (u : ℕ) → spots i u (Gone id ∷ p) ≡ cond (same id i) 0 (spots i u p)
gone_spots i id p u = by_test (same id i) refl
  where
    by_test : (b : Bool) → same id i ≡ b → spots i u (Gone id ∷ p) ≡ cond b 0 (spots i u p)
    by_test true is = rw is refl
    by_test false is = rw is refl

pub placed_gone : (id : Id) (p : List Entry) → IsPlaced p → IsPlaced (Gone id ∷ p)
placed_gone id p h =
    let o = one_now p h in record {
      children = h.children;
      tickets = h.tickets;
      one = (
        record {
          one_place = λ i u alive asked. rw (gone_spots i id p u) (by_test i u (same id i) alive asked);
          raised_once = o.raised_once;
        },
        h.one,
      );
      nowhere = λ i u e. rw (gone_spots i id p u) (no_spots i u (same id i) e);
      unnamed = h.unnamed;
      held = λ i. (held i).graces;
      begins = λ i. (held i).functions;
      last = h.last;
      pressing = h.pressing;
      polled = (λ i mine f is. tt, h.polled);
    }
  where
    by_test : (i : Id) (u : ℕ) (b : Bool) → (not b && lives i p) ≡ true → is_asked i u p ≡ true → cond b 0 (spots i u p) + raises_of u p ≡ 1
    by_test i u true alive asked = cc
    by_test i u false alive asked = (one_now p h).one_place i u alive asked

    no_spots : (i : Id) (u : ℕ) (b : Bool) → is_asked i u p ≡ false → cond b 0 (spots i u p) ≡ 0
    no_spots i u true e = refl
    no_spots i u false e = h.nowhere i u e

    held : HoldsTickets (Gone id ∷ p)
    held i = gone_held (same id i) (grace i p) (begun i p) (in_hand i p) (held_of p h i)

-- ---- a control is asked

-- it waits at its level, where its job lives
asked_level : (i : Id) (t u : ℕ) (control : Control) (at level : Level) (p : List Entry) (a : Bool) → times_waiting u (cond (a && rank at == rank level && lives i p) (waits i level p ++ (t, control) ∷ []) (waits i level p)) ≡ times_waiting u (waits i level p) + once (a && rank at == rank level && lives i p && t == u)
asked_level i t u control at level p a = by_test (a && rank at == rank level && lives i p)
  where
    by_test : (b : Bool) → times_waiting u (cond b (waits i level p ++ (t, control) ∷ []) (waits i level p)) ≡ times_waiting u (waits i level p) + once (b && t == u)
    by_test true = joined_times t u control (waits i level p)
    by_test false = omega arith

pub asked_spots : (i id : Id) (t u : ℕ) (at : Level) (control : Control) (p : List Entry) → spots i u (Asked t id at control ∷ p) ≡ spots i u p + once (same id i && lives i p && t == u)
asked_spots i id t u at control p =
    let urgent = asked_level i t u control at Urgent p (same id i) in
    let high = asked_level i t u control at High p (same id i) in
    let normal = asked_level i t u control at Normal p (same id i) in
    let sum = one_level at (same id i) (lives i p) (t == u) in
    omega (arith, urgent, high, normal, sum)
  where
    one_level : (at : Level) (a v b : Bool) → once (a && rank at == rank Urgent && v && b) + once (a && rank at == rank High && v && b) + once (a && rank at == rank Normal && v && b) ≡ once (a && v && b)
    one_level Urgent true v b = omega arith
    one_level High true v b = omega arith
    one_level Normal true v b = omega arith
    one_level Urgent false v b = refl
    one_level High false v b = refl
    one_level Normal false v b = refl

-- a ticket that has no name yet was asked of no job
new_unasked : (i : Id) (u : ℕ) (p : List Entry) → NamesTickets p → ticket_count p ≤ u → is_asked i u p ≡ false
new_unasked i u p named le = by_test (is_asked i u p) (λ e. asked_below u i p named (asked_was i u p named e))
  where
    by_test : (b : Bool) → (b ≡ true → u < ticket_count p) → b ≡ false
    by_test true below = let lt = below refl in absurd (omega (arith, lt, le))
    by_test false below = refl

asked_one : (a b v x : Bool) (s r : ℕ) → v ≡ true → (b ≡ true → (x ≡ false) × (s ≡ 0) × (r ≡ 0)) → (x ≡ true → s + r ≡ 1) → (a && b || x) ≡ true → s + once (a && v && b) + r ≡ 1
asked_one true true v x s r alive new old e = let none = new refl in rw alive (omega (arith, none.1, none.2))
asked_one true false v x s r alive new old e = let one = old e in rw alive (omega (arith, one))
asked_one false true v x s r alive new old e = let none = new refl in absurd cc
asked_one false false v x s r alive new old e = let one = old e in omega (arith, one)

asked_none : (a b v x : Bool) (s : ℕ) → (x ≡ false → s ≡ 0) → (a && b || x) ≡ false → s + once (a && v && b) ≡ 0
asked_none true true v x s none e = cc
asked_none true false true x s none e = let is = none e in omega (arith, is)
asked_none true false false x s none e = let is = none e in omega (arith, is)
asked_none false b v x s none e = let is = none e in omega (arith, is)

pub placed_asked : (id : Id) (level : Level) (control : Control) (p : List Entry) → IsPlaced p → IsPlaced (Asked (ticket_count p) id level control ∷ p)
placed_asked id level control p h =
    let t = ticket_count p in
    let o = one_now p h in record {
      children = h.children;
      tickets = (refl, h.tickets);
      one = (
        record {
          one_place = λ i u alive asked.
              rw (asked_spots i id t u level control p)
              (asked_one (same id i) (t == u) (lives i p) (is_asked i u p) (spots i u p) (raises_of u p) alive (λ e. new i u (eqb-true _ _ e)) (λ e. o.one_place i u alive e) asked);
          raised_once = o.raised_once;
        },
        h.one,
      );
      nowhere = λ i u e. rw (asked_spots i id t u level control p) (asked_none (same id i) (t == u) (lives i p) (is_asked i u p) (spots i u p) (h.nowhere i u) e);
      unnamed = λ u le. h.unnamed u (omega (arith, le));
      held = h.held;
      begins = h.begins;
      last = h.last;
      pressing = h.pressing;
      polled = (λ i mine f is. tt, h.polled);
    }
  where
    new : (i : Id) (u : ℕ) → ticket_count p ≡ u → (is_asked i u p ≡ false) × (spots i u p ≡ 0) × (raises_of u p ≡ 0)
    new i u is = let un = new_unasked i u p h.tickets (omega (arith, is)) in (un, h.nowhere i u un, h.unnamed u (omega (arith, is)))

-- ---- a control is picked

pub pick_spots : (i id : Id) (t u : ℕ) (p : List Entry) → (same id i ≡ true → 1 ≤ times_waiting t (waits i Urgent p) + times_waiting t (waits i High p) + times_waiting t (waits i Normal p)) → spots i u (Pick id t ∷ p) ≡ spots i u p
pick_spots i id t u p waits_it = by_test (same id i) refl
  where
    by_test : (b : Bool) → same id i ≡ b → spots i u (Pick id t ∷ p) ≡ spots i u p
    by_test true is =
        let ws = picked_waits t u (waits i Urgent p) (waits i High p) (waits i Normal p) (waits_it is) in
        let hs = picked_times (picked_control i t p) t u (state i p) (in_hand i p) (parked i p) in
        rw is (omega (arith, ws, hs))
    by_test false is = rw is refl

-- more in hand
pub more_held : (o : Option Grace) (function : Option Function) (hand more : List ℕ) → ((u : ℕ) → times u hand ≤ times u more) → AreHeld o function hand → AreHeld o function more
more_held o function hand more le h = record {
  graces = λ g e. (let was = h.graces g e in let now = le g.ticket in omega (arith, was, now));
  functions = λ f e. (let was = h.functions f e in let now = le f.ticket in omega (arith, was, now));
}

pub placed_pick : (id : Id) (t : ℕ) (control : Control) (p : List Entry) → IsFirst t control (waits id Urgent p) (waits id High p) (waits id Normal p) (grace id p) → AllWait is_of p (Pick id t) → IsPlaced p → IsPlaced (Pick id t ∷ p)
placed_pick id t control p first wait h =
    let o = one_now p h in record {
      children = h.children;
      tickets = h.tickets;
      one = (
        record {
          one_place = λ i u alive asked. (let there = still i u in let one = o.one_place i u alive asked in omega (arith, there, one));
          raised_once = o.raised_once;
        },
        h.one,
      );
      nowhere = λ i u e. still i u ∙ h.nowhere i u e;
      unnamed = h.unnamed;
      held = λ i. (held i).graces;
      begins = λ i. (held i).functions;
      last = h.last;
      pressing = (first.presses, h.pressing);
      polled = (wait, h.polled);
    }
  where
    still : (i : Id) (u : ℕ) → spots i u (Pick id t ∷ p) ≡ spots i u p
    still i u = pick_spots i id t u p (λ e. (let is : id ≡ i = same-is id i e in rw (← is) first.some))

    held : HoldsTickets (Pick id t ∷ p)
    held i =
        let taken : List ℕ = takes (picked_control i t p) t (state i p) (in_hand i p) in
        either (AreHeld (grace i p) (begun i p)) (same id i) taken (in_hand i p) (more_held (grace i p) (begun i p) (in_hand i p) taken (λ u. takes_more (picked_control i t p) t u (state i p) (in_hand i p)) (held_of p h i)) (held_of p h i)

-- ---- a ticket is raised

once_more : (b : Bool) (n : ℕ) → cond b (n + 1) n ≡ n + once b
once_more true n = refl
once_more false n = omega arith

-- of no other job is the ticket
raised_mine : (id i : Id) (t : ℕ) (p : List Entry) → asked_of t p ≡ Some id → asked_of t p ≡ Some i → id ≡ i
raised_mine id i t p its other = cc

-- its job lives, and has it in hand or parked, no grace holds it, and no function is begun
pub record IsRaisable (id : Id) (t : ℕ) (p : List Entry) : Type 0 where
  pub placed : IsPlaced p
  pub alive : lives id p ≡ true
  pub there : 1 ≤ times t (in_hand id p) + times t (parked id p)
  pub unheld : (g : Grace) → grace id p ≡ Some g → t ≢ g.ticket
  pub free : (f : Function) → begun id p ≡ Some f → ⊥
  pub wait : AllWait is_of p (Raise t)

pub placed_raise : (id : Id) (t : ℕ) (p : List Entry) → IsRaisable id t p → IsPlaced (Raise t ∷ p)
placed_raise id t p r =
    let h = r.placed in let o = one_now p h in record {
      children = h.children;
      tickets = h.tickets;
      one = (record { one_place = λ i u lives_on asked. placed i u lives_on asked (t == u) refl; raised_once = λ u. once_raised u (t == u) refl }, h.one);
      nowhere = λ i u e. (let none = h.nowhere i u e in let hs = times_without t u (in_hand i p) in let ks = times_without t u (parked i p) in omega (arith, none, hs, ks));
      unnamed = λ u above. (let other : (t == u) ≡ false = ne_eqb t u (λ is. omega (arith, is, above, asked_below t id p h.tickets its)) in rw other (h.unnamed u above));
      held = λ i. (held i).graces;
      begins = λ i. (held i).functions;
      last = h.last;
      pressing = h.pressing;
      polled = (r.wait, h.polled);
    }
  where
    its : asked_of t p ≡ Some id
    its = let le = r.there in spot_of id t p r.placed (omega (arith, le))

    placed : (i : Id) (u : ℕ) → lives i p ≡ true → is_asked i u p ≡ true → (b : Bool) → (t == u) ≡ b → spots i u (Raise t ∷ p) + raises_of u (Raise t ∷ p) ≡ 1
    placed i u lives_on asked true is =
        let same_ticket : t ≡ u = eqb-true _ _ is in
        let mine : id ≡ i = raised_mine id i t p its (rw same_ticket (asked_was i u p r.placed.tickets asked)) in
        let there : 1 ≤ times u (in_hand i p) + times u (parked i p) = rw (← same_ticket, ← mine) r.there in
        let one = (one_now p r.placed).one_place i u lives_on asked in
        let hs = times_without t u (in_hand i p) in
        let ks = times_without t u (parked i p) in
        let hs' : times u (without_ticket t (in_hand i p)) ≡ times u (in_hand i p) - once true = rw is at hs in
        let ks' : times u (without_ticket t (parked i p)) ≡ times u (parked i p) - once true = rw is at ks in
        rw is (omega (arith, one, there, hs', ks'))
    placed i u lives_on asked false is =
        let one = (one_now p r.placed).one_place i u lives_on asked in
        let hs = times_without t u (in_hand i p) in
        let ks = times_without t u (parked i p) in
        let hs' : times u (without_ticket t (in_hand i p)) ≡ times u (in_hand i p) - once false = rw is at hs in
        let ks' : times u (without_ticket t (parked i p)) ≡ times u (parked i p) - once false = rw is at ks in
        rw is (omega (arith, one, hs', ks'))

    once_raised : (u : ℕ) (b : Bool) → (t == u) ≡ b → raises_of u (Raise t ∷ p) ≤ 1
    once_raised u true is = let same_ticket : t ≡ u = eqb-true _ _ is in let le = r.there in let none : raises_of u p ≡ 0 = rw (← same_ticket) (unraised_spot id t p r.placed r.alive (omega (arith, le))).1 in rw is (omega (arith, none))
    once_raised u false is = rw is ((one_now p r.placed).raised_once u)

    -- another ticket that is in hand stays there
    stays : (i : Id) (u : ℕ) → 1 ≤ times u (in_hand i p) → (id ≡ i → t ≢ u) → 1 ≤ times u (without_ticket t (in_hand i p))
    stays i u there other =
        let apart : (t == u) ≡ false = ne_eqb t u (λ is. other (raised_mine id i t p its (rw is (spot_of i u p r.placed (omega (arith, there))))) is) in
        let hs = times_without t u (in_hand i p) in
        let hs' : times u (without_ticket t (in_hand i p)) ≡ times u (in_hand i p) - once false = rw apart at hs in
        omega (arith, hs', there)

    held : HoldsTickets (Raise t ∷ p)
    held i = record {
      graces = λ g e. stays i g.ticket (r.placed.held i g e) (λ mine. r.unheld g (rw mine e));
      functions = λ f e. stays i f.ticket (r.placed.begins i f e) (λ mine. absurd (r.free f (rw mine e)));
    }
