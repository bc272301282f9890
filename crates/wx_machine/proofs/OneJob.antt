-- What an entry of one job leaves of its tickets, and so of all tickets.
use Rattle.std.proofs.Common.{◌≡◌, ◌≢◌, ℕ, zero, suc, ◌+◌, ◌≤◌, Bool, true, false, cond, List, ◌∷◌, Option, Some, None, Ok, Err, refl, arith, sym, ◌∙◌, eq-eqb, ne_eqb}
use Rattle.std.specs.Prelude.{◌==◌, ◌-◌, ◌&&◌}
use Rattle.std.proofs.lemmas.Bool.{eqb-true}
use Rattle.wx_control.specs.declared.id.Id.{Id}
use Rattle.wx_control.specs.declared.control.Control.{Control}
use Rattle.wx_control.specs.declared.level.Level.TheVariants.{Normal, High, Urgent}
use Rattle.wx_journal.specs.declared.entry.Entry.{Entry}
use Rattle.wx_journal.specs.declared.entry.Entry.TheVariants.{Word as Said, Made, Asked, Pick, GraceOver, Spawn, Signal, Kill, Wait, Dropped, Raise, Gone, Run, Begun, Poll, Hook, JobError}
use Rattle.wx_journal.specs.Sorts.{sort}
use Rattle.wx_journal.specs.Names.{ticket_count, child_count, moment}
use Rattle.wx_machine.specs.declared.function.Function.{Function}
use Rattle.wx_machine.specs.declared.grace.Grace.{Grace}
use Rattle.wx_machine.specs.History.{same, lives, waits, child, is_child, state, grace, begun, begun_with, picked_last, picked_control, begins_by, parked, in_hand, takes, asked_of, owner}
use Rattle.wx_machine.specs.JobLaws.{is_owner, NamesChildren}
use Rattle.wx_machine.specs.Held.{once, times, IsInHand}
use Rattle.wx_machine.specs.TicketLaws.{raises_of, spots, case_ticket, IsUnraised, is_of, WaitsForFunction, AllWait, IsPlacedOf, RaisesLast, IsPlaced}
use Rattle.wx_machine.proofs.Owners.{self, same-is, either, child_owner}
use Rattle.wx_machine.proofs.Tickets.{asked_below}
use Rattle.wx_machine.proofs.Frame.{raised_other}
use Rattle.wx_machine.proofs.Times.{times_without, takes_more, IsFirst}
use Rattle.wx_machine.proofs.Places.{unraised_spot, hand_unraised, spot_of, AreHeld, placed_silent, placed_over, placed_dropped, placed_spawn, placed_hook, placed_shown, placed_run, placed_begun, placed_poll, placed_kill, placed_wait, placed_signal}
use Rattle.wx_machine.proofs.Moves.{gone_spots, asked_spots, pick_spots, more_held, placed_gone, placed_asked, placed_pick, placed_raise}
use Rattle.wx_machine.proofs.Holders.{begun_apart}

-- Which tickets an entry of the job moves, and what it names: the job, its running child, a ticket that is in hand or parked, the next
-- ticket or child. A grace or a function that it begins has its ticket in hand, and no two hold one.
abbrev pub MovesTickets : Id → List Entry → Entry → Type 0
MovesTickets id p (Said word) = Unit {0}
MovesTickets id p (Asked t job level control) = (job ≡ id) × (t ≡ ticket_count p)
MovesTickets id p (Pick job t) = (job ≡ id) × (control : Control) × IsFirst t control (waits id Urgent p) (waits id High p) (waits id Normal p) (grace id p)
MovesTickets id p (GraceOver job) = job ≡ id
MovesTickets id p (Spawn c job tag what answer) = (job ≡ id) × (c ≡ child_count p)
MovesTickets id p (Signal c number answer) = (child id p ≡ Some c) × ((g : Grace) → begins_by (picked_last id p) (moment p) (grace id p) ≡ Some g → IsInHand id g.ticket p)
MovesTickets id p (Kill c answer) = child id p ≡ Some c
MovesTickets id p (Wait c answer) = child id p ≡ Some c
MovesTickets id p (Dropped c) = Unit {0}
MovesTickets id p (Raise t) = (1 ≤ times t (in_hand id p) + times t (parked id p)) × ((g : Grace) → grace id p ≡ Some g → t ≢ g.ticket)
MovesTickets id p (Gone job) = job ≡ id
MovesTickets id p (Run job n) = job ≡ id
MovesTickets id p (Begun job n) = (job ≡ id) × ((f : Function) → begun_with n (picked_last id p) ≡ Some f → IsInHand id f.ticket p × ((g : Grace) → grace id p ≡ Some g → f.ticket ≢ g.ticket))
MovesTickets id p (Poll job n ready) = (job ≡ id) × (f : Function) × (begun id p ≡ Some f)
MovesTickets id p (Hook job n answer) = job ≡ id
MovesTickets id p (JobError job n code) = job ≡ id
MovesTickets id p (_) = ⊥

-- what is known of each entry that a plan of the job brings, of its tickets
pub record IsInTurn (id : Id) (p : List Entry) (e : Entry) : Type 0 where
  pub alive : lives id p ≡ true
  pub waits : WaitsForFunction id p e
  pub raises : RaisesLast id p e
  pub moves : MovesTickets id p e

-- ---- the tickets of the job

-- no two hold one ticket
abbrev AreApart : Option Grace → Option Function → Type 0
AreApart standing function = (f : Function) (g : Grace) → function ≡ Some f → standing ≡ Some g → f.ticket ≢ g.ticket

-- with less that is held
ended_apart : (b : Bool) (o : Option Grace) (function : Option Function) → AreApart o function → AreApart (cond b None o) function
ended_apart true o function h f g is standing = cc
ended_apart false o function h f g is standing = h f g is standing

ready_apart : (b : Bool) (o : Option Grace) (function : Option Function) → AreApart o function → AreApart o (cond b None function)
ready_apart true o function h f g is standing = cc
ready_apart false o function h f g is standing = h f g is standing

ended_of : (b : Bool) (o : Option Grace) (hand : List ℕ) → ((g : Grace) → o ≡ Some g → 1 ≤ times g.ticket hand) → (g : Grace) → cond b None o ≡ Some g → 1 ≤ times g.ticket hand
ended_of true o hand h g e = cc
ended_of false o hand h g e = h g e

ready_of : (b : Bool) (o : Option Function) (hand : List ℕ) → ((f : Function) → o ≡ Some f → 1 ≤ times f.ticket hand) → (f : Function) → cond b None o ≡ Some f → 1 ≤ times f.ticket hand
ready_of true o hand h f e = cc
ready_of false o hand h f e = h f e

-- a control is asked
of_asked : (b : Bool) (t u n s s' : ℕ) → (t == u) ≡ b → t ≡ n → s ≤ 1 → (n ≤ u → s ≡ 0) → s' ≤ s + once b → s' ≤ 1
of_asked true t u n s s' is name one none e = let found : t ≡ u = eqb-true _ _ is in let zero_spots = none (omega (arith, found, name)) in omega (arith, zero_spots, e)
of_asked false t u n s s' is name one none e = omega (arith, one, e)

less_and : (a b c : Bool) → once (a && b && c) ≤ once c
less_and true true c = omega arith
less_and true false c = omega arith
less_and false b c = omega arith

-- a ticket is raised
raised_spots : (id : Id) (t u : ℕ) (p : List Entry) → spots id u (Raise t ∷ p) ≤ spots id u p
raised_spots id t u p = let hs = times_without t u (in_hand id p) in let ks = times_without t u (parked id p) in omega (arith, hs, ks)

-- it is nowhere then
pub raised_nowhere : (id : Id) (t : ℕ) (p : List Entry) → IsPlacedOf id p → 1 ≤ times t (in_hand id p) + times t (parked id p) → spots id t (Raise t ∷ p) ≡ 0
raised_nowhere id t p s there =
    let hs = times_without t t (in_hand id p) in
    let ks = times_without t t (parked id p) in
    let hs' : times t (in_hand id (Raise t ∷ p)) ≡ times t (in_hand id p) - once true = rw (eq-eqb t t refl) at hs in
    let ks' : times t (parked id (Raise t ∷ p)) ≡ times t (parked id p) - once true = rw (eq-eqb t t refl) at ks in
    let one = s.one t in omega (arith, hs', ks', there, one)

-- none is held by a job that is gone
gone_none : (b : Bool) (s : ℕ) → s ≤ 1 → cond b 0 s ≤ 1
gone_none true s le = omega arith
gone_none false s le = le

gone_less : (b : Bool) (s : ℕ) → cond b 0 s ≤ s
gone_less true s = omega arith
gone_less false s = omega arith

gone_zero : (b : Bool) (s : ℕ) → s ≡ 0 → cond b 0 s ≡ 0
gone_zero true s e = refl
gone_zero false s e = e

-- behind an entry of the job its tickets are placed still
pub of_more : (id : Id) (p : List Entry) (e : Entry) → IsPlacedOf id p → IsInTurn id p e → IsPlacedOf id (e ∷ p)
of_more id p (Said word) s o = record { one = s.one; unnamed = s.unnamed; graces = s.graces; functions = s.functions; apart = s.apart }
of_more id p (Asked t job level control) s o = record {
  one = λ u. (let is = asked_spots id job t u level control p in let less = less_and (same job id) (lives id p) (t == u) in of_asked (t == u) t u (ticket_count p) (spots id u p) (spots id u (Asked t job level control ∷ p)) refl o.moves.1 (s.one u) (s.unnamed u) (omega (arith, is, less)));
  unnamed = λ u le. (
      let is = asked_spots id job t u level control p in
      let less = less_and (same job id) (lives id p) (t == u) in
      let none = s.unnamed u (omega (arith, le)) in
      let name = o.moves.1 in
      let other : (t == u) ≡ false = ne_eqb t u (λ found. omega (arith, found, name, le)) in
      let zero_less : once (t == u) ≡ 0 = rw other refl in
      omega (arith, is, less, none, zero_less)
      );
  graces = s.graces;
  functions = s.functions;
  apart = s.apart;
}
of_more id p (Pick job t) s o =
    let still : (u : ℕ) → spots id u (Pick job t ∷ p) ≡ spots id u p = λ u. pick_spots id job t u p (λ e. o.moves.2.some) in
    let more : AreHeld (grace id p) (begun id p) (in_hand id (Pick job t ∷ p)) = either (AreHeld (grace id p) (begun id p)) (same job id) (takes (picked_control id t p) t (state id p) (in_hand id p)) (in_hand id p)
    (more_held (grace id p) (begun id p) (in_hand id p) _ (λ u. takes_more (picked_control id t p) t u (state id p) (in_hand id p)) (record { graces = s.graces; functions = s.functions })) (record { graces = s.graces; functions = s.functions }) in
    record {
      one = λ u. (let is = still u in let one = s.one u in omega (arith, is, one));
      unnamed = λ u le. still u ∙ s.unnamed u le;
      graces = more.graces;
      functions = more.functions;
      apart = s.apart;
    }
of_more id p (GraceOver job) s o = record { one = s.one; unnamed = s.unnamed; graces = ended_of (same job id) (grace id p) (in_hand id p) s.graces; functions = s.functions; apart = ended_apart (same job id) (grace id p) (begun id p) s.apart }
of_more id p (Spawn c job tag what answer) s o = record { one = s.one; unnamed = s.unnamed; graces = s.graces; functions = s.functions; apart = s.apart }
of_more id p (Signal c number (Ok done)) s o = record {
  one = s.one;
  unnamed = s.unnamed;
  graces = either (λ standing. (g : Grace) → standing ≡ Some g → IsInHand id g.ticket p) (is_child c (child id p)) (begins_by (picked_last id p) (moment p) (grace id p)) (grace id p) o.moves.1 s.graces;
  functions = s.functions;
  apart = λ f g is standing. absurd (o.waits f is);
}
of_more id p (Signal c number (Err fault)) s o = record { one = s.one; unnamed = s.unnamed; graces = s.graces; functions = s.functions; apart = s.apart }
of_more id p (Kill c answer) s o = record { one = s.one; unnamed = s.unnamed; graces = s.graces; functions = s.functions; apart = s.apart }
of_more id p (Wait c (Ok status)) s o = record { one = s.one; unnamed = s.unnamed; graces = ended_of (is_child c (child id p)) (grace id p) (in_hand id p) s.graces; functions = s.functions; apart = ended_apart (is_child c (child id p)) (grace id p) (begun id p) s.apart }
of_more id p (Wait c (Err fault)) s o = record { one = s.one; unnamed = s.unnamed; graces = s.graces; functions = s.functions; apart = s.apart }
of_more id p (Dropped c) s o = record { one = s.one; unnamed = s.unnamed; graces = ended_of (is_child c (child id p)) (grace id p) (in_hand id p) s.graces; functions = s.functions; apart = ended_apart (is_child c (child id p)) (grace id p) (begun id p) s.apart }
of_more id p (Raise t) s o = record {
  one = λ u. (let less = raised_spots id t u p in let one = s.one u in omega (arith, less, one));
  unnamed = λ u le. (let less = raised_spots id t u p in let none = s.unnamed u le in omega (arith, less, none));
  graces = λ g e. raised_other id t g.ticket p (o.moves.1 g e) (s.graces g e);
  functions = λ f e. absurd (o.waits f e);
  apart = s.apart;
}
of_more id p (Gone job) s o = record {
  one = λ u. rw (gone_spots id job p u) (gone_none (same job id) (spots id u p) (s.one u));
  unnamed = λ u le. rw (gone_spots id job p u) (gone_zero (same job id) (spots id u p) (s.unnamed u le));
  graces = λ g e. (let mine : same job id ≡ true = rw o.moves (self id) in let none : None ≡ Some g = (rw mine at e) in absurd cc);
  functions = λ f e. (let mine : same job id ≡ true = rw o.moves (self id) in let none : None ≡ Some f = (rw mine at e) in absurd cc);
  apart = λ f g is standing. (let mine : same job id ≡ true = rw o.moves (self id) in let none : None ≡ Some f = (rw mine at is) in absurd cc);
}
of_more id p (Run job n) s o = record { one = s.one; unnamed = s.unnamed; graces = s.graces; functions = s.functions; apart = s.apart }
of_more id p (Begun job n) s o = record {
  one = s.one;
  unnamed = s.unnamed;
  graces = s.graces;
  functions = λ f e. (o.moves.1 f (begun_now f e)).0;
  apart = λ f g is standing. (o.moves.1 f (begun_now f is)).1 g standing;
}
  where
    begun_now : (f : Function) → begun id (Begun job n ∷ p) ≡ Some f → begun_with n (picked_last id p) ≡ Some f
    begun_now f e = let mine : same job id ≡ true = rw o.moves.0 (self id) in (rw mine at e)
of_more id p (Poll job n true) s o = record { one = s.one; unnamed = s.unnamed; graces = s.graces; functions = ready_of (same job id) (begun id p) (in_hand id p) s.functions; apart = ready_apart (same job id) (grace id p) (begun id p) s.apart }
of_more id p (Poll job n false) s o = record { one = s.one; unnamed = s.unnamed; graces = s.graces; functions = s.functions; apart = s.apart }
of_more id p (Hook job n answer) s o = record { one = s.one; unnamed = s.unnamed; graces = s.graces; functions = s.functions; apart = s.apart }
of_more id p (JobError job n code) s o = record { one = s.one; unnamed = s.unnamed; graces = s.graces; functions = s.functions; apart = s.apart }
of_more id p (_) s o = absurd o.moves

-- ---- no ticket is raised twice

-- from one journal on: a ticket that was raised is in no place any more, and one that isn't named yet wasn't raised
pub record IsRaisedOnce (id : Id) (t : ℕ) (p q : List Entry) : Type 0 where
  pub sum : raises_of t q + spots id t q ≤ raises_of t p + 1
  pub new : ticket_count q ≤ t → raises_of t q ≡ raises_of t p

once_asked : (b : Bool) (u t n r s s' m : ℕ) → (u == t) ≡ b → u ≡ n → r + s ≤ m + 1 → (n ≤ t → r ≡ m) → (n ≤ t → s ≡ 0) → s' ≤ s + once b → r + s' ≤ m + 1
once_asked true u t n r s s' m is name sum new none le =
    let found : u ≡ t = eqb-true _ _ is in
    let same_raises = new (omega (arith, found, name)) in
    let zero_spots = none (omega (arith, found, name)) in
    omega (arith, same_raises, zero_spots, le)
once_asked false u t n r s s' m is name sum new none le = omega (arith, sum, le)

-- the sum stays, where the ticket of this raise is the one, or is another
once_raised : (b : Bool) (r s s' m : ℕ) → r + s ≤ m + 1 → (b ≡ true → (1 ≤ s) × (s' ≡ 0)) → s' ≤ s → cond b (r + 1) r + s' ≤ m + 1
once_raised true r s s' m sum here le = let h = here refl in omega (arith, sum, h.0, h.1)
once_raised false r s s' m sum here le = omega (arith, sum, le)

new_raised : (b : Bool) (r m : ℕ) → (b ≡ true → ⊥) → r ≡ m → cond b (r + 1) r ≡ m
new_raised true r m never e = absurd (never refl)
new_raised false r m never e = e

pub once_more : (id : Id) (t : ℕ) (p q : List Entry) (e : Entry) → IsPlacedOf id q → IsInTurn id q e → IsRaisedOnce id t p q → IsRaisedOnce id t p (e ∷ q)
once_more id t p q (Made job) s o h = absurd o.moves
once_more id t p q (Asked u job level control) s o h =
    let is = asked_spots id job u t level control q in
    let less = less_and (same job id) (lives id q) (u == t) in
    record {
      sum = once_asked (u == t) u t (ticket_count q) (raises_of t q) (spots id t q) (spots id t (Asked u job level control ∷ q)) (raises_of t p) refl o.moves.1 h.sum h.new (s.unnamed t) (omega (arith, is, less));
      new = λ le. h.new (omega (arith, le));
    }
once_more id t p q (Pick job u) s o h =
    let is : spots id t (Pick job u ∷ q) ≡ spots id t q = pick_spots id job u t q (λ e. o.moves.2.some) in
    let sum = h.sum in
    record { sum = omega (arith, is, sum); new = h.new }
once_more id t p q (Gone job) s o h =
    let is = gone_spots id job q t in
    let less = gone_less (same job id) (spots id t q) in
    let sum = h.sum in
    record { sum = omega (arith, is, less, sum); new = h.new }
once_more id t p q (Raise u) s o h = record {
  sum = once_raised (u == t) (raises_of t q) (spots id t q) (spots id t (Raise u ∷ q)) (raises_of t p) h.sum (λ is. here (eqb-true _ _ is)) (raised_spots id u t q);
  new = λ le. new_raised (u == t) (raises_of t q) (raises_of t p) (λ is. (let there = (here (eqb-true _ _ is)).0 in let none = s.unnamed t le in omega (arith, there, none))) (h.new le);
}
  where
    here : u ≡ t → (1 ≤ spots id t q) × (spots id t (Raise u ∷ q) ≡ 0)
    here is = rw (← is) (let there = o.moves.0 in omega (arith, there), raised_nowhere id u q s o.moves.0)
once_more id t p q (_) s o h = record { sum = h.sum; new = h.new }

-- behind the entry that it was made it has none
pub of_made : (id : Id) (p : List Entry) → IsPlacedOf id (Made id ∷ p)
of_made id p = record {
  one = λ u. rw (self id) (omega arith);
  unnamed = λ u le. rw (self id) refl;
  graces = λ g e. (let none : None ≡ Some g = (rw (self id) at e) in absurd cc);
  functions = λ f e. (let none : None ≡ Some f = (rw (self id) at e) in absurd cc);
  apart = λ f g is standing. (let none : None ≡ Some f = (rw (self id) at is) in absurd cc);
}

-- ---- where the tickets of all jobs are placed

-- those of one that lives are
pub placed_of : (id : Id) (p : List Entry) → lives id p ≡ true → IsPlaced p → IsPlacedOf id p
placed_of id p alive h = record {
  one = λ t. by_count t (spots id t p) refl;
  unnamed = λ t le. none t le (spots id t p) refl;
  graces = h.held id;
  functions = h.begins id;
  apart = λ f g is standing. begun_apart id f g p h alive is standing;
}
  where
    by_count : (t s : ℕ) → spots id t p ≡ s → spots id t p ≤ 1
    by_count t zero is = omega (arith, is)
    by_count t (suc s) is = let one = (unraised_spot id t p h alive (omega (arith, is))).0 in omega (arith, one)

    none : (t : ℕ) → ticket_count p ≤ t → (s : ℕ) → spots id t p ≡ s → spots id t p ≡ 0
    none t le zero is = is
    none t le (suc s) is = let below = asked_below t id p h.tickets (spot_of id t p h (omega (arith, is))) in omega (arith, below, le)

-- an entry of the job waits for its function, and those of others for theirs
all_wait : (id : Id) (p : List Entry) (e : Entry) → ((i : Id) → is_of i p (sort e).subject ≡ true → id ≡ i) → WaitsForFunction id p e → AllWait is_of p e
all_wait id p e mine waits i is f begun_is = waits f (rw (mine i is) begun_is)

of_job : (id job i : Id) → job ≡ id → same job i ≡ true → id ≡ i
of_job id job i its is = sym its ∙ same-is job i is

of_child : (id : Id) (c : ℕ) (p : List Entry) → NamesChildren p → child id p ≡ Some c → (i : Id) → is_owner i (owner c p) ≡ true → id ≡ i
of_child id c p named runs i is =
    let its : owner c p ≡ Some id = child_owner id c p named runs in
    same-is id i (rw its at is)

of_ticket : (id : Id) (t : ℕ) (p : List Entry) → asked_of t p ≡ Some id → (i : Id) → is_owner i (asked_of t p) ≡ true → id ≡ i
of_ticket id t p its i is = same-is id i (rw its at is)

unraised : (id : Id) (p q : List Entry) → ((t : ℕ) → raises_of t q ≡ raises_of t p) → IsPlaced p → lives id p ≡ true → (o : Option ℕ) → ((t : ℕ) → o ≡ Some t → IsInHand id t p) → IsUnraised o q
unraised id p q same_raises h alive None held = tt
unraised id p q same_raises h alive (Some t) held = same_raises t ∙ hand_unraised id t p h alive (held t refl)

-- behind an entry of one job all tickets are placed still
pub placed_more : (id : Id) (p : List Entry) (e : Entry) → IsPlaced p → IsInTurn id p e → IsPlaced (e ∷ p)
placed_more id p (Said word) h o = placed_silent (Said word) p tt h
placed_more id p (Asked t job level control) h o = rw o.moves.1 (placed_asked job level control p h)
placed_more id p (Pick job t) h o = rw o.moves.0 (placed_pick id t o.moves.1 p o.moves.2 (all_wait id p (Pick id t) (λ i is. same-is id i is) o.waits) h)
placed_more id p (GraceOver job) h o = rw o.moves (placed_over id p (all_wait id p (GraceOver id) (λ i is. same-is id i is) o.waits) h)
placed_more id p (Spawn c job tag what answer) h o = rw (o.moves.0, o.moves.1) (placed_spawn id tag what answer p (unraised id p p (λ t. refl) h o.alive (case_ticket id p) o.raises) (all_wait id p (Spawn (child_count p) id tag what answer) (λ i is. same-is id i is) o.waits) h)
placed_more id p (Signal c number answer) h o = placed_signal id c number answer p o.moves.0 o.moves.1 (unraised id p p (λ t. refl) h o.alive (case_ticket id p) o.raises) (all_wait id p (Signal c number answer) (of_child id c p h.children o.moves.0) o.waits) h
placed_more id p (Kill c answer) h o = placed_kill id c answer p o.moves (unraised id p p (λ t. refl) h o.alive (case_ticket id p) o.raises) (all_wait id p (Kill c answer) (of_child id c p h.children o.moves) o.waits) h
placed_more id p (Wait c answer) h o = placed_wait id c answer p o.moves (unraised id p (Wait c answer ∷ p) (λ t. refl) h o.alive (case_ticket id (Wait c answer ∷ p)) o.raises) (all_wait id p (Wait c answer) (of_child id c p h.children o.moves) o.waits) h
placed_more id p (Dropped c) h o = placed_dropped c p h
placed_more id p (Raise t) h o =
    let its : asked_of t p ≡ Some id = (let le = o.moves.0 in spot_of id t p h (omega (arith, le))) in
    placed_raise id t p (record { placed = h; alive = o.alive; there = o.moves.0; unheld = o.moves.1; free = λ f e. o.waits f e; wait = all_wait id p (Raise t) (of_ticket id t p its) o.waits })
placed_more id p (Gone job) h o = placed_gone job p h
placed_more id p (Run job n) h o = rw o.moves (placed_run id n p (unraised id p p (λ t. refl) h o.alive (case_ticket id p) o.raises) (all_wait id p (Run id n) (λ i is. same-is id i is) o.waits) h)
placed_more id p (Begun job n) h o =
    rw o.moves.0 (placed_begun id n p (unraised id p p (λ t. refl) h o.alive (case_ticket id p) o.raises) (record { graces = h.held id; functions = λ f e. (o.moves.1 f e).0 }) (all_wait id p (Begun id n) (λ i is. same-is id i is) o.waits) h)
placed_more id p (Poll job n ready) h o = rw o.moves.0 (placed_poll id o.moves.1 n ready p o.alive o.moves.2 (all_wait id p (Poll id n ready) (λ i is. same-is id i is) o.waits) h)
placed_more id p (Hook job n answer) h o = rw o.moves (placed_hook id n answer p (unraised id p p (λ t. refl) h o.alive (case_ticket id p) o.raises) (all_wait id p (Hook id n answer) (λ i is. same-is id i is) o.waits) h)
placed_more id p (JobError job n code) h o = rw o.moves (placed_shown id n code p (unraised id p p (λ t. refl) h o.alive (case_ticket id p) o.raises) (all_wait id p (JobError id n code) (λ i is. same-is id i is) o.waits) h)
placed_more id p (_) h o = absurd o.moves
