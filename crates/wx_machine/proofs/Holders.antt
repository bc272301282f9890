-- No ticket is held by a grace and by a begun function.
use Rattle.std.proofs.Common.{◌≡◌, ◌≢◌, ℕ, ◌+◌, ◌≤◌, Bool, true, false, cond, List, [], ◌∷◌, Option, Some, None, Ok, refl, arith, eq-eqb}
use Rattle.std.specs.Prelude.{◌==◌, ◌-◌}
use Rattle.wx_control.specs.declared.id.Id.{Id}
use Rattle.wx_control.specs.declared.control.Control.{Control}
use Rattle.wx_control.specs.declared.control.Control.TheVariants.{GracefulStop, TryGracefulRestart}
use Rattle.wx_journal.specs.declared.entry.Entry.{Entry}
use Rattle.wx_journal.specs.declared.entry.Entry.TheVariants.{Made, Pick, GraceOver, Signal, Raise, Gone, Begun, Poll}
use Rattle.wx_journal.specs.Names.{moment}
use Rattle.wx_machine.specs.declared.function.Function.{Function}
use Rattle.wx_machine.specs.declared.grace.Grace.{Grace}
use Rattle.wx_machine.specs.History.{same, lives, child, is_child, ended_child, is_ended, state, grace, begun, begun_with, picked_last, begins, begins_by, with_ticket, unless_raised, picked_control, parked, in_hand, parks, takes, without_ticket}
use Rattle.wx_machine.specs.Held.{once, times, times_grace, times_begun}
use Rattle.wx_machine.specs.TicketLaws.{raises_of, IsPlaced}
use Rattle.wx_machine.proofs.Owners.{either}
use Rattle.wx_machine.proofs.Times.{times_without, picked_times}
use Rattle.wx_machine.proofs.Places.{unraised_spot}

-- how often a ticket is that of the control that was picked last
abbrev times_picked : ℕ → Option (ℕ × Control) → ℕ
times_picked t None = 0
times_picked t (Some x) = once (x.0 == t)

-- how often a ticket is held, or is to be
abbrev holders : Id → ℕ → List Entry → ℕ
holders id t p = times_picked t (picked_last id p) + times_grace t (grace id p) + times_begun t (begun id p)

with_once : (t u : ℕ) (o : Option Control) → times_picked t (with_ticket u o) ≤ once (u == t)
with_once t u None = omega arith
with_once t u (Some control) = omega arith

-- a function or a grace takes the ticket that was picked last
begun_less : (t n : ℕ) (b : Bool) (o : Option (ℕ × Control)) (before : Option Function) → times_picked t (cond b None o) + times_begun t (cond b (begun_with n o) before) ≤ times_picked t o + times_begun t before
begun_less t n true None before = omega arith
begun_less t n true (Some x) before = omega arith
begun_less t n false o before = omega arith

sends_once : (t u : ℕ) (control : Control) (at : ℕ) (before : Option Grace) → times_grace t (begins u control at before) ≤ once (u == t) + times_grace t before
sends_once t u (GracefulStop signal grace) at before = omega arith
sends_once t u (TryGracefulRestart signal grace) at before = omega arith
sends_once t u (_) at before = omega arith

sent_once : (t : ℕ) (o : Option (ℕ × Control)) (at : ℕ) (before : Option Grace) → times_grace t (begins_by o at before) ≤ times_picked t o + times_grace t before
sent_once t None at before = omega arith
sent_once t (Some x) at before = sends_once t x.0 x.1 at before

sent_less : (t : ℕ) (b : Bool) (o : Option (ℕ × Control)) (at : ℕ) (before : Option Grace) → times_picked t (cond b None o) + times_grace t (cond b (begins_by o at before) before) ≤ times_picked t o + times_grace t before
sent_less t true o at before = let sent = sent_once t o at before in omega (arith, sent)
sent_less t false o at before = omega arith

-- what has ended, is ready, or is gone holds nothing
ended_less : (t : ℕ) (b : Bool) (o : Option Grace) → times_grace t (cond b None o) ≤ times_grace t o
ended_less t b o = either (λ x. times_grace t x ≤ times_grace t o) b None o (omega arith) (omega arith)

ready_less : (t : ℕ) (b : Bool) (o : Option Function) → times_begun t (cond b None o) ≤ times_begun t o
ready_less t b o = either (λ x. times_begun t x ≤ times_begun t o) b None o (omega arith) (omega arith)

picked_less : (t : ℕ) (b : Bool) (o : Option (ℕ × Control)) → times_picked t (cond b None o) ≤ times_picked t o
picked_less t b o = either (λ x. times_picked t x ≤ times_picked t o) b None o (omega arith) (omega arith)

raised_less : (t u : ℕ) (o : Option (ℕ × Control)) → times_picked t (unless_raised u o) ≤ times_picked t o
raised_less t u None = omega arith
raised_less t u (Some x) = picked_less t (x.0 == u) (Some x)

gone_less : (t : ℕ) (b : Bool) (x : Option (ℕ × Control)) (o : Option Grace) (function : Option Function) (hand parked : List ℕ) → times_picked t x + times_grace t o + times_begun t function ≤ times t hand + times t parked → times_picked t (cond b None x) + times_grace t (cond b None o) + times_begun t (cond b None function) ≤ times t (cond b [] hand) + times t (cond b [] parked)
gone_less t true x o function hand parked le = omega arith
gone_less t false x o function hand parked le = le

-- a ticket that wasn't raised is in hand or parked as often as it is held
held_enough : (id : Id) (t : ℕ) (p : List Entry) → raises_of t p ≡ 0 → holders id t p ≤ times t (in_hand id p) + times t (parked id p)
held_enough id t [] un = omega arith
held_enough id t (Made job ∷ p) un = gone_less t (same job id) (picked_last id p) (grace id p) (begun id p) (in_hand id p) (parked id p) (held_enough id t p un)
held_enough id t (Gone job ∷ p) un = gone_less t (same job id) (picked_last id p) (grace id p) (begun id p) (in_hand id p) (parked id p) (held_enough id t p un)
held_enough id t (Pick job u ∷ p) un = by_test (same job id) (held_enough id t p un)
  where
    by_test : (b : Bool) → holders id t p ≤ times t (in_hand id p) + times t (parked id p)
        → times_picked t (cond b (with_ticket u (picked_control id u p)) (picked_last id p)) + times_grace t (grace id p) + times_begun t (begun id p) ≤ times t (cond b (takes (picked_control id u p) u (state id p) (in_hand id p)) (in_hand id p)) + times t (cond b (parks (picked_control id u p) u (state id p) (parked id p)) (parked id p))
    by_test true le =
        let once_more = with_once t u (picked_control id u p) in
        let there = picked_times (picked_control id u p) u t (state id p) (in_hand id p) (parked id p) in omega (arith, le, once_more, there)
    by_test false le = omega (arith, le)
held_enough id t (Raise u ∷ p) un = by_test (u == t) refl un (λ e. held_enough id t p e)
  where
    by_test : (b : Bool) → (u == t) ≡ b → cond b (raises_of t p + 1) (raises_of t p) ≡ 0 → (raises_of t p ≡ 0 → holders id t p ≤ times t (in_hand id p) + times t (parked id p)) → holders id t (Raise u ∷ p) ≤ times t (without_ticket u (in_hand id p)) + times t (without_ticket u (parked id p))
    by_test true is e were = absurd (omega (arith, e))
    by_test false is e were =
        let le = were e in
        let hand : times t (without_ticket u (in_hand id p)) ≡ times t (in_hand id p) - once false = rw is at (times_without u t (in_hand id p)) in
        let rest : times t (without_ticket u (parked id p)) ≡ times t (parked id p) - once false = rw is at (times_without u t (parked id p)) in
        let less = raised_less t u (picked_last id p) in omega (arith, le, hand, rest, less)
held_enough id t (GraceOver job ∷ p) un = let le = held_enough id t p un in let less = ended_less t (same job id) (grace id p) in let up = picked_less t (same job id) (picked_last id p) in omega (arith, le, less, up)
held_enough id t (Signal c number (Ok done) ∷ p) un = let le = held_enough id t p un in let sent = sent_less t (is_child c (child id p)) (picked_last id p) (moment p) (grace id p) in omega (arith, le, sent)
held_enough id t (Begun job n ∷ p) un = let le = held_enough id t p un in let less = begun_less t n (same job id) (picked_last id p) (begun id p) in omega (arith, le, less)
held_enough id t (Poll job n true ∷ p) un = let le = held_enough id t p un in let less = ready_less t (same job id) (begun id p) in omega (arith, le, less)
held_enough id t (e ∷ p) un = let le = held_enough id t p un in let less = ended_less t (is_ended (ended_child e) (child id p)) (grace id p) in omega (arith, le, less)

-- a begun function has another ticket than the grace that stands
pub begun_apart : (id : Id) (f : Function) (g : Grace) (p : List Entry) → IsPlaced p → lives id p ≡ true → begun id p ≡ Some f → grace id p ≡ Some g → f.ticket ≢ g.ticket
begun_apart id f g p h alive is standing same_ticket =
    let there = h.begins id f is in
    let one = unraised_spot id f.ticket p h alive (omega (arith, there)) in
    let enough = held_enough id f.ticket p one.1 in
    let both : times_grace f.ticket (grace id p) + times_begun f.ticket (begun id p) ≡ 2 = rw (is, standing, ← same_ticket, eq-eqb f.ticket f.ticket refl) refl in
    omega (arith, one.0, enough, both)
