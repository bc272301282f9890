-- What one entry leaves of the places of tickets.
use Rattle.std.proofs.Common.{◌≡◌, ℕ, ◌≤◌, Bool, true, false, cond, List, [], ◌∷◌, Option, Some, None, Result, Ok, Err, refl, arith, ap, sym, ◌∙◌}
use Rattle.std.specs.Prelude.{◌==◌, ◌&&◌, ◌||◌, not, T, ℤ}
use Rattle.wx_text.specs.declared.list.Memory.{Memory}
use Rattle.wx_events.specs.declared.process.ProcessEnd.{ProcessEnd}
use Rattle.wx_command.specs.declared.spawnable.Spawnable.{Spawnable}
use Rattle.wx_control.specs.declared.id.Id.{Id}
use Rattle.wx_journal.specs.declared.child.HostFault.{HostFault}
use Rattle.wx_journal.specs.declared.child.SpawnTag.{SpawnTag}
use Rattle.wx_journal.specs.declared.entry.Entry.{Entry}
use Rattle.wx_journal.specs.declared.entry.Entry.TheVariants.{Word as Said, Made, Asked, Pick, GraceOver, Spawn, Signal, Kill, Wait, Dropped, Raise, Gone, Run, Begun, Poll, Hook, JobError}
use Rattle.wx_journal.specs.Sorts.{Subject, OfJob, OfChild, OfTicket, sort, is_job, is_of_job}
use Rattle.wx_journal.specs.Names.{ticket_count, child_count, moment}
use Rattle.wx_machine.specs.declared.function.Function.{Function}
use Rattle.wx_machine.specs.declared.grace.Grace.{Grace}
use Rattle.wx_machine.specs.History.{same, lives, child, is_child, grace, begun, begun_with, picked_last, begins_by, in_hand, asked_of, owner}
use Rattle.wx_machine.specs.JobLaws.{NamesChildren, NamesTickets}
use Rattle.wx_machine.specs.Held.{times}
use Rattle.wx_machine.specs.TicketLaws.{Throughout, raises_of, is_asked, spots, AreInOnePlace, case_ticket, IsUnraised, IsUnraisedOf, AreRaisedLast, is_of, AllWait, IsPlaced}
use Rattle.wx_machine.proofs.Owners.{self, same-is, either, child_owner}
use Rattle.wx_machine.proofs.Tickets.{asked_kept}
use Rattle.wx_machine.proofs.Frame.{not_its}

-- ---- what is known of a journal whose tickets are in place

throughout_now : (P : List Entry → Type 0) (p : List Entry) → Throughout P p → P p
throughout_now P [] h = h
throughout_now P (e ∷ p) h = h.0

pub one_now : (p : List Entry) → IsPlaced p → AreInOnePlace p
one_now p h = throughout_now AreInOnePlace p h.one

-- a ticket is asked once: where it was asked of a job, it was asked of no other
asked_here : (u t : ℕ) (job id : Id) (p : List Entry) (a b : Bool) → same job id ≡ a → (u == t) ≡ b → NamesTickets p → u ≡ ticket_count p → (is_asked id t p ≡ true → asked_of t p ≡ Some id) → (a && b || is_asked id t p) ≡ true → cond (u == t) (Some job) (asked_of t p) ≡ Some id
asked_here u t job id p true true mine is own name look e = rw is (ap (λ j. Some j) (same-is job id mine))
asked_here u t job id p true false mine is own name look e = rw is (look e)
asked_here u t job id p false b mine is own name look e = asked_kept t u id job p own name (look e)

pub asked_was : (id : Id) (t : ℕ) (p : List Entry) → NamesTickets p → is_asked id t p ≡ true → asked_of t p ≡ Some id
asked_was id t [] own e = cc
asked_was id t (Made job ∷ p) own e = by_test (same job id) e (λ h. asked_was id t p own h)
  where
    by_test : (b : Bool) → cond b false (is_asked id t p) ≡ true → (is_asked id t p ≡ true → asked_of t p ≡ Some id) → asked_of t p ≡ Some id
    by_test true h was = cc
    by_test false h was = was h
asked_was id t (Asked u job level control ∷ p) own e = asked_here u t job id p (same job id) (u == t) refl refl own.1 own.0 (λ h. asked_was id t p own.1 h) e
asked_was id t (_ ∷ p) own e = asked_was id t p own e

-- a ticket that is somewhere was asked
somewhere : (id : Id) (t : ℕ) (p : List Entry) → IsPlaced p → 1 ≤ spots id t p → is_asked id t p ≡ true
somewhere id t p h le = by_test (is_asked id t p) (h.nowhere id t)
  where
    by_test : (b : Bool) → (b ≡ false → spots id t p ≡ 0) → b ≡ true
    by_test true none = refl
    by_test false none = let zero_spots = none refl in absurd (omega (arith, zero_spots, le))

-- of a job that lives it wasn't raised, and it is in one place
pub unraised_spot : (id : Id) (t : ℕ) (p : List Entry) → IsPlaced p → lives id p ≡ true → 1 ≤ spots id t p → (spots id t p ≡ 1) × (raises_of t p ≡ 0)
unraised_spot id t p h alive le = let one = (one_now p h).one_place id t alive (somewhere id t p h le) in (omega (arith, one, le), omega (arith, one, le))

pub spot_of : (id : Id) (t : ℕ) (p : List Entry) → IsPlaced p → 1 ≤ spots id t p → asked_of t p ≡ Some id
spot_of id t p h le = asked_was id t p h.tickets (somewhere id t p h le)

pub hand_unraised : (id : Id) (t : ℕ) (p : List Entry) → IsPlaced p → lives id p ≡ true → 1 ≤ times t (in_hand id p) → raises_of t p ≡ 0
hand_unraised id t p h alive le = (unraised_spot id t p h alive (omega (arith, le))).1

pub placed_none : IsPlaced []
placed_none = record {
  children = tt;
  tickets = tt;
  one = record { one_place = λ id t alive asked. cc; raised_once = λ t. omega arith };
  nowhere = λ id t e. refl;
  unnamed = λ t le. refl;
  held = λ id g e. cc;
  begins = λ id f e. cc;
  last = tt;
  pressing = tt;
  polled = tt;
}

-- ---- the tickets that a grace and a begun function hold

-- they are in hand
pub record AreHeld (standing : Option Grace) (function : Option Function) (hand : List ℕ) : Type 0 where
  pub graces : (g : Grace) → standing ≡ Some g → 1 ≤ times g.ticket hand
  pub functions : (f : Function) → function ≡ Some f → 1 ≤ times f.ticket hand

abbrev pub HoldsTickets : List Entry → Type 0
HoldsTickets p = (id : Id) → AreHeld (grace id p) (begun id p) (in_hand id p)

pub held_of : (p : List Entry) → IsPlaced p → HoldsTickets p
held_of p h id = record { graces = h.held id; functions = h.begins id }

-- a grace has ended, a function is ready, or neither is there any longer, nor what was in hand
ended_held : (b : Bool) (o : Option Grace) (function : Option Function) (hand : List ℕ) → AreHeld o function hand → AreHeld (cond b None o) function hand
ended_held true o function hand h = record { graces = λ g e. cc; functions = h.functions }
ended_held false o function hand h = h

ready_held : (b : Bool) (o : Option Grace) (function : Option Function) (hand : List ℕ) → AreHeld o function hand → AreHeld o (cond b None function) hand
ready_held true o function hand h = record { graces = h.graces; functions = λ f e. cc }
ready_held false o function hand h = h

pub gone_held : (b : Bool) (o : Option Grace) (function : Option Function) (hand : List ℕ) → AreHeld o function hand → AreHeld (cond b None o) (cond b None function) (cond b [] hand)
gone_held true o function hand h = record { graces = λ g e. cc; functions = λ f e. cc }
gone_held false o function hand h = h

-- ---- entries that leave every ticket where it is

abbrev pub is_still : Entry → Bool
is_still (Made job) = false
is_still (Asked ticket job level control) = false
is_still (Pick job ticket) = false
is_still (Raise ticket) = false
is_still (Gone job) = false
is_still (_) = true

-- what such an entry leaves
record Leaves (e : Entry) (p : List Entry) : Type 0 where
  children : NamesChildren (e ∷ p)
  held : HoldsTickets (e ∷ p)
  last : AreRaisedLast (e ∷ p)

placed_still : (e : Entry) (p : List Entry) → is_still e ≡ true → Leaves e p → AllWait is_of p e → IsPlaced p → IsPlaced (e ∷ p)
placed_still (Made job) p s l w h = absurd cc
placed_still (Asked ticket job level control) p s l w h = absurd cc
placed_still (Pick job ticket) p s l w h = absurd cc
placed_still (Raise ticket) p s l w h = absurd cc
placed_still (Gone job) p s l w h = absurd cc
placed_still (_) p s l w h =
    let o = one_now p h in record {
      children = l.children;
      tickets = h.tickets;
      one = (record { one_place = o.one_place; raised_once = o.raised_once }, h.one);
      nowhere = h.nowhere;
      unnamed = h.unnamed;
      held = λ i. (l.held i).graces;
      begins = λ i. (l.held i).functions;
      last = l.last;
      pressing = h.pressing;
      polled = (w, h.polled);
    }

-- entries that are of no job
abbrev pub IsSilent : Entry → Type 0
IsSilent e = T (not (is_of_job e))

silent_still : (e : Entry) → IsSilent e → is_still e ≡ true
silent_still (Said word) s = search
silent_still (_) s = search

silent_leaves : (e : Entry) (p : List Entry) → IsSilent e → IsPlaced p → HoldsTickets p → Leaves e p
silent_leaves (Said word) p s h held = search
silent_leaves (_) p s h held = search

not_job : (b : Bool) → T (not b) → b ≡ false
not_job true s = absurd s
not_job false s = refl

not_of : (id : Id) (p : List Entry) (subject : Subject) → is_job subject ≡ false → is_of id p subject ≡ false
not_of id p (OfJob job) e = absurd cc
not_of id p (OfChild c) e = absurd cc
not_of id p (OfTicket t) e = absurd cc
not_of id p (_) e = refl

silent_waits : (e : Entry) (p : List Entry) → IsSilent e → AllWait is_of p e
silent_waits e p s id mine = let other = not_of id p (sort e).subject (not_job (is_of_job e) s) in let both : true ≡ false = sym mine ∙ other in absurd cc

pub placed_silent : (e : Entry) (p : List Entry) → IsSilent e → IsPlaced p → IsPlaced (e ∷ p)
placed_silent e p s h = placed_still e p (silent_still e s) (silent_leaves e p s h (held_of p h)) (silent_waits e p s) h

-- an entry that ends a grace leaves the others
pub placed_over : (id : Id) (p : List Entry) → AllWait is_of p (GraceOver id) → IsPlaced p → IsPlaced (GraceOver id ∷ p)
placed_over id p wait h = placed_still (GraceOver id) p refl (record { children = h.children; held = λ i. ended_held (same id i) (grace i p) (begun i p) (in_hand i p) (held_of p h i); last = h.last }) wait h

pub placed_dropped : (c : ℕ) (p : List Entry) → IsPlaced p → IsPlaced (Dropped c ∷ p)
placed_dropped c p h = placed_still (Dropped c) p refl (record { children = h.children; held = λ i. ended_held (is_child c (child i p)) (grace i p) (begun i p) (in_hand i p) (held_of p h i); last = h.last }) (λ id mine f is. tt) h

-- ---- calls of a job, where the ticket of its case wasn't raised

pub placed_spawn : (id : Id) (tag : SpawnTag) (what : Spawnable) (a : Result (Unit {0}) HostFault) (p : List Entry) → IsUnraised (case_ticket id p) p → AllWait is_of p (Spawn (child_count p) id tag what a) → IsPlaced p → IsPlaced (Spawn (child_count p) id tag what a ∷ p)
placed_spawn id tag what a p un wait h = placed_still (Spawn (child_count p) id tag what a) p refl (record { children = (refl, h.children); held = held_of p h; last = (un, h.last) }) wait h

pub placed_hook : (id : Id) (n : ℕ) (a : Result Spawnable Memory) (p : List Entry) → IsUnraised (case_ticket id p) p → AllWait is_of p (Hook id n a) → IsPlaced p → IsPlaced (Hook id n a ∷ p)
placed_hook id n a p un wait h = placed_still (Hook id n a) p refl (record { children = h.children; held = held_of p h; last = (un, h.last) }) wait h

pub placed_shown : (id : Id) (n code : ℕ) (p : List Entry) → IsUnraised (case_ticket id p) p → AllWait is_of p (JobError id n code) → IsPlaced p → IsPlaced (JobError id n code ∷ p)
placed_shown id n code p un wait h = placed_still (JobError id n code) p refl (record { children = h.children; held = held_of p h; last = (un, h.last) }) wait h

pub placed_run : (id : Id) (n : ℕ) (p : List Entry) → IsUnraised (case_ticket id p) p → AllWait is_of p (Run id n) → IsPlaced p → IsPlaced (Run id n ∷ p)
placed_run id n p un wait h = placed_still (Run id n) p refl (record { children = h.children; held = held_of p h; last = (un, h.last) }) wait h

-- a function is begun, where the ticket is in hand that was picked last, and that it holds
pub placed_begun : (id : Id) (n : ℕ) (p : List Entry) → IsUnraised (case_ticket id p) p → AreHeld (grace id p) (begun_with n (picked_last id p)) (in_hand id p) → AllWait is_of p (Begun id n) → IsPlaced p → IsPlaced (Begun id n ∷ p)
placed_begun id n p un held wait h = placed_still (Begun id n) p refl (record { children = h.children; held = λ i. by_test i (same id i) refl; last = (un, h.last) }) wait h
  where
    by_test : (i : Id) (b : Bool) → same id i ≡ b → AreHeld (grace i p) (cond b (begun_with n (picked_last i p)) (begun i p)) (in_hand i p)
    by_test i true is = let mine : id ≡ i = same-is id i is in rw (← mine) held
    by_test i false is = held_of p h i

poll_held : (id : Id) (n : ℕ) (ready : Bool) (p : List Entry) → HoldsTickets p → HoldsTickets (Poll id n ready ∷ p)
poll_held id n true p held i = ready_held (same id i) (grace i p) (begun i p) (in_hand i p) (held i)
poll_held id n false p held i = held i

-- a begun function is polled
pub placed_poll : (id : Id) (f : Function) (n : ℕ) (ready : Bool) (p : List Entry) → lives id p ≡ true → begun id p ≡ Some f → AllWait is_of p (Poll id n ready) → IsPlaced p → IsPlaced (Poll id n ready ∷ p)
placed_poll id f n ready p alive is wait h = placed_still (Poll id n ready) p refl (record { children = h.children; held = poll_held id n ready p (held_of p h); last = (unraised, h.last) }) wait h
  where
    unraised : IsUnraised (case_ticket id (Poll id n ready ∷ p)) (Poll id n ready ∷ p)
    unraised = rw (self id, is) (hand_unraised id f.ticket p h alive (h.begins id f is))

-- where a child of the job runs, what is asked of its owner is asked of the job
of_owner : (id : Id) (c : ℕ) (p q : List Entry) → NamesChildren p → child id p ≡ Some c → IsUnraised (case_ticket id q) q → IsUnraisedOf (owner c p) q
of_owner id c p q named runs un = let its : owner c p ≡ Some id = child_owner id c p named runs in rw its un

pub placed_kill : (id : Id) (c : ℕ) (a : Result (Unit {0}) HostFault) (p : List Entry) → child id p ≡ Some c → IsUnraised (case_ticket id p) p → AllWait is_of p (Kill c a) → IsPlaced p → IsPlaced (Kill c a ∷ p)
placed_kill id c a p runs un wait h = placed_still (Kill c a) p refl (record { children = h.children; held = held_of p h; last = (of_owner id c p p h.children runs un, h.last) }) wait h

wait_held : (c : ℕ) (a : Result ProcessEnd HostFault) (p : List Entry) → HoldsTickets p → HoldsTickets (Wait c a ∷ p)
wait_held c (Ok status) p held i = ended_held (is_child c (child i p)) (grace i p) (begun i p) (in_hand i p) (held i)
wait_held c (Err fault) p held i = held i

pub placed_wait : (id : Id) (c : ℕ) (a : Result ProcessEnd HostFault) (p : List Entry) → child id p ≡ Some c → IsUnraised (case_ticket id (Wait c a ∷ p)) (Wait c a ∷ p) → AllWait is_of p (Wait c a) → IsPlaced p → IsPlaced (Wait c a ∷ p)
placed_wait id c a p runs un wait h =
    placed_still (Wait c a) p refl (record { children = h.children; held = wait_held c a p (held_of p h); last = (of_owner id c p (Wait c a ∷ p) h.children runs un, h.last) }) wait h

-- ---- a signal, which may begin a grace

-- where the grace that it begins has its ticket in hand
signal_held : (id : Id) (c : ℕ) (number : ℤ) (a : Result (Unit {0}) HostFault) (p : List Entry) → child id p ≡ Some c → ((g : Grace) → begins_by (picked_last id p) (moment p) (grace id p) ≡ Some g → 1 ≤ times g.ticket (in_hand id p)) → IsPlaced p → HoldsTickets (Signal c number a ∷ p)
signal_held id c number (Ok done) p runs sent h i = by_test (same id i) refl
  where
    by_test : (b : Bool) → same id i ≡ b → AreHeld (cond (is_child c (child i p)) (begins_by (picked_last i p) (moment p) (grace i p)) (grace i p)) (begun i p) (in_hand i p)
    by_test true is =
        let mine : id ≡ i = same-is id i is in
        rw (← mine) (either (λ o. AreHeld o (begun id p) (in_hand id p)) (is_child c (child id p)) (begins_by (picked_last id p) (moment p) (grace id p)) (grace id p) (record { graces = sent; functions = h.begins id }) (held_of p h id))
    by_test false is =
        let other = not_its i id c p (λ e. (let mine : same id id ≡ false = (rw e at is) in let self_is = self id in cc)) h.children runs in
        rw other (held_of p h i)
signal_held id c number (Err fault) p runs sent h i = held_of p h i

pub placed_signal : (id : Id) (c : ℕ) (number : ℤ) (a : Result (Unit {0}) HostFault) (p : List Entry) → child id p ≡ Some c → ((g : Grace) → begins_by (picked_last id p) (moment p) (grace id p) ≡ Some g → 1 ≤ times g.ticket (in_hand id p)) → IsUnraised (case_ticket id p) p → AllWait is_of p (Signal c number a) → IsPlaced p → IsPlaced (Signal c number a ∷ p)
placed_signal id c number a p runs sent un wait h = placed_still (Signal c number a) p refl (record { children = h.children; held = signal_held id c number a p runs sent h; last = (of_owner id c p p h.children runs un, h.last) }) wait h
