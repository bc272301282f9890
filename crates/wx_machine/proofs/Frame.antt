-- An entry that is not about a job leaves what is asked of it.
use Rattle.std.proofs.Common.{◌≡◌, ◌≢◌, ℕ, ◌≤◌, Bool, true, false, List, ◌∷◌, Option, Some, None, Ok, Err, refl, ap, sym, ◌∙◌, ne_eqb, arith}
use Rattle.std.specs.Prelude.{◌==◌, ◌-◌, not}
use Rattle.wx_events.specs.declared.process.ProcessEnd.{ProcessEnd}
use Rattle.wx_control.specs.declared.id.Id.{Id}
use Rattle.wx_control.specs.declared.level.Level.TheVariants.{Normal, High, Urgent}
use Rattle.wx_journal.specs.declared.entry.Entry.{Entry}
use Rattle.wx_journal.specs.declared.entry.Entry.TheVariants.{Turn as Turned, Hand, Made, Asked, Pick, GraceOver, Spawn, Signal, Kill, Wait, Dropped, Raise, Gone, Run, Begun, Poll, Hook, JobError}
use Rattle.wx_journal.specs.Sorts.{Subject, OfJob, OfChild, OfTicket, sort, is_of_job}
use Rattle.wx_journal.specs.declared.entry.TurnKind.TheVariants as turn
use Rattle.wx_journal.specs.Names.{moment, ticket_count}
use Rattle.wx_machine.specs.declared.state.CommandState.{CommandState}
use Rattle.wx_machine.specs.declared.state.CommandState.TheVariants.{Pending, Running, Finished}
use Rattle.wx_machine.specs.declared.function.Function.{Function}
use Rattle.wx_machine.specs.declared.grace.Grace.{Grace}
use Rattle.wx_machine.specs.History.{same, waits, child, unless, is_child, names_end, state, finish, grace, begun, without_ticket, parked, in_hand, command, JobHistory, history}
use Rattle.wx_machine.specs.Held.{once, times, IsInHand}
use Rattle.wx_machine.specs.TicketLaws.{spots, IsPlacedOf}
use Rattle.wx_machine.specs.Leaves.{SameHistory}
use Rattle.wx_machine.specs.JobLaws.{NamesChildren}
use Rattle.wx_machine.specs.States.{child_of}
use Rattle.wx_machine.proofs.Owners.{child_owner, state_owner}
use Rattle.wx_machine.proofs.Times.{times_without}

pub same_history : (i : Id) (p : List Entry) → SameHistory i p p
same_history i p = record { history_same = refl; command_same = refl; tickets_later = omega arith; placed_still = λ h. h }

pub history_then : (i : Id) (p q r : List Entry) → SameHistory i p q → SameHistory i q r → SameHistory i p r
history_then i p q r a b = record { history_same = b.history_same ∙ a.history_same; command_same = b.command_same ∙ a.command_same; tickets_later = (let one = a.tickets_later in let two = b.tickets_later in omega (arith, one, two)); placed_still = λ h. b.placed_still (a.placed_still h) }

-- ---- entries that are not about a job

-- no grace and no function of the job holds this ticket
pub record HoldsNot (i : Id) (t : ℕ) (p : List Entry) : Type 0 where
  pub graces : (g : Grace) → grace i p ≡ Some g → t ≢ g.ticket
  pub functions : (f : Function) → begun i p ≡ Some f → t ≢ f.ticket

-- another job, no child of this one, and no ticket that it has parked, or that its grace or its function holds
abbrev pub IsOther : Id → List Entry → Subject → Type 0
IsOther i p (OfJob job) = same job i ≡ false
IsOther i p (OfChild c) = (child i p ≢ Some c) × (child_of (state i p) ≢ Some c)
IsOther i p (OfTicket t) = (without_ticket t (parked i p) ≡ parked i p) × HoldsNot i t p
IsOther i p (_) = Unit {0}

-- an entry that says nothing of a job: a turn, where it tells no end of the child that runs, and what is about others
abbrev pub IsApart : Id → List Entry → Entry → Type 0
IsApart i p (Turned t) = names_end t.kind (child i p) ≡ false
IsApart i p (e) = IsOther i p (sort e).subject

pub not_child : (o : Option ℕ) (d : ℕ) → o ≢ Some d → (is_child d o ≡ false) × (unless d o ≡ o)
not_child None d never = (refl, refl)
not_child (Some x) d never = let test : (x == d) ≡ false = ne_eqb x d (λ e. never (ap (λ n. Some n) e)) in (test, rw test refl)

finish_other : (s : CommandState) (d : ℕ) (status : ProcessEnd) (at : ℕ) → child_of s ≢ Some d → finish d status at s ≡ s
finish_other Pending d status at never = refl
finish_other (Running x started) d status at never = let test : (x == d) ≡ false = ne_eqb x d (λ e. never (ap (λ n. Some n) e)) in rw test refl
finish_other (Finished before started finished) d status at never = refl

-- it leaves the history of the job
pub history_apart : (i : Id) (e : Entry) (p : List Entry) → IsApart i p e → history i (e ∷ p) ≡ history i p
history_apart i (Turned t) p a = rw a refl
history_apart i (Made job) p a = rw a refl
history_apart i (Asked t job level control) p a = rw a refl
history_apart i (Pick job t) p a = rw a refl
history_apart i (GraceOver job) p a = rw a refl
history_apart i (Spawn c job tag what (Ok done)) p a = rw a refl
history_apart i (Spawn c job tag what (Err fault)) p a = rw a refl
history_apart i (Signal c number (Ok done)) p a = rw (not_child (child i p) c a.0).0 refl
history_apart i (Wait c (Ok status)) p a = let none = not_child (child i p) c a.0 in rw (none.0, none.1, finish_other (state i p) c status (moment p) a.1) refl
history_apart i (Wait c (Err fault)) p a = rw (not_child (child i p) c a.0).0 refl
history_apart i (Dropped c) p a = let none = not_child (child i p) c a.0 in rw (none.0, none.1) refl
history_apart i (Raise t) p a = rw a.0 refl
history_apart i (Gone job) p a = rw a refl
history_apart i (Begun job n) p a = rw a refl
history_apart i (Poll job n true) p a = rw a refl
history_apart i (Hook job n answer) p a = rw a refl
history_apart i (_) p a = refl

tickets_on : (e : Entry) (p : List Entry) → ticket_count p ≤ ticket_count (e ∷ p)
tickets_on (Asked t job level control) p = omega arith
tickets_on (_) p = omega arith

-- ---- its tickets

-- no more is in hand, and what its grace and its function hold is in hand still
record HandKept (i : Id) (p p' : List Entry) : Type 0 where
  less : (u : ℕ) → times u (in_hand i p') ≤ times u (in_hand i p)
  graces : (g : Grace) → grace i p ≡ Some g → IsInHand i g.ticket p → IsInHand i g.ticket p'
  functions : (f : Function) → begun i p ≡ Some f → IsInHand i f.ticket p → IsInHand i f.ticket p'

hand_same : (i : Id) (p p' : List Entry) → in_hand i p' ≡ in_hand i p → HandKept i p p'
hand_same i p p' same_hand = record { less = λ u. rw same_hand (omega arith); graces = λ g e h. rw same_hand h; functions = λ f e h. rw same_hand h }

-- a ticket that was raised is no other one
pub raised_other : (i : Id) (t u : ℕ) (p : List Entry) → t ≢ u → IsInHand i u p → IsInHand i u (Raise t ∷ p)
raised_other i t u p other there =
    let hs = times_without t u (in_hand i p) in
    let hs' : times u (in_hand i (Raise t ∷ p)) ≡ times u (in_hand i p) - once false = rw (ne_eqb t u other) at hs in
    omega (arith, hs', there)

hand_apart : (i : Id) (e : Entry) (p : List Entry) → IsApart i p e → HandKept i p (e ∷ p)
hand_apart i (Made job) p a = hand_same i p (Made job ∷ p) (rw a refl)
hand_apart i (Pick job t) p a = hand_same i p (Pick job t ∷ p) (rw a refl)
hand_apart i (Gone job) p a = hand_same i p (Gone job ∷ p) (rw a refl)
hand_apart i (Raise t) p a = record {
  less = λ u. (let hs = times_without t u (in_hand i p) in omega (arith, hs));
  graces = λ g e h. raised_other i t g.ticket p (a.1.graces g e) h;
  functions = λ f e h. raised_other i t f.ticket p (a.1.functions f e) h;
}
hand_apart i (e) p a = hand_same i p (e ∷ p) refl

-- so they are placed still, where the history is the same
placed_kept : (i : Id) (p p' : List Entry) → history i p' ≡ history i p → ticket_count p ≤ ticket_count p' → HandKept i p p' → IsPlacedOf i p → IsPlacedOf i p'
placed_kept i p p' same_history later hand s =
    let urgent : waits i Urgent p' ≡ waits i Urgent p = ap (λ (h : JobHistory). h.urgent) same_history in
    let high : waits i High p' ≡ waits i High p = ap (λ (h : JobHistory). h.high) same_history in
    let normal : waits i Normal p' ≡ waits i Normal p = ap (λ (h : JobHistory). h.normal) same_history in
    let parking : parked i p' ≡ parked i p = ap (λ (h : JobHistory). h.parked) same_history in
    let standing : grace i p' ≡ grace i p = ap (λ (h : JobHistory). h.grace) same_history in
    let function : begun i p' ≡ begun i p = ap (λ (h : JobHistory). h.begun) same_history in
    let fewer : (u : ℕ) → spots i u p' ≤ spots i u p = λ u. rw (urgent, high, normal, parking) (let less = hand.less u in omega (arith, less)) in
    record {
      one = λ u. (let less = fewer u in let one = s.one u in omega (arith, less, one));
      unnamed = λ u le. (let less = fewer u in let none = s.unnamed u (omega (arith, later, le)) in omega (arith, less, none));
      graces = λ g e. (let was : grace i p ≡ Some g = sym standing ∙ e in hand.graces g was (s.graces g was));
      functions = λ f e. (let was : begun i p ≡ Some f = sym function ∙ e in hand.functions f was (s.functions f was));
      apart = λ f g e k. s.apart f g (sym function ∙ e) (sym standing ∙ k);
    }

-- and where it creates nothing of it either, all that is asked is the same
pub frame_apart : (i : Id) (e : Entry) (p : List Entry) → IsApart i p e → command i (e ∷ p) ≡ command i p → SameHistory i p (e ∷ p)
frame_apart i e p a kept = record { history_same = history_apart i e p a; command_same = kept; tickets_later = tickets_on e p; placed_still = placed_kept i p (e ∷ p) (history_apart i e p a) (tickets_on e p) (hand_apart i e p a) }

pub frame_turn : (i : Id) (at : ℕ) (id : Id) (p : List Entry) → SameHistory i p (Turned (record { at = at; kind = turn.Job id }) ∷ p)
frame_turn i at id p = frame_apart i (Turned (record { at = at; kind = turn.Job id })) p refl refl

-- entries that change nothing of any job
abbrev pub is_silent : Entry → Bool
is_silent (Turned t) = false
is_silent (Hand n names acts) = false
is_silent (Kill c answer) = true
is_silent (Run job n) = true
is_silent (Poll job n ready) = not ready
is_silent (JobError job n code) = true
is_silent (e) = not (is_of_job e)

silent_same : (i : Id) (e : Entry) (p : List Entry) → is_silent e ≡ true → (history i (e ∷ p) ≡ history i p) × (in_hand i (e ∷ p) ≡ in_hand i p) × (command i (e ∷ p) ≡ command i p)
silent_same i (Poll job n true) p s = absurd cc
silent_same i (_) p s = search

pub frame_silent : (i : Id) (e : Entry) (p : List Entry) → is_silent e ≡ true → SameHistory i p (e ∷ p)
frame_silent i e p s = let h = silent_same i e p s in record { history_same = h.0; command_same = h.2; tickets_later = tickets_on e p; placed_still = placed_kept i p (e ∷ p) h.0 (tickets_on e p) (hand_same i p (e ∷ p) h.1) }

-- ---- what is about one job is not about another

-- a child has one owner
apart : (i id : Id) (o : Option Id) → i ≢ id → o ≡ Some id → o ≡ Some i → ⊥
apart i id o ne its mine = let one : Some id ≡ Some i = sym its ∙ mine in ne (cc)

-- a child that runs for one job runs for no other
pub other_child : (i id : Id) (d : ℕ) (p : List Entry) → i ≢ id → NamesChildren p → child id p ≡ Some d → IsOther i p (OfChild d)
other_child i id d p ne own runs = let its = child_owner id d p own runs in (λ e. apart i id _ ne its (child_owner i d p own e), λ e. apart i id _ ne its (state_owner i d p own e))

pub not_its : (i id : Id) (d : ℕ) (p : List Entry) → i ≢ id → NamesChildren p → child id p ≡ Some d → is_child d (child i p) ≡ false
not_its i id d p ne own runs = (not_child (child i p) d (other_child i id d p ne own runs).0).0
