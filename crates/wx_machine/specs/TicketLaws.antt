-- Where each ticket is, and when it is raised. What waits for a grace, and for a function that was begun.
use Rattle.std.specs.Prelude.{◌≡◌, ◌≢◌, ℕ, ◌+◌, ◌≤◌, ◌==◌, nat_le, Bool, true, false, not, ◌&&◌, ◌||◌, if◌then◌else◌, Option, None, Some, List, [], ◌∷◌}
use Rattle.wx_control.specs.declared.id.Id.{Id}
use Rattle.wx_control.specs.declared.level.Level.TheVariants.{Normal, High, Urgent}
use Rattle.wx_journal.specs.declared.entry.Entry.{Entry}
use Rattle.wx_journal.specs.declared.entry.Entry.TheVariants.{Turn as Turned, Word as Said, Made, Asked, Pick, GraceOver, Spawn, Signal, Kill, Wait, Dropped, Raise, Gone, Run, Begun, Poll, Hook, JobError}
use Rattle.wx_journal.specs.declared.entry.TurnKind.{TurnKind}
use Rattle.wx_journal.specs.declared.entry.TurnKind.TheVariants as turn
use Rattle.wx_journal.specs.declared.entry.Word.TheVariants.{Later}
use Rattle.wx_journal.specs.Sorts.{Subject, OfWord, OfTicket, sort}
use Rattle.wx_journal.specs.Names.{ticket_count}
use Rattle.wx_machine.specs.declared.function.Function.{Function}
use Rattle.wx_machine.specs.declared.grace.Grace.{Grace}
use Rattle.wx_machine.specs.Added.{Each}
use Rattle.wx_machine.specs.History.{same, lives, waits, child, is_child, names_end, kept, grace, begun, parked, in_hand, asked_of, owner, has}
use Rattle.wx_machine.specs.JobLaws.{is_owner, is_on, NamesChildren, NamesTickets}
use Rattle.wx_machine.specs.Held.{times, times_waiting, IsInHand}

-- it holds of a journal, and of each one before it
abbrev pub Throughout : (List Entry → Type 0) → List Entry → Type 0
Throughout P [] = P []
Throughout P (e ∷ p) = P (e ∷ p) × Throughout P p

-- how often a ticket was raised
abbrev pub raises_of : ℕ → List Entry → ℕ
raises_of ticket [] = 0
raises_of ticket (Raise t ∷ p) = if t == ticket then raises_of ticket p + 1 else raises_of ticket p
raises_of ticket (_ ∷ p) = raises_of ticket p

-- a control was asked of the job under this ticket, in its history
abbrev pub is_asked : Id → ℕ → List Entry → Bool
is_asked id ticket [] = false
is_asked id ticket (Made job ∷ p) = if same job id then false else is_asked id ticket p
is_asked id ticket (Asked t job level control ∷ p) = same job id && t == ticket || is_asked id ticket p
is_asked id ticket (_ ∷ p) = is_asked id ticket p

-- in how many places a ticket is that wasn't raised: it waits at a level, is in hand, or is parked
abbrev pub spots : Id → ℕ → List Entry → ℕ
spots id ticket p = times_waiting ticket (waits id Urgent p) + times_waiting ticket (waits id High p) + times_waiting ticket (waits id Normal p) + times ticket (in_hand id p) + times ticket (parked id p)

-- Each ticket that was asked of a job that lives waits, is in hand, is parked, or was raised, and just one of these. No ticket
-- is raised twice.
pub record AreInOnePlace (p : List Entry) : Type 0 where
  pub one_place : (id : Id) (ticket : ℕ) → lives id p ≡ true → is_asked id ticket p ≡ true → spots id ticket p + raises_of ticket p ≡ 1
  pub raised_once : (ticket : ℕ) → raises_of ticket p ≤ 1

-- The ticket of the case in which a job is. A case begins where a control is picked, where a grace is over, where a begun function
-- is polled, and with the Wait of a child whose end is kept, where the ticket of the case before isn't in hand any longer: that
-- is the case of the end of the child, and its ticket that of the grace that stands.
abbrev pub ticket_of_grace : Option Grace → Option ℕ
ticket_of_grace None = None
ticket_of_grace (Some g) = Some g.ticket

abbrev pub ticket_of_function : Option Function → Option ℕ
ticket_of_function None = None
ticket_of_function (Some f) = Some f.ticket

abbrev pub is_held : Option ℕ → List ℕ → Bool
is_held None tickets = false
is_held (Some ticket) tickets = nat_le 1 (times ticket tickets)

abbrev pub wait_ticket : Bool → List ℕ → Option Grace → Option ℕ → Option ℕ
wait_ticket end hand standing before = if end && not (is_held before hand) then ticket_of_grace standing else before

abbrev pub case_ticket : Id → List Entry → Option ℕ
case_ticket id [] = None
case_ticket id (Pick job ticket ∷ p) = if same job id then Some ticket else case_ticket id p
case_ticket id (GraceOver job ∷ p) = if same job id then ticket_of_grace (grace id p) else case_ticket id p
case_ticket id (Poll job n ready ∷ p) = if same job id then ticket_of_function (begun id p) else case_ticket id p
case_ticket id (Wait c answer ∷ p) = if is_child c (child id p) then wait_ticket (kept id p) (in_hand id p) (grace id p) (case_ticket id p) else case_ticket id p
case_ticket id (_ ∷ p) = case_ticket id p

-- the ticket of the case of the job is in hand
abbrev pub IsBusy : Id → List Entry → Type 0
IsBusy id p = (t : ℕ) → case_ticket id p ≡ Some t → IsInHand id t p

-- the ticket of the case of this job wasn't raised
abbrev pub IsUnraised : Option ℕ → List Entry → Type 0
IsUnraised None p = Unit {0}
IsUnraised (Some ticket) p = raises_of ticket p ≡ 0

abbrev pub IsUnraisedOf : Option Id → List Entry → Type 0
IsUnraisedOf None p = Unit {0}
IsUnraisedOf (Some id) p = IsUnraised (case_ticket id p) p

-- A ticket is raised after every other call of its case, save that its job lets its child go and is gone, and other tickets are
-- raised: a call of a job comes only where the ticket of its case wasn't raised.
abbrev pub AreRaisedLast : List Entry → Type 0
AreRaisedLast [] = Unit {0}
AreRaisedLast (Spawn c id tag what answer ∷ p) = IsUnraised (case_ticket id p) p × AreRaisedLast p
AreRaisedLast (Signal c number answer ∷ p) = IsUnraisedOf (owner c p) p × AreRaisedLast p
AreRaisedLast (Kill c answer ∷ p) = IsUnraisedOf (owner c p) p × AreRaisedLast p
AreRaisedLast (Wait c answer ∷ p) = IsUnraisedOf (owner c p) (Wait c answer ∷ p) × AreRaisedLast p
AreRaisedLast (Run id n ∷ p) = IsUnraised (case_ticket id p) p × AreRaisedLast p
AreRaisedLast (Begun id n ∷ p) = IsUnraised (case_ticket id p) p × AreRaisedLast p
AreRaisedLast (Poll id n ready ∷ p) = IsUnraised (case_ticket id (Poll id n ready ∷ p)) (Poll id n ready ∷ p) × AreRaisedLast p
AreRaisedLast (Hook id n answer ∷ p) = IsUnraised (case_ticket id p) p × AreRaisedLast p
AreRaisedLast (JobError id n code ∷ p) = IsUnraised (case_ticket id p) p × AreRaisedLast p
AreRaisedLast (_ ∷ p) = AreRaisedLast p

-- a control of the level Normal is picked only where no grace stands
abbrev pub IsPressing : Id → ℕ → List Entry → Type 0
IsPressing id ticket p = has ticket (waits id Urgent p) ≡ false → has ticket (waits id High p) ≡ false → grace id p ≡ None

abbrev pub WaitForGraces : List Entry → Type 0
WaitForGraces [] = Unit {0}
WaitForGraces (Pick id ticket ∷ p) = IsPressing id ticket p × WaitForGraces p
WaitForGraces (_ ∷ p) = WaitForGraces p

-- ---- functions

-- this job, a child of it, or a ticket that was asked of it
abbrev pub is_of : Id → List Entry → Subject → Bool
is_of id p (OfTicket t) = is_owner id (asked_of t p)
is_of id p (subject) = is_on id p subject

-- a turn is about the job: it names it, or tells the end of its running child
abbrev pub is_turn_of : Id → List Entry → TurnKind → Bool
is_turn_of id p (turn.Job job) = same job id
is_turn_of id p (turn.Ask job ask) = same job id
is_turn_of id p (kind) = names_end kind (child id p)

-- the last turn is about the job
abbrev pub is_in_turn : Id → List Entry → Bool
is_in_turn id [] = false
is_in_turn id (Turned t ∷ p) = is_turn_of id p t.kind
is_in_turn id (_ ∷ p) = is_in_turn id p

-- the same as before, and the words that are said in a turn about the job
abbrev pub is_of_or_said : Id → List Entry → Subject → Bool
is_of_or_said id p OfWord = is_in_turn id p
is_of_or_said id p (subject) = is_of id p subject

-- the newest entry is a poll of this function, which isn't ready
abbrev pub IsPolled : Function → List Entry → Type 0
IsPolled f (Poll job n false ∷ p) = n ≡ f.n
IsPolled f (_) = ⊥

-- What may come of a job while this function of it is begun: its poll, the word behind one after which it isn't ready, a
-- control that is asked, and what ends the job.
abbrev pub MayComeBegun : Function → List Entry → Entry → Type 0
MayComeBegun f p (Poll job n ready) = n ≡ f.n
MayComeBegun f p (Said Later) = IsPolled f p
MayComeBegun f p (Asked ticket job level control) = Unit {0}
MayComeBegun f p (Dropped c) = Unit {0}
MayComeBegun f p (Gone job) = Unit {0}
MayComeBegun f p (_) = ⊥

-- while a function of the job is begun nothing else comes
abbrev pub WaitsForFunction : Id → List Entry → Entry → Type 0
WaitsForFunction id p e = (f : Function) → begun id p ≡ Some f → MayComeBegun f p e

-- the same of each job that an entry is of, in this sense
abbrev pub AllWait : (Id → List Entry → Subject → Bool) → List Entry → Entry → Type 0
AllWait mine p e = (id : Id) → mine id p (sort e).subject ≡ true → WaitsForFunction id p e

-- While a function that was begun isn't ready nothing else is done of its job, and no other word said in a turn about it.
abbrev pub WaitForFunctions : List Entry → Type 0
WaitForFunctions p = Each (AllWait is_of_or_said) p

-- a grace stands only while a child runs
abbrev pub GracesNeedChildren : List Entry → Type 0
GracesNeedChildren p = (id : Id) (g : Grace) → grace id p ≡ Some g → child id p ≢ None

-- ---- one job alone

-- What holds of the tickets of one job, whatever is said of others: each is in one place at most, and in none where it isn't named
-- yet. Those of its grace and of its begun function are in hand, and are two.
pub record IsPlacedOf (id : Id) (p : List Entry) : Type 0 where
  pub one : (ticket : ℕ) → spots id ticket p ≤ 1
  pub unnamed : (ticket : ℕ) → ticket_count p ≤ ticket → spots id ticket p ≡ 0
  pub graces : (g : Grace) → grace id p ≡ Some g → IsInHand id g.ticket p
  pub functions : (f : Function) → begun id p ≡ Some f → IsInHand id f.ticket p
  pub apart : (f : Function) (g : Grace) → begun id p ≡ Some f → grace id p ≡ Some g → f.ticket ≢ g.ticket

-- A ticket of the job is raised where it is in hand or parked, and is nowhere then: so once. Every other call of the job comes where
-- the ticket of its case is in hand: so before that is raised.
abbrev pub RaisesLast : Id → List Entry → Entry → Type 0
RaisesLast id p (Raise t) = (1 ≤ times t (in_hand id p) + times t (parked id p)) × (spots id t (Raise t ∷ p) ≡ 0)
RaisesLast id p (Spawn c job tag what answer) = IsBusy id p
RaisesLast id p (Signal c number answer) = IsBusy id p
RaisesLast id p (Kill c answer) = IsBusy id p
RaisesLast id p (Wait c answer) = IsBusy id (Wait c answer ∷ p)
RaisesLast id p (Run job n) = IsBusy id p
RaisesLast id p (Begun job n) = IsBusy id p
RaisesLast id p (Poll job n ready) = IsBusy id (Poll job n ready ∷ p)
RaisesLast id p (Hook job n answer) = IsBusy id p
RaisesLast id p (JobError job n code) = IsBusy id p
RaisesLast id p (_) = Unit {0}

-- What holds of the tickets of a journal whose jobs went by their plans. Names are the next ones; what wasn't asked is
-- nowhere, and what isn't named yet wasn't raised; the ticket of a grace is in hand, and so is that of a begun function.
pub record IsPlaced (p : List Entry) : Type 0 where
  pub children : NamesChildren p
  pub tickets : NamesTickets p
  pub one : Throughout AreInOnePlace p
  pub nowhere : (id : Id) (ticket : ℕ) → is_asked id ticket p ≡ false → spots id ticket p ≡ 0
  pub unnamed : (ticket : ℕ) → ticket_count p ≤ ticket → raises_of ticket p ≡ 0
  pub held : (id : Id) (g : Grace) → grace id p ≡ Some g → 1 ≤ times g.ticket (in_hand id p)
  pub begins : (id : Id) (f : Function) → begun id p ≡ Some f → 1 ≤ times f.ticket (in_hand id p)
  pub last : AreRaisedLast p
  pub pressing : WaitForGraces p
  pub polled : Each (AllWait is_of) p
