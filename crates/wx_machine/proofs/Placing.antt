-- What the rows of the table are built of leaves tickets in place.
use Rattle.std.proofs.Common.{◌≡◌, ◌≢◌, ℕ, ◌+◌, ◌≤◌, Bool, true, false, cond, List, [], ◌∷◌, Option, Some, None, Result, Ok, Err, refl, arith, sym, ◌∙◌, eq-eqb}
use Rattle.std.specs.Prelude.{not, is_err}
use Rattle.std.specs.Bool.{MatchBool}
use Rattle.std.proofs.lemmas.Bool.{leb-true}
use Rattle.wx_text.specs.declared.list.Memory.{Memory}
use Rattle.wx_events.specs.declared.process.ProcessEnd.{ProcessEnd}
use Rattle.wx_command.specs.declared.spawnable.Spawnable.{Spawnable}
use Rattle.wx_command.specs.declared.command.Command.{Command}
use Rattle.wx_command.specs.Spawnables.{spawnable_of}
use Rattle.wx_control.specs.declared.id.Id.{Id}
use Rattle.wx_journal.specs.declared.child.HostFault.{HostFault}
use Rattle.wx_journal.specs.declared.child.SpawnTag.{SpawnTag}
use Rattle.wx_journal.specs.declared.entry.Entry.{Entry}
use Rattle.wx_journal.specs.declared.entry.Entry.TheVariants.{Kill, Wait, Raise, Hook, JobError}
use Rattle.wx_machine.specs.declared.grace.Grace.{Grace}
use Rattle.wx_machine.specs.History.{lives, child, kept, grace, begun, parked, in_hand}
use Rattle.wx_machine.specs.Held.{times}
use Rattle.wx_machine.specs.Table.{Words, Given, Left, Spawns, Waits, Plan, Done, Owes, Kit, adds, raises, shows, reap, waiters, raise_grace, restart, spawn, fresh_by, fresh, leave}
use Rattle.wx_machine.specs.Case.{newest_code, entry}
use Rattle.wx_machine.specs.TicketLaws.{ticket_of_grace, is_held, wait_ticket, case_ticket, IsBusy, WaitsForFunction, IsPlacedOf, IsPlaced}
use Rattle.wx_machine.proofs.Always.{Always, both}
use Rattle.wx_machine.proofs.Frame.{raised_other}
use Rattle.wx_machine.proofs.OneJob.{IsInTurn, of_more, raised_nowhere}

-- tickets are in place behind the entry that comes
abbrev pub Placing : List Entry → Entry → Plan → Type 0
Placing p e k = IsPlaced (e ∷ p)

-- it comes in its turn, of this job
abbrev pub InTurn : Id → List Entry → Entry → Plan → Type 0
InTurn id p e k = IsInTurn id p e

-- ---- what a plan goes by

-- tickets are placed, the job lives, and no function of it is begun
pub record MayAct (id : Id) (p : List Entry) : Type 0 where
  pub placed : IsPlacedOf id p
  pub alive : lives id p ≡ true
  pub free : begun id p ≡ None

-- The ticket is in hand, and no grace holds it: it may be raised.
pub record MayBeRaised (id : Id) (t : ℕ) (p : List Entry) : Type 0 where
  pub acts : MayAct id p
  pub in_hand : 1 ≤ times t (in_hand id p)
  pub unheld : (g : Grace) → grace id p ≡ Some g → t ≢ g.ticket

-- no grace of the job stands
pub record IsCalm (id : Id) (p : List Entry) : Type 0 where
  pub acts : MayAct id p
  pub none : grace id p ≡ None

-- what was in hand is in hand still
abbrev AllStayInHand : Id → List Entry → List Entry → Type 0
AllStayInHand id p q = (t : ℕ) → 1 ≤ times t (in_hand id p) → 1 ≤ times t (in_hand id q)

pub free_calm : (id : Id) (t : ℕ) (p : List Entry) → IsCalm id p → 1 ≤ times t (in_hand id p) → MayBeRaised id t p
free_calm id t p c le = record { acts = c.acts; in_hand = le; unheld = λ g e is. (let none : None ≡ Some g = sym c.none ∙ e in absurd cc) }

-- where none is begun anything may come
pub free_waits : (id : Id) (p : List Entry) (e : Entry) → begun id p ≡ None → WaitsForFunction id p e
free_waits id p e free f is = let none : None ≡ Some f = sym free ∙ is in absurd cc

-- ---- one entry, in its turn

-- after which no function is begun either
pub acts_more : (id : Id) (p : List Entry) (e : Entry) → MayAct id p → IsInTurn id p e → lives id (e ∷ p) ≡ true → begun id (e ∷ p) ≡ None → MayAct id (e ∷ p)
acts_more id p e m o alive free = record { placed = of_more id p e m.placed o; alive = alive; free = free }

-- a ticket is raised
turn_raise : (id : Id) (t : ℕ) (p : List Entry) → MayAct id p → 1 ≤ times t (in_hand id p) + times t (parked id p) → ((g : Grace) → grace id p ≡ Some g → t ≢ g.ticket) → IsInTurn id p (Raise t)
turn_raise id t p m there unheld = record { alive = m.alive; waits = free_waits id p (Raise t) m.free; raises = (there, raised_nowhere id t p m.placed there); moves = (there, unheld) }

-- a call on the hooks
turn_shown : (id : Id) (n code : ℕ) (p : List Entry) → MayAct id p → IsBusy id p → IsInTurn id p (JobError id n code)
turn_shown id n code p m busy = record { alive = m.alive; waits = free_waits id p (JobError id n code) m.free; raises = busy; moves = refl }

turn_hook : (id : Id) (n : ℕ) (a : Result Spawnable Memory) (p : List Entry) → MayAct id p → IsBusy id p → IsInTurn id p (Hook id n a)
turn_hook id n a p m busy = record { alive = m.alive; waits = free_waits id p (Hook id n a) m.free; raises = busy; moves = refl }

-- a call on a child
turn_spawn : (id : Id) (tag : SpawnTag) (words : Words) (a : Result (Unit {0}) HostFault) (p : List Entry) → MayAct id p → IsBusy id p → IsInTurn id p (entry p (Spawns id tag words) a)
turn_spawn id tag words a p m busy = record { alive = m.alive; waits = free_waits id p (entry p (Spawns id tag words) a) m.free; raises = busy; moves = (refl, refl) }

turn_kill : (id : Id) (d : ℕ) (a : Result (Unit {0}) HostFault) (p : List Entry) → child id p ≡ Some d → MayAct id p → IsBusy id p → IsInTurn id p (Kill d a)
turn_kill id d a p runs m busy = record { alive = m.alive; waits = free_waits id p (Kill d a) m.free; raises = busy; moves = runs }

-- ---- tickets are raised, and children spawned, waited for and let go

pub placing_raise : (id : Id) (t : ℕ) (k : Plan) (p : List Entry) → MayBeRaised id t p → (MayAct id (Raise t ∷ p) → Always (InTurn id) (Raise t ∷ p) k) → Always (InTurn id) p (adds (Raise t) k)
placing_raise id t k p f rest =
    let le = f.in_hand in
    let o = turn_raise id t p f.acts (omega (arith, le)) f.unheld in
    λ a. (o, rest (acts_more id p (Raise t) f.acts o f.acts.alive f.acts.free))

pub placing_raises : (id : Id) (t : ℕ) (p : List Entry) → MayBeRaised id t p → Always (InTurn id) p (raises t)
placing_raises id t p f = placing_raise id t Done p f (λ m. tt)

-- the fault that the newest entry holds is shown, where an error handler is set
pub placing_shows : (id : Id) (handler : Option ℕ) (k : Plan) (p : List Entry) → MayAct id p → IsBusy id p → Always (InTurn id) p k → ((n code : ℕ) → MayAct id (JobError id n code ∷ p) → Always (InTurn id) (JobError id n code ∷ p) k) → Always (InTurn id) p (shows id handler k)
placing_shows id None k p m busy unshown shown = unshown
placing_shows id (Some n) k p m busy unshown shown =
    let code = newest_code p in
    let o = turn_shown id n code p m busy in
    λ a. (o, shown n code (acts_more id p (JobError id n code) m o m.alive m.free))

-- and then the ticket is raised
pub placing_fault : (id : Id) (handler : Option ℕ) (t : ℕ) (p : List Entry) → MayBeRaised id t p → IsBusy id p → Always (InTurn id) p (shows id handler (raises t))
placing_fault id handler t p f busy =
    placing_shows id handler (raises t) p f.acts busy (placing_raises id t p f)
    (λ n code m. placing_raises id t (JobError id n code ∷ p) (record { acts = m; in_hand = f.in_hand; unheld = f.unheld }))

placing_spawn : (id : Id) (handler : Option ℕ) (tag : SpawnTag) (words : Words) (t : ℕ) (p : List Entry) → MayBeRaised id t p → IsBusy id p → Always (InTurn id) p (spawn id handler tag words (raises t))
placing_spawn id handler tag words t p f busy = λ a.
    let e : Entry = entry p (Spawns id tag words) a in
    let o = turn_spawn id tag words a p f.acts busy in
    let after : MayBeRaised id t (e ∷ p) = record { acts = acts_more id p e f.acts o f.acts.alive f.acts.free; in_hand = f.in_hand; unheld = f.unheld } in
    (o, both _ (placing_fault id handler t (e ∷ p) after busy) (placing_raises id t (e ∷ p) after))

placing_fresh_by : (id : Id) (command : Command) (handler : Option ℕ) (tag : SpawnTag) (hook : Option ℕ) (t : ℕ) (p : List Entry) → MayBeRaised id t p → IsBusy id p → Always (InTurn id) p (fresh_by id command handler tag hook (raises t))
placing_fresh_by id command handler tag None t p f busy = placing_spawn id handler tag (Given (spawnable_of command)) t p f busy
placing_fresh_by id command handler tag (Some n) t p f busy = λ a.
    let o = turn_hook id n a p f.acts busy in
    let m = acts_more id p (Hook id n a) f.acts o f.acts.alive f.acts.free in
    (o, both _ tt (placing_spawn id handler tag Left t (Hook id n a ∷ p) (record { acts = m; in_hand = f.in_hand; unheld = f.unheld }) busy))

pub placing_fresh : (id : Id) (by : Kit) (t : ℕ) (p : List Entry) → MayBeRaised id t p → IsBusy id p → Always (InTurn id) p (fresh id by (raises t))
placing_fresh id by t p f busy = placing_fresh_by id by.command by.handler by.tag by.hook t p f busy

-- what comes behind these, where no grace stands, what is in hand stays there, and the case is the same
abbrev BehindCalm : Id → List Entry → Plan → Type 0
BehindCalm id p k = (q : List Entry) → IsCalm id q → AllStayInHand id p q → (IsBusy id p → IsBusy id q) → Always (InTurn id) q k

-- a parked ticket isn't in hand
parked_apart : (id : Id) (t u : ℕ) (ts : List ℕ) (p : List Entry) → IsPlacedOf id p → parked id p ≡ t ∷ ts → 1 ≤ times u (in_hand id p) → t ≢ u
parked_apart id t u ts p s is le same =
    let there : 1 ≤ times u (parked id p) = rw (is, same, eq-eqb u u refl) (omega arith) in
    let one = s.one u in absurd (omega (arith, le, there, one))

pub placing_waiters : (id : Id) (ts : List ℕ) (k : Plan) (p : List Entry) → IsCalm id p → parked id p ≡ ts → BehindCalm id p k → Always (InTurn id) p (waiters ts k)
placing_waiters id [] k p c is rest = rest p c (λ u le. le) (λ busy. busy)
placing_waiters id (t ∷ ts) k p c is rest =
    let there : 1 ≤ times t (parked id p) = rw (is, eq-eqb t t refl) (omega arith) in
    let o = turn_raise id t p c.acts (omega (arith, there)) (λ g e same. (let none : None ≡ Some g = sym c.none ∙ e in absurd cc)) in
    let m = acts_more id p (Raise t) c.acts o c.acts.alive c.acts.free in
    λ a. (o, placing_waiters id ts k (Raise t ∷ p) (record { acts = m; none = c.none }) (rw (is, eq-eqb t t refl) refl) (λ q calm stay same. rest q calm (λ u le. stay u (kept_in_hand u le)) (λ busy. same (λ u e. kept_in_hand u (busy u e)))))
  where
    kept_in_hand : (u : ℕ) → 1 ≤ times u (in_hand id p) → 1 ≤ times u (in_hand id (Raise t ∷ p))
    kept_in_hand u le = raised_other id t u p (parked_apart id t u ts p c.acts.placed is le) le

-- the ticket of the case of a wait is in hand, where that of the case before is, or where the end is kept
held_in_hand : (before : Option ℕ) (t : ℕ) (hand : List ℕ) → is_held before hand ≡ true → before ≡ Some t → 1 ≤ times t hand
held_in_hand None t hand is e = cc
held_in_hand (Some u) t hand is e = let same : u ≡ t = cc in rw (← same) (leb-true 1 (times u hand) is)

grace_in_hand : (standing : Option Grace) (t : ℕ) (hand : List ℕ) → ((g : Grace) → standing ≡ Some g → 1 ≤ times g.ticket hand) → ticket_of_grace standing ≡ Some t → 1 ≤ times t hand
grace_in_hand None t hand held e = cc
grace_in_hand (Some g) t hand held e = let same : g.ticket ≡ t = cc in rw (← same) (held g refl)

wait_in_hand : (end : Bool) (hand : List ℕ) (standing : Option Grace) (before : Option ℕ) (t : ℕ) → ((g : Grace) → standing ≡ Some g → 1 ≤ times g.ticket hand) → (end ≡ false → before ≡ Some t → 1 ≤ times t hand) → wait_ticket end hand standing before ≡ Some t → 1 ≤ times t hand
wait_in_hand false hand standing before t held busy e = busy refl e
wait_in_hand true hand standing before t held busy e = by_test (is_held before hand) refl e
  where
    by_test : (b : Bool) → is_held before hand ≡ b → cond (not b) (ticket_of_grace standing) before ≡ Some t → 1 ≤ times t hand
    by_test true is e = held_in_hand before t hand is e
    by_test false is e = grace_in_hand standing t hand held e

-- The child that runs may be waited for: the ticket of the case is in hand, save where the end of the child is kept.
pub record MayBeWaitedFor (id : Id) (d : ℕ) (p : List Entry) : Type 0 where
  pub acts : MayAct id p
  pub runs : child id p ≡ Some d
  pub busy : kept id p ≡ false → IsBusy id p

busy_wait : (id : Id) (d : ℕ) (a : Result ProcessEnd HostFault) (p : List Entry) → MayBeWaitedFor id d p → IsBusy id (Wait d a ∷ p)
busy_wait id d a p m t e =
    let due : wait_ticket (kept id p) (in_hand id p) (grace id p) (case_ticket id p) ≡ Some t = rw (m.runs, eq-eqb d d refl) at e in
    wait_in_hand (kept id p) (in_hand id p) (grace id p) (case_ticket id p) t m.acts.placed.graces (λ none. m.busy none t) due

turn_wait : (id : Id) (d : ℕ) (a : Result ProcessEnd HostFault) (p : List Entry) → MayBeWaitedFor id d p → IsInTurn id p (Wait d a)
turn_wait id d a p m = record { alive = m.acts.alive; waits = free_waits id p (Wait d a) m.acts.free; raises = busy_wait id d a p m; moves = m.runs }

-- the child that runs is waited for, and then no grace stands
pub placing_wait : (id : Id) (d : ℕ) (k f : Plan) (p : List Entry) → MayBeWaitedFor id d p
    → ((fault : HostFault) → MayAct id (Wait d (Err fault) ∷ p) → IsBusy id (Wait d (Err fault) ∷ p) → Always (InTurn id) (Wait d (Err fault) ∷ p) f)
    → ((status : ProcessEnd) → IsCalm id (Wait d (Ok status) ∷ p) → IsBusy id (Wait d (Ok status) ∷ p) → Always (InTurn id) (Wait d (Ok status) ∷ p) k)
    → Always (InTurn id) p (Owes (Waits d) k f)
placing_wait id d k f p m failed rest = λ a. (turn_wait id d a p m, by_answer a (acts_more id p (Wait d a) m.acts (turn_wait id d a p m) m.acts.alive m.acts.free))
  where
    by_answer : (a : Result ProcessEnd HostFault) → MayAct id (Wait d a ∷ p) → MatchBool (is_err a) (Always (InTurn id) (Wait d a ∷ p) f) (Always (InTurn id) (Wait d a ∷ p) k)
    by_answer (Ok status) acts = rest status (record { acts = acts; none = rw (m.runs, eq-eqb d d refl) refl }) (busy_wait id d (Ok status) p m)
    by_answer (Err fault) acts = failed fault acts (busy_wait id d (Err fault) p m)

-- the child that runs is reaped, and the parked tickets are raised
pub placing_reap : (id : Id) (handler : Option ℕ) (d t : ℕ) (ts : List ℕ) (k : Plan) (p : List Entry) → child id p ≡ Some d → MayBeRaised id t p → IsBusy id p → parked id p ≡ ts
    → ((q : List Entry) → IsCalm id q → AllStayInHand id p q → IsBusy id q → Always (InTurn id) q k) → Always (InTurn id) p (reap id handler d t (waiters ts k))
placing_reap id handler d t ts k p runs f busy is rest = λ a.
    let killed : List Entry = Kill d a ∷ p in
    let o = turn_kill id d a p runs f.acts busy in
    let m : MayAct id killed = acts_more id p (Kill d a) f.acts o f.acts.alive f.acts.free in
    let waits : Always (InTurn id) killed (Owes (Waits d) (waiters ts k) (shows id handler (raises t))) =
    placing_wait id d (waiters ts k) (shows id handler (raises t)) killed (record { acts = m; runs = runs; busy = λ none. busy })
    (λ fault acts busy'. placing_fault id handler t (Wait d (Err fault) ∷ killed) (record { acts = acts; in_hand = f.in_hand; unheld = f.unheld }) busy')
    (λ status calm busy'. placing_waiters id ts k (Wait d (Ok status) ∷ killed) calm is (λ q calm' stay same. rest q calm' stay (same busy'))) in
    (o, both _ (placing_fault id handler t killed (record { acts = m; in_hand = f.in_hand; unheld = f.unheld }) busy) waits)

pub placing_restart : (id : Id) (by : Kit) (d t : ℕ) (p : List Entry) → child id p ≡ Some d → MayBeRaised id t p → IsBusy id p → parked id p ≡ by.parked → Always (InTurn id) p (restart id by d t)
placing_restart id by d t p runs f busy is = placing_reap id by.handler d t by.parked (fresh id by (raises t)) p runs f busy is (λ q calm stay busy'. placing_fresh id by t q (free_calm id t q calm (stay t f.in_hand)) busy')

-- the ticket of the grace that stood is raised, and then another one
placing_grace : (id : Id) (o : Option Grace) (t : ℕ) (p : List Entry) → IsCalm id p → 1 ≤ times t (in_hand id p) → ((g : Grace) → o ≡ Some g → (1 ≤ times g.ticket (in_hand id p)) × (t ≢ g.ticket)) → Always (InTurn id) p (raise_grace o (raises t))
placing_grace id None t p calm le held = placing_raises id t p (free_calm id t p calm le)
placing_grace id (Some g) t p calm le held =
    let still : 1 ≤ times t (in_hand id (Raise g.ticket ∷ p)) = raised_other id g.ticket t p (λ is. (held g refl).1 (sym is)) le in
    placing_raise id g.ticket (raises t) p (free_calm id g.ticket p calm (held g refl).0) (λ m. placing_raises id t (Raise g.ticket ∷ p) (free_calm id t (Raise g.ticket ∷ p) (record { acts = m; none = calm.none }) still))

pub placing_stop : (id : Id) (by : Kit) (d t : ℕ) (p : List Entry) → child id p ≡ Some d → MayBeRaised id t p → IsBusy id p → parked id p ≡ by.parked → grace id p ≡ by.grace → Always (InTurn id) p (reap id by.handler d t (waiters by.parked (raise_grace by.grace (raises t))))
placing_stop id by d t p runs f busy is standing =
    placing_reap id by.handler d t by.parked (raise_grace by.grace (raises t)) p runs f busy is
    (λ q calm stay busy'. placing_grace id by.grace t q calm (stay t f.in_hand) (λ g e. (stay g.ticket (f.acts.placed.graces g (standing ∙ e)), f.unheld g (standing ∙ e))))

-- the child that runs is let go, where one does, and the job is gone
pub placing_leave : (id : Id) (c : Option ℕ) (p : List Entry) → lives id p ≡ true → Always (InTurn id) p (leave id c)
placing_leave id None p alive = λ a. (record { alive = alive; waits = λ f is. tt; raises = tt; moves = refl }, tt)
placing_leave id (Some d) p alive = λ a. (record { alive = alive; waits = λ f is. tt; raises = tt; moves = tt }, λ b. (record { alive = alive; waits = λ f is. tt; raises = tt; moves = refl }, tt))
