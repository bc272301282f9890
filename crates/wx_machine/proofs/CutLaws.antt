-- At each cut of the plan of a case its ticket is in hand.
use Rattle.std.proofs.Common.{◌≡◌, ℕ, ◌+◌, Bool, true, false, cond, List, [], ◌∷◌, Option, Some, None, refl, arith}
use Rattle.std.specs.Prelude.{◌==◌, ◌-◌, ℤ}
use Rattle.wx_command.specs.declared.command.Command.{Command}
use Rattle.wx_command.specs.Spawnables.{spawnable_of}
use Rattle.wx_control.specs.declared.id.Id.{Id}
use Rattle.wx_control.specs.declared.control.Control.{Control}
use Rattle.wx_control.specs.declared.control.Control.TheVariants.{Start, Stop, GracefulStop, TryRestart, TryGracefulRestart, ContinueTryGracefulRestart, Signal as Signalled, Delete, NextEnding, SyncFunc, AsyncFunc}
use Rattle.wx_events.specs.declared.process.Signal.{Signal as ASignal}
use Rattle.wx_journal.specs.declared.child.SpawnTag.{SpawnTag}
use Rattle.wx_journal.specs.declared.entry.Entry.{Entry}
use Rattle.wx_journal.specs.declared.entry.Entry.TheVariants.{GraceOver, Dropped, Raise, Gone, Run, Begun, Hook}
use Rattle.wx_machine.specs.declared.grace.Grace.{Grace}
use Rattle.wx_machine.specs.declared.state.CommandState.{CommandState}
use Rattle.wx_machine.specs.History.{grace, in_hand}
use Rattle.wx_machine.specs.Table.{Words, Given, Left, Call, Adds, Spawns, Signals, Kills, Waits, ShowsFault, Plan, Done, Owes, Kit, adds, raises, shows, tries, reap, waiters, raise_grace, number_of, signalled, graceful, restart, spawn, fresh_by, fresh, leave, row, fresh_over, over, ended_in, is_parking}
use Rattle.wx_machine.specs.Seen.{Seen}
use Rattle.wx_machine.specs.Case.{CallAnswer, entry, fails, SpawnsLeft, IsCut, PlanLeads, PlanHere, PlanThen, GaveUp}
use Rattle.wx_machine.specs.Held.{once, times, IsInHand}
use Rattle.wx_machine.proofs.Owners.{either}
use Rattle.wx_machine.proofs.Always.{Always, both, always_now, always_next}
use Rattle.wx_machine.proofs.Times.{times_without}

-- where the plan may be cut behind this entry the ticket is in hand
abbrev pub HeldAtCut : Id → ℕ → List Entry → Entry → Plan → Type 0
HeldAtCut id t p e k = IsCut k → IsInHand id t (e ∷ p)

-- the plan isn't cut before its first entry, and at each cut of it the ticket is in hand
pub record Holds (id : Id) (t : ℕ) (p : List Entry) (k : Plan) : Type 0 where
  pub uncut : IsCut k → ⊥
  pub always : Always (HeldAtCut id t) p k

-- the plan holds it, wherever it is in hand
abbrev HoldsOn : Id → ℕ → Plan → Type 0
HoldsOn id t k = (p : List Entry) → IsInHand id t p → Holds id t p k

uncut_if : (b : Bool) (k f : Plan) → (IsCut k → ⊥) → (IsCut f → ⊥) → IsCut (cond b f k) → ⊥
uncut_if true k f whole whole' cut = whole' cut
uncut_if false k f whole whole' cut = whole cut

-- an entry behind which the plan isn't cut, whatever is answered
always_owes : (id : Id) (t : ℕ) (call : Call) (k f : Plan) (p : List Entry) → ((a : CallAnswer call) → Holds id t (entry p call a ∷ p) k) → ((a : CallAnswer call) → Holds id t (entry p call a ∷ p) f) → Always (HeldAtCut id t) p (Owes call k f)
always_owes id t call k f p ok bad = λ a. (λ cut. absurd (uncut_if (fails (entry p call a)) k f (ok a).uncut (bad a).uncut cut), both (fails (entry p call a)) (bad a).always (ok a).always)

holds_owes : (id : Id) (t : ℕ) (call : Call) (k f : Plan) (p : List Entry) → (IsCut (Owes call k f) → ⊥) → ((a : CallAnswer call) → Holds id t (entry p call a ∷ p) k) → ((a : CallAnswer call) → Holds id t (entry p call a ∷ p) f) → Holds id t p (Owes call k f)
holds_owes id t call k f p uncut ok bad = record { uncut = uncut; always = always_owes id t call k f p ok bad }

pub holds_done : (id : Id) (t : ℕ) (p : List Entry) → Holds id t p Done
holds_done id t p = record { uncut = λ cut. cut; always = tt }

pub holds_adds : (id : Id) (t : ℕ) (e : Entry) (k : Plan) (p : List Entry) → Holds id t (e ∷ p) k → Holds id t p (adds e k)
holds_adds id t e k p rest = holds_owes id t (Adds e) k Done p (λ cut. cut) (λ a. rest) (λ a. holds_done id t _)

holds_raises : (id : Id) (t u : ℕ) (p : List Entry) → Holds id t p (raises u)
holds_raises id t u p = holds_adds id t (Raise u) Done p (holds_done id t _)

-- ---- tickets that are raised leave this one in hand

none_first : (b : Bool) (n : ℕ) → once b + n ≡ 0 → (b ≡ false) × (n ≡ 0)
none_first true n e = absurd (omega (arith, e))
none_first false n e = (refl, omega (arith, e))

holds_waiters : (id : Id) (t : ℕ) (ts : List ℕ) (k : Plan) (p : List Entry) → times t ts ≡ 0 → IsInHand id t p → HoldsOn id t k → Holds id t p (waiters ts k)
holds_waiters id t [] k p none held rest = rest p held
holds_waiters id t (u ∷ us) k p none held rest =
    let other = none_first (u == t) (times t us) none in
    let same : times t (in_hand id (Raise u ∷ p)) ≡ times t (in_hand id p) - once false = rw other.0 at (times_without u t (in_hand id p)) in
    holds_adds id t (Raise u) (waiters us k) p (holds_waiters id t us k (Raise u ∷ p) other.1 (omega (arith, same, held)) rest)

-- raised tickets alone
holds_last : (id : Id) (t : ℕ) (ts : List ℕ) (p : List Entry) → Holds id t p (waiters ts Done)
holds_last id t [] p = holds_done id t p
holds_last id t (u ∷ us) p = holds_adds id t (Raise u) (waiters us Done) p (holds_last id t us (Raise u ∷ p))

-- ---- what the rows of the table are built of

-- a fault is shown, where an error handler is set
holds_shows : (id : Id) (t : ℕ) (handler : Option ℕ) (k : Plan) (p : List Entry) → ((q : List Entry) → Holds id t q k) → Holds id t p (shows id handler k)
holds_shows id t None k p rest = rest p
holds_shows id t (Some n) k p rest = holds_owes id t (ShowsFault id n) k Done p (λ cut. cut) (λ a. rest _) (λ a. holds_done id t _)

holds_spawn : (id : Id) (t u : ℕ) (handler : Option ℕ) (tag : SpawnTag) (words : Words) (p : List Entry) → Always (HeldAtCut id t) p (spawn id handler tag words (raises u))
holds_spawn id t u handler tag words p = always_owes id t (Spawns id tag words) (raises u) (shows id handler (raises u)) p (λ a. holds_raises id t u _) (λ a. holds_shows id t handler (raises u) _ (λ q. holds_raises id t u q))

holds_fresh_by : (id : Id) (t u : ℕ) (command : Command) (handler : Option ℕ) (tag : SpawnTag) (hook : Option ℕ) → HoldsOn id t (fresh_by id command handler tag hook (raises u))
holds_fresh_by id t u command handler tag None p held = record { uncut = λ cut. cut; always = holds_spawn id t u handler tag (Given (spawnable_of command)) p }
holds_fresh_by id t u command handler tag (Some n) p held = record { uncut = λ cut. cut; always = λ a. (λ cut. held, both _ tt (holds_spawn id t u handler tag Left (Hook id n a ∷ p))) }

holds_fresh : (id : Id) (t u : ℕ) (by : Kit) → HoldsOn id t (fresh id by (raises u))
holds_fresh id t u by = holds_fresh_by id t u by.command by.handler by.tag by.hook

-- a call on a child that isn't a spawn
holds_tries : (id : Id) (t : ℕ) (handler : Option ℕ) (call : Call) (k failed : Plan) (p : List Entry) → (SpawnsLeft call → ⊥) → ((a : CallAnswer call) → Holds id t (entry p call a ∷ p) k) → ((q : List Entry) → Holds id t q failed) → Holds id t p (tries id handler call k failed)
holds_tries id t handler call k failed p uncut ok bad = holds_owes id t call k (shows id handler failed) p uncut ok (λ a. holds_shows id t handler failed _ bad)

pub holds_wait : (id : Id) (t : ℕ) (handler : Option ℕ) (c : ℕ) (k failed : Plan) → HoldsOn id t k → ((q : List Entry) → Holds id t q failed) → HoldsOn id t (tries id handler (Waits c) k failed)
holds_wait id t handler c k failed rest bad p held = holds_tries id t handler (Waits c) k failed p (λ cut. cut) (λ a. rest (entry p (Waits c) a ∷ p) held) bad

holds_reap : (id : Id) (t : ℕ) (handler : Option ℕ) (c u : ℕ) (k : Plan) → HoldsOn id t k → HoldsOn id t (reap id handler c u k)
holds_reap id t handler c u k rest p held =
    let last = λ (q : List Entry). holds_raises id t u q in
    holds_tries id t handler (Kills c) (tries id handler (Waits c) k (raises u)) (raises u) p (λ cut. cut) (λ a. holds_wait id t handler c k (raises u) rest last (entry p (Kills c) a ∷ p) held) last

holds_restart : (id : Id) (t c u : ℕ) (by : Kit) → times t by.parked ≡ 0 → HoldsOn id t (restart id by c u)
holds_restart id t c u by none = holds_reap id t by.handler c u (waiters by.parked (fresh id by (raises u))) (λ q held. holds_waiters id t by.parked (fresh id by (raises u)) q none held (holds_fresh id t u by))

holds_grace : (id : Id) (t u : ℕ) (o : Option Grace) (p : List Entry) → Holds id t p (raise_grace o (raises u))
holds_grace id t u None p = holds_raises id t u p
holds_grace id t u (Some g) p = holds_adds id t (Raise g.ticket) (raises u) p (holds_raises id t u _)

holds_stop : (id : Id) (t c u : ℕ) (by : Kit) → times t by.parked ≡ 0 → HoldsOn id t (reap id by.handler c u (waiters by.parked (raise_grace by.grace (raises u))))
holds_stop id t c u by none = holds_reap id t by.handler c u _ (λ q held. holds_waiters id t by.parked _ q none held (λ r held'. holds_grace id t u by.grace r))

-- a signal, and whatever comes of it
holds_signal : (id : Id) (t u : ℕ) (handler : Option ℕ) (c : ℕ) (number : ℤ) (k : Plan) (p : List Entry) → ((q : List Entry) → Holds id t q k) → Holds id t p (tries id handler (Signals c number) k (raises u))
holds_signal id t u handler c number k p rest = holds_tries id t handler (Signals c number) k (raises u) p (λ cut. cut) (λ a. rest _) (λ q. holds_raises id t u q)

holds_graceful : (id : Id) (t u : ℕ) (handler : Option ℕ) (signal : ASignal) (running : Option ℕ) (p : List Entry) → Holds id t p (graceful id handler signal u running)
holds_graceful id t u handler signal None p = holds_raises id t u p
holds_graceful id t u handler signal (Some c) p = holds_signal id t u handler c (number_of signal) Done p (λ q. holds_done id t q)

holds_signalled : (id : Id) (t u : ℕ) (handler : Option ℕ) (signal : ASignal) (running : Option ℕ) (p : List Entry) → Holds id t p (signalled id handler signal u running)
holds_signalled id t u handler signal None p = holds_raises id t u p
holds_signalled id t u handler signal (Some c) p = holds_signal id t u handler c (number_of signal) (raises u) p (λ q. holds_raises id t u q)

holds_gone : (id : Id) (t : ℕ) (p : List Entry) → Holds id t p (leave id None)
holds_gone id t p = holds_adds id t (Gone id) Done p (holds_done id t _)

holds_leave : (id : Id) (t : ℕ) (running : Option ℕ) (p : List Entry) → Holds id t p (leave id running)
holds_leave id t None p = holds_gone id t p
holds_leave id t (Some c) p = holds_adds id t (Dropped c) (leave id None) p (holds_gone id t _)

pub holds_row : (id : Id) (t : ℕ) (by : Kit) (control : Control) (running : Option ℕ) (p : List Entry) → times t by.parked ≡ 0 → (now : CommandState) → (is_parking control now ≡ false → IsInHand id t p) → Holds id t p (row id by t control running)
holds_row id t by Start None p none now held = holds_fresh id t t by p (held refl)
holds_row id t by Start (Some c) p none now held = holds_raises id t t p
holds_row id t by Stop None p none now held = holds_raises id t t p
holds_row id t by Stop (Some c) p none now held = holds_stop id t c t by none p (held refl)
holds_row id t by (GracefulStop signal grace) running p none now held = holds_graceful id t t by.handler signal running p
holds_row id t by TryRestart None p none now held = holds_raises id t t p
holds_row id t by TryRestart (Some c) p none now held = holds_restart id t c t by none p (held refl)
holds_row id t by (TryGracefulRestart signal grace) running p none now held = holds_graceful id t t by.handler signal running p
holds_row id t by ContinueTryGracefulRestart None p none now held = holds_fresh id t t by p (held refl)
holds_row id t by ContinueTryGracefulRestart (Some c) p none now held = holds_restart id t c t by none p (held refl)
holds_row id t by (Signalled signal) running p none now held = holds_signalled id t t by.handler signal running p
holds_row id t by Delete running p none now held = holds_adds id t (Raise t) (leave id running) p (holds_leave id t running _)
holds_row id t by NextEnding running p none now held = either (Holds id t p) by.finished (raises t) Done (holds_raises id t t p) (holds_done id t p)
holds_row id t by (SyncFunc n) running p none now held = holds_adds id t (Run id n) (raises t) p (holds_raises id t t _)
holds_row id t by (AsyncFunc n) running p none now held = holds_adds id t (Begun id n) Done p (holds_done id t _)
holds_row id t by (_) running p none now held = holds_raises id t t p

holds_fresh_over : (id : Id) (by : Kit) (g : Grace) → HoldsOn id g.ticket (fresh_over id by g)
holds_fresh_over id by g p held = either (Holds id g.ticket p) g.restarts (fresh id by (raises g.ticket)) (raises g.ticket) (holds_fresh id g.ticket g.ticket by p held) (holds_raises id g.ticket g.ticket p)

pub holds_over : (id : Id) (by : Kit) (c : ℕ) (g : Grace) (p : List Entry) → times g.ticket by.parked ≡ 0 → IsInHand id g.ticket p → Holds id g.ticket p (over id by c g)
holds_over id by c g p none held =
    holds_adds id g.ticket (GraceOver id) (reap id by.handler c g.ticket (waiters by.parked (fresh_over id by g))) p
    (holds_reap id g.ticket by.handler c g.ticket (waiters by.parked (fresh_over id by g)) (λ q here. holds_waiters id g.ticket by.parked (fresh_over id by g) q none here (holds_fresh_over id by g)) (GraceOver id ∷ p) held)

pub holds_ended_in : (id : Id) (by : Kit) (g : Grace) → times g.ticket by.parked ≡ 0 → HoldsOn id g.ticket (ended_in id by g)
holds_ended_in id by g none p held =
    either (Holds id g.ticket p) g.restarts (waiters by.parked (fresh id by (raises g.ticket))) (adds (Raise g.ticket) (waiters by.parked Done))
    (holds_waiters id g.ticket by.parked (fresh id by (raises g.ticket)) p none held (holds_fresh id g.ticket g.ticket by)) (holds_adds id g.ticket (Raise g.ticket) (waiters by.parked Done) p (holds_last id g.ticket by.parked _))

-- ---- what led to a cut

at_cut : (id : Id) (t : ℕ) (k : Plan) (p : List Entry) (host hooks : Option (List Entry)) (n : ℕ) (k' : Plan) (p' : List Entry) (host' hooks' : Option (List Entry)) (n' : ℕ) → PlanLeads k p host hooks n k' p' host' hooks' n' → Holds id t p k → Always (HeldAtCut id t) p' k' × (IsCut k' → IsInHand id t p')
at_cut id t k p host hooks n k' p' host' hooks' n' l s = elim l as (λ k' p' host' hooks' n' _. Always (HeldAtCut id t) p' k' × (IsCut k' → IsInHand id t p')) [
  | PlanHere ↦ (s.always, λ cut. absurd (s.uncut cut))
  | PlanThen e k₁ p₁ host₁ hooks₁ n₁ n₂ (l → h) d counts ↦ (always_next (HeldAtCut id t) p₁ k₁ e d h.0, always_now (HeldAtCut id t) p₁ k₁ e d h.0)
]

-- a plan that holds a ticket left it in hand where it was given up
pub held_behind : {Fixed : Type 0} (id : Id) (t : ℕ) (k : Plan) (p : List Entry) (a : Seen Fixed) (hooks : Option (List Entry)) (p' : List Entry) (b : Seen Fixed) (hooks' : Option (List Entry)) → Holds id t p k → GaveUp k p a hooks p' b hooks' → IsInHand id t p'
held_behind id t k p a hooks p' b hooks' h gave = (at_cut id t k p _ _ _ gave.rest p' _ _ _ gave.ran.led h).1 gave.cut

-- ---- a case that was given up

pub holds_if : (id : Id) (t : ℕ) (b : Bool) (k : Plan) (p : List Entry) → Holds id t p k → Holds id t p (cond b k Done)
holds_if id t b k p h = either (Holds id t p) b k Done h (holds_done id t p)
