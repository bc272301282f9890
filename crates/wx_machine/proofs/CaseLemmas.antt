-- One entry more on the way that a plan leads, by its kind.
use Rattle.std.proofs.Common.{◌≡◌, ℕ, ◌≤◌, Bool, true, false, cond, List, ◌∷◌, Option, Some, None, Result, Ok, Err, refl, arith}
use Rattle.std.specs.Prelude.{ℤ, OnErr}
use Rattle.wx_text.specs.declared.list.Memory.{Memory}
use Rattle.wx_events.specs.declared.process.ProcessEnd.{ProcessEnd}
use Rattle.wx_command.specs.declared.command.Command.{Command}
use Rattle.wx_command.specs.declared.spawnable.Spawnable.{Spawnable}
use Rattle.wx_control.specs.declared.id.Id.{Id}
use Rattle.wx_control.specs.declared.control.Control.{Control}
use Rattle.wx_control.specs.declared.level.Level.{Level}
use Rattle.wx_journal.specs.declared.child.SpawnTag.{SpawnTag}
use Rattle.wx_journal.specs.declared.child.HostFault.{HostFault}
use Rattle.wx_journal.specs.declared.entry.Entry.{Entry}
use Rattle.wx_journal.specs.declared.entry.Entry.TheVariants.{Asked, Spawn, Signal, Kill, Wait, Poll, Hook, JobError}
use Rattle.wx_journal.specs.Names.{ticket_count, child_count}
use Rattle.wx_journal.specs.Told.{tell, tell_if, is_world, is_hooks, Counts}
use Rattle.wx_machine.specs.Table.{Words, Left, Call, Adds, Spawns, Signals, Kills, Waits, Asks, Hooks, Polls, ShowsFault, Plan, Done, GivenUp, Owes, adds, shows, spawn, fresh_by}
use Rattle.wx_machine.specs.Seen.{Seen}
use Rattle.wx_machine.specs.Steady.{Tells}
use Rattle.wx_machine.specs.Case.{CallAnswer, entry, words_of, newest_code, is_fault, fails, PlanLeads, PlanHere, PlanThen, PlanRan, PlanFollowsHooks, PlanFollows, GaveUp, HookedOnly}
use Rattle.wx_machine.proofs.SteadyLemmas.{steady_none, steady_then}

-- no fault came
no_fault : (old new : ℕ) → old ≤ new → Counts false old new
no_fault old new le = record { later = le; rose = λ e. absurd cc }

-- the entry that a call brings
pub record Brings (p : List Entry) (call : Call) (e : Entry) : Type 0 where
  pub answer : CallAnswer call
  pub is : e ≡ entry p call answer

pub brings-adds : (p : List Entry) (e : Entry) → Brings p (Adds e) e
brings-adds p e = record { answer = tt; is = refl }

pub brings-ask : (p : List Entry) (t : ℕ) (id : Id) (level : Level) (control : Control) → t ≡ ticket_count p → Brings p (Asks id level control) (Asked t id level control)
brings-ask p t id level control same = record { answer = tt; is = rw same refl }

pub brings-spawn : (p : List Entry) (c : ℕ) (id : Id) (tag : SpawnTag) (words : Words) (what : Spawnable) (a : Result (Unit {0}) HostFault) → c ≡ child_count p → words_of p words ≡ what → Brings p (Spawns id tag words) (Spawn c id tag what a)
brings-spawn p c id tag words what a same is = record { answer = a; is = rw (same, is) refl }

pub brings-hook : (p : List Entry) (id : Id) (n : ℕ) (a : Result Spawnable Memory) → Brings p (Hooks id n) (Hook id n a)
brings-hook p id n a = record { answer = a; is = refl }

pub brings-poll : (p : List Entry) (id : Id) (n : ℕ) (ready : Bool) → Brings p (Polls id n) (Poll id n ready)
brings-poll p id n ready = record { answer = ready; is = refl }

pub brings-show : (p : List Entry) (id : Id) (n code : ℕ) → newest_code p ≡ code → Brings p (ShowsFault id n) (JobError id n code)
brings-show p id n code is = record { answer = tt; is = rw is refl }

pub brings-signal : (p : List Entry) (c : ℕ) (number : ℤ) (a : Result (Unit {0}) HostFault) → Brings p (Signals c number) (Signal c number a)
brings-signal p c number a = record { answer = a; is = refl }

pub brings-kill : (p : List Entry) (c : ℕ) (a : Result (Unit {0}) HostFault) → Brings p (Kills c) (Kill c a)
brings-kill p c a = record { answer = a; is = refl }

pub brings-wait : (p : List Entry) (c : ℕ) (a : Result ProcessEnd HostFault) → Brings p (Waits c) (Wait c a)
brings-wait p c a = record { answer = a; is = refl }

-- an entry that nobody is told
pub leads-says : (k : Plan) (p : List Entry) (host hooks : Option (List Entry)) (n : ℕ) (e : Entry) (call : Call) (k' f : Plan) (p' : List Entry) (host' hooks' : Option (List Entry)) (n' : ℕ) → is_fault e ≡ false → fails e ≡ false → is_world p' e ≡ false → is_hooks e ≡ false → PlanLeads k p host hooks n (Owes call k' f) p' host' hooks' n' → Brings p' call e → PlanLeads k p host hooks n k' (e ∷ p') host' hooks' n'
leads-says k p host hooks n e call k' f p' host' hooks' n' calm well world other g b =
    let on : PlanLeads k p host hooks n (cond (fails e) f k') (e ∷ p') (tell_if (is_world p' e) e host') (tell_if (is_hooks e) e hooks') n' = PlanThen e _ _ _ _ _ _ g (b.answer, b.is) (rw calm (no_fault n' n' (omega arith))) in
    rw (well, world, other) at on

-- one that the host is told, which holds a fault or none
leads-told : (failed : Bool) (k : Plan) (p : List Entry) (host hooks : Option (List Entry)) (n : ℕ) (e : Entry) (call : Call) (k' f : Plan) (p' : List Entry) (host' hooks' : Option (List Entry)) (n' n'' : ℕ) → is_fault e ≡ failed → fails e ≡ failed → is_world p' e ≡ true → is_hooks e ≡ false → PlanLeads k p host hooks n (Owes call k' f) p' host' hooks' n' → Brings p' call e → Counts failed n' n'' → PlanLeads k p host hooks n (cond failed f k') (e ∷ p') (tell e host') hooks' n''
leads-told failed k p host hooks n e call k' f p' host' hooks' n' n'' fault goes world other g b counts =
    let on : PlanLeads k p host hooks n (cond (fails e) f k') (e ∷ p') (tell_if (is_world p' e) e host') (tell_if (is_hooks e) e hooks') n'' = PlanThen e _ _ _ _ _ _ g (b.answer, b.is) (rw fault counts) in
    rw (goes, world, other) at on

-- one that the hooks are told: they answered, or had no memory
leads-heard : (wants : Bool) (k : Plan) (p : List Entry) (host hooks : Option (List Entry)) (n : ℕ) (e : Entry) (call : Call) (k' f : Plan) (p' : List Entry) (host' hooks' : Option (List Entry)) (n' : ℕ) → is_fault e ≡ false → fails e ≡ wants → is_world p' e ≡ false → is_hooks e ≡ true → PlanLeads k p host hooks n (Owes call k' f) p' host' hooks' n' → Brings p' call e → PlanLeads k p host hooks n (cond wants f k') (e ∷ p') host' (tell e hooks') n'
leads-heard wants k p host hooks n e call k' f p' host' hooks' n' calm goes world mine g b =
    let on : PlanLeads k p host hooks n (cond (fails e) f k') (e ∷ p') (tell_if (is_world p' e) e host') (tell_if (is_hooks e) e hooks') n' = PlanThen e _ _ _ _ _ _ g (b.answer, b.is) (rw calm (no_fault n' n' (omega arith))) in
    rw (goes, world, mine) at on

-- what an answer that failed says, by what it says besides
pub on_err : {A E : Type 0} {P Q R : Type 0} (r : Result A E) → OnErr r P → OnErr r Q → (P → Q → R) → OnErr r R
on_err (Ok a) p q h = tt
on_err (Err e) p q h = h p q

-- ---- the same over what is seen of the host

pub ran-none : {Fixed : Type 0} (k : Plan) (p : List Entry) (a : Seen Fixed) (hooks : Option (List Entry)) → PlanRan k p a hooks k p a hooks
ran-none k p a hooks = record { led = PlanHere; steady = steady_none }

pub ran-says : {Fixed : Type 0} (k : Plan) (p : List Entry) (a : Seen Fixed) (hooks : Option (List Entry)) (e : Entry) (call : Call) (k' f : Plan) (p' : List Entry) (b : Seen Fixed) (hooks' : Option (List Entry)) → is_fault e ≡ false → fails e ≡ false → is_world p' e ≡ false → is_hooks e ≡ false → PlanRan k p a hooks (Owes call k' f) p' b hooks' → Brings p' call e → PlanRan k p a hooks k' (e ∷ p') b hooks'
ran-says k p a hooks e call k' f p' b hooks' calm well world other r brings = record { led = leads-says k p _ _ _ e call k' f p' _ _ _ calm well world other r.led brings; steady = r.steady }

pub ran-ok : {Fixed : Type 0} (k : Plan) (p : List Entry) (a : Seen Fixed) (hooks : Option (List Entry)) (e : Entry) (call : Call) (k' f : Plan) (p' : List Entry) (b c : Seen Fixed) (hooks' : Option (List Entry)) → is_fault e ≡ false → fails e ≡ false → is_world p' e ≡ true → is_hooks e ≡ false → Tells e false b c → PlanRan k p a hooks (Owes call k' f) p' b hooks' → Brings p' call e → PlanRan k p a hooks k' (e ∷ p') c hooks'
ran-ok k p a hooks e call k' f p' b c hooks' calm well world other tells r brings = record { led = rw tells.told (leads-told false k p _ _ _ e call k' f p' _ _ _ _ calm well world other r.led brings tells.counts); steady = steady_then r.steady tells.steady }

pub ran-err : {Fixed : Type 0} (k : Plan) (p : List Entry) (a : Seen Fixed) (hooks : Option (List Entry)) (e : Entry) (call : Call) (k' f : Plan) (p' : List Entry) (b c : Seen Fixed) (hooks' : Option (List Entry)) → is_fault e ≡ true → fails e ≡ true → is_world p' e ≡ true → is_hooks e ≡ false → Tells e true b c → PlanRan k p a hooks (Owes call k' f) p' b hooks' → Brings p' call e → PlanRan k p a hooks f (e ∷ p') c hooks'
ran-err k p a hooks e call k' f p' b c hooks' fault goes world other tells r brings = record { led = rw tells.told (leads-told true k p _ _ _ e call k' f p' _ _ _ _ fault goes world other r.led brings tells.counts); steady = steady_then r.steady tells.steady }

pub ran-tells : {Fixed : Type 0} (k : Plan) (p : List Entry) (a : Seen Fixed) (hooks : Option (List Entry)) (e : Entry) (k' : Plan) (p' : List Entry) (b c : Seen Fixed) (hooks' : Option (List Entry)) → is_fault e ≡ false → fails e ≡ false → is_world p' e ≡ true → is_hooks e ≡ false → Tells e false b c → PlanRan k p a hooks (adds e k') p' b hooks' → PlanRan k p a hooks k' (e ∷ p') c hooks'
ran-tells k p a hooks e k' p' b c hooks' calm well world other tells r = ran-ok k p a hooks e (Adds e) k' Done p' b c hooks' calm well world other tells r (brings-adds p' e)

-- what the hooks are told, and what they answer that isn't ready or has no memory
pub ran-heard : {Fixed : Type 0} (k : Plan) (p : List Entry) (a : Seen Fixed) (hooks : Option (List Entry)) (e : Entry) (call : Call) (k' f : Plan) (p' : List Entry) (b : Seen Fixed) (hooks' hooks'' : Option (List Entry)) → is_fault e ≡ false → fails e ≡ false → is_world p' e ≡ false → is_hooks e ≡ true → hooks'' ≡ tell e hooks' → PlanRan k p a hooks (Owes call k' f) p' b hooks' → Brings p' call e → PlanRan k p a hooks k' (e ∷ p') b hooks''
ran-heard k p a hooks e call k' f p' b hooks' hooks'' calm well world mine told r brings = record { led = rw told (leads-heard false k p _ _ _ e call k' f p' _ _ _ calm well world mine r.led brings); steady = r.steady }

pub ran-refused : {Fixed : Type 0} (k : Plan) (p : List Entry) (a : Seen Fixed) (hooks : Option (List Entry)) (e : Entry) (call : Call) (k' f : Plan) (p' : List Entry) (b : Seen Fixed) (hooks' hooks'' : Option (List Entry)) → is_fault e ≡ false → fails e ≡ true → is_world p' e ≡ false → is_hooks e ≡ true → hooks'' ≡ tell e hooks' → PlanRan k p a hooks (Owes call k' f) p' b hooks' → Brings p' call e → PlanRan k p a hooks f (e ∷ p') b hooks''
ran-refused k p a hooks e call k' f p' b hooks' hooks'' calm bad world mine told r brings = record { led = rw told (leads-heard true k p _ _ _ e call k' f p' _ _ _ calm bad world mine r.led brings); steady = r.steady }

-- a hook that answered, and one that had no memory
ran-calls : {Fixed : Type 0} (k : Plan) (p : List Entry) (a : Seen Fixed) (hooks : Option (List Entry)) (id : Id) (n : ℕ) (what : Spawnable) (k' f : Plan) (p' : List Entry) (b : Seen Fixed) (hooks' : Option (List Entry)) → PlanRan k p a hooks (Owes (Hooks id n) k' f) p' b hooks' → PlanRan k p a hooks k' (Hook id n (Ok what) ∷ p') b (tell (Hook id n (Ok what)) hooks')
ran-calls k p a hooks id n what k' f p' b hooks' r = ran-heard k p a hooks (Hook id n (Ok what)) (Hooks id n) k' f p' b hooks' _ refl refl refl refl refl r (brings-hook p' id n (Ok what))

ran-wants : {Fixed : Type 0} (k : Plan) (p : List Entry) (a : Seen Fixed) (hooks : Option (List Entry)) (id : Id) (n : ℕ) (none : Memory) (k' f : Plan) (p' : List Entry) (b : Seen Fixed) (hooks' : Option (List Entry)) → PlanRan k p a hooks (Owes (Hooks id n) k' f) p' b hooks' → PlanRan k p a hooks f (Hook id n (Err none) ∷ p') b (tell (Hook id n (Err none)) hooks')
ran-wants k p a hooks id n none k' f p' b hooks' r = ran-refused k p a hooks (Hook id n (Err none)) (Hooks id n) k' f p' b hooks' _ refl refl refl refl refl r (brings-hook p' id n (Err none))

-- a poll, by what it answered
pub ran-ready : {Fixed : Type 0} (k : Plan) (p : List Entry) (a : Seen Fixed) (hooks : Option (List Entry)) (id : Id) (n : ℕ) (ready : Bool) (k' f : Plan) (p' : List Entry) (b : Seen Fixed) (hooks' hooks'' : Option (List Entry)) → ready ≡ true → hooks'' ≡ tell (Poll id n ready) hooks' → PlanRan k p a hooks (Owes (Polls id n) k' f) p' b hooks' → PlanRan k p a hooks k' (Poll id n ready ∷ p') b hooks''
ran-ready k p a hooks id n ready k' f p' b hooks' hooks'' is told r = ran-heard k p a hooks (Poll id n ready) (Polls id n) k' f p' b hooks' hooks'' refl (rw is refl) refl refl told r (brings-poll p' id n ready)

pub ran-later : {Fixed : Type 0} (k : Plan) (p : List Entry) (a : Seen Fixed) (hooks : Option (List Entry)) (id : Id) (n : ℕ) (ready : Bool) (k' f : Plan) (p' : List Entry) (b : Seen Fixed) (hooks' hooks'' : Option (List Entry)) → ready ≡ false → hooks'' ≡ tell (Poll id n ready) hooks' → PlanRan k p a hooks (Owes (Polls id n) k' f) p' b hooks' → PlanRan k p a hooks f (Poll id n ready ∷ p') b hooks''
ran-later k p a hooks id n ready k' f p' b hooks' hooks'' is told r = ran-refused k p a hooks (Poll id n ready) (Polls id n) k' f p' b hooks' hooks'' refl (rw is refl) refl refl told r (brings-poll p' id n ready)

-- ---- the same where the hooks alone are called

pub follows-heard : (e : Entry) (k : Plan) (p : List Entry) (hooks hooks' : Option (List Entry)) → is_fault e ≡ false → fails e ≡ false → is_world p e ≡ false → is_hooks e ≡ true → hooks' ≡ tell e hooks → PlanFollowsHooks (adds e k) p hooks k (e ∷ p) hooks'
follows-heard e k p hooks hooks' calm well world mine told = record { on = λ k₀ p₀ host₀ hooks₀ n₀ host n l. rw told (leads-heard false k₀ p₀ host₀ hooks₀ n₀ e (Adds e) k Done p host hooks n calm well world mine l (brings-adds p e)) }

-- a fault is shown, where an error handler is set
pub shows-none : (id : Id) (handler : Option ℕ) (k : Plan) (p : List Entry) (hooks : Option (List Entry)) → handler ≡ None → PlanFollowsHooks (shows id handler k) p hooks k p hooks
shows-none id handler k p hooks none = rw none (record { on = λ k₀ p₀ host₀ hooks₀ n₀ host n l. l })

pub shows-some : (id : Id) (handler : Option ℕ) (m code : ℕ) (k : Plan) (p : List Entry) (hooks hooks' : Option (List Entry)) → handler ≡ Some m → newest_code p ≡ code → hooks' ≡ tell (JobError id m code) hooks → PlanFollowsHooks (shows id handler k) p hooks k (JobError id m code ∷ p) hooks'
shows-some id handler m code k p hooks hooks' set newest told = rw set (record { on = λ k₀ p₀ host₀ hooks₀ n₀ host n l. rw told (leads-heard false k₀ p₀ host₀ hooks₀ n₀ (JobError id m code) (ShowsFault id m) k Done p host hooks n refl refl refl refl l (brings-show p id m code newest)) })

pub ran-followed : {Fixed : Type 0} (k₀ : Plan) (p₀ : List Entry) (a₀ : Seen Fixed) (hooks₀ : Option (List Entry)) (k : Plan) (p : List Entry) (a : Seen Fixed) (hooks : Option (List Entry)) (k' : Plan) (p' : List Entry) (hooks' : Option (List Entry)) → PlanFollowsHooks k p hooks k' p' hooks' → PlanRan k₀ p₀ a₀ hooks₀ k p a hooks → PlanRan k₀ p₀ a₀ hooks₀ k' p' a hooks'
ran-followed k₀ p₀ a₀ hooks₀ k p a hooks k' p' hooks' f r = record { led = f.on k₀ p₀ _ hooks₀ _ _ _ r.led; steady = r.steady }

-- a hook was called, and then what it left was spawned
pub fresh_hooked : {Fixed : Type 0} (id : Id) (command : Command) (handler : Option ℕ) (tag : SpawnTag) (hook : Option ℕ) (n : ℕ) (what : Spawnable) (p p' p'' : List Entry) (a b : Seen Fixed) (hooks hooks' hooks'' : Option (List Entry)) (k : Plan) → hook ≡ Some n → p' ≡ Hook id n (Ok what) ∷ p → hooks' ≡ tell (Hook id n (Ok what)) hooks → ((words : Words) → words_of p' words ≡ what → (k : Plan) → PlanFollows (spawn id handler tag words k) p' a hooks' k p'' b hooks'') → PlanFollows (fresh_by id command handler tag hook k) p a hooks k p'' b hooks''
fresh_hooked id command handler tag hook n what p p' p'' a b hooks hooks' hooks'' k is past told on k₀ p₀ a₀ hooks₀ r =
    let called : PlanRan k₀ p₀ a₀ hooks₀ (spawn id handler tag Left k) p' a hooks' = rw (past, told) (ran-calls k₀ p₀ a₀ hooks₀ id n what (spawn id handler tag Left k) GivenUp p a hooks (rw is at r)) in
    on Left (rw past refl) k k₀ p₀ a₀ hooks₀ called

-- where the case is given up behind the call of a hook
gave_up : {Fixed : Type 0} (k : Plan) (p : List Entry) (a : Seen Fixed) (hooks : Option (List Entry)) (id : Id) (n : ℕ) (answer : Result Spawnable Memory) (handler : Option ℕ) (tag : SpawnTag) (k' : Plan) (p' : List Entry) (b : Seen Fixed) (hooks' : Option (List Entry)) → PlanRan k p a hooks (Owes (Hooks id n) (spawn id handler tag Left k') GivenUp) p' b hooks' → GaveUp k p a hooks (Hook id n answer ∷ p') b (tell (Hook id n answer) hooks')
gave_up k p a hooks id n (Ok what) handler tag k' p' b hooks' r = record { rest = spawn id handler tag Left k'; cut = tt; ran = ran-calls k p a hooks id n what _ _ p' b hooks' r }
gave_up k p a hooks id n (Err none) handler tag k' p' b hooks' r = record { rest = GivenUp; cut = tt; ran = ran-wants k p a hooks id n none _ _ p' b hooks' r }

pub gives-up : {Fixed : Type 0} (k : Plan) (p : List Entry) (a : Seen Fixed) (hooks : Option (List Entry)) (id : Id) (n : ℕ) (handler : Option ℕ) (tag : SpawnTag) (k' : Plan) (p' p'' : List Entry) (b : Seen Fixed) (hooks' hooks'' : Option (List Entry)) → HookedOnly id n p' hooks' p'' hooks'' → PlanRan k p a hooks (Owes (Hooks id n) (spawn id handler tag Left k') GivenUp) p' b hooks' → GaveUp k p a hooks p'' b hooks''
gives-up k p a hooks id n handler tag k' p' p'' b hooks' hooks'' only r = rw (only.past, only.told) (gave_up k p a hooks id n only.answer handler tag k' p' b hooks' r)

pub ruleset leads = (PlanHere, leads-says, ran-none, ran-says, ran-tells, ran-ok, ran-err, ran-heard, ran-ready, ran-later, ran-followed, follows-heard, shows-none, shows-some, gives-up, brings-adds, brings-ask, brings-spawn, brings-signal, brings-kill, brings-wait)
