-- What the plan of a job names is the job's, and what following it leaves.
use Rattle.std.proofs.Common.{◌≡◌, ◌≢◌, ℕ, ◌+◌, ◌≤◌, ◌<◌, Bool, true, false, cond, List, [], ◌∷◌, Option, Some, None, Result, Ok, Err, refl, arith, ap, sym, ◌∙◌, eq-eqb}
use Rattle.std.specs.Prelude.{T, not, ◌&&◌, ◌-◌, ◌^◌, min, is_err}
use Rattle.std.specs.Bool.{MatchBool}
use Rattle.wx_events.specs.declared.process.ProcessEnd.{ProcessEnd}
use Rattle.wx_command.specs.declared.command.Command.{Command}
use Rattle.wx_command.specs.Spawnables.{spawnable_of}
use Rattle.wx_control.specs.declared.id.Id.{Id}
use Rattle.wx_control.specs.declared.control.Control.{Control}
use Rattle.wx_control.specs.declared.control.Control.TheVariants.{Start, Stop, GracefulStop, TryRestart, TryGracefulRestart, ContinueTryGracefulRestart, Signal as Signalled, Delete, NextEnding, SyncFunc, AsyncFunc}
use Rattle.wx_control.specs.declared.level.Level.{Level}
use Rattle.wx_control.specs.declared.level.Level.TheVariants.{Normal, High, Urgent}
use Rattle.wx_control.specs.declared.ask.Ask.{Ask}
use Rattle.wx_control.specs.Asks.{sends_of}
use Rattle.wx_journal.specs.declared.child.HostFault.{HostFault}
use Rattle.wx_journal.specs.declared.child.SpawnTag.{SpawnTag}
use Rattle.wx_journal.specs.declared.entry.Entry.{Entry}
use Rattle.wx_journal.specs.declared.entry.Entry.TheVariants.{Turn as Turned, Word as Said, Hand, Made, Asked, Pick, GraceOver, Spawn, Signal, Kill, Wait, Dropped, Raise, Gone, Run, Poll, Hook}
use Rattle.wx_journal.specs.Sorts.{Subject, OfWord, OfJob, OfChild, OfTicket, sort}
use Rattle.wx_journal.specs.declared.entry.Word.{Word}
use Rattle.wx_journal.specs.declared.entry.Word.TheVariants.{Idle as TheIdle, Later as TheLater}
use Rattle.wx_journal.specs.Names.{Names, NamesItsOwn, moment, ticket_count, child_count}
use Rattle.wx_journal.specs.Told.{Counts}
use Rattle.wx_machine.specs.declared.choice.Choice.{Choice}
use Rattle.wx_machine.specs.declared.choice.Choice.TheVariants.{Poll as Polled, Over, End, Next, Leave, Nothing}
use Rattle.wx_machine.specs.declared.function.Function.{Function}
use Rattle.wx_machine.specs.declared.grace.Grace.{Grace}
use Rattle.wx_events.specs.declared.process.Signal.{Signal as ASignal}
use Rattle.wx_machine.specs.History.{same, lives, waits, child, kept, begun, grace, unless, reaped_child, still_running, asked_of}
use Rattle.wx_machine.specs.Leaves.{SameHistory}
use Rattle.wx_machine.specs.Table.{Words, Given, Left, Call, Adds, Spawns, Signals, Waits, ShowsFault, Plan, Done, GivenUp, Owes, Kit, kit, kit_after, adds, asks, raises, shows, tries, reap, waiters, raise_grace, number_of, signalled, graceful, restart, spawn, fresh_by, fresh, row, fresh_over, over, ended_in, ended_by, polled, pick_by, case, step_by, ask_second, ask_plan, send_plan, end_plan, leave}
use Rattle.wx_machine.specs.Case.{CallAnswer, entry, PlanAdmits, is_plan_word, is_fault, next, IsCut, PlanLeads, PlanHere, PlanThen}
use Rattle.wx_machine.specs.Faults.{fault_count, Counted}
use Rattle.wx_machine.specs.Added.{Added, Same, More}
use Rattle.wx_machine.specs.JobLaws.{unreaped, Runs, AreReaped, AfterFaults, CallsItsChild, NamesChildren, NamesTickets}
use Rattle.wx_machine.proofs.Owners.{self, other-is, either, children_named, owner_below, child_owner}
use Rattle.wx_machine.proofs.Tickets.{tickets_named, asked_below, AreOf, picked_of, parked_of, parked_other, grace_asked, begun_asked}
use Rattle.wx_machine.proofs.Frame.{same_history, history_then, IsOther, other_child, frame_apart}
use Rattle.wx_machine.specs.Afterwards.{is_signalling, IsAtLevel, AreAtTheirLevels, IsBorn, MayBeOver, AreOverOnce, GoesOnAfterFaults}
use Rattle.wx_machine.proofs.AfterwardsLemmas.{born, GoesBy, levels_on, standing_on, signal_none, AreAtLevel, sends_first, sends_second}
use Rattle.wx_machine.proofs.Times.{is_first}
use Rattle.wx_machine.proofs.PlacedPlans.{MayPick, due}
use Rattle.wx_machine.proofs.Always.{Always, both, always_now, always_next, always_if}

-- this job, its running child, a ticket of it, or a word
abbrev pub IsOwn : Id → List Entry → Subject → Type 0
IsOwn id p OfWord = Unit {0}
IsOwn id p (OfJob job) = job ≡ id
IsOwn id p (OfChild c) = child id p ≡ Some c
IsOwn id p (OfTicket t) = NamesTickets p → asked_of t p ≡ Some id
IsOwn id p (_) = ⊥

-- What a plan of a job brings: it names this job, its running child, its tickets and what has the next name, spawns and calls a spawn hook
-- only where no child runs, and says that the job is gone only then, and that a grace is over only where one stands.
abbrev pub Fits : Id → List Entry → Entry → Type 0
Fits id p (Made job) = ⊥
Fits id p (Asked t job level control) = (job ≡ id) × (t ≡ ticket_count p) × IsAtLevel level control
Fits id p (Signal c number answer) = (child id p ≡ Some c) × (AreAtTheirLevels p → grace id p ≡ None)
Fits id p (GraceOver job) = (job ≡ id) × (g : Grace) × (grace id p ≡ Some g)
Fits id p (Spawn c job tag what answer) = (job ≡ id) × (child id p ≡ None) × (c ≡ child_count p)
Fits id p (Gone job) = (job ≡ id) × (child id p ≡ None)
Fits id p (Hook job n answer) = (job ≡ id) × (child id p ≡ None)
Fits id p (Said word) = T (is_plan_word word)
Fits id p (e) = IsOwn id p (sort e).subject

-- what an entry that fits is about
pub own_fit : (id : Id) (e : Entry) (p : List Entry) → Fits id p e → IsOwn id p (sort e).subject
own_fit id (Made job) p s = absurd s
own_fit id (Asked t job level control) p s = s.0
own_fit id (Signal c number answer) p s = s.0
own_fit id (GraceOver job) p s = s.0
own_fit id (Spawn c job tag what answer) p s = s.0
own_fit id (Gone job) p s = s.0
own_fit id (Hook job n answer) p s = s.0
own_fit id (Said word) p s = tt
own_fit id (_) p s = s

-- a child that an entry is about runs
abbrev pub RunsIn : List Entry → Subject → Type 0
RunsIn p (OfChild c) = Runs c p
RunsIn p (_) = Unit {0}

pub own_runs : (id : Id) (p : List Entry) (subject : Subject) → IsOwn id p subject → RunsIn p subject
own_runs id p (OfChild c) s = (id, s)
own_runs id p (_) s = tt

-- that the job is gone comes next
abbrev pub Goes : Id → Plan → Type 0
Goes id Done = ⊥
Goes id GivenUp = ⊥
Goes id (Owes call k f) = call ≡ Adds (Gone id)

-- where a child is let go the job is gone next
abbrev pub Closes : Id → Entry → Plan → Type 0
Closes id (Dropped c) k = Goes id k
Closes id (_) k = Unit {0}

-- What is known of each entry that a plan of a job brings, with what is owed behind it. The job lives while it owes
-- anything: what ends it comes last.
pub record IsSound (id : Id) (p : List Entry) (e : Entry) (k : Plan) : Type 0 where
  pub alive : lives id p ≡ true
  pub fits : Fits id p e
  pub names : NamesItsOwn p → Names p e
  pub closes : Closes id e k

abbrev pub Sound : Id → List Entry → Plan → Type 0
Sound id p k = Always (IsSound id) p k

pub child_below : (id : Id) (d : ℕ) (p : List Entry) → NamesItsOwn p → child id p ≡ Some d → d < child_count p
child_below id d p own runs = let named = children_named p own in owner_below d id p named (child_owner id d p named runs)

-- the child that runs is the one that is let go, or waited for
pub gone_child : (d : ℕ) (o : Option ℕ) → o ≡ Some d → unless d o ≡ None
gone_child d o is = rw (is, eq-eqb d d refl) refl

-- ---- what the rows of the table are built of

-- a ticket that was asked of the job, where tickets have the next names
abbrev pub IsAsked : Id → ℕ → List Entry → Type 0
IsAsked id t p = NamesTickets p → asked_of t p ≡ Some id

pub is_named : (id : Id) (t : ℕ) (p : List Entry) → IsAsked id t p → NamesItsOwn p → t < ticket_count p
is_named id t p asked own = let named = tickets_named p own in asked_below t id p named (asked named)

-- what was asked before is asked still
abbrev pub StillAsked : Id → List Entry → List Entry → Type 0
StillAsked id p q = (u : ℕ) → IsAsked id u p → IsAsked id u q

-- what comes behind these, wherever the job lives
abbrev SoundOn : Id → List Entry → Plan → Type 0
SoundOn id p k = (q : List Entry) → lives id q ≡ true → StillAsked id p q → Sound id q k

-- what comes behind these, while no child runs
abbrev pub SoundBehind : Id → List Entry → Plan → Type 0
SoundBehind id p k = (q : List Entry) → child id q ≡ None → lives id q ≡ true → StillAsked id p q → Sound id q k

pub sound_raise : (id : Id) (t : ℕ) (k : Plan) (p : List Entry) → lives id p ≡ true → IsAsked id t p → Sound id (Raise t ∷ p) k → Sound id p (adds (Raise t) k)
sound_raise id t k p alive asked rest = λ a. (record { alive = alive; fits = asked; names = is_named id t p asked; closes = tt }, rest)

pub sound_raises : (id : Id) (t : ℕ) (p : List Entry) → lives id p ≡ true → IsAsked id t p → Sound id p (raises t)
sound_raises id t p alive asked = sound_raise id t Done p alive asked tt

raises_on : (id : Id) (t : ℕ) (p : List Entry) → IsAsked id t p → SoundOn id p (raises t)
raises_on id t p asked q alive still = sound_raises id t q alive (still t asked)

-- each parked ticket is raised
pub sound_waiters : (id : Id) (ts : List ℕ) (k : Plan) (p : List Entry) → child id p ≡ None → lives id p ≡ true → (NamesTickets p → AreOf id p ts) → SoundBehind id p k → Sound id p (waiters ts k)
sound_waiters id [] k p none alive asked rest = rest p none alive (λ u h. h)
sound_waiters id (t ∷ ts) k p none alive asked rest = sound_raise id t (waiters ts k) p alive (λ own. (asked own).0) (sound_waiters id ts k (Raise t ∷ p) none alive (λ own. (asked own).1) rest)

-- a fault is shown, where an error handler is set
sound_shows : (id : Id) (handler : Option ℕ) (k : Plan) (p : List Entry) → lives id p ≡ true → SoundOn id p k → Sound id p (shows id handler k)
sound_shows id None k p alive rest = rest p alive (λ u h. h)
sound_shows id (Some n) k p alive rest = λ a. (record { alive = alive; fits = refl; names = λ own. tt; closes = tt }, rest (entry p (ShowsFault id n) a ∷ p) alive (λ u h. h))

-- a child is spawned where none runs
sound_spawn : (id : Id) (handler : Option ℕ) (tag : SpawnTag) (words : Words) (t : ℕ) (p : List Entry) → child id p ≡ None → lives id p ≡ true → IsAsked id t p → Sound id p (spawn id handler tag words (raises t))
sound_spawn id handler tag words t p none alive asked = λ a.
    let q : List Entry = entry p (Spawns id tag words) a ∷ p in
    (record { alive = alive; fits = (refl, none, refl); names = λ own. refl; closes = tt }, both _ (sound_shows id handler (raises t) q alive (raises_on id t q asked)) (sound_raises id t q alive asked))

sound_fresh_by : (id : Id) (command : Command) (handler : Option ℕ) (tag : SpawnTag) (hook : Option ℕ) (t : ℕ) (p : List Entry) → child id p ≡ None → lives id p ≡ true → IsAsked id t p → Sound id p (fresh_by id command handler tag hook (raises t))
sound_fresh_by id command handler tag None t p none alive asked = sound_spawn id handler tag (Given (spawnable_of command)) t p none alive asked
sound_fresh_by id command handler tag (Some n) t p none alive asked = λ a. (record { alive = alive; fits = (refl, none); names = λ own. tt; closes = tt }, both _ tt (sound_spawn id handler tag Left t (Hook id n a ∷ p) none alive asked))

pub sound_fresh : (id : Id) (by : Kit) (t : ℕ) (p : List Entry) → child id p ≡ None → lives id p ≡ true → IsAsked id t p → Sound id p (fresh id by (raises t))
sound_fresh id by t p none alive asked = sound_fresh_by id by.command by.handler by.tag by.hook t p none alive asked

sound_waited : (id : Id) (handler : Option ℕ) (d : ℕ) (k failed : Plan) (p : List Entry) (a : Result ProcessEnd HostFault) → child id p ≡ Some d → lives id p ≡ true → SoundOn id p failed → SoundBehind id p k
    → MatchBool (is_err a) (Sound id (Wait d a ∷ p) (shows id handler failed)) (Sound id (Wait d a ∷ p) k)
sound_waited id handler d k failed p (Ok status) is alive bad rest = rest (Wait d (Ok status) ∷ p) (gone_child d (child id p) is) alive (λ u h. h)
sound_waited id handler d k failed p (Err fault) is alive bad rest = sound_shows id handler failed (Wait d (Err fault) ∷ p) alive bad

-- the child that runs is waited for
pub sound_wait : (id : Id) (handler : Option ℕ) (d : ℕ) (k failed : Plan) (p : List Entry) → child id p ≡ Some d → lives id p ≡ true → SoundOn id p failed → SoundBehind id p k → Sound id p (tries id handler (Waits d) k failed)
sound_wait id handler d k failed p is alive bad rest = λ a. (record { alive = alive; fits = is; names = λ own. child_below id d p own is; closes = tt }, sound_waited id handler d k failed p a is alive bad rest)

-- the child that runs is reaped, and then none does
pub sound_reap : (id : Id) (handler : Option ℕ) (d : ℕ) (t : ℕ) (k : Plan) (p : List Entry) → child id p ≡ Some d → lives id p ≡ true → IsAsked id t p → SoundBehind id p k → Sound id p (reap id handler d t k)
sound_reap id handler d t k p is alive asked rest = λ a.
    let q : List Entry = Kill d a ∷ p in
    let last : SoundOn id q (raises t) = raises_on id t q asked in
    (record { alive = alive; fits = is; names = λ own. child_below id d p own is; closes = tt }, both _ (sound_shows id handler (raises t) q alive last) (sound_wait id handler d k (raises t) q is alive last rest))

-- no grace stands, where controls were asked at their levels
abbrev pub IsUngraced : Id → List Entry → Type 0
IsUngraced id p = AreAtTheirLevels p → grace id p ≡ None

-- the child that runs is sent a signal
pub sound_signal : (id : Id) (handler : Option ℕ) (d : ℕ) (signal : ASignal) (k failed : Plan) (p : List Entry) → child id p ≡ Some d → IsUngraced id p → lives id p ≡ true → SoundOn id p failed → SoundOn id p k → Sound id p (tries id handler (Signals d (number_of signal)) k failed)
sound_signal id handler d signal k failed p is none alive bad rest = λ a.
    let q : List Entry = Signal d (number_of signal) a ∷ p in
    (record { alive = alive; fits = (is, none); names = λ own. child_below id d p own is; closes = tt }, both _ (sound_shows id handler failed q alive bad) (rest q alive (λ u h. h)))

-- the child that runs is let go, where one does, and the job is gone
pub sound_leave : (id : Id) (c : Option ℕ) (p : List Entry) → child id p ≡ c → lives id p ≡ true → Sound id p (leave id c)
sound_leave id None p is alive = λ a. (record { alive = alive; fits = (refl, is); names = λ own. tt; closes = tt }, tt)
sound_leave id (Some d) p is alive = λ a. (record { alive = alive; fits = is; names = λ own. child_below id d p own is; closes = refl }, λ b. (record { alive = alive; fits = (refl, gone_child d (child id p) is); names = λ own. tt; closes = tt }, tt))

-- ---- the plans of the table are sound

-- the tickets that a case goes by were asked
record KitAsked (id : Id) (by : Kit) (p : List Entry) : Type 0 where
  parked : NamesTickets p → AreOf id p by.parked
  grace : (g : Grace) → by.grace ≡ Some g → IsAsked id g.ticket p

-- the ticket of a grace is raised
sound_grace : (id : Id) (o : Option Grace) (t : ℕ) (p : List Entry) → lives id p ≡ true → ((g : Grace) → o ≡ Some g → IsAsked id g.ticket p) → IsAsked id t p → Sound id p (raise_grace o (raises t))
sound_grace id None t p alive held asked = sound_raises id t p alive asked
sound_grace id (Some g) t p alive held asked = sound_raise id g.ticket (raises t) p alive (held g refl) (sound_raises id t (Raise g.ticket ∷ p) alive asked)

still_all : (id : Id) (p q : List Entry) (ts : List ℕ) → StillAsked id p q → (NamesTickets p → AreOf id p ts) → NamesTickets q → AreOf id q ts
still_all id p q [] still h own = tt
still_all id p q (t ∷ ts) still h own = (still t (λ o. (h o).0) own, still_all id p q ts still (λ o. (h o).1) own)

-- each parked ticket is raised once the child was reaped
sound_parked : (id : Id) (by : Kit) (k : Plan) (p : List Entry) → KitAsked id by p → SoundBehind id p k → SoundBehind id p (waiters by.parked k)
sound_parked id by k p held rest q none alive still = sound_waiters id by.parked k q none alive (still_all id p q by.parked still held.parked) (λ r none' alive' still'. rest r none' alive' (λ u h. still' u (still u h)))

sound_restart : (id : Id) (by : Kit) (d t : ℕ) (p : List Entry) → child id p ≡ Some d → lives id p ≡ true → IsAsked id t p → KitAsked id by p → Sound id p (restart id by d t)
sound_restart id by d t p is alive asked held = sound_reap id by.handler d t (waiters by.parked (fresh id by (raises t))) p is alive asked (sound_parked id by (fresh id by (raises t)) p held (λ q none alive still. sound_fresh id by t q none alive (still t asked)))

sound_stop : (id : Id) (by : Kit) (d t : ℕ) (p : List Entry) → child id p ≡ Some d → lives id p ≡ true → IsAsked id t p → KitAsked id by p → Sound id p (reap id by.handler d t (waiters by.parked (raise_grace by.grace (raises t))))
sound_stop id by d t p is alive asked held =
    sound_reap id by.handler d t (waiters by.parked (raise_grace by.grace (raises t))) p is alive asked
    (sound_parked id by (raise_grace by.grace (raises t)) p held (λ q none alive still. sound_grace id by.grace t q alive (λ g e. still g.ticket (held.grace g e)) (still t asked)))

sound_graceful : (id : Id) (handler : Option ℕ) (signal : ASignal) (t : ℕ) (c : Option ℕ) (p : List Entry) → child id p ≡ c → IsUngraced id p → lives id p ≡ true → IsAsked id t p → Sound id p (graceful id handler signal t c)
sound_graceful id handler signal t None p is none alive asked = sound_raises id t p alive asked
sound_graceful id handler signal t (Some d) p is none alive asked = sound_signal id handler d signal Done (raises t) p is none alive (raises_on id t p asked) (λ q alive still. tt)

sound_signalled : (id : Id) (handler : Option ℕ) (signal : ASignal) (t : ℕ) (c : Option ℕ) (p : List Entry) → child id p ≡ c → IsUngraced id p → lives id p ≡ true → IsAsked id t p → Sound id p (signalled id handler signal t c)
sound_signalled id handler signal t None p is none alive asked = sound_raises id t p alive asked
sound_signalled id handler signal t (Some d) p is none alive asked = sound_signal id handler d signal (raises t) (raises t) p is none alive (raises_on id t p asked) (raises_on id t p asked)

sound_row : (id : Id) (by : Kit) (t : ℕ) (control : Control) (c : Option ℕ) (p : List Entry) → child id p ≡ c → (is_signalling control ≡ true → IsUngraced id p) → lives id p ≡ true → IsAsked id t p → KitAsked id by p → Sound id p (row id by t control c)
sound_row id by t Start None p is none alive asked held = sound_fresh id by t p is alive asked
sound_row id by t Stop (Some d) p is none alive asked held = sound_stop id by d t p is alive asked held
sound_row id by t (GracefulStop signal grace) c p is none alive asked held = sound_graceful id by.handler signal t c p is (none refl) alive asked
sound_row id by t TryRestart (Some d) p is none alive asked held = sound_restart id by d t p is alive asked held
sound_row id by t (TryGracefulRestart signal grace) c p is none alive asked held = sound_graceful id by.handler signal t c p is (none refl) alive asked
sound_row id by t ContinueTryGracefulRestart None p is none alive asked held = sound_fresh id by t p is alive asked
sound_row id by t ContinueTryGracefulRestart (Some d) p is none alive asked held = sound_restart id by d t p is alive asked held
sound_row id by t (Signalled signal) c p is none alive asked held = sound_signalled id by.handler signal t c p is (none refl) alive asked
sound_row id by t Delete c p is none alive asked held = sound_raise id t (leave id c) p alive asked (sound_leave id c (Raise t ∷ p) is alive)
sound_row id by t NextEnding c p is none alive asked held = either (Sound id p) by.finished (raises t) Done (sound_raises id t p alive asked) tt
sound_row id by t (SyncFunc n) c p is none alive asked held = λ a. (record { alive = alive; fits = refl; names = λ own. tt; closes = tt }, sound_raises id t (Run id n ∷ p) alive asked)
sound_row id by t (AsyncFunc n) c p is none alive asked held = λ a. (record { alive = alive; fits = refl; names = λ own. tt; closes = tt }, tt)
sound_row id by t (_) (_) p is none alive asked held = sound_raises id t p alive asked

sound_fresh_over : (id : Id) (by : Kit) (g : Grace) (p : List Entry) → child id p ≡ None → lives id p ≡ true → IsAsked id g.ticket p → Sound id p (fresh_over id by g)
sound_fresh_over id by g p none alive asked = either (Sound id p) g.restarts (fresh id by (raises g.ticket)) (raises g.ticket) (sound_fresh id by g.ticket p none alive asked) (sound_raises id g.ticket p alive asked)

sound_over : (id : Id) (by : Kit) (d : ℕ) (g : Grace) (p : List Entry) → child id p ≡ Some d → lives id p ≡ true → grace id p ≡ Some g → IsAsked id g.ticket p → KitAsked id by p → Sound id p (over id by d g)
sound_over id by d g p is alive standing asked held = λ a.
    let held' : KitAsked id by (GraceOver id ∷ p) = record { parked = held.parked; grace = held.grace } in (
      record { alive = alive; fits = (refl, g, standing); names = λ own. tt; closes = tt },
      sound_reap id by.handler d g.ticket (waiters by.parked (fresh_over id by g)) (GraceOver id ∷ p) is alive asked
          (sound_parked id by (fresh_over id by g) (GraceOver id ∷ p) held' (λ q none alive still. sound_fresh_over id by g q none alive (still g.ticket asked))),
    )

sound_ended_in : (id : Id) (by : Kit) (g : Grace) (p : List Entry) → IsAsked id g.ticket p → KitAsked id by p → SoundBehind id p (ended_in id by g)
sound_ended_in id by g p asked held q none alive still =
    either (Sound id q) g.restarts (waiters by.parked (fresh id by (raises g.ticket))) (adds (Raise g.ticket) (waiters by.parked Done))
    (sound_parked id by (fresh id by (raises g.ticket)) p held (λ r none alive still. sound_fresh id by g.ticket r none alive (still g.ticket asked)) q none alive still)
    (sound_raise id g.ticket (waiters by.parked Done) q alive (still g.ticket asked) (sound_parked id by Done p held (λ r none alive still. tt) (Raise g.ticket ∷ q) none alive still))

sound_ended_by : (id : Id) (by : Kit) (o : Option Grace) (p : List Entry) → ((g : Grace) → o ≡ Some g → IsAsked id g.ticket p) → KitAsked id by p → SoundBehind id p (ended_by id by o)
sound_ended_by id by None p asked held = sound_parked id by Done p held (λ q none alive still. tt)
sound_ended_by id by (Some g) p asked held = sound_ended_in id by g p (asked g refl) held

sound_says : (id : Id) (word : Word) (p : List Entry) → T (is_plan_word word) → lives id p ≡ true → Sound id p (adds (Said word) Done)
sound_says id word p planned alive = λ a. (record { alive = alive; fits = planned; names = λ own. tt; closes = tt }, tt)

sound_polled : (id : Id) (f : Function) (p : List Entry) → lives id p ≡ true → IsAsked id f.ticket p → Sound id p (polled id f)
sound_polled id f p alive asked = λ a.
    let q : List Entry = Poll id f.n a ∷ p in
    (record { alive = alive; fits = refl; names = λ own. tt; closes = tt }, both _ (sound_says id TheLater q tt alive) (sound_raises id f.ticket q alive asked))

-- ---- a step

-- what is picked names the running child, or a ticket that was asked
sound_case : (id : Id) (by : Kit) (choice : Choice) (p : List Entry) → lives id p ≡ true → KitAsked id by p
    → MayPick id p choice → Sound id p (case id by (child id p) choice)
sound_case id by (Polled f) p alive held is = sound_polled id f p alive (λ own. begun_asked id p f own is)
sound_case id by (Over d g) p alive held is = sound_over id by d g p is.1 alive is.2 (λ own. grace_asked id p g own is.2) held
sound_case id by (End d) p alive held is = sound_wait id by.handler d (ended_by id by by.grace) Done p is.1 alive (λ q alive still. tt) (sound_ended_by id by by.grace p held.grace held)
sound_case id by (Next t control) p alive held is =
    let f = is_first t control (waits id Urgent p) (waits id High p) (waits id Normal p) (grace id p) is.1 in
    let asked : IsAsked id t p = λ own. picked_of id p t control own f.found in
    λ a. (record { alive = alive; fits = refl; names = is_named id t p asked; closes = tt }, sound_row id (kit_after control by) t control (child id p) (Pick id t ∷ p) refl (λ signals levels. signal_none id t control p is.1 signals levels) alive asked (record { parked = held.parked; grace = held.grace }))
sound_case id by Leave p alive held is = sound_leave id (child id p) p refl alive
sound_case id by Nothing p alive held is = sound_says id TheIdle p tt alive

pub sound_step : (closed : Bool) (id : Id) (command : Command) (p : List Entry) → Sound id p (step_by closed id command p)
sound_step closed id command p =
    let held : KitAsked id (kit id command p) p = record { parked = parked_of id p; grace = λ g e own. grace_asked id p g own e } in
    always_if (IsSound id) p (lives id p) (case id (kit id command p) (child id p) (pick_by closed id p))
    (λ alive. sound_case id (kit id command p) (pick_by closed id p) p alive held (due closed (begun id p) (child id p) (grace id p) (moment p) (kept id p) _))

-- ---- asks, and the end of a job

sound_asks : (id : Id) (level : Level) (control : Control) (k : Plan) (p : List Entry) → IsAtLevel level control → lives id p ≡ true → Sound id (Asked (ticket_count p) id level control ∷ p) k → Sound id p (asks id level control k)
sound_asks id level control k p at alive rest = λ a. (record { alive = alive; fits = (refl, refl, at); names = λ own. refl; closes = tt }, rest)

sound_second : (id : Id) (level : Level) (second : Option Control) (p : List Entry) → AreAtLevel level second → lives id p ≡ true → Sound id p (ask_second id level second Done)
sound_second id level None p at alive = tt
sound_second id level (Some control) p at alive = sound_asks id level control Done p at alive tt

pub sound_ask : (id : Id) (ask : Ask) (p : List Entry) → lives id p ≡ true → Sound id p (ask_plan id (sends_of ask) Done)
sound_ask id ask p alive = sound_asks id (sends_of ask).level (sends_of ask).first (ask_second id (sends_of ask).level (sends_of ask).second Done) p (sends_first ask) alive (sound_second id (sends_of ask).level (sends_of ask).second _ (sends_second ask) alive)

pub sound_send : (id : Id) (ask : Ask) (p : List Entry) → Sound id p (send_plan id (sends_of ask) p)
sound_send id ask p = always_if (IsSound id) p (lives id p) (ask_plan id (sends_of ask) Done) (sound_ask id ask p)

pub sound_end : (id : Id) (p : List Entry) → Sound id p (end_plan id p)
sound_end id p = always_if (IsSound id) p (lives id p) (leave id (child id p)) (sound_leave id (child id p) p refl)

-- ---- one entry

-- a ticket is asked of one job
other_ticket : (i id : Id) (t u : ℕ) (p : List Entry) → i ≢ id → asked_of t p ≡ Some id → asked_of u p ≡ Some i → t ≢ u
other_ticket i id t u p ne its mine is = let same_one : asked_of u p ≡ Some id = rw (← is) its in let one : Some id ≡ Some i = sym same_one ∙ mine in ne cc

-- it says nothing of any other job
other_subject : (i id : Id) (p : List Entry) (subject : Subject) → i ≢ id → NamesChildren p → NamesTickets p → IsOwn id p subject → IsOther i p subject
other_subject i id p OfWord ne named tickets s = tt
other_subject i id p (OfJob job) ne named tickets s = rw s (other-is i id ne)
other_subject i id p (OfChild c) ne named tickets s = other_child i id c p ne named s
other_subject i id p (OfTicket t) ne named tickets s = (
  parked_other i id t p ne tickets (s tickets),
  record {
    graces = λ g e. other_ticket i id t g.ticket p ne (s tickets) (grace_asked i p g tickets e);
    functions = λ f e. other_ticket i id t f.ticket p ne (s tickets) (begun_asked i p f tickets e);
  },
)
other_subject i id p (_) ne named tickets s = absurd s

frame : (i id : Id) (e : Entry) (p : List Entry) → i ≢ id → NamesChildren p → NamesTickets p → Fits id p e → SameHistory i p (e ∷ p)
frame i id (Turned t) p ne named tickets s = absurd s
frame i id (Hand n names acts) p ne named tickets s = absurd s
frame i id (e) p ne named tickets s = frame_apart i e p (other_subject i id p (sort e).subject ne named tickets (own_fit id e p s)) refl

-- a child that it spawns has the next name
children_fit : (id : Id) (e : Entry) (p : List Entry) → Fits id p e → NamesChildren p → NamesChildren (e ∷ p)
children_fit id (Spawn c job tag what answer) p s h = (s.2, h)
children_fit id (_) p s h = h

-- a ticket that it asks has the next name
tickets_fit : (id : Id) (e : Entry) (p : List Entry) → Fits id p e → NamesTickets p → NamesTickets (e ∷ p)
tickets_fit id (Asked t job level control) p s h = (s.1, h)
tickets_fit id (_) p s h = h

-- an entry leaves after a fault what must be left, where a child that it is about runs
pub after_fault : (e : Entry) (p : List Entry) → RunsIn p (sort e).subject → AfterFaults p → AfterFaults (e ∷ p)
after_fault (Spawn c id tag what (Err fault)) p r h = (rw (self id) refl, h)
after_fault (Signal c number (Err fault)) p r h = (r, h)
after_fault (Kill c (Err fault)) p r h = (r, h)
after_fault (Wait c (Err fault)) p r h = (r, h)
after_fault (_) p r h = h

-- it is on the child that runs, and leaves after a fault what must be left
pub calls_child : (id : Id) (e : Entry) (p : List Entry) → Fits id p e → CallsItsChild id p e
calls_child id (Spawn c job tag what (Err fault)) p s = rw s.0 (rw (self id) refl)
calls_child id (Signal c number (Err fault)) p s = (s.0, refl)
calls_child id (Signal c number (Ok done)) p s = s.0
calls_child id (Kill c (Err fault)) p s = s
calls_child id (Kill c (Ok done)) p s = s
calls_child id (Wait c (Err fault)) p s = s
calls_child id (Wait c (Ok status)) p s = s
calls_child id (Dropped c) p s = s
calls_child id (GraceOver job) p s = ((s.1, s.2), rw s.0 (rw (self id) refl))
calls_child id (_) p s = tt

-- what a plan of a job brings goes by the journal before it
fit_by : (id : Id) (e : Entry) (p : List Entry) → Fits id p e → GoesBy p e
fit_by id (GraceOver job) p s = rw s.0 (s.1, s.2)
fit_by id (Signal c number answer) p s = (id, s.0, s.1)
fit_by id (Asked t job level control) p s = s.2
fit_by id (_) p s = tt

is_born : (p : List Entry) (subject : Subject) → NamesChildren p → RunsIn p subject → IsBorn subject p
is_born p (OfChild c) named r = born r.0 c p named r.1
is_born p (_) named r = tt

over_once : (e : Entry) (p : List Entry) → GoesBy p e → MayBeOver p → AreOverOnce p → AreOverOnce (e ∷ p)
over_once (GraceOver id) p by standing h = (standing id by.0 by.1, h)
over_once (_) p by standing h = h

-- what comes after faults
pub goes_on : (e : Entry) (p : List Entry) → RunsIn p (sort e).subject → GoesBy p e → NamesChildren (e ∷ p) → NamesTickets (e ∷ p) → GoesOnAfterFaults p → GoesOnAfterFaults (e ∷ p)
goes_on e p r by named tickets h = record {
  children = named;
  tickets = tickets;
  levels = levels_on e p by h.levels;
  standing = standing_on e p by h.children h.tickets h.levels h.standing;
  born = (is_born p (sort e).subject h.children r, h.born);
  over = over_once e p by h.standing h.over;
}

-- where the job is gone next, nothing else comes
gone_by : (p : List Entry) (call : Call) (a : CallAnswer call) (e : Entry) → call ≡ Adds e → entry p call a ≡ e
gone_by p (Adds x) a e is = cc
gone_by p (_) a e is = absurd cc

pub goes_gone : (id : Id) (p : List Entry) (k : Plan) (e : Entry) → PlanAdmits p k e → Goes id k → e ≡ Gone id
goes_gone id p Done e d g = absurd g
goes_gone id p GivenUp e d g = absurd g
goes_gone id p (Owes call k f) e d g = d.1 ∙ gone_by p call d.0 (Gone id) g

-- Each child was reaped before the next spawn, the last one is the one that runs, but for where the job is gone next, and no
-- child runs where it is gone.
pub record Reaping (id : Id) (k : Plan) (p : List Entry) : Type 0 where
  pub each : AreReaped id p
  pub last : lives id p ≡ true → (Goes id k → ⊥) → unreaped id p ≡ child id p
  pub none : lives id p ≡ false → child id p ≡ None

-- a job that lives isn't gone
lives_on : {b : Bool} {A : Type 0} → b ≡ true → b ≡ false → A
lives_on alive dead = let both : true ≡ false = sym alive ∙ dead in absurd cc

-- the last one, before another entry than that the job is gone
last_before : (id : Id) (k : Plan) (e : Entry) (p : List Entry) → PlanAdmits p k e → (e ≡ Gone id → ⊥) → Reaping id k p → lives id p ≡ true → unreaped id p ≡ child id p
last_before id k e p d other r alive = r.last alive (λ g. other (goes_gone id p k e d g))

reaps_on : (id : Id) (k : Plan) (e : Entry) (k' : Plan) (p : List Entry) → PlanAdmits p k e → IsSound id p e k' → Reaping id k p → Reaping id k' (e ∷ p)
reaps_on id k (Made job) k' p d s r = absurd s.fits
reaps_on id k (Spawn c job tag what (Ok a)) k' p d s r =
    let before = last_before id k (Spawn c job tag what (Ok a)) p d (λ is. cc) r s.alive in
    let here : same job id ≡ true = rw s.fits.0 (self id) in
    record { each = (λ e. before ∙ s.fits.1, r.each); last = λ l g. rw here (refl {a = Some c}); none = λ dead. lives_on s.alive dead }
reaps_on id k (Spawn c job tag what (Err a)) k' p d s r =
    let before = last_before id k (Spawn c job tag what (Err a)) p d (λ is. cc) r s.alive in
    record { each = (λ e. before ∙ s.fits.1, r.each); last = λ l g. before; none = r.none }
reaps_on id k (Dropped c) k' p d s r = record { each = r.each; last = λ l g. absurd (g s.closes); none = λ dead. lives_on s.alive dead }
reaps_on id k (Gone job) k' p d s r = record { each = r.each; last = λ l g. (let dead : (not (same job id) && lives id p) ≡ false = rw (s.fits.0, self id) refl in lives_on l dead); none = λ dead. s.fits.1 }
reaps_on id k (e) k' p d s r = record { each = r.each; last = λ l g. ap (still_running (reaped_child e)) (last_before id k e p d (λ is. cc) r l); none = λ dead. lives_on s.alive dead }

-- ---- a whole way

-- What is known of a journal to which the plan of a job led. Only what is said of other jobs asks for the journal's names.
pub record Followed (id : Id) (k : Plan) (p : List Entry) (k' : Plan) (p' : List Entry) : Type 0 where
  pub sound : Sound id p' k'
  pub children : NamesChildren p → NamesChildren p'
  pub reaps : Reaping id k p → Reaping id k' p'
  pub failing : AfterFaults p → AfterFaults p'
  pub afterwards : GoesOnAfterFaults p → GoesOnAfterFaults p'
  pub own : NamesItsOwn p → NamesItsOwn p'
  pub tickets : NamesTickets p → NamesTickets p'
  pub others : NamesChildren p → NamesTickets p → (i : Id) → i ≢ id → SameHistory i p p'
  pub calls : Added (CallsItsChild id) p p'

pub follow : (id : Id) (k : Plan) (p : List Entry) (host hooks : Option (List Entry)) (n : ℕ) (k' : Plan) (p' : List Entry) (host' hooks' : Option (List Entry)) (n' : ℕ) → PlanLeads k p host hooks n k' p' host' hooks' n' → Sound id p k → Followed id k p k' p'
follow id k p host hooks n k' p' host' hooks' n' l s = elim l as (λ k' p' host' hooks' n' _. Followed id k p k' p') [
  | PlanHere ↦ record { sound = s; children = λ h. h; reaps = λ r. r; failing = λ r. r; afterwards = λ r. r; own = λ h. h; tickets = λ h. h; others = λ named tickets i ne. same_history i p; calls = Same }
  | PlanThen e k₁ p₁ host₁ hooks₁ n₁ n₂ (l → h) d counts ↦
      let o = always_now (IsSound id) p₁ k₁ e d h.sound in record {
        sound = always_next (IsSound id) p₁ k₁ e d h.sound;
        children = λ named. children_fit id e p₁ o.fits (h.children named);
        reaps = λ r. reaps_on id k₁ e (next k₁ e) p₁ d o (h.reaps r);
        failing = λ r. after_fault e p₁ (own_runs id p₁ (sort e).subject (own_fit id e p₁ o.fits)) (h.failing r);
        afterwards = λ r. (let was = h.afterwards r in goes_on e p₁ (own_runs id p₁ (sort e).subject (own_fit id e p₁ o.fits)) (fit_by id e p₁ o.fits) (children_fit id e p₁ o.fits was.children) (tickets_fit id e p₁ o.fits was.tickets) was);
        own = λ own. (o.names (h.own own), h.own own);
        tickets = λ named. tickets_fit id e p₁ o.fits (h.tickets named);
        others = λ named tickets i ne. history_then i p p₁ (e ∷ p₁) (h.others named tickets i ne) (frame i id e p₁ ne (h.children named) (h.tickets tickets) o.fits);
        calls = More e p₁ h.calls (calls_child id e p₁ o.fits);
      }
]

-- where a case may be given up the end of the job doesn't come next
pub cut_goes : (id : Id) (k : Plan) → IsCut k → Goes id k → ⊥
cut_goes id Done c g = absurd c
cut_goes id GivenUp c g = absurd g
cut_goes id (Owes (Spawns job tag words) k f) c g = absurd cc
cut_goes id (Owes (Adds e) k f) c g = absurd c
cut_goes id (Owes (call) k f) c g = absurd cc

-- ---- each fault raised the count

counted_more : (n mid new : ℕ) (a b : ℕ) (bad : Bool) → Counts bad mid new → (n ≤ mid) × (min (n + (b - a)) (2 ^ 64 - 1) ≤ mid) → (n ≤ new) × (min (n + (cond bad (b + 1) b - a)) (2 ^ 64 - 1) ≤ new)
counted_more n mid new a b true counts h = let le = counts.later in let rose = counts.rose refl in (omega (arith, h.0), omega (arith, h.1))
counted_more n mid new a b false counts h = let le = counts.later in (omega (arith, h.0), omega (arith, h.1))

leads_counts : (k : Plan) (p : List Entry) (host hooks : Option (List Entry)) (n : ℕ) (k' : Plan) (p' : List Entry) (host' hooks' : Option (List Entry)) (n' : ℕ) → PlanLeads k p host hooks n k' p' host' hooks' n' → (n ≤ n') × (min (n + (fault_count p' - fault_count p)) (2 ^ 64 - 1) ≤ n')
leads_counts k p host hooks n k' p' host' hooks' n' l = elim l as (λ k' p' host' hooks' n' _. (n ≤ n') × (min (n + (fault_count p' - fault_count p)) (2 ^ 64 - 1) ≤ n')) [
  | PlanHere ↦ (omega arith, omega arith)
  | PlanThen e k₁ p₁ host₁ hooks₁ n₁ n₂ (l → h) d counts ↦ counted_more n n₁ n₂ (fault_count p) (fault_count p₁) (is_fault e) counts h
]

pub leads_counted : (k : Plan) (p : List Entry) (host hooks : Option (List Entry)) (n : ℕ) (k' : Plan) (p' : List Entry) (host' hooks' : Option (List Entry)) (n' : ℕ) → PlanLeads k p host hooks n k' p' host' hooks' n' → Counted p n p' n'
leads_counted k p host hooks n k' p' host' hooks' n' l = let h = leads_counts k p host hooks n k' p' host' hooks' n' l in record { later = h.0; rose = h.1 }
