-- Following a plan: which entries it lets come, and what is left of it then.
use Rattle.std.specs.Prelude.{◌≡◌, ℕ, Bool, true, false, not, if◌then◌else◌, is_err, Option, Result, Ok, Err, List, [], ◌∷◌}
use Rattle.wx_text.specs.declared.list.Memory.{Memory}
use Rattle.wx_command.specs.declared.spawnable.Spawnable.{Spawnable}
use Rattle.wx_events.specs.declared.process.ProcessEnd.{ProcessEnd}
use Rattle.wx_control.specs.declared.id.Id.{Id}
use Rattle.wx_journal.specs.declared.child.HostFault.{HostFault}
use Rattle.wx_journal.specs.declared.entry.Entry.{Entry}
use Rattle.wx_journal.specs.declared.entry.Entry.TheVariants.{Word as Said, Asked, Spawn, Signal, Kill, Wait, Poll, Hook, JobError}
use Rattle.wx_journal.specs.declared.entry.Word.{Word}
use Rattle.wx_journal.specs.declared.entry.Word.TheVariants.{Idle, Ignored, Quitting, Later, Quiet, Stepped}
use Rattle.wx_journal.specs.Sorts.{Subject, OfWord, OfSettings, is_job, sort}
use Rattle.wx_journal.specs.Names.{ticket_count, child_count}
use Rattle.wx_journal.specs.Told.{tell, tell_if, is_world, is_hooks, Counts}
use Rattle.wx_machine.specs.Seen.{Seen}
use Rattle.wx_machine.specs.Steady.{IsSteady}
use Rattle.wx_machine.specs.Table.{Words, Given, Left, Call, Adds, Spawns, Signals, Kills, Waits, Asks, Hooks, Polls, ShowsFault, Plan, Done, GivenUp, Owes}

-- what may be answered
abbrev pub CallAnswer : Call → Type 0
CallAnswer (Adds e) = Unit {0}
CallAnswer (Spawns id tag words) = Result (Unit {0}) HostFault
CallAnswer (Signals c number) = Result (Unit {0}) HostFault
CallAnswer (Kills c) = Result (Unit {0}) HostFault
CallAnswer (Waits c) = Result ProcessEnd HostFault
CallAnswer (Asks id level control) = Unit {0}
CallAnswer (Hooks id n) = Result Spawnable Memory
CallAnswer (Polls id n) = Bool
CallAnswer (ShowsFault id n) = Unit {0}

-- what the newest entry left to be spawned: nothing, where it is no hook that answered
abbrev pub left : List Entry → Spawnable
left (Hook id n (Ok what) ∷ p) = what
left (_) = record { words = []; options = record { grouped = false; session = false; reset_sigmask = false; grant_foreground = false } }

abbrev pub words_of : List Entry → Words → Spawnable
words_of p (Given what) = what
words_of p Left = left p

-- the code of the fault that the newest entry holds: 0, where it holds none
abbrev pub newest_code : List Entry → ℕ
newest_code (Spawn c id tag what (Err fault) ∷ p) = fault.0
newest_code (Signal c number (Err fault) ∷ p) = fault.0
newest_code (Kill c (Err fault) ∷ p) = fault.0
newest_code (Wait c (Err fault) ∷ p) = fault.0
newest_code (_) = 0

-- the entry behind these, with this answer
abbrev pub entry : List Entry → (call : Call) → CallAnswer call → Entry
entry p (Adds e) a = e
entry p (Spawns id tag words) a = Spawn (child_count p) id tag (words_of p words) a
entry p (Signals c number) a = Signal c number a
entry p (Kills c) a = Kill c a
entry p (Waits c) a = Wait c a
entry p (Asks id level control) a = Asked (ticket_count p) id level control
entry p (Hooks id n) a = Hook id n a
entry p (Polls id n) a = Poll id n a
entry p (ShowsFault id n) a = JobError id n (newest_code p)

-- the entries that a plan lets come next behind these
abbrev pub PlanAdmits : List Entry → Plan → Entry → Type 0
PlanAdmits p Done e = ⊥
PlanAdmits p GivenUp e = ⊥
PlanAdmits p (Owes call k f) e = (a : CallAnswer call) × (e ≡ entry p call a)

-- the entries of plans are of a job, say a word, or tell that the settings were changed
abbrev pub is_planned : Subject → Bool
is_planned OfWord = true
is_planned OfSettings = true
is_planned (subject) = is_job subject

-- the words that a plan may say
abbrev pub is_plan_word : Word → Bool
is_plan_word Idle = true
is_plan_word Ignored = true
is_plan_word Quitting = false
is_plan_word Later = true
is_plan_word Quiet = false
is_plan_word Stepped = false

abbrev pub is_of_plan : Entry → Bool
is_of_plan (Said word) = is_plan_word word
is_of_plan (e) = is_planned (sort e).subject

-- the entry holds the fault of a call on a child
abbrev pub is_fault : Entry → Bool
is_fault e = (sort e).fault

-- a plan goes on behind the entry as it does behind a fault: also where a hook had no memory, and where a function that was
-- polled isn't ready
abbrev pub fails : Entry → Bool
fails (Poll job n ready) = not ready
fails (Hook job n answer) = is_err answer
fails e = is_fault e

-- what is left of a plan after the entry that was owed first
abbrev pub next : Plan → Entry → Plan
next Done e = Done
next GivenUp e = GivenUp
next (Owes call k f) e = if fails e then f else k

-- the spawn of what a hook left comes next
abbrev pub SpawnsLeft : Call → Type 0
SpawnsLeft (Adds e) = ⊥
SpawnsLeft (Spawns id tag (Given what)) = ⊥
SpawnsLeft (Spawns id tag Left) = Unit {0}
SpawnsLeft (Signals c number) = ⊥
SpawnsLeft (Kills c) = ⊥
SpawnsLeft (Waits c) = ⊥
SpawnsLeft (Asks id level control) = ⊥
SpawnsLeft (Hooks id n) = ⊥
SpawnsLeft (Polls id n) = ⊥
SpawnsLeft (ShowsFault id n) = ⊥

-- the plans at which want of memory may give a case up: behind a hook that had no memory, and between a hook and the spawn
abbrev pub IsCut : Plan → Type 0
IsCut Done = ⊥
IsCut GivenUp = Unit {0}
IsCut (Owes call k f) = SpawnsLeft call

-- From one plan and journal to what is left of it and a longer journal, with what host and hooks were told and how often
-- a call on a child failed: each entry on top was owed first, was told by just the one that it is a call on, and where it
-- holds a fault the count rose.
pub data PlanLeads (k : Plan) (p : List Entry) (host hooks : Option (List Entry)) (faults : ℕ) : Plan → List Entry → Option (List Entry) → Option (List Entry) → ℕ → Type 0 where
  PlanHere : PlanLeads k p host hooks faults k p host hooks faults
  PlanThen : (e : Entry) (k' : Plan) (p' : List Entry) (host' hooks' : Option (List Entry)) (faults' faults'' : ℕ) → PlanLeads k p host hooks faults k' p' host' hooks' faults' → PlanAdmits p' k' e → Counts (is_fault e) faults' faults'' → PlanLeads k p host hooks faults (next k' e) (e ∷ p') (tell_if (is_world p' e) e host') (tell_if (is_hooks e) e hooks') faults''

-- the same over what is seen of the host, of which the rest stayed as it was
pub record PlanRan {Fixed : Type 0} (k : Plan) (p : List Entry) (a : Seen Fixed) (hooks : Option (List Entry)) (k' : Plan) (p' : List Entry) (b : Seen Fixed) (hooks' : Option (List Entry)) : Type 0 where
  pub led : PlanLeads k p a.shown.told hooks a.shown.faults k' p' b.shown.told hooks' b.shown.faults
  pub steady : IsSteady a b

-- whatever ran to the one runs on to the other, where the hooks aren't called
abbrev pub PlanFollowsHost : {Fixed : Type 0} → Plan → List Entry → Seen Fixed → Plan → List Entry → Seen Fixed → Type 0
PlanFollowsHost {Fixed} k p a k' p' b = (k₀ : Plan) (p₀ : List Entry) (a₀ : Seen Fixed) (hooks₀ hooks : Option (List Entry)) → PlanRan k₀ p₀ a₀ hooks₀ k p a hooks → PlanRan k₀ p₀ a₀ hooks₀ k' p' b hooks

-- the same where the host isn't called either
abbrev pub PlanFollowsAlone : Plan → List Entry → Plan → List Entry → Type 0
PlanFollowsAlone k p k' p' = (k₀ : Plan) (p₀ : List Entry) (host₀ hooks₀ : Option (List Entry)) (faults₀ : ℕ) (host hooks : Option (List Entry)) (faults : ℕ) → PlanLeads k₀ p₀ host₀ hooks₀ faults₀ k p host hooks faults → PlanLeads k₀ p₀ host₀ hooks₀ faults₀ k' p' host hooks faults

-- the same where the hooks alone are called
pub record PlanFollowsHooks (k : Plan) (p : List Entry) (hooks : Option (List Entry)) (k' : Plan) (p' : List Entry) (hooks' : Option (List Entry)) : Type 0 where
  pub on : (k₀ : Plan) (p₀ : List Entry) (host₀ hooks₀ : Option (List Entry)) (faults₀ : ℕ) (host : Option (List Entry)) (faults : ℕ) → PlanLeads k₀ p₀ host₀ hooks₀ faults₀ k p host hooks faults → PlanLeads k₀ p₀ host₀ hooks₀ faults₀ k' p' host hooks' faults

-- the same where both may be called
abbrev pub PlanFollows : {Fixed : Type 0} → Plan → List Entry → Seen Fixed → Option (List Entry) → Plan → List Entry → Seen Fixed → Option (List Entry) → Type 0
PlanFollows {Fixed} k p a hooks k' p' b hooks' = (k₀ : Plan) (p₀ : List Entry) (a₀ : Seen Fixed) (hooks₀ : Option (List Entry)) → PlanRan k₀ p₀ a₀ hooks₀ k p a hooks → PlanRan k₀ p₀ a₀ hooks₀ k' p' b hooks'

-- from one plan and journal to a place where want of memory gave the case up
pub record GaveUp {Fixed : Type 0} (k : Plan) (p : List Entry) (a : Seen Fixed) (hooks : Option (List Entry)) (p' : List Entry) (b : Seen Fixed) (hooks' : Option (List Entry)) : Type 0 where
  pub rest : Plan
  pub cut : IsCut rest
  pub ran : PlanRan k p a hooks rest p' b hooks'

-- whatever ran to the one runs on to such a place
abbrev pub PlanGivesUp : {Fixed : Type 0} → Plan → List Entry → Seen Fixed → Option (List Entry) → List Entry → Seen Fixed → Option (List Entry) → Type 0
PlanGivesUp {Fixed} k p a hooks p' b hooks' = (k₀ : Plan) (p₀ : List Entry) (a₀ : Seen Fixed) (hooks₀ : Option (List Entry)) → PlanRan k₀ p₀ a₀ hooks₀ k p a hooks → GaveUp k₀ p₀ a₀ hooks₀ p' b hooks'

-- The call of a hook after which the case is given up: it had no memory, or what it left could not be copied.
pub record HookedOnly (id : Id) (n : ℕ) (p : List Entry) (hooks : Option (List Entry)) (p' : List Entry) (hooks' : Option (List Entry)) : Type 0 where
  pub answer : Result Spawnable Memory
  pub past : p' ≡ Hook id n answer ∷ p
  pub told : hooks' ≡ tell (Hook id n answer) hooks
