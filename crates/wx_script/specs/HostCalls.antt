-- The calls on the host that a script answers, and those that make backends: each kind is a row of what stands here.
use Rattle.std.proofs.Props.{props}
use Rattle.std.specs.Prelude.{◌≡◌, ℕ, Bool, false, Option, None, Some, Result, Ok, List, []}
use Rattle.wx_events.specs.declared.process.ProcessEnd.{ProcessEnd}
use Rattle.wx_events.specs.declared.process.ProcessEnd.TheVariants.{Success}
use Rattle.wx_watch.specs.declared.notify_fault.NotifyFault.{NotifyFault}
use Rattle.wx_journal.specs.declared.child.HostFault.{HostFault}
use Rattle.wx_journal.specs.declared.entry.Entry.{Entry}
use Rattle.wx_journal.specs.declared.entry.Entry.TheVariants.{Spawn, Signal, Kill, Wait, Make}
use Rattle.wx_script.specs.declared.answers.Answers.{Answers}
use Rattle.wx_script.specs.declared.answers.Used.{Used}
use Rattle.wx_script.specs.Answered.{Calls, AreAnswered, Answered, answered_by}

-- the kinds
pub data HostCall : Type 0 where
  Spawns : HostCall
  Signals : HostCall
  Kills : HostCall
  Waits : HostCall
  Makes : HostCall

-- what calls of a kind are answered; where a script says it; what is answered where it says no more; and how many answers
-- were used
pub record Kind : Type 1 where
  pub Reply : Type 0
  pub lines : Answers → List Reply
  pub usual : Reply
  pub used : Used → ℕ

abbrev pub row : HostCall → Kind
row Spawns = record { Reply = Result (Unit {0}) HostFault; lines = λ a. a.spawns; usual = Ok tt; used = λ u. u.spawns }
row Signals = record { Reply = Result (Unit {0}) HostFault; lines = λ a. a.signals; usual = Ok tt; used = λ u. u.signals }
row Kills = record { Reply = Result (Unit {0}) HostFault; lines = λ a. a.kills; usual = Ok tt; used = λ u. u.kills }
row Waits = record { Reply = Result ProcessEnd HostFault; lines = λ a. a.waits; usual = Ok Success; used = λ u. u.waits }
row Makes = record { Reply = Result (Unit {0}) NotifyFault; lines = λ a. a.makes; usual = Ok tt; used = λ u. u.makes }

-- what an entry was answered, if it is a call of this kind
abbrev pub reply : Entry → (k : HostCall) → Option (row k).Reply
reply (Spawn child job tag what answer) Spawns = Some answer
reply (Signal child number answer) Signals = Some answer
reply (Kill child answer) Kills = Some answer
reply (Wait child answer) Waits = Some answer
reply (Make back kind follow answer) Makes = Some answer
reply (_) (_) = None

-- a script that answers no call
abbrev pub no_answers : Answers
no_answers = record { spawns = []; signals = []; kills = []; waits = []; makes = [] }

-- ---- of all kinds

-- the calls of a kind
abbrev pub calls : (k : HostCall) → Calls (row k).Reply (row k).Reply
calls k = answered_by (λ e. reply e k) (row k).usual

-- the calls on the host are answered by what the script says, kind by kind
abbrev pub FollowsAnswers : Answers → List Entry → Type 0
FollowsAnswers answers p = (k : HostCall) → AreAnswered (calls k) ((row k).lines answers) p

-- they are, and so many answers are used, unless something was refused for want of memory
abbrev pub UsesAnswers : Bool → Answers → Used → List Entry → Type 0
UsesAnswers short answers used p = short ≡ false → (k : HostCall) → Answered (calls k) ((row k).lines answers) ((row k).used used) p

-- a ghost field may say so, since replies of each kind are a set
replies_set : (k : HostCall) → IsSet (row k).Reply
replies_set Spawns = hlevel props
replies_set (_) = hlevel props

pub uses_prop : (short : Bool) (answers : Answers) (used : Used) (p : List Entry) → IsProp (UsesAnswers short answers used p)
uses_prop short answers used p = hlevel (props, replies_set)
