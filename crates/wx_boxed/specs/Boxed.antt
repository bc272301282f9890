-- What hooks do that hold boxes of their caller: nothing, under a number under which they hold none; and what their filters
-- answer.
use Rattle.std.specs.Prelude.{◌≡◌, ◌≤◌, ◌⊎◌, ℕ, true, Some, IfSome, Ok, Err, IfOk, List, [], ◌∷◌, slice_get}
use Rattle.wx_command.specs.declared.command.Command.{Command}
use Rattle.wx_command.specs.declared.spawnable.Spawnable.{Spawnable}
use Rattle.wx_command.specs.Spawnables.{spawnable_of}
use Rattle.wx_config.specs.Filters.{PassesOr}
use Rattle.wx_error.specs.declared.runtime.RuntimeError.TheVariants.{Memory}
use Rattle.wx_events.specs.declared.event.Event.{Event}
use Rattle.wx_events.specs.declared.priority.Priority.{Priority}
use Rattle.wx_journal.specs.declared.entry.Entry.{Entry}
use Rattle.wx_journal.specs.declared.entry.Entry.TheVariants.{Filter, Show, Hand, Poll, Hook, Dir}
use Rattle.wx_journal.specs.declared.wish.Wish.TheVariants.{Nothing}
use Rattle.wx_machine.specs.History.{command}
use Rattle.wx_machine.specs.Journal.{listed, Verdict}

-- how many they hold of each kind
pub record Held : Type 0 where
  pub filters : ℕ
  pub actions : ℕ
  pub errors : ℕ
  pub functions : ℕ
  pub hooks : ℕ

-- where they hold no spawn hook under this number, the call of one that was given this left just this, if it didn't want memory
abbrev pub LeavesUsual : Held → Spawnable → Entry → Type 0
LeavesUsual held given (Hook job n left) = held.hooks ≤ n → IfOk left (λ what. what ≡ given)
LeavesUsual held given (_) = Unit {0}

-- Their rule: an entry that is a call under a number under which they hold none is as where nothing is done. The event passes,
-- the directory is to be watched, nothing is asked for or wished, the function is ready, and a hook that didn't want memory
-- left what the job was created to run.
abbrev pub IsUsual : Held → List Entry → Entry → Type 0
IsUsual held p (Filter n name answer) = held.filters ≤ n → answer ≡ Ok true
IsUsual held p (Dir n path answer) = held.filters ≤ n → answer ≡ Ok true
IsUsual held p (Show n error wish) = held.errors ≤ n → wish ≡ Nothing
IsUsual held p (Hand n names acts) = held.actions ≤ n → acts ≡ []
IsUsual held p (Poll job n ready) = held.functions ≤ n → ready ≡ true
IsUsual held p (Hook job n left) = (created : Command) → command job p ≡ Some created → LeavesUsual held (spawnable_of created) (Hook job n left)
IsUsual held p (_) = Unit {0}

-- a filter that may answer so was asked, or wanted memory
abbrev pub MayAnswer : {A : Type 0} → (A → Event → Priority → Verdict → Type 0) → A → Event → Priority → Verdict → Type 0
MayAnswer judges filter event priority answer = judges filter event priority answer ⊎ (answer ≡ Err Memory)

-- a filter that lets this directory pass, or may answer so about it, was asked, or wanted memory
abbrev pub MayExclude : {A : Type 0} → (A → List ℕ → Verdict → Type 0) → A → List ℕ → Verdict → Type 0
MayExclude excludes filter path answer = PassesOr (excludes filter path answer) answer ⊎ (answer ≡ Err Memory)

-- an entry, after these, is answered as the filter may answer that they hold under its number, if it is the call of one
abbrev pub IsJudged : {A : Type 0} → (A → Event → Priority → Verdict → Type 0) → (A → List ℕ → Verdict → Type 0) → List A → List Entry → Entry → Type 0
IsJudged judges excludes filters p (Filter n name answer) = (event : Event) (priority : Priority) → listed name p ≡ Some (event, priority) → IfSome (slice_get filters n) (λ filter. MayAnswer judges filter event priority answer)
IsJudged judges excludes filters p (Dir n path answer) = IfSome (slice_get filters n) (λ filter. MayExclude excludes filter path answer)
IsJudged judges excludes filters p (_) = Unit {0}

-- each entry is
abbrev pub AreJudged : {A : Type 0} → (A → Event → Priority → Verdict → Type 0) → (A → List ℕ → Verdict → Type 0) → List A → List Entry → Type 0
AreJudged judges excludes filters [] = Unit {0}
AreJudged judges excludes filters (e ∷ p) = IsJudged judges excludes filters p e × AreJudged judges excludes filters p
