-- The acts of a script, the answers of its filter, about events and about directories, and of begun functions, and the words
-- of its spawn hooks; and the rule of hooks that follow it.
use Rattle.std.specs.Prelude.{◌≡◌, ℕ, ◌+◌, ◌-◌, ◌^◌, min, Bool, true, not, nat_lt, ◌||◌, ◌&&◌, if◌then◌else◌, Option, None, Some, Ok, List, [], ◌∷◌, ◌++◌, length, get_or}
use Rattle.std.specs.List.{list_any}
use Rattle.wx_command.specs.declared.command.Command.{Command}
use Rattle.wx_command.specs.declared.spawnable.Spawnable.{Spawnable}
use Rattle.wx_command.specs.Spawnables.{spawnable_of}
use Rattle.wx_control.specs.declared.ask.Ask.{Ask as AnAsk}
use Rattle.wx_control.specs.declared.id.Id.{Id}
use Rattle.wx_control.specs.declared.job.Job.{Job}
use Rattle.wx_journal.specs.Acts.{JournalAct as Act}
use Rattle.wx_journal.specs.declared.entry.Act.TheVariants.{Create, Ask as Asks, Change, Quit, QuitGracefully}
use Rattle.wx_journal.specs.declared.entry.Entry.{Entry}
use Rattle.wx_journal.specs.declared.entry.Entry.TheVariants.{Filter, Show, Hand, Poll, Hook, Dir}
use Rattle.wx_journal.specs.declared.wish.Wish.{Wish}
use Rattle.wx_journal.specs.declared.wish.Wish.TheVariants.{Nothing}
use Rattle.wx_journal.specs.Names.{next_job, was_made}
use Rattle.wx_machine.specs.History.{same, command}
use Rattle.wx_machine.specs.Quits.{with_quit, with_graceful_quit}
use Rattle.wx_machine.specs.Journal.{Verdict}
use Rattle.wx_machine.specs.Jobs.{is_seen, is_there, next_created}
use Rattle.wx_script.specs.Answered.{Calls, IsAnswered, answered_as, answered_by}
use Rattle.wx_script.specs.Ignored.{Ignores, usual_verdict}
use Rattle.wx_script.specs.declared.script.ScriptAct.{ScriptAct}
use Rattle.wx_script.specs.declared.script.ScriptAct.TheVariants.{One, GetOrCreate}
use Rattle.wx_script.specs.declared.script.Wanted.TheVariants.{New}

-- the number of the next job, after a journal and the acts of this call so far
abbrev pub next_id : List Entry → List Act → ℕ
next_id p done = next_created (next_job p) done

-- a job is created where an id is left
abbrev pub with_create : List Entry → List Act → Command → List Act
with_create p done command = if nat_lt (next_id p done) (2 ^ 32 - 1) then done ++ Create (record { 0 = next_id p done }) command ∷ [] else done

-- only of a job that was there, or was created in this call, something is asked
abbrev pub with_ask : List Entry → List Act → Id → AnAsk → List Act
with_ask p done id ask = if is_there p done id then done ++ Asks id ask ∷ [] else done

-- A job is made again under an id that was made, where it isn't there.
abbrev pub with_get : List Entry → List Act → Id → Command → List Act
with_get p done id command = if was_made id p && not (is_there p done id) then done ++ Create id command ∷ [] else done

-- what a handler with these acts has after one act of a script, and after these, one by one
abbrev pub with_act : List Entry → List Act → ScriptAct → List Act
with_act p done (One (Create New command)) = with_create p done command
with_act p done (One (Asks id ask)) = with_ask p done id ask
with_act p done (One (Change change)) = done ++ Change change ∷ []
with_act p done (One Quit) = with_quit done
with_act p done (One (QuitGracefully signal grace)) = with_graceful_quit signal grace done
with_act p done (GetOrCreate id command) = with_get p done id command

abbrev pub performed : List Entry → List Act → List ScriptAct → List Act
performed p done [] = done
performed p done (act ∷ acts) = performed p (with_act p done act) acts

-- the calls of the action handler: each asks for the acts of its line, one by one, and those for which none is left for none
abbrev pub hand_acts : Entry → Option (List Act)
hand_acts (Hand n names acts) = Some acts
hand_acts (_) = None

abbrev pub hands : Calls (List ScriptAct) (List Act)
hands = record { pick = hand_acts; usual = λ p e. []; says = λ p acts. performed p [] acts }

-- the calls of the filter about events: each is answered by its line, and those for which none is left by what is ignored
abbrev pub verdict_of : Entry → Option Verdict
verdict_of (Filter n name answer) = Some answer
verdict_of (_) = None

abbrev pub filters : Ignores → Calls Verdict Verdict
filters ignores = answered_as verdict_of (usual_verdict ignores)

-- and so are its calls about directories
abbrev pub dir_verdict_of : Entry → Option Verdict
dir_verdict_of (Dir n path answer) = Some answer
dir_verdict_of (_) = None

abbrev pub dirs : Ignores → Calls Verdict Verdict
dirs ignores = answered_as dir_verdict_of (usual_verdict ignores)

-- the calls of the error handler: each wishes what its line says, and those for which none is left wish nothing
abbrev pub wish_of : Entry → Option Wish
wish_of (Show n error wish) = Some wish
wish_of (_) = None

abbrev pub errors : Calls Wish Wish
errors = answered_by wish_of Nothing

-- the polls of begun functions: each is answered by its line, and those for which none is left find the function ready
abbrev pub ready_of : Entry → Option Bool
ready_of (Poll job n ready) = Some ready
ready_of (_) = None

abbrev pub polls : Calls Bool Bool
polls = answered_by ready_of true

-- how often a spawn hook was called
abbrev pub hook_count : List Entry → ℕ
hook_count [] = 0
hook_count (Hook job n left ∷ p) = hook_count p + 1
hook_count (_ ∷ p) = hook_count p

-- these words stand behind those of what is spawned
abbrev pub with_words : List (List ℕ) → Spawnable → Spawnable
with_words words what = record what { words = what.words ++ words }

-- An entry, after these, is as its line asks, if it is the call of a spawn hook that was given this: it left this, with the words
-- of the first line behind in the first call, and so on, and with none behind where no line is left.
abbrev pub LeavesWords : List (List (List ℕ)) → List Entry → Spawnable → Entry → Type 0
LeavesWords lines p given (Hook job n left) = left ≡ Ok (with_words (get_or lines (hook_count p) []) given)
LeavesWords lines p given (_) = Unit {0}

-- each is given what its job was created to run
abbrev pub IsHooked : List (List (List ℕ)) → List Entry → Entry → Type 0
IsHooked lines p (Hook job n left) = (created : Command) → command job p ≡ Some created → LeavesWords lines p (spawnable_of created) (Hook job n left)
IsHooked lines p (_) = Unit {0}

-- each call did
abbrev pub AreHooked : List (List (List ℕ)) → List Entry → Type 0
AreHooked lines [] = Unit {0}
AreHooked lines (e ∷ p) = IsHooked lines p e × AreHooked lines p

-- so many lines are used after these entries
abbrev pub AreHooksUsed : List (List (List ℕ)) → ℕ → List Entry → Type 0
AreHooksUsed lines used p = used ≡ min (hook_count p) (length lines)

-- what hooks that follow a script are to do
pub record Wished : Type 0 where
  pub actions : List (List ScriptAct)
  pub filters : List Verdict
  pub dirs : List Verdict
  pub errors : List Wish
  pub polls : List Bool
  pub hooks : List (List (List ℕ))
  pub ignores : Ignores

-- their rule: each call of one of these kinds is answered what is due, and spawn hooks leave the words that are due
pub record IsWished (plan : Wished) (p : List Entry) (e : Entry) : Type 0 where
  pub acts : IsAnswered hands plan.actions p e
  pub verdict : IsAnswered (filters plan.ignores) plan.filters p e
  pub judgement : IsAnswered (dirs plan.ignores) plan.dirs p e
  pub wish : IsAnswered errors plan.errors p e
  pub ready : IsAnswered polls plan.polls p e
  pub words : IsHooked plan.hooks p e

-- a handle is on the job of this id
abbrev pub is_made : Id → Job → Bool
is_made id job = same job.id id

-- these are handles on jobs that are there behind these acts, on each that the acts created among them
abbrev pub AreMade : List Entry → List Job → List Act → Type 0
AreMade p made acts = (id : Id) → (list_any (is_made id) made || is_seen id p) ≡ is_there p acts id
