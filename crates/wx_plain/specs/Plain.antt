-- What hooks do of which all but the choice of acts, and of what is ignored, is the default.
use Rattle.std.specs.Prelude.{◌≡◌, ℕ, ◌^◌, Bool, true, not, None, Some, Ok, List, [], ◌∷◌}
use Rattle.wx_command.specs.declared.command.Command.{Command}
use Rattle.wx_command.specs.declared.spawnable.Spawnable.{Spawnable}
use Rattle.wx_command.specs.Spawnables.{spawnable_of}
use Rattle.wx_patterns.specs.Ignoring.{ignored, lets_listed}
use Rattle.wx_patterns.specs.declared.pattern.Pattern.{Pattern}
use Rattle.wx_journal.specs.declared.entry.Entry.{Entry}
use Rattle.wx_journal.specs.declared.entry.Entry.TheVariants.{Filter, Show, Hand, Poll, Hook, Dir}
use Rattle.wx_journal.specs.declared.wish.Wish.TheVariants.{Nothing}
use Rattle.wx_machine.specs.History.{command}
use Rattle.wx_machine.specs.Journal.{listed}
use Rattle.wx_machine.specs.Seen.{Hooked}

-- they tell nothing, so they always have room to tell it
abbrev pub hooked : {Fixed : Type 0} → Fixed → Bool → Hooked Fixed
hooked plan short = record { plan = plan; told = None; spare = 2 ^ 64; short = short; place = [] }

-- the call of a spawn hook that was given this left just this
abbrev pub LeavesGiven : Spawnable → Entry → Type 0
LeavesGiven given (Hook job n left) = left ≡ Ok given
LeavesGiven given (_) = Unit {0}

-- Their rule, by what patterns ignore below a base, and by the rule of what chooses acts: an event passes that has no path or one that isn't
-- ignored, and a directory that isn't ignored; nothing is wished of an error, functions are ready, and a spawn hook leaves what the job was
-- created to run.
abbrev pub IsPlain : List (List ℕ) → List Pattern → (List Entry → Entry → Type 0) → List Entry → Entry → Type 0
IsPlain base patterns chosen p (Filter n name answer) = answer ≡ Ok (lets_listed base patterns (listed name p))
IsPlain base patterns chosen p (Dir n path answer) = answer ≡ Ok (not (ignored base patterns path))
IsPlain base patterns chosen p (Show n error wish) = wish ≡ Nothing
IsPlain base patterns chosen p (Hand n names acts) = chosen p (Hand n names acts)
IsPlain base patterns chosen p (Poll job n ready) = ready ≡ true
IsPlain base patterns chosen p (Hook job n left) = (created : Command) → command job p ≡ Some created → LeavesGiven (spawnable_of created) (Hook job n left)
IsPlain base patterns chosen p (_) = Unit {0}

-- each of these entries is so, behind those before it
abbrev pub ArePlain : List (List ℕ) → List Pattern → (List Entry → Entry → Type 0) → List Entry → Type 0
ArePlain base patterns chosen [] = Unit {0}
ArePlain base patterns chosen (e ∷ p) = IsPlain base patterns chosen p e × ArePlain base patterns chosen p
