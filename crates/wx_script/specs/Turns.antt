-- The turns of a script, and what a world that follows it gives.
use Rattle.std.specs.Prelude.{◌≡◌, ℕ, zero, suc, Bool, true, false, not, nat_le, if◌then◌else◌, Option, None, Some, List, [], ◌∷◌, length, slice_get}
use Rattle.std.specs.List.{filter}
use Rattle.wx_journal.specs.declared.entry.Entry.{Entry}
use Rattle.wx_journal.specs.declared.entry.Entry.TheVariants.{Turn as Turned, TurnFault}
use Rattle.wx_journal.specs.declared.entry.TurnKind.TheVariants.{Last}
use Rattle.wx_journal.specs.Told.{is_turn}
use Rattle.wx_machine.specs.Told.{is_last}
use Rattle.wx_script.specs.declared.answers.Answers.{Answers}
use Rattle.wx_script.specs.declared.script.FailingCall.{FailingCall}
use Rattle.wx_script.specs.declared.script.TreeEdit.{TreeEdit}
use Rattle.wx_script.specs.declared.script.ScriptTurn.{ScriptTurn}
use Rattle.wx_script.specs.declared.script.ScriptTurn.TheVariants.{Turn, Fault}

-- it is no last turn
abbrev pub comes : ScriptTurn → Bool
comes (Turn t) = not (is_last t.kind)
comes (Fault code) = true

-- the last moment after these turns, from the one before them, and none where a moment falls
abbrev pub risen : ℕ → List ScriptTurn → Option ℕ
risen before [] = Some before
risen before (Turn t ∷ turns) = if nat_le before t.at then risen t.at turns else None
risen before (Fault code ∷ turns) = risen before turns

-- the moments never fall, from 0 on, and this is the last one
abbrev pub Rises : List ScriptTurn → ℕ → Type 0
Rises turns last = risen 0 turns ≡ Some last

-- what a world gives: these turns, and then last turns at this moment, and these answers to the calls on the host and on the maker
-- of backends; how it edits its tree when each turn is asked for; and whether some look at it is to fail
pub record Given : Type 0 where
  pub turns : List ScriptTurn
  pub last : ℕ
  pub answers : Answers
  pub edits : List (List TreeEdit)
  pub fails : Bool

-- a call is to fail
abbrev pub any_fails : List FailingCall → Bool
any_fails [] = false
any_fails (f ∷ fs) = true

-- the entry of a turn of a script, and where there is none that of a last turn
abbrev pub entry_of : ScriptTurn → Entry
entry_of (Turn t) = Turned t
entry_of (Fault code) = TurnFault code

abbrev pub entry_or_last : ℕ → Option ScriptTurn → Entry
entry_or_last last None = Turned (record { at = last; kind = Last })
entry_or_last last (Some turn) = entry_of turn

-- the entry of the turn at this index
abbrev pub given : List ScriptTurn → ℕ → ℕ → Entry
given turns last k = entry_or_last last (slice_get turns k)

-- the items at the first n indexes, the newest first
abbrev pub newest : {A : Type 0} → (ℕ → A) → ℕ → List A
newest at zero = []
newest at (suc n) = at n ∷ newest at n

-- the turns and turn faults among these entries
abbrev pub turns_of : List Entry → List Entry
turns_of p = filter is_turn p

-- they are the first ones that are given
abbrev pub FollowsGiven : List ScriptTurn → ℕ → List Entry → Type 0
FollowsGiven turns last p = turns_of p ≡ newest (given turns last) (length (turns_of p))
