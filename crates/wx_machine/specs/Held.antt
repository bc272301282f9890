-- How often a ticket is held, and where one is in hand.
use Rattle.std.specs.Prelude.{ℕ, ◌+◌, ◌≤◌, ◌==◌, Bool, if◌then◌else◌, Option, None, Some, List, [], ◌∷◌}
use Rattle.wx_control.specs.declared.id.Id.{Id}
use Rattle.wx_control.specs.declared.control.Control.{Control}
use Rattle.wx_control.specs.Waits.{Waits}
use Rattle.wx_journal.specs.declared.entry.Entry.{Entry}
use Rattle.wx_machine.specs.declared.function.Function.{Function}
use Rattle.wx_machine.specs.declared.grace.Grace.{Grace}
use Rattle.wx_machine.specs.declared.choice.Choice.{Choice}
use Rattle.wx_machine.specs.declared.choice.Choice.TheVariants.{Poll, Over, End, Next, Leave, Nothing}
use Rattle.wx_machine.specs.History.{in_hand}

-- how often a ticket is in a list, among what waits, and in a grace or function that stands
abbrev pub once : Bool → ℕ
once is = if is then 1 else 0

abbrev pub times : ℕ → List ℕ → ℕ
times ticket [] = 0
times ticket (t ∷ ts) = once (t == ticket) + times ticket ts

abbrev pub times_waiting : ℕ → List (ℕ × Control) → ℕ
times_waiting ticket [] = 0
times_waiting ticket (x ∷ xs) = once (x.0 == ticket) + times_waiting ticket xs

abbrev pub times_waits : ℕ → Waits → ℕ
times_waits ticket w = times_waiting ticket w.urgent + times_waiting ticket w.high + times_waiting ticket w.normal

abbrev pub times_grace : ℕ → Option Grace → ℕ
times_grace ticket None = 0
times_grace ticket (Some g) = once (g.ticket == ticket)

abbrev pub times_begun : ℕ → Option Function → ℕ
times_begun ticket None = 0
times_begun ticket (Some f) = once (f.ticket == ticket)

-- this ticket is in hand
abbrev pub IsInHand : Id → ℕ → List Entry → Type 0
IsInHand id ticket p = 1 ≤ times ticket (in_hand id p)

-- the ticket of the grace that stood, where one did, is in hand
abbrev pub IsGraceInHand : Id → Option Grace → List Entry → Type 0
IsGraceInHand id None p = Unit {0}
IsGraceInHand id (Some g) p = IsInHand id g.ticket p

-- Behind a case that was given up, of what was picked where this grace stood: the ticket that was picked is in hand, and so is
-- that of the grace, where the case is one of its end or of the child's.
abbrev pub HasInHand : Id → Option Grace → Choice → List Entry → Type 0
HasInHand id standing (Poll f) p = Unit {0}
HasInHand id standing (Over c g) p = IsInHand id g.ticket p
HasInHand id standing (End c) p = IsGraceInHand id standing p
HasInHand id standing (Next ticket control) p = IsInHand id ticket p
HasInHand id standing Leave p = Unit {0}
HasInHand id standing Nothing p = Unit {0}
