-- What the outside is told, and what its counts and rules mean.
use Rattle.std.specs.Prelude.{◌≡◌, ℕ, ◌≤◌, ◌+◌, ◌-◌, ◌^◌, min, Bool, true, false, if◌then◌else◌, Option, None, Some, List, [], ◌∷◌}
use Rattle.wx_journal.specs.declared.entry.Entry.{Entry}
use Rattle.wx_journal.specs.declared.entry.Entry.TheVariants.{Turn as Turned, Word as Said, Hand}
use Rattle.wx_journal.specs.declared.entry.TurnKind.{TurnKind}
use Rattle.wx_journal.specs.declared.entry.TurnKind.TheVariants.{Listen}
use Rattle.wx_journal.specs.declared.entry.Word.TheVariants.{Quiet}
use Rattle.wx_journal.specs.Sorts.{Callee, OnWorld, OnHooks, Subject, OfTurn, sort}

-- what is told after one entry more, where anything is told
abbrev pub tell : Entry → Option (List Entry) → Option (List Entry)
tell e None = None
tell e (Some before) = Some (e ∷ before)

abbrev pub tell_if : Bool → Entry → Option (List Entry) → Option (List Entry)
tell_if mine e before = if mine then tell e before else before

-- what is told after those of these entries that are calls on it, each by the entries before it
abbrev pub tells : (List Entry → Entry → Bool) → List Entry → Option (List Entry) → Option (List Entry)
tells mine [] before = before
tells mine (e ∷ p) before = tell_if (mine p e) e (tells mine p before)

-- a kind of entries, whatever stands before them
abbrev pub anywhere : (Entry → Bool) → List Entry → Entry → Bool
anywhere kind p e = kind e

abbrev pub is_on_world : Callee → Bool
is_on_world OnWorld = true
is_on_world (_) = false

abbrev pub is_on_hooks : Callee → Bool
is_on_hooks OnHooks = true
is_on_hooks (_) = false

abbrev pub is_of_turn : Subject → Bool
is_of_turn OfTurn = true
is_of_turn (_) = false

-- a turn in which what watches files is asked what happened
abbrev pub is_listen_turn : TurnKind → Bool
is_listen_turn Listen = true
is_listen_turn (_) = false

-- the newest entry is such a turn
abbrev pub begins_listening : List Entry → Bool
begins_listening (Turned t ∷ p) = is_listen_turn t.kind
begins_listening (_) = false

-- The entries that are calls on the world, by those before them. The word Quiet is one where nothing was brought: directly behind
-- a turn that asks for it.
abbrev pub is_world : List Entry → Entry → Bool
is_world p (Said Quiet) = begins_listening p
is_world p (e) = is_on_world (sort e).callee

-- the entries that are calls on the hooks
abbrev pub is_hooks : Entry → Bool
is_hooks e = is_on_hooks (sort e).callee

-- the entries that hand a batch
abbrev pub is_hand : Entry → Bool
is_hand (Hand n names acts) = true
is_hand (_) = false

-- the turns and their faults
abbrev pub is_turn : Entry → Bool
is_turn e = is_of_turn (sort e).subject

-- a count that rose, or stands at the end of its range
abbrev pub Rose : ℕ → ℕ → Type 0
Rose old new = min (old + 1) (2 ^ 64 - 1) ≤ new

-- a count never falls, and rises where a call fails
pub record Counts (failed : Bool) (old new : ℕ) : Type 0 where
  pub later : old ≤ new
  pub rose : failed ≡ true → Rose old new

-- The new journal is the old one with entries on top, and each of these that is a call on the hooks passes the rule
-- at the entries before it.
pub data Obeys (rule : List Entry → Entry → Type 0) (old : List Entry) : List Entry → Type 0 where
  Same : Obeys rule old old
  More : (e : Entry) (p : List Entry) → Obeys rule old p → (is_hooks e ≡ true → rule p e) → Obeys rule old (e ∷ p)
