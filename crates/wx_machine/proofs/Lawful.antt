-- What is known of each entry that a plan of a run brings.
use Rattle.std.specs.Prelude.{◌≡◌, ◌+◌, ◌<◌, true, T, List, [], ◌∷◌, None, Some, length}
use Rattle.wx_control.specs.declared.id.Id.{Id}
use Rattle.wx_journal.specs.declared.entry.Entry.{Entry}
use Rattle.wx_journal.specs.declared.entry.Entry.TheVariants.{Made, Asked, Changed, GraceOver, Spawn, Signal, Dropped, Gone}
use Rattle.wx_journal.specs.Sorts.{sort}
use Rattle.wx_journal.specs.Names.{Names, next_job}
use Rattle.wx_machine.specs.History.{lives, child, grace}
use Rattle.wx_machine.specs.declared.grace.Grace.{Grace}
use Rattle.wx_machine.specs.Table.{Plan}
use Rattle.wx_machine.specs.Afterwards.{IsAtLevel}
use Rattle.wx_machine.specs.Case.{is_of_plan}
use Rattle.wx_machine.specs.Jobs.{is_free, MayCreate}
use Rattle.wx_machine.specs.Start.{Start}
use Rattle.wx_machine.specs.Settings.{pending, revision}
use Rattle.wx_machine.proofs.Always.{Always}
use Rattle.wx_machine.proofs.Sound.{RunsIn, IsUngraced, Goes}
use Rattle.wx_machine.proofs.Placing.{Placing}

-- the entries of plans
abbrev pub IsOfPlan : Entry → Type 0
IsOfPlan e = T (is_of_plan e)

-- the entries of an end
abbrev pub IsOfEnd : Entry → Type 0
IsOfEnd (Dropped c) = Unit {0}
IsOfEnd (Gone job) = Unit {0}
IsOfEnd (_) = ⊥

-- where a child is spawned its job lives and no child of it runs, one that is sent a signal, killed, waited for or let go runs, and where
-- a job is gone no child of it runs, and where a grace is over one
-- stands; a control is asked at its level
abbrev pub IsFree : List Entry → Entry → Type 0
IsFree p (Spawn c job tag what answer) = (lives job p ≡ true) × (child job p ≡ None)
IsFree p (Gone job) = child job p ≡ None
IsFree p (GraceOver job) = (g : Grace) × (grace job p ≡ Some g)
IsFree p (Signal c number answer) = (id : Id) × (child id p ≡ Some c) × IsUngraced id p
IsFree p (Asked ticket job level control) = IsAtLevel level control
IsFree p (e) = RunsIn p (sort e).subject

-- where a child is let go its job is gone next
abbrev pub LetsGo : List Entry → Entry → Plan → Type 0
LetsGo p (Dropped c) k = (id : Id) × (child id p ≡ Some c) × Goes id k
LetsGo p (_) k = Unit {0}

-- each job that is made is new, or made again
abbrev pub InOrder : List Entry → Entry → Type 0
InOrder p (Made job) = MayCreate (is_free p) (next_job p) job
InOrder p (_) = Unit {0}

abbrev pub MadeInOrder : List Entry → Type 0
MadeInOrder [] = Unit {0}
MadeInOrder (e ∷ p) = InOrder p e × MadeInOrder p

-- an entry that tells a change answers one that waits, and names the next revision, which then stands
abbrev pub Revises : Start → List Entry → Entry → Plan → Type 0
Revises s p (Changed named) k = (0 < length (pending p)) × (revision s (Changed named ∷ p) ≡ named) × (named ≡ revision s p + 1)
Revises s p (_) k = Unit {0}

-- what is known of each entry that a plan of a run brings, with what is owed behind it
pub record IsLawful (p : List Entry) (e : Entry) (k : Plan) : Type 0 where
  pub names : Names p e
  pub in_order : InOrder p e
  pub free : IsFree p e
  pub of_plan : IsOfPlan e
  pub lets_go : LetsGo p e k

-- each entry that a plan of a run brings is lawful, and the tickets stay placed
pub record Lawful (p : List Entry) (k : Plan) : Type 0 where
  pub each : Always IsLawful p k
  pub placed : Always Placing p k
