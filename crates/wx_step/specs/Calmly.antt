-- A step in which nothing fails: what its calls answered is read off the tree.
use Rattle.std.specs.Prelude.{◌≡◌, Bool, List, [], ◌∷◌, if◌then◌else◌}
use Rattle.wx_tree.specs.Paths.{Path}
use Rattle.wx_tree.specs.Trees.{Tree}
use Rattle.wx_tree.specs.declared.root.Root.{Root}
use Rattle.wx_scan.specs.Told.{AreNames}
use Rattle.wx_recursor.specs.Seen.{NoneRefused, Sees, SeesFirst, passes}
use Rattle.wx_recursor.specs.States.{Evidence, RecursorState}
use Rattle.wx_recursor.specs.Steps.{acted_item, stepped, stepped_at, told}
use Rattle.wx_recursor.specs.declared.answers.Found.{Found}
use Rattle.wx_recursor.specs.declared.answers.Found.TheVariants.{Here, Rejected}
use Rattle.wx_recursor.specs.declared.errors.ShownError.{ShownError}
use Rattle.wx_recursor.specs.declared.known.Identity.{Identity}
use Rattle.wx_recursor.specs.declared.work.Item.{Item}
use Rattle.wx_recursor.specs.declared.work.Item.TheVariants.{Candidate, Guard, Scan, Visit}
use Rattle.wx_recursor.specs.declared.work.Work.{Work}
use Rattle.wx_recursor.specs.declared.work.Work.TheVariants.{Plain, Probe}
use Rattle.wx_holding.specs.Calm.{IsReadable}

-- an item can be looked at: a root has names for parts, a path of a root is spelled by the tree
abbrev pub IsReadableItem : Tree → Item → Type 0
IsReadableItem t (Guard r) = AreNames r.path
IsReadableItem t (Visit r) = AreNames r.path
IsReadableItem t (Scan r p) = IsReadable t p
IsReadableItem t (Candidate r p) = IsReadable t p

-- so can the first of the queue, which is no probe
abbrev pub IsFirstReadable : Tree → List Work → Type 0
IsFirstReadable t [] = Unit {0}
IsFirstReadable t (Plain i ∷ q) = IsReadableItem t i
IsFirstReadable t (Probe p owners ∷ q) = ⊥

-- what this test of paths makes of a directory below a root
abbrev pub judged_found : (Path → Bool) → Root → Path → Identity → Found
judged_found ok r p i = if passes ok r p then Here i else Rejected

-- an item was done
abbrev pub ActsCalmly : Tree → (Path → Bool) → Item → RecursorState → RecursorState → Type 0
ActsCalmly t ok i s u = (e : Evidence) × Sees t ok i e × (u ≡ acted_item i e s)

-- the first of the queue was done, or the sweep
abbrev pub FirstsCalmly : Tree → (Path → Bool) → RecursorState → RecursorState → Type 0
FirstsCalmly t ok s u = (e : Evidence) × SeesFirst t ok s.queue e × (u ≡ stepped_at s.queue e s)

-- a step was done
abbrev pub StepsCalmly : Tree → (Path → Bool) → RecursorState → RecursorState → Type 0
StepsCalmly t ok s u = (e : Evidence) × SeesFirst t ok s.queue e × NoneRefused e.releases × (u ≡ stepped e s)

-- A step was done by what the tree answers, and hands out what it showed, and whether it asks for a rebuild.
pub record HandsCalmly (t : Tree) (ok : Path → Bool) (s u : RecursorState) (errors : List ShownError) (asks_rebuild : Bool) : Type 0 where
  pub evidence : Evidence
  pub sees : SeesFirst t ok s.queue evidence
  pub released : NoneRefused evidence.releases
  pub state : u ≡ told (stepped evidence s)
  pub shown : errors ≡ (stepped evidence s).shown
  pub rebuild : asks_rebuild ≡ (stepped evidence s).asks_rebuild
