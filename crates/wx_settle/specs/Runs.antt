-- What a recursor reaches by calls of reconcile with steps between them, on a tree that stays still.
use Rattle.std.specs.Prelude.{ℕ, zero, suc, ◌≡◌, ◌⊎◌, ◌↔◌, Bool, true, false, ◌||◌, List, [], ◌∷◌, ◌++◌, map}
use Rattle.wx_tree.specs.Lists.{AllOnce, In}
use Rattle.wx_tree.specs.Paths.{Path}
use Rattle.wx_tree.specs.Trees.{Tree, guards, is_safe, walk}
use Rattle.wx_tree.specs.declared.root.Root.{Root}
use Rattle.wx_recursor.specs.Calls.{fresh, has_work, needs_retry, reconciled}
use Rattle.wx_recursor.specs.Identities.{known_path}
use Rattle.wx_recursor.specs.Seen.{NoneRefused, SeesFirst, is_gap}
use Rattle.wx_recursor.specs.States.{Evidence, RecursorState}
use Rattle.wx_recursor.specs.Steps.{stepped, told}
use Rattle.wx_recursor.specs.declared.errors.ScanFault.TheVariants.{NotFound}
use Rattle.wx_recursor.specs.declared.errors.ShownError.{ShownError}
use Rattle.wx_recursor.specs.declared.errors.ShownError.TheVariants.{PathScan}
use Rattle.wx_recursor.specs.declared.owner.GuardWatch.{GuardWatch}
use Rattle.wx_recursor.specs.declared.owner.Owner.{Owner}
use Rattle.wx_walk.specs.Reached.{Call}

-- so many steps, while there is work
abbrev pub RecursorSteps : Tree → (Path → Bool) → ℕ → RecursorState → RecursorState → Type 0
RecursorSteps t ok zero s u = u ≡ s
RecursorSteps t ok (suc n) s u =
    (e : Evidence) × (has_work s.queue s.sweep_due ≡ true) × SeesFirst t ok s.queue e × NoneRefused e.releases
    × RecursorSteps t ok n (told (stepped e s)) u

-- what these calls, the last one first, can reach
abbrev pub RecursorReached : Tree → List Call → RecursorState → Type 0
RecursorReached t [] u = u ≡ fresh
RecursorReached t (c ∷ cs) u = (n : ℕ) × (s : RecursorState) × RecursorReached t cs s × RecursorSteps t c.ok c.steps (reconciled c.roots n s) u

-- the same steps, with the errors that they show, in order, and whether one of them asks for a rebuild
abbrev pub RecursorShows : Tree → (Path → Bool) → ℕ → RecursorState → RecursorState → List ShownError → Bool → Type 0
RecursorShows t ok zero s u errors asks = (u ≡ s) × (errors ≡ []) × (asks ≡ false)
RecursorShows t ok (suc n) s u errors asks =
    (e : Evidence) × (more : List ShownError) × (later : Bool)
    × (has_work s.queue s.sweep_due ≡ true) × SeesFirst t ok s.queue e × NoneRefused e.releases
    × (errors ≡ (stepped e s).shown ++ more) × (asks ≡ ((stepped e s).asks_rebuild || later))
    × RecursorShows t ok n (told (stepped e s)) u more later

-- An epoch on a tree that stays still: it began with this call of reconcile, after those calls, the last one first. The steps since
-- then have shown these errors, in order, and none of them asked for a rebuild.
pub record IsEpoch (t : Tree) (call : Call) (calls : List Call) (u : RecursorState) (errors : List ShownError) : Type 0 where
  pub filter : ℕ
  pub before : RecursorState
  pub reached : RecursorReached t calls before
  pub shows : RecursorShows t call.ok call.steps (reconciled call.roots filter before) u errors false

-- A root that isn't safe, since something on the way down to it is absent.
pub record IsAbsentRoot (t : Tree) (roots : List Root) (r : Root) : Type 0 where
  pub root : In r roots
  pub unsafe : is_safe t r.path ≡ false
  pub gap : is_gap t r.path ≡ true

-- A recursor has settled: what it owns is the walk, its guards are the guards, and it watches just these, each once. The errors that
-- the epoch has shown are those of absent roots, and each of these was shown. Nothing is kept for a retry.
pub record HasSettled (t : Tree) (call : Call) (u : RecursorState) (errors : List ShownError) : Type 0 where
  pub owned : (p : Path) → ((o : Owner) × In o u.owners × (o.path ≡ p)) ↔ In p (walk t call.roots call.ok)
  pub guarding : (p : Path) → ((g : GuardWatch) × In g u.guards × (g.path ≡ p)) ↔ In p (guards t call.roots)
  pub once : AllOnce (map known_path u.registrations)
  pub registered : (p : Path) → In p (map known_path u.registrations) ↔ (In p (walk t call.roots call.ok) ⊎ In p (guards t call.roots))
  pub shown : (r : Root) → IsAbsentRoot t call.roots r → In (PathScan r.path NotFound) errors
  pub only : (x : ShownError) → In x errors → (r : Root) × IsAbsentRoot t call.roots r × (x ≡ PathScan r.path NotFound)
  pub retries : needs_retry u ≡ false
  pub tombstones : u.tombstones ≡ []
