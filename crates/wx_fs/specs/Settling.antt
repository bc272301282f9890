-- What the calls of a recursor make of an epoch, on a tree that stays still, where nothing fails.
use Rattle.std.specs.Prelude.{◌≡◌, ◌≤◌, ℕ, Bool, true, false, Option, Some, None, List, [], ◌++◌, length, map}
use Rattle.wx_watch.specs.declared.watched.Watcher.{Watcher}
use Rattle.wx_error.specs.declared.runtime.RuntimeError.{RuntimeError}
use Rattle.wx_tree.specs.Paths.{Path}
use Rattle.wx_tree.specs.Trees.{Tree, settle}
use Rattle.wx_tree.specs.declared.root.Root.{Root}
use Rattle.wx_scan.specs.Backings.{Backing}
use Rattle.wx_recursor.specs.Calls.{has_work}
use Rattle.wx_recursor.specs.States.{RecursorState}
use Rattle.wx_recursor.specs.Written.{handed_error}
use Rattle.wx_recursor.specs.declared.errors.ShownError.{ShownError}
use Rattle.wx_recursor.specs.declared.known.Known.{Known}
use Rattle.wx_holding.specs.Calm.{StandsBy}
use Rattle.wx_walk.specs.Machine.{kept_guards}
use Rattle.wx_walk.specs.Reached.{Call, one_more}
use Rattle.wx_settle.specs.Plain.{plain_guard}
use Rattle.wx_settle.specs.Runs.{HasSettled, IsEpoch, RecursorReached}

-- a backend is installed, is exact, watches just what is registered, and has seen the tree
abbrev pub BackendStands : {B : Type 0} → (B → Backing) → (B → Tree → Type 0) → Tree → List Known → Option B → Type 0
BackendStands backing fits t registrations None = ⊥
BackendStands backing fits t registrations (Some back) = StandsBy t registrations (backing back) (fits back t)

-- a call of reconcile with these roots, and no step after it
abbrev pub first_call : List Root → (Path → Bool) → Call
first_call roots ok = record { roots = roots; ok = ok; steps = 0 }

-- An epoch begins with these roots, after whatever calls, and for whatever filter.
abbrev pub Begins : List Root → RecursorState → RecursorState → Type 0
Begins roots s u = (t : Tree) (ok : Path → Bool) (calls : List Call) → RecursorReached t calls s → IsEpoch t (first_call roots ok) calls u []

-- The epoch goes on by one step more, of which there are at most as many as settle, for the roots that had a guard when the epoch
-- began. It asks for no rebuild. What it shows belongs to the epoch.
pub record GoesOn (t : Tree) (call : Call) (calls : List Call) (kind : Watcher) (u : RecursorState) (before : List ShownError) (errors : List RuntimeError) (asks : Bool) : Type 0 where
  pub more : List ShownError
  pub epoch : IsEpoch t (one_more call) calls u (before ++ more)
  pub shown : errors ≡ map (handed_error kind) more
  pub rebuild : asks ≡ false
  pub few : (owned : ℕ) → (one_more call).steps ≤ settle (length (kept_guards call.roots (map plain_guard epoch.before.guards))) (length call.roots) (length t) owned

-- What a step makes of whatever epoch, for the filter that was asked: it goes on, and this holds afterwards.
abbrev pub StepsOn : Tree → Watcher → ((Path → Bool) → Type 0) → Type 0 → RecursorState → RecursorState → List RuntimeError → Bool → Type 0
StepsOn t kind agrees after s u errors rebuild =
    (call : Call) (calls : List Call) (before : List ShownError) → agrees call.ok → IsEpoch t call calls s before → has_work s.queue s.sweep_due ≡ true
    → GoesOn t call calls kind u before errors rebuild × after

-- where an epoch has no work any more it has settled
abbrev pub Settles : RecursorState → Type 0
Settles u = (t : Tree) (call : Call) (calls : List Call) (errors : List ShownError) → IsEpoch t call calls u errors → HasSettled t call u errors
