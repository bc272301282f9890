-- What the calls between steps do.
use Rattle.std.specs.Prelude.{ℕ, Bool, true, false, not, ◌&&◌, ◌||◌, List, [], ◌∷◌, ◌++◌, filter, map, if◌then◌else◌}
use Rattle.wx_tree.specs.Paths.{Part, Path, holds, same}
use Rattle.wx_tree.specs.declared.root.Root.{Root}
use Rattle.wx_recursor.specs.Holding.{ask_rebuild, enqueue}
use Rattle.wx_recursor.specs.Identities.{guard_known, same_identity}
use Rattle.wx_recursor.specs.Owners.{has_path, has_root, unseen}
use Rattle.wx_recursor.specs.States.{RecursorState}
use Rattle.wx_recursor.specs.Steps.{candidates_of, owns_parent}
use Rattle.wx_recursor.specs.declared.answers.BackendPlace.TheVariants.{Installed}
use Rattle.wx_recursor.specs.declared.known.Identity.{Identity}
use Rattle.wx_recursor.specs.declared.known.Identity.TheVariants.{Canonical}
use Rattle.wx_recursor.specs.declared.known.Known.{Known}
use Rattle.wx_recursor.specs.declared.owner.GuardWatch.{GuardWatch}
use Rattle.wx_recursor.specs.declared.owner.Owner.{Owner}
use Rattle.wx_recursor.specs.declared.work.Item.TheVariants.{Candidate, Guard, Visit}
use Rattle.wx_recursor.specs.declared.work.Retry.{Retry}
use Rattle.wx_recursor.specs.declared.work.Work.{Work}
use Rattle.wx_recursor.specs.declared.work.Work.TheVariants.{Plain, Probe}

-- a new recursor
abbrev pub fresh : RecursorState
fresh = record {
  roots = [];
  filter = 0;
  queue = [];
  sweep_due = false;
  owners = [];
  known = [];
  guards = [];
  registrations = [];
  waiting = [];
  retries = [];
  failed = [];
  skipped = [];
  stopped = false;
  excluded = [];
  tombstones = [];
  lost = [];
  deferred = false;
  asks_rebuild = false;
  shown = [];
  backend = Installed;
}

-- there is work where something is queued, or a sweep is owed
abbrev pub has_work : List Work → Bool → Bool
has_work [] sweep_due = sweep_due
has_work (_ ∷ _) sweep_due = true

abbrev pub is_any_left : {X : Type 0} → List X → Bool
is_any_left [] = false
is_any_left (_ ∷ _) = true

-- a retry is kept, a path is skipped, nothing more may be watched, or a replay was deferred
abbrev pub needs_retry : RecursorState → Bool
needs_retry s = is_any_left s.retries || (is_any_left s.skipped || (s.stopped || s.deferred))

-- the guards of these roots
abbrev pub kept_guard_watches : List Root → List GuardWatch → List GuardWatch
kept_guard_watches rs gs = filter (λ g. has_root g.root rs) gs

abbrev pub queued_guards : List GuardWatch → List Work
queued_guards [] = []
queued_guards (g ∷ gs) = Plain (Guard g.root) ∷ queued_guards gs

abbrev pub queued_roots : List Root → List Work
queued_roots [] = []
queued_roots (r ∷ rs) = Plain (Visit r) ∷ queued_roots rs

-- A retry is a look at the path again: at the root, or as a candidate.
abbrev pub retried : Retry → Work
retried x = if same x.root.path x.path then Plain (Visit x.root) else Plain (Candidate x.root x.path)

-- the retries of these roots
abbrev pub queued_retries : List Root → List Retry → List Work
queued_retries rs [] = []
queued_retries rs (x ∷ xs) = if has_root x.root rs then retried x ∷ queued_retries rs xs else queued_retries rs xs

-- Reconcile: it sets the roots and the filter, and begins an epoch. It empties the queue, and then queues guards, retries and
-- roots. Failures, skipped paths and tombstones are forgotten, and guards of other roots go.
abbrev pub reconciled : List Root → ℕ → RecursorState → RecursorState
reconciled rs n s =
    let gs : List GuardWatch = kept_guard_watches rs s.guards in
    record s {
      roots = rs;
      filter = n;
      sweep_due = true;
      queue = queued_guards gs ++ (queued_retries rs s.retries ++ queued_roots rs);
      owners = unseen s.owners;
      guards = gs;
      retries = [];
      failed = [];
      skipped = [];
      stopped = false;
      tombstones = [];
      deferred = false;
    }

-- Rescan: a reconcile with the roots and the filter that stand, which asks for a rebuild.
abbrev pub rescanned : RecursorState → RecursorState
rescanned s = ask_rebuild (reconciled s.roots s.filter s)

-- the paths that are known under this identity
abbrev pub paths_of : Identity → List Known → List Path
paths_of i [] = []
paths_of i (k ∷ ks) = if same_identity k.identity i then k.path ∷ paths_of i ks else paths_of i ks

-- the identities under which the path is known
abbrev pub identities_of : Path → List Known → List Identity
identities_of p [] = []
identities_of p (k ∷ ks) = if same k.path p then k.identity ∷ identities_of p ks else identities_of p ks

-- the entry of this name in each path that is known under one of the identities
abbrev pub entries_of : Part → List Identity → List Known → List Path
entries_of x [] ks = []
entries_of x (i ∷ is) ks = map (λ q. x ∷ q) (paths_of i ks) ++ entries_of x is ks

abbrev pub add_path : Path → List Path → List Path
add_path p qs = if has_path p qs then qs else p ∷ qs

abbrev pub each_once : List Path → List Path
each_once [] = []
each_once (p ∷ ps) = add_path p (each_once ps)

abbrev pub aliases_at : Path → List Known → List Path
aliases_at [] ks = paths_of (Canonical []) ks
aliases_at (x ∷ p) ks = paths_of (Canonical (x ∷ p)) ks ++ entries_of x (Canonical p ∷ identities_of p ks) ks

-- The paths that stand for the same: the path itself, each path that is known under it as its canonical path, and the entry of
-- its name in each path that stands for its parent.
abbrev pub aliases : Path → RecursorState → List Path
aliases p s = each_once (p ∷ aliases_at p (s.known ++ map guard_known s.guards))

-- What is owned at or below the path goes. What serves nothing then is unwatched by the next step.
abbrev pub cleared_below : Path → RecursorState → RecursorState
cleared_below p s = record s { owners = filter (λ o. not (holds p o.path)) s.owners; sweep_due = true }

-- the guards of guarded roots at or below the path
abbrev pub guards_below : Path → List GuardWatch → List Work
guards_below p [] = []
guards_below p (g ∷ gs) = if holds p g.root.path then Plain (Guard g.root) ∷ guards_below p gs else guards_below p gs

-- the guards of the roots at or below the path, guarded or not
abbrev pub guards_of_roots_below : Path → List Root → List Work
guards_of_roots_below p [] = []
guards_of_roots_below p (r ∷ rs) = if holds p r.path then Plain (Guard r) ∷ guards_of_roots_below p rs else guards_of_roots_below p rs

-- the roots at or below the path
abbrev pub roots_below : Path → List Root → List Work
roots_below p [] = []
roots_below p (r ∷ rs) = if holds p r.path then Plain (Visit r) ∷ roots_below p rs else roots_below p rs

-- what lies at, above or below the path is no tombstone any more
abbrev pub tombstones_lifted : Path → RecursorState → RecursorState
tombstones_lifted p s = record s { tombstones = filter (λ q. not (holds p q || holds q p)) s.tombstones }

-- what Create and Ambiguous do alike: what is owned at or below the path goes, and the guards and roots there are queued
abbrev pub stirred : Path → RecursorState → RecursorState
stirred p s = enqueue (guards_below p s.guards ++ roots_below p s.roots) (cleared_below p (tombstones_lifted p s))

-- the recursive roots that own the parent of the path
abbrev pub owners_above : Path → RecursorState → List Root
owners_above p s = filter (λ r. r.recursive && owns_parent r p s.owners) s.roots

-- the roots that own the path
abbrev pub owners_at : Path → List Owner → List Root
owners_at p [] = []
owners_at p (o ∷ os) = if same o.path p then o.root ∷ owners_at p os else owners_at p os

-- then the path is a candidate of each recursive root that owns its parent
abbrev pub created_one : Path → RecursorState → RecursorState
created_one p s = enqueue (candidates_of p (owners_above p s)) (stirred p s)

-- What is owned at or below the path goes, the guards of the roots there are queued, and the path becomes a tombstone.
abbrev pub removed_one : Path → RecursorState → RecursorState
removed_one p s = enqueue (guards_of_roots_below p s.roots) (cleared_below p (record s { tombstones = s.tombstones ++ p ∷ [] }))

-- then the path is looked at
abbrev pub unsure_one : Path → RecursorState → RecursorState
unsure_one p s = enqueue (Probe p (owners_at p s.owners) ∷ []) (stirred p s)

abbrev pub for_each : (Path → RecursorState → RecursorState) → List Path → RecursorState → RecursorState
for_each f [] s = s
for_each f (p ∷ ps) s = for_each f ps (f p s)

-- Create: at each path that stands for the same.
abbrev pub created : Path → RecursorState → RecursorState
created p s = for_each created_one (aliases p s) s

-- Remove: at each path that stands for the same.
abbrev pub removed : Path → RecursorState → RecursorState
removed p s = for_each removed_one (aliases p s) s

-- Ambiguous: at each path that stands for the same.
abbrev pub unsure : Path → RecursorState → RecursorState
unsure p s = for_each unsure_one (aliases p s) s

-- Rename: Remove of both paths, then Create of the second. Which paths stand for the same is judged before anything goes.
abbrev pub renamed : Path → Path → RecursorState → RecursorState
renamed p q s = for_each created_one (aliases q s) (for_each removed_one (aliases p s ++ aliases q s) s)
