-- One step: the first item of the queue, or the sweep where the queue is empty. Then what serves nothing is let go.
use Rattle.std.specs.Prelude.{Bool, true, false, not, ◌&&◌, ◌||◌, Option, List, [], ◌∷◌, filter, map, if◌then◌else◌}
use Rattle.wx_watch.specs.declared.notify_fault.NotifyFault.{NotifyFault}
use Rattle.wx_tree.specs.Paths.{Path, has_entry, holds}
use Rattle.wx_tree.specs.Roots.{same_root}
use Rattle.wx_tree.specs.declared.root.Root.{Root}
use Rattle.wx_recursor.specs.Guarding.{guarded, unguarded}
use Rattle.wx_recursor.specs.Holding.{deepest_first, enqueue, gone, is_lost, keep_retry, lose, lose_below, serves, show, still_known}
use Rattle.wx_recursor.specs.Identities.{is_of_directory, refusal}
use Rattle.wx_recursor.specs.Owners.{candidates, has_path, has_root, is_owner, sweep}
use Rattle.wx_recursor.specs.Owning.{owned, unwatched}
use Rattle.wx_recursor.specs.States.{Evidence, RecursorState}
use Rattle.wx_recursor.specs.declared.answers.Found.{Found}
use Rattle.wx_recursor.specs.declared.answers.Found.TheVariants.{Barred, Entries, Fault, Here, Missing, Refused, Rejected}
use Rattle.wx_recursor.specs.declared.errors.ScanFault.TheVariants.{Io, NotFound}
use Rattle.wx_recursor.specs.declared.errors.ShownError.TheVariants.{Filter, PathScan}
use Rattle.wx_recursor.specs.declared.known.Known.{Known}
use Rattle.wx_recursor.specs.declared.owner.GuardWatch.{GuardWatch}
use Rattle.wx_recursor.specs.declared.owner.Owner.{Owner}
use Rattle.wx_recursor.specs.declared.work.Item.{Item}
use Rattle.wx_recursor.specs.declared.work.Item.TheVariants.{Candidate, Guard, Scan, Visit}
use Rattle.wx_recursor.specs.declared.work.Work.{Work}
use Rattle.wx_recursor.specs.declared.work.Work.TheVariants.{Plain, Probe}

-- something guards the root
abbrev pub has_guard_watch : Root → List GuardWatch → Bool
has_guard_watch r [] = false
has_guard_watch r (g ∷ gs) = same_root r g.root || has_guard_watch r gs

-- where a guarded root is found again, the tombstones at and above it go
abbrev pub refound : Root → RecursorState → RecursorState
refound r s = record s { tombstones = if has_guard_watch r s.guards then filter (λ q. not (holds q r.path)) s.tombstones else s.tombstones }

-- A look at a root. Absent: that is shown, its owned paths go, a guard is set. A link or unsafe: its owned paths go, a guard is
-- set. A fault: it is shown, the root is kept for a retry, what it owned stays, a guard is set. Else it is there: its guard goes,
-- it is owned, and scanned where it is recursive and a directory.
abbrev pub visited : Root → Found → Evidence → RecursorState → RecursorState
visited r Missing e s = guarded r e (lose r r.path (show (PathScan r.path NotFound) s))
visited r Barred e s = guarded r e (lose r r.path s)
visited r Rejected e s = s
visited r (Fault p c) e s = guarded r e (keep_retry r r.path (show (PathScan p (Io c)) s))
visited r (Refused c) e s = s
visited r (Here i) e s = owned r r.path i (r.recursive && is_of_directory i) (Plain (Visit r)) e.watched e.undone (unguarded r (refound r s))
visited r (Entries cs) e s = s

abbrev pub plain_items : List Item → List Work
plain_items is = map Plain is

-- A scan of a directory. Each entry becomes a candidate; names that are no entries are passed over. Absent: that is shown, and
-- what the root owns below goes. A fault: it is shown, what is owned stays, and there is one retry.
abbrev pub scanned : Root → Path → Found → RecursorState → RecursorState
scanned r p Missing s = lose_below r p (show (PathScan p NotFound) s)
scanned r p Barred s = s
scanned r p Rejected s = s
scanned r p (Fault q c) s = keep_retry r p (show (PathScan q (Io c)) s)
scanned r p (Refused c) s = s
scanned r p (Here i) s = s
scanned r p (Entries cs) s = enqueue (plain_items (candidates r (filter (has_entry p) cs))) s

-- A look at a candidate. Absent: that is shown, and the path counts as gone. No directory, a link or refused by the filter: the
-- root's ownership goes from there down. A fault of the look or of the filter: it is shown, what is owned stays, and there is one
-- retry. Else it is owned, and scanned.
abbrev pub tried : Root → Path → Found → Evidence → RecursorState → RecursorState
tried r p Missing e s = gone r p (show (PathScan p NotFound) s)
tried r p Barred e s = lose r p s
tried r p Rejected e s = lose r p s
tried r p (Fault q c) e s = keep_retry r p (show (PathScan q (Io c)) s)
tried r p (Refused c) e s = keep_retry r p (show (Filter c) s)
tried r p (Here i) e s = owned r p i true (Plain (Candidate r p)) e.watched e.undone s
tried r p (Entries cs) e s = s

-- the root owns the parent of the path
abbrev pub owns_parent : Root → Path → List Owner → Bool
owns_parent r [] os = false
owns_parent r (x ∷ p) [] = false
owns_parent r (x ∷ p) (o ∷ os) = is_owner r p o || owns_parent r (x ∷ p) os

-- the recursive roots that own the parent of the path, or owned the path itself
abbrev pub seekers : Path → List Root → List Root → List Owner → List Root
seekers p owners rs os = filter (λ r. r.recursive && (owns_parent r p os || has_root r owners)) rs

-- the path is a candidate of each root
abbrev pub candidates_of : Path → List Root → List Work
candidates_of p [] = []
candidates_of p (r ∷ rs) = Plain (Candidate r p) ∷ candidates_of p rs

abbrev pub retry_all : Path → List Root → RecursorState → RecursorState
retry_all p [] s = s
retry_all p (r ∷ rs) s = retry_all p rs (keep_retry r p s)

-- A look at a path that changed in some way. Where it is a directory it is a candidate of its seekers. A fault: it is shown, and
-- there is one retry for each of them.
abbrev pub probed : Path → List Root → Found → RecursorState → RecursorState
probed p owners Missing s = s
probed p owners Barred s = s
probed p owners Rejected s = s
probed p owners (Fault q c) s = retry_all p (seekers p owners s.roots s.owners) (show (PathScan q (Io c)) s)
probed p owners (Refused c) s = s
probed p owners (Here i) s = enqueue (if is_of_directory i then candidates_of p (seekers p owners s.roots s.owners) else []) s
probed p owners (Entries cs) s = s

abbrev pub acted_item : Item → Evidence → RecursorState → RecursorState
acted_item (Guard r) e s = guarded r e s
acted_item (Visit r) e s = visited r e.found e s
acted_item (Scan r p) e s = scanned r p e.found s
acted_item (Candidate r p) e s = tried r p e.found e s

-- what is done about the first of the queue
abbrev pub acted : Work → Evidence → RecursorState → RecursorState
acted (Plain i) e s = acted_item i e s
acted (Probe p owners) e s = probed p owners e.found s

abbrev pub serving_registrations : List Known → List GuardWatch → List Known → List Known
serving_registrations ks gs registrations = filter (λ g. serves ks gs g.identity) registrations

-- the registrations for whose identity no owned path and no guard stands, the deepest path first
abbrev pub idle_registrations : List Known → List GuardWatch → List Known → List Known
idle_registrations ks gs registrations = deepest_first (filter (λ g. not (serves ks gs g.identity)) registrations) []

-- each of them is unwatched
abbrev pub unwatch_each : List Known → List (Option NotifyFault) → RecursorState → RecursorState
unwatch_each [] us s = s
unwatch_each (g ∷ gs) [] s = s
unwatch_each (g ∷ gs) (u ∷ us) s = unwatch_each gs us (unwatched g.path (refusal u) s)

-- the registrations whose representative is lost
abbrev pub lost_paths : List Known → List GuardWatch → List Known → List Path
lost_paths ks gs [] = []
lost_paths ks gs (g ∷ registrations) = if is_lost ks gs g then g.path ∷ lost_paths ks gs registrations else lost_paths ks gs registrations

abbrev pub has_new : List Path → List Path → Bool
has_new [] old = false
has_new (p ∷ ps) old = not (has_path p old) || has_new ps old

-- a representative that is lost, and wasn't before, asks for a rebuild
abbrev pub asked_for_lost : RecursorState → RecursorState
asked_for_lost s =
    let ls : List Path = lost_paths s.known s.guards s.registrations in
    record s { lost = ls; asks_rebuild = has_new ls s.lost || s.asks_rebuild }

-- what has no owner is known no more, and registrations stay where they serve
abbrev pub trimmed : List Known → RecursorState → RecursorState
trimmed ks s = record s { known = ks; registrations = serving_registrations ks s.guards s.registrations; waiting = serving_registrations ks s.guards s.waiting }

-- A path without owner goes. A registration without owned paths and guards is unwatched, the deepest first.
abbrev pub released : List (Option NotifyFault) → RecursorState → RecursorState
released us s =
    let ks : List Known = still_known s.owners s.known in
    asked_for_lost (trimmed ks (unwatch_each (idle_registrations ks s.guards s.registrations) us s))

-- the sweep: owners that were not seen in this epoch go
abbrev pub swept : RecursorState → RecursorState
swept s = record s { owners = sweep s.owners; sweep_due = false }

abbrev pub stepped_at : List Work → Evidence → RecursorState → RecursorState
stepped_at [] e s = swept s
stepped_at (w ∷ q) e s = acted w e (record s { queue = q })

-- one step, by what its calls answer
abbrev pub stepped : Evidence → RecursorState → RecursorState
stepped e s = released e.releases (stepped_at s.queue e s)

-- what a step hands out, it keeps no more
abbrev pub told : RecursorState → RecursorState
told s = record s { shown = []; asks_rebuild = false }
