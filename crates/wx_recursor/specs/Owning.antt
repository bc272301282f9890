-- How a path comes to be watched and owned. The same cases hold for guards.
use Rattle.std.specs.Prelude.{Bool, true, ◌||◌, Option, Some, None, [], ◌∷◌, ◌++◌, map, if◌then◌else◌}
use Rattle.wx_watch.specs.declared.notify_fault.NotifyFault.{NotifyFault}
use Rattle.wx_tree.specs.Paths.{Path}
use Rattle.wx_tree.specs.declared.root.Root.{Root}
use Rattle.wx_recursor.specs.Holding.{ask_rebuild, enqueue, gone, scan_once, show, take_over}
use Rattle.wx_recursor.specs.Identities.{guard_known, has_identity, identity_now, is_identity, is_of_handles, is_of_watches, is_other, is_path_gone, named, refusal, without}
use Rattle.wx_recursor.specs.Owners.{has_path}
use Rattle.wx_recursor.specs.States.{RecursorState}
use Rattle.wx_recursor.specs.declared.answers.AddResult.{AddResult}
use Rattle.wx_recursor.specs.declared.answers.AddResult.TheVariants.{LeftOut, Stands, TryAgain, Vanished}
use Rattle.wx_recursor.specs.declared.answers.Look.{Look}
use Rattle.wx_recursor.specs.declared.answers.Look.TheVariants.{Absent, Broken, Directory, Linked, Other}
use Rattle.wx_recursor.specs.declared.answers.Watched.{Watched}
use Rattle.wx_recursor.specs.declared.answers.Watched.TheVariants.{Failed, Kept}
use Rattle.wx_recursor.specs.declared.errors.ScanFault.{ScanFault}
use Rattle.wx_recursor.specs.declared.errors.ScanFault.TheVariants.{Changed, Io, NotFound}
use Rattle.wx_recursor.specs.declared.errors.ShownError.{ShownError}
use Rattle.wx_recursor.specs.declared.errors.ShownError.TheVariants.{PathAdd, PathRemove, PathScan, TooManyHandles, TooManyWatches}
use Rattle.wx_recursor.specs.declared.known.Identity.{Identity}
use Rattle.wx_recursor.specs.declared.work.Work.{Work}

-- The path is known under another identity: as an owned path, a guard, a representative, or one that waits for replay.
abbrev pub is_known_otherwise : Path → Identity → RecursorState → Bool
is_known_otherwise p i s = is_other p i s.known || (is_other p i (map guard_known s.guards) || (is_other p i s.registrations || is_other p i s.waiting))

-- what is known under another identity isn't replayed, and a rebuild is asked for
abbrev pub exclude : Path → RecursorState → RecursorState
exclude p s = ask_rebuild (record s { excluded = s.excluded ++ p ∷ [] })

-- no more can be watched, or no more files be open
abbrev pub is_resource_fault : NotifyFault → Bool
is_resource_fault f = is_of_watches f || is_of_handles f

abbrev pub resource_error : NotifyFault → ShownError
resource_error f = if is_of_watches f then TooManyWatches f else TooManyHandles f

-- A resource fault is shown once in an epoch, and nothing more is watched until the next one.
abbrev pub stop : NotifyFault → RecursorState → RecursorState
stop f s = if s.stopped then s else record (show (resource_error f) s) { stopped = true }

-- Every other fault is shown. The first one of a path in an epoch asks for a rebuild, the second one skips the path.
abbrev pub failed_watch : Path → NotifyFault → RecursorState → RecursorState
failed_watch p f s =
    if has_path p s.failed
    then record (show (PathAdd p f) s) { skipped = s.skipped ++ p ∷ [] }
    else ask_rebuild (record (show (PathAdd p f) s) { failed = s.failed ++ p ∷ [] })

-- A watch that failed. Where nothing is there, that is shown, and the path counts as gone.
abbrev pub refused : Path → NotifyFault → RecursorState → RecursorState
refused p f s =
    if is_path_gone f then show (PathAdd p f) s
    else if is_resource_fault f then stop f s
    else failed_watch p f s

-- After a first fault the path is tried again, when the backend was rebuilt.
abbrev pub refused_result : Path → NotifyFault → RecursorState → AddResult
refused_result p f s =
    if is_path_gone f then Vanished
    else if is_resource_fault f then LeftOut
    else if has_path p s.failed then LeftOut
    else TryAgain

-- how a path is shown that was known under this identity, and where something else is found
abbrev pub changed : Identity → Look → ScanFault
changed i Absent = NotFound
changed i Linked = Changed i Linked
changed i Other = Changed i Other
changed i (Directory p) = Changed i (Directory p)
changed i (Broken c) = Io c

-- An unwatch that failed is shown, and asks for a rebuild. What was watched there is forgotten all the same.
abbrev pub unwatched : Path → Option NotifyFault → RecursorState → RecursorState
unwatched p None s = s
unwatched p (Some f) s = ask_rebuild (show (PathRemove p f) s)

-- the path represents its identity, which waits no more
abbrev pub registered : Path → Identity → RecursorState → RecursorState
registered p i s = record s { registrations = s.registrations ++ named p i ∷ []; waiting = without i s.waiting }

-- the second look finds the path under the same identity
abbrev pub is_still : Path → Identity → Look → Bool
is_still p i look = is_identity i (identity_now p look)

-- After a watch the path is looked at a second time. Where something else is found, that is shown, the path is unwatched, and it
-- counts as gone.
abbrev pub answered : Path → Identity → Watched → Option NotifyFault → RecursorState → RecursorState
answered p i (Failed f) u s = refused p f s
answered p i (Kept look) u s =
    if is_still p i look
    then registered p i s
    else unwatched p (refusal u) (show (PathScan p (changed i look)) s)

abbrev pub answered_result : Path → Identity → Watched → RecursorState → AddResult
answered_result p i (Failed f) s = refused_result p f s
answered_result p i (Kept look) s = if is_still p i look then Stands else Vanished

-- nothing more is watched in this epoch, or not this path
abbrev pub is_held_back : Path → RecursorState → Bool
is_held_back p s = s.stopped || has_path p s.skipped

-- What comes of a path that is to be registered, by the first case that applies: it is known under another identity; its
-- identity is registered, and shared; nothing may be watched; else it is watched.
abbrev pub added : Path → Identity → Watched → Option NotifyFault → RecursorState → RecursorState
added p i w u s =
    if is_known_otherwise p i s then exclude p s
    else if has_identity i s.registrations then s
    else if is_held_back p s then s
    else answered p i w u s

-- how that ends
abbrev pub added_result : Path → Identity → Watched → RecursorState → AddResult
added_result p i w s =
    if is_known_otherwise p i s then LeftOut
    else if has_identity i s.registrations then Stands
    else if is_held_back p s then LeftOut
    else answered_result p i w s

-- A root owns a path whose registration stands, and scans it where it is to. Where the watch is tried again the item goes to
-- the end of the queue.
abbrev pub taken : Root → Path → Identity → Bool → Work → AddResult → RecursorState → RecursorState
taken r p i scans item Stands s = enqueue (if scans then scan_once r p i s else []) (take_over r p i s)
taken r p i scans item Vanished s = gone r p s
taken r p i scans item TryAgain s = enqueue (item ∷ []) s
taken r p i scans item LeftOut s = s

-- the path is to be owned by the root under this identity: what comes of it
abbrev pub owned : Root → Path → Identity → Bool → Work → Watched → Option NotifyFault → RecursorState → RecursorState
owned r p i scans item w u s = taken r p i scans item (added_result p i w s) (added p i w u s)
