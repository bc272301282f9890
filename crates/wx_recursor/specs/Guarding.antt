-- How the guard of a root is set: a directory that is watched until the root is there.
use Rattle.std.specs.Prelude.{Bool, not, List, [], ◌∷◌, ◌++◌, filter, if◌then◌else◌}
use Rattle.wx_tree.specs.Paths.{Path, same}
use Rattle.wx_tree.specs.Roots.{same_root}
use Rattle.wx_tree.specs.declared.root.Root.{Root}
use Rattle.wx_recursor.specs.Holding.{enqueue, keep_retry, show}
use Rattle.wx_recursor.specs.Owning.{added, added_result}
use Rattle.wx_recursor.specs.States.{Evidence, RecursorState}
use Rattle.wx_recursor.specs.declared.answers.AddResult.{AddResult}
use Rattle.wx_recursor.specs.declared.answers.AddResult.TheVariants.{LeftOut, Stands, TryAgain, Vanished}
use Rattle.wx_recursor.specs.declared.answers.GuardFound.{GuardFound}
use Rattle.wx_recursor.specs.declared.answers.GuardFound.TheVariants.{At, Faulty, Nowhere}
use Rattle.wx_recursor.specs.declared.errors.ScanFault.TheVariants.{Io}
use Rattle.wx_recursor.specs.declared.errors.ShownError.TheVariants.{PathScan}
use Rattle.wx_recursor.specs.declared.known.Identity.{Identity}
use Rattle.wx_recursor.specs.declared.owner.GuardWatch.{GuardWatch}
use Rattle.wx_recursor.specs.declared.work.Item.TheVariants.{Guard, Visit}
use Rattle.wx_recursor.specs.declared.work.Work.TheVariants.{Plain}

abbrev pub guards_of_others : Root → List GuardWatch → List GuardWatch
guards_of_others r gs = filter (λ g. not (same_root r g.root)) gs

-- nothing guards the root
abbrev pub unguarded : Root → RecursorState → RecursorState
unguarded r s = record s { guards = guards_of_others r s.guards }

-- This guards the root from now on, in place of what did. Its path is no tombstone any more.
abbrev pub guard_set : Root → Path → Identity → RecursorState → RecursorState
guard_set r p i s = record s { guards = guards_of_others r s.guards ++ record { root = r; path = p; identity = i } ∷ []; tombstones = filter (λ q. not (same p q)) s.tombstones }

-- Once the guard is set the root is looked at once more. Where it is now found and safe it is queued.
abbrev pub looked_again : Root → Bool → RecursorState → RecursorState
looked_again r root_is_safe s = enqueue (if root_is_safe then Plain (Visit r) ∷ [] else []) s

-- What comes of a guard that was to be registered. Where nothing is there, the root is kept for a retry.
abbrev pub guard_placed : Root → Path → Identity → Bool → AddResult → RecursorState → RecursorState
guard_placed r p i root_is_safe Stands s = looked_again r root_is_safe (guard_set r p i s)
guard_placed r p i root_is_safe Vanished s = keep_retry r r.path s
guard_placed r p i root_is_safe TryAgain s = enqueue (Plain (Guard r) ∷ []) s
guard_placed r p i root_is_safe LeftOut s = s

-- What comes of the search for a guard. Where no directory stands above the root, it has none. Where the search failed, that is
-- shown, the root is kept for a retry, and the guard that stood stays.
abbrev pub guarded_at : Root → GuardFound → Evidence → RecursorState → RecursorState
guarded_at r Nowhere e s = looked_again r e.root_is_safe (unguarded r s)
guarded_at r (Faulty p c) e s = keep_retry r r.path (show (PathScan p (Io c)) s)
guarded_at r (At p i) e s = guard_placed r p i e.root_is_safe (added_result p i e.watched s) (added p i e.watched e.undone s)

-- the guard of the root is set again
abbrev pub guarded : Root → Evidence → RecursorState → RecursorState
guarded r e s = guarded_at r e.guard_found e s
