-- How errors are handed out: paths as their bytes, and errors of the watching with the kind of the watcher.
use Rattle.wx_watch.specs.declared.scan_fault.EntryKind.{EntryKind}
use Rattle.wx_watch.specs.declared.scan_fault.EntryKind.TheVariants as entry
use Rattle.wx_watch.specs.declared.scan_fault.Identity.{Identity as HandedIdentity}
use Rattle.wx_watch.specs.declared.scan_fault.Identity.TheVariants as identity
use Rattle.wx_watch.specs.declared.scan_fault.ScanFault.{ScanFault as HandedFault}
use Rattle.wx_watch.specs.declared.scan_fault.ScanFault.TheVariants as fault
use Rattle.wx_watch.specs.declared.source_errors.FsWatcherError.TheVariants as error
use Rattle.wx_watch.specs.declared.watched.Watcher.{Watcher}
use Rattle.wx_error.specs.declared.runtime.RuntimeError.{RuntimeError}
use Rattle.wx_error.specs.declared.runtime.RuntimeError.TheVariants.{FsWatcher}
use Rattle.wx_tree.specs.Places.{spelled}
use Rattle.wx_recursor.specs.declared.answers.Look.{Look}
use Rattle.wx_recursor.specs.declared.answers.Look.TheVariants.{Absent, Broken, Directory, Linked, Other}
use Rattle.wx_recursor.specs.declared.errors.ScanFault.{ScanFault}
use Rattle.wx_recursor.specs.declared.errors.ScanFault.TheVariants.{Changed, Io, NotFound}
use Rattle.wx_recursor.specs.declared.errors.ShownError.{ShownError}
use Rattle.wx_recursor.specs.declared.errors.ShownError.TheVariants.{Filter, PathAdd, PathRemove, PathScan, TooManyHandles, TooManyWatches}
use Rattle.wx_recursor.specs.declared.known.Identity.{Identity}
use Rattle.wx_recursor.specs.declared.known.Identity.TheVariants.{Canonical, Lexical}

abbrev pub handed_identity : Identity → HandedIdentity
handed_identity (Canonical p) = identity.Directory (spelled p)
handed_identity (Lexical p) = identity.Lexical (spelled p)

-- what is found in place of something else: an absent path, and a look that failed, have faults of their own
abbrev pub handed_look : Look → EntryKind
handed_look Absent = entry.Other
handed_look Linked = entry.NonFollowedSymlink
handed_look (Directory p) = entry.Directory (spelled p)
handed_look Other = entry.Other
handed_look (Broken c) = entry.Other

abbrev pub handed_fault : ScanFault → HandedFault
handed_fault NotFound = fault.NotFound
handed_fault (Io c) = fault.Io c
handed_fault (Changed i look) = fault.Changed (handed_identity i) (handed_look look)

-- an error that a step shows, as it is handed out
abbrev pub handed_error : Watcher → ShownError → RuntimeError
handed_error kind (PathAdd p f) = FsWatcher kind (error.PathAdd (spelled p) f)
handed_error kind (PathScan p f) = FsWatcher kind (error.PathScan (spelled p) (handed_fault f))
handed_error kind (PathRemove p f) = FsWatcher kind (error.PathRemove (spelled p) f)
handed_error kind (TooManyWatches f) = FsWatcher kind (error.TooManyWatches f)
handed_error kind (TooManyHandles f) = FsWatcher kind (error.TooManyHandles f)
handed_error kind (Filter e) = e
