-- Paths under their identities, and which faults mean what.
use Rattle.std.specs.Prelude.{Bool, true, false, not, ◌&&◌, ◌||◌, if◌then◌else◌, ◌==◌, Option, Some, None, List, [], ◌∷◌, ◌++◌, filter}
use Rattle.wx_watch.specs.declared.notify_fault.NotifyFault.{NotifyFault}
use Rattle.wx_watch.specs.declared.notify_fault.NotifyFaultKind.{NotifyFaultKind}
use Rattle.wx_watch.specs.declared.notify_fault.NotifyFaultKind.TheVariants.{Io, MaxFilesWatch, PathNotFound, WatchNotFound}
use Rattle.wx_tree.specs.Paths.{Path, same}
use Rattle.wx_recursor.specs.declared.answers.Look.{Look}
use Rattle.wx_recursor.specs.declared.answers.Look.TheVariants.{Absent, Broken, Directory, Linked, Other}
use Rattle.wx_recursor.specs.declared.known.Identity.{Identity}
use Rattle.wx_recursor.specs.declared.known.Identity.TheVariants.{Canonical, Lexical}
use Rattle.wx_recursor.specs.declared.known.Known.{Known}
use Rattle.wx_recursor.specs.declared.owner.GuardWatch.{GuardWatch}

abbrev pub same_identity : Identity → Identity → Bool
same_identity (Canonical p) (Canonical q) = same p q
same_identity (Canonical p) (Lexical q) = false
same_identity (Lexical p) (Canonical q) = false
same_identity (Lexical p) (Lexical q) = same p q

abbrev pub is_of_directory : Identity → Bool
is_of_directory (Canonical p) = true
is_of_directory (Lexical p) = false

-- as what the path would be known now
abbrev pub identity_now : Path → Look → Option Identity
identity_now p Absent = None
identity_now p Linked = None
identity_now p Other = Some (Lexical p)
identity_now p (Directory q) = Some (Canonical q)
identity_now p (Broken c) = None

abbrev pub is_identity : Identity → Option Identity → Bool
is_identity i None = false
is_identity i (Some j) = same_identity j i

-- the identity under which the path is known
abbrev pub identity_of : Path → List Known → Option Identity
identity_of p [] = None
identity_of p (k ∷ ks) = if same k.path p then Some k.identity else identity_of p ks

-- some path is known under this identity
abbrev pub has_identity : Identity → List Known → Bool
has_identity i [] = false
has_identity i (k ∷ ks) = same_identity k.identity i || has_identity i ks

-- the path is known under this identity
abbrev pub has_known : Path → Identity → List Known → Bool
has_known p i [] = false
has_known p i (k ∷ ks) = (same k.path p && same_identity k.identity i) || has_known p i ks

-- all but those of this identity
abbrev pub without : Identity → List Known → List Known
without i ks = filter (λ k. not (same_identity k.identity i)) ks

-- the path is known under another identity
abbrev pub is_other : Path → Identity → List Known → Bool
is_other p i [] = false
is_other p i (k ∷ ks) = (same k.path p && not (same_identity k.identity i)) || is_other p i ks

abbrev pub named : Path → Identity → Known
named p i = record { path = p; identity = i }

-- the path is known under this identity from now on
abbrev pub know : Path → Identity → List Known → List Known
know p i ks = if has_known p i ks then ks else ks ++ named p i ∷ []

abbrev pub guard_known : GuardWatch → Known
guard_known g = named g.path g.identity

-- nothing is there
abbrev pub is_path_gone_kind : NotifyFaultKind → Bool
is_path_gone_kind PathNotFound = true
is_path_gone_kind (_) = false

abbrev pub is_path_gone : NotifyFault → Bool
is_path_gone fault = is_path_gone_kind fault.kind

-- what is to be given up isn't watched
abbrev pub is_not_watched_kind : NotifyFaultKind → Bool
is_not_watched_kind WatchNotFound = true
is_not_watched_kind (_) = false

abbrev pub is_not_watched : NotifyFault → Bool
is_not_watched fault = is_not_watched_kind fault.kind

-- no more can be watched: the backend says so, or the system has no space for it (ENOSPC)
abbrev pub is_of_watches_kind : NotifyFaultKind → Bool
is_of_watches_kind MaxFilesWatch = true
is_of_watches_kind (Io code) = code == 28
is_of_watches_kind (_) = false

abbrev pub is_of_watches : NotifyFault → Bool
is_of_watches fault = is_of_watches_kind fault.kind

-- no more files can be open in the system (ENFILE) or in this process (EMFILE)
abbrev pub is_of_handles_kind : NotifyFaultKind → Bool
is_of_handles_kind (Io code) = code == 23 || code == 24
is_of_handles_kind (_) = false

abbrev pub is_of_handles : NotifyFault → Bool
is_of_handles fault = is_of_handles_kind fault.kind

-- What an unwatch leaves to be shown. What isn't watched is done with.
abbrev pub refusal : Option NotifyFault → Option NotifyFault
refusal None = None
refusal (Some fault) = if is_not_watched fault then None else Some fault

abbrev pub known_path : Known → Path
known_path k = k.path
