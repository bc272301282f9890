-- Calls in which nothing fails: the tree of the scanner is told and no look fails, links aren't followed, and the backend is exact.
-- What such a call answers is read off the tree.
use Rattle.std.specs.Prelude.{◌≡◌, Bool, true, false, Option, Some, None, List, if◌then◌else◌}
use Rattle.wx_watch.specs.declared.notify_fault.NotifyFault.{NotifyFault}
use Rattle.wx_tree.specs.Lists.{In}
use Rattle.wx_tree.specs.Paths.{Path}
use Rattle.wx_tree.specs.Places.{spelled}
use Rattle.wx_tree.specs.Trees.{IsListing, Tree, is_chain_above, is_fit_node, node_at}
use Rattle.wx_tree.specs.declared.node.Node.{Node}
use Rattle.wx_tree.specs.declared.node.Node.TheVariants.{Dir, File, Link}
use Rattle.wx_tree.specs.declared.root.Root.{Root}
use Rattle.wx_scan.specs.Backings.{Backing}
use Rattle.wx_scan.specs.Looked.{Looked, Rose}
use Rattle.wx_scan.specs.Told.{SpellsPath}
use Rattle.wx_recursor.specs.Guarding.{guarded}
use Rattle.wx_recursor.specs.Owning.{added, added_result}
use Rattle.wx_recursor.specs.Seen.{NoneRefused, SeesCandidate, SeesGuard, SeesRoot, is_gap, watched_at}
use Rattle.wx_recursor.specs.States.{Evidence, RecursorState}
use Rattle.wx_recursor.specs.Steps.{released, tried, visited}
use Rattle.wx_recursor.specs.declared.answers.AddResult.{AddResult}
use Rattle.wx_recursor.specs.declared.answers.Found.{Found}
use Rattle.wx_recursor.specs.declared.answers.Found.TheVariants.{Barred, Entries, Here, Missing}
use Rattle.wx_recursor.specs.declared.known.Identity.{Identity}
use Rattle.wx_recursor.specs.declared.known.Identity.TheVariants.{Canonical, Lexical}
use Rattle.wx_recursor.specs.declared.known.Known.{Known}
use Rattle.wx_holding.specs.Backed.{AreRegistered, AreWatched}

-- this tree is told, and no look failed
pub record IsStill (t : Tree) (a b : Looked) : Type 0 where
  pub told : a.tree ≡ Some t
  pub no_fault : Rose a.faults b.faults → ⊥

-- the path's own bytes spell a path of the tree
abbrev pub IsReadable : Tree → Path → Type 0
IsReadable t p = SpellsPath t p (spelled p)

-- a directory or a file stands there
abbrev pub IsFit : Tree → Path → Type 0
IsFit t p = IsReadable t p × (is_fit_node (node_at t p) ≡ true)

-- An exact backend stands by what is registered: it watches just that, each by its path, which the tree spells, and has seen the
-- tree as it is.
pub record StandsBy (t : Tree) (registrations : List Known) (backing : Backing) (has_seen : Type 0) : Type 0 where
  pub exact : backing.exact ≡ true
  pub watched : AreWatched registrations backing.registrations
  pub registered : AreRegistered registrations backing.registrations
  pub readable : (k : Known) → In k registrations → IsReadable t k.path
  pub seen : has_seen

-- A call in which nothing fails, over such a backend.
pub record IsCalm (t : Tree) (follow : Bool) (a b : Looked) (registrations : List Known) (backing : Backing) (has_seen : Type 0) : Type 0 where
  pub links : follow ≡ false
  pub still : IsStill t a b
  pub stands : StandsBy t registrations backing has_seen

-- what breaks the way down to a path, if anything does
abbrev pub break_found : Tree → Path → Option Found
break_found t p = if is_chain_above t p then None else Some (if is_gap t p then Missing else Barred)

-- what a look at the path itself finds
abbrev pub here_found : Path → Option Node → Found
here_found p None = Missing
here_found p (Some Dir) = Here (Canonical p)
here_found p (Some (File stamp)) = Here (Lexical p)
here_found p (Some (Link target)) = Barred

-- a listing finds each direct entry of a directory, once
abbrev pub FindsEntries : Tree → Path → Found → Type 0
FindsEntries t p found = (cs : List Path) × (found ≡ Entries cs) × IsListing t p cs

-- a path at which something stands was to be registered
abbrev pub AddsCalmly : Tree → Path → Identity → RecursorState → RecursorState → AddResult → Type 0
AddsCalmly t p i s u end = (u ≡ added p i (watched_at t p) None s) × (end ≡ added_result p i (watched_at t p) s)

-- what serves nothing was let go
abbrev pub ReleasesCalmly : RecursorState → RecursorState → Type 0
ReleasesCalmly s u = (us : List (Option NotifyFault)) × NoneRefused us × (u ≡ released us s)

-- the guard of a root was searched and set
abbrev pub GuardsCalmly : Tree → Root → RecursorState → RecursorState → Type 0
GuardsCalmly t r s u = (e : Evidence) × SeesGuard t r e × (u ≡ guarded r e s)

-- what was found at a root was taken in
abbrev pub VisitsCalmly : Tree → Root → Found → RecursorState → RecursorState → Type 0
VisitsCalmly t r found s u = (e : Evidence) × SeesRoot t r e × (u ≡ visited r found e s)

-- what was found at a candidate was taken in
abbrev pub TriesCalmly : Tree → (Path → Bool) → Root → Path → Found → RecursorState → RecursorState → Type 0
TriesCalmly t ok r p found s u = (e : Evidence) × SeesCandidate t ok r p e × (u ≡ tried r p found e s)
