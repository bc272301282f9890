-- What a call of a poller leaves.
use Rattle.std.specs.Prelude.{ℕ, ◌≡◌, ◌≤◌, Bool, true, false, not, if◌then◌else◌, Option, None, Some, Result, Ok, Err, List, [], ◌∷◌}
use Rattle.wx_notify.specs.declared.notify.Notify.{Notify}
use Rattle.wx_watch.specs.declared.notify_fault.NotifyFault.{NotifyFault}
use Rattle.wx_watch.specs.declared.notify_fault.NotifyFaultKind.{NotifyFaultKind}
use Rattle.wx_watch.specs.declared.notify_fault.NotifyFaultKind.TheVariants.{Io, Memory, PathNotFound, WatchNotFound}
use Rattle.wx_scan.specs.declared.scanner.ScanError.{ScanError}
use Rattle.wx_scan.specs.declared.scanner.ScanError.TheVariants as scan
use Rattle.wx_tree.specs.Trees.{Tree}
use Rattle.wx_poller.specs.declared.poller.Poller.{Poller}
use Rattle.wx_scan.specs.Backings.{Backing, GivesUp, is_registered, tells_change, unregister}
use Rattle.wx_poller.specs.Changes.{changes}
use Rattle.wx_poller.specs.declared.seen.Seen.{Seen}
use Rattle.wx_poller.specs.Covering.{is_lone}
use Rattle.wx_poller.specs.Fitting.{FitsTree}
use Rattle.wx_poller.specs.Listings.{seen_at}

abbrev pub fault_of : ScanError → NotifyFaultKind
fault_of scan.NotFound = PathNotFound
fault_of (scan.Io code) = Io code
fault_of scan.Memory = Memory

-- what contracts see of a poller
abbrev pub backing_of : Poller → Backing
backing_of a = record { registrations = a.registered.items; brought = a.past.brought; faults = a.faults; exact = not a.follow }

-- the poller has seen the tree as it is
abbrev pub Fits : Poller → Tree → Type 0
Fits a t = FitsTree t a.registered.items a.pending a.listing.entries

-- all but the registrations and the listing stays
pub record Stays (a b : Poller) : Type 0 where
  pub follow : b.follow ≡ a.follow
  pub pending : b.pending ≡ a.pending
  pub brought : b.past.brought ≡ a.past.brought
  pub faults : b.faults ≡ a.faults

-- no count falls, and all else stays
pub record Counts (a b : Poller) : Type 0 where
  pub follow : b.follow ≡ a.follow
  pub registered : b.registered.items ≡ a.registered.items
  pub listing : b.listing.entries ≡ a.listing.entries
  pub pending : b.pending ≡ a.pending
  pub brought : b.past.brought ≡ a.past.brought
  pub faults : a.faults ≤ b.faults

-- all but what pends and the listing stays
pub record Polls (a b : Poller) : Type 0 where
  pub follow : b.follow ≡ a.follow
  pub registered : b.registered.items ≡ a.registered.items
  pub brought : b.past.brought ≡ a.past.brought
  pub faults : b.faults ≡ a.faults

-- the listing has the same at each path
abbrev pub SameListing : Poller → Poller → Type 0
SameListing a b = (p : List ℕ) → seen_at b.listing.entries p ≡ seen_at a.listing.entries p

-- the first of these events is given, where there is one, and the others pend
abbrev pub Gives : List Notify → Option Notify → List Notify → Type 0
Gives events None pending = (events ≡ []) × (pending ≡ [])
Gives events (Some event) pending = events ≡ event ∷ pending

abbrev pub IsPending : List Notify → Type 0
IsPending [] = ⊥
IsPending (n ∷ ns) = Unit {0}

-- what pends is given; where nothing does, what changed since
abbrev pub gives_next : List Notify → List Notify → List Notify
gives_next [] changed = changed
gives_next (n ∷ ns) changed = n ∷ ns

abbrev pub GivesNext : Option Notify → Poller → Poller → Type 0
GivesNext found a b = Gives (gives_next a.pending (changes a.listing.entries b.listing.entries)) found b.pending × (IsPending a.pending → b.listing.entries ≡ a.listing.entries)

abbrev pub TellsNone : Option Notify → Type 0
TellsNone None = Unit {0}
TellsNone (Some event) = tells_change event ≡ false

-- What `next` brings: of what pends the first; where nothing pends, of what changed between the two listings. A fault leaves both as
-- they were.
abbrev pub Brought : Option (Result Notify NotifyFault) → Poller → Poller → Type 0
Brought None a b = GivesNext None a b
Brought (Some (Ok event)) a b = GivesNext (Some event) a b
Brought (Some (Err fault)) a b = (b.pending ≡ a.pending) × (b.listing.entries ≡ a.listing.entries)

-- what pends stays, and so does what was seen at each path
abbrev pub Watched : Result (Unit {0}) NotifyFault → List ℕ → Poller → Poller → Type 0
Watched (Ok u) path a b =
    (b.pending ≡ a.pending) × ((p : List ℕ) (s : Seen) → seen_at a.listing.entries p ≡ Some s → seen_at b.listing.entries p ≡ Some s)
    × (is_registered path a.registered.items ≡ true → SameListing a b)
Watched (Err fault) path a b = (b.pending ≡ a.pending) × SameListing a b

-- what only this registration covers goes, and all else stays
abbrev pub Unwatched : Result (Unit {0}) NotifyFault → List ℕ → Poller → Poller → Type 0
Unwatched (Ok u) path a b =
    (b.pending ≡ a.pending)
    × ((p : List ℕ) → seen_at b.listing.entries p ≡ if is_lone a.listing.entries path (unregister path a.registered.items) p then None else seen_at a.listing.entries p)
Unwatched (Err fault) path a b = (b.pending ≡ a.pending) × SameListing a b

-- that a path isn't watched is answered exactly where it isn't registered
abbrev pub IsRefused : Bool → Result (Unit {0}) NotifyFault → Type 0
IsRefused true result = GivesUp result
IsRefused false (Ok u) = ⊥
IsRefused false (Err fault) = fault.kind ≡ WatchNotFound
