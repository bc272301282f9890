-- A recursor in which nothing failed, and steps in which nothing fails.
use Rattle.std.specs.Prelude.{◌≡◌, Bool, true, false, ◌&&◌, cond, Option, Some, None, List, [], ◌∷◌}
use Rattle.wx_tree.specs.Lists.{In}
use Rattle.wx_tree.specs.Paths.{Path, has_entry}
use Rattle.wx_tree.specs.declared.root.Root.{Root}
use Rattle.wx_recursor.specs.Identities.{identity_of, is_of_directory}
use Rattle.wx_recursor.specs.Owners.{has_owner}
use Rattle.wx_recursor.specs.Owning.{is_still}
use Rattle.wx_recursor.specs.States.{Evidence, RecursorState}
use Rattle.wx_recursor.specs.declared.answers.Found.{Found}
use Rattle.wx_recursor.specs.declared.answers.Found.TheVariants.{Barred, Entries, Fault, Here, Missing, Refused, Rejected}
use Rattle.wx_recursor.specs.declared.answers.GuardFound.{GuardFound}
use Rattle.wx_recursor.specs.declared.answers.GuardFound.TheVariants.{At, Faulty, Nowhere}
use Rattle.wx_recursor.specs.declared.answers.Watched.{Watched}
use Rattle.wx_recursor.specs.declared.answers.Watched.TheVariants.{Failed, Kept}
use Rattle.wx_recursor.specs.declared.errors.ScanFault.TheVariants.{NotFound}
use Rattle.wx_recursor.specs.declared.errors.ShownError.{ShownError}
use Rattle.wx_recursor.specs.declared.errors.ShownError.TheVariants.{PathScan}
use Rattle.wx_recursor.specs.declared.known.Identity.{Identity}
use Rattle.wx_recursor.specs.declared.known.Known.{Known}
use Rattle.wx_recursor.specs.declared.owner.GuardWatch.{GuardWatch}
use Rattle.wx_recursor.specs.declared.owner.Owner.{Owner}
use Rattle.wx_recursor.specs.declared.work.Item.{Item}
use Rattle.wx_recursor.specs.declared.work.Item.TheVariants.{Candidate, Guard, Scan, Visit}
use Rattle.wx_recursor.specs.declared.work.Retry.{Retry}
use Rattle.wx_recursor.specs.declared.work.Work.{Work}
use Rattle.wx_recursor.specs.declared.work.Work.TheVariants.{Plain, Probe}
use Rattle.wx_walk.specs.declared.plain.Saw.{Saw}
use Rattle.wx_walk.specs.declared.plain.Saw.TheVariants.{Held, Leaf, Listed, Lost, Reset, Unsafe}

abbrev pub spot_path : GuardFound → Option (Path)
spot_path Nowhere = None
spot_path (At p i) = Some p
spot_path (Faulty p c) = None

abbrev pub visit_saw : Root → Found → GuardFound → Saw
visit_saw r Missing g = Unsafe (spot_path g)
visit_saw r Barred g = Unsafe (spot_path g)
visit_saw r Rejected g = Lost
visit_saw r (Fault p c) g = Lost
visit_saw r (Refused c) g = Lost
visit_saw r (Here i) g = cond (r.recursive && is_of_directory i) Held Leaf
visit_saw r (Entries cs) g = Lost

abbrev pub scan_saw : Found → Saw
scan_saw Missing = Lost
scan_saw Barred = Lost
scan_saw Rejected = Lost
scan_saw (Fault p c) = Lost
scan_saw (Refused c) = Lost
scan_saw (Here i) = Lost
scan_saw (Entries cs) = Listed cs

abbrev pub try_saw : Found → Saw
try_saw Missing = Lost
try_saw Barred = Lost
try_saw Rejected = Lost
try_saw (Fault p c) = Lost
try_saw (Refused c) = Lost
try_saw (Here i) = Held
try_saw (Entries cs) = Lost

abbrev pub item_saw : Item → Evidence → Saw
item_saw (Guard r) e = Reset (spot_path e.guard_found) e.root_is_safe
item_saw (Visit r) e = visit_saw r e.found e.guard_found
item_saw (Scan r p) e = scan_saw e.found
item_saw (Candidate r p) e = try_saw e.found

abbrev pub first_saw : List Work → Evidence → Saw
first_saw [] e = Lost
first_saw (Plain i ∷ q) e = item_saw i e
first_saw (Probe p owners ∷ q) e = Lost

-- what a step without faults shows: an absent root

abbrev pub visit_shows : Root → Found → List ShownError
visit_shows r Missing = PathScan r.path NotFound ∷ []
visit_shows r Barred = []
visit_shows r Rejected = []
visit_shows r (Fault p c) = []
visit_shows r (Refused c) = []
visit_shows r (Here i) = []
visit_shows r (Entries cs) = []

abbrev pub item_shows : Item → Evidence → List ShownError
item_shows (Guard r) e = []
item_shows (Visit r) e = visit_shows r e.found
item_shows (Scan r p) e = []
item_shows (Candidate r p) e = []

abbrev pub first_shows : List Work → Evidence → List ShownError
first_shows [] e = []
first_shows (Plain i ∷ q) e = item_shows i e
first_shows (Probe p owners ∷ q) e = []

-- each path under its own identity

pub record Right (id : Path → Identity) (os : List Owner) (ks ws : List Known) (gs : List GuardWatch) : Type 0 where
  pub known : (k : Known) → In k ks → k.identity ≡ id k.path
  pub all : (p : Path) → has_owner p os ≡ true → identity_of p ks ≡ Some (id p)
  pub registrations : (k : Known) → In k ws → k.identity ≡ id k.path
  pub guards : (g : GuardWatch) → In g gs → g.identity ≡ id g.path

-- nothing is kept of faults, and nothing waits
pub record Quiet (ws : List Known) (xs : List Retry) (fs ks es ts ls : List Path) (b d a : Bool) : Type 0 where
  pub waiting : ws ≡ []
  pub retries : xs ≡ []
  pub failed : fs ≡ []
  pub skipped : ks ≡ []
  pub excluded : es ≡ []
  pub tombstones : ts ≡ []
  pub lost : ls ≡ []
  pub stopped : b ≡ false
  pub deferred : d ≡ false
  pub asks_rebuild : a ≡ false

abbrev pub RightOf : (Path → Identity) → RecursorState → Type 0
RightOf id s = Right id s.owners s.known s.registrations s.guards

abbrev pub QuietOf : RecursorState → Type 0
QuietOf s = Quiet s.waiting s.retries s.failed s.skipped s.excluded s.tombstones s.lost s.stopped s.deferred s.asks_rebuild

abbrev pub is_plain : List Work → Bool
is_plain [] = true
is_plain (Plain i ∷ q) = is_plain q
is_plain (Probe p owners ∷ q) = false

pub record Simple (id : Path → Identity) (s : RecursorState) : Type 0 where
  pub right : RightOf id s
  pub quiet : QuietOf s
  pub plain : is_plain s.queue ≡ true

-- what a step without faults sees, of a path under its own identity

abbrev pub IsKept : Path → Identity → Watched → Type 0
IsKept p i (Kept look) = is_still p i look ≡ true
IsKept p i (Failed f) = ⊥

abbrev pub IsClearSpot : (Path → Identity) → GuardFound → Watched → Type 0
IsClearSpot id Nowhere w = Unit {0}
IsClearSpot id (At p i) w = (i ≡ id p) × IsKept p i w
IsClearSpot id (Faulty p c) w = ⊥

abbrev pub IsClearRoot : (Path → Identity) → Root → Found → Evidence → Type 0
IsClearRoot id r Missing e = IsClearSpot id e.guard_found e.watched × (e.root_is_safe ≡ false)
IsClearRoot id r Barred e = IsClearSpot id e.guard_found e.watched × (e.root_is_safe ≡ false)
IsClearRoot id r Rejected e = ⊥
IsClearRoot id r (Fault p c) e = ⊥
IsClearRoot id r (Refused c) e = ⊥
IsClearRoot id r (Here i) e = (i ≡ id r.path) × IsKept r.path i e.watched
IsClearRoot id r (Entries cs) e = ⊥

abbrev pub IsClearScan : Path → Found → Type 0
IsClearScan p Missing = ⊥
IsClearScan p Barred = ⊥
IsClearScan p Rejected = ⊥
IsClearScan p (Fault q c) = ⊥
IsClearScan p (Refused c) = ⊥
IsClearScan p (Here i) = ⊥
IsClearScan p (Entries cs) = (c : Path) → In c cs → has_entry p c ≡ true

abbrev pub IsClearTry : (Path → Identity) → Path → Found → Watched → Type 0
IsClearTry id p Missing w = ⊥
IsClearTry id p Barred w = Unit {0}
IsClearTry id p Rejected w = Unit {0}
IsClearTry id p (Fault q c) w = ⊥
IsClearTry id p (Refused c) w = ⊥
IsClearTry id p (Here i) w = (i ≡ id p) × IsKept p i w
IsClearTry id p (Entries cs) w = ⊥

abbrev pub IsClear : (Path → Identity) → Item → Evidence → Type 0
IsClear id (Guard r) e = IsClearSpot id e.guard_found e.watched
IsClear id (Visit r) e = IsClearRoot id r e.found e
IsClear id (Scan r p) e = IsClearScan p e.found
IsClear id (Candidate r p) e = IsClearTry id p e.found e.watched

abbrev pub IsClearFirst : (Path → Identity) → List Work → Evidence → Type 0
IsClearFirst id [] e = Unit {0}
IsClearFirst id (Plain i ∷ q) e = IsClear id i e
IsClearFirst id (Probe p owners ∷ q) e = ⊥
