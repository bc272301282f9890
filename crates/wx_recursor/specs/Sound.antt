-- What every step and call keeps.
use Rattle.std.specs.Prelude.{◌≡◌, ◌⊎◌, Bool, true, false, ◌&&◌, ◌||◌, List, [], ◌∷◌, map}
use Rattle.wx_tree.specs.Lists.{In}
use Rattle.wx_tree.specs.Paths.{Path, holds, same}
use Rattle.wx_tree.specs.declared.root.Root.{Root}
use Rattle.wx_recursor.specs.Identities.{guard_known, has_identity}
use Rattle.wx_recursor.specs.Owners.{has_owner}
use Rattle.wx_recursor.specs.States.{RecursorState}
use Rattle.wx_recursor.specs.declared.known.Known.{Known}
use Rattle.wx_recursor.specs.declared.owner.GuardWatch.{GuardWatch}
use Rattle.wx_recursor.specs.declared.owner.Owner.{Owner}
use Rattle.wx_recursor.specs.declared.work.Item.{Item}
use Rattle.wx_recursor.specs.declared.work.Item.TheVariants.{Candidate, Guard, Scan, Visit}
use Rattle.wx_recursor.specs.declared.work.Retry.{Retry}
use Rattle.wx_recursor.specs.declared.work.Work.{Work}
use Rattle.wx_recursor.specs.declared.work.Work.TheVariants.{Plain, Probe}

-- who owns what, and what is registered for it
pub record Things : Type 0 where
  pub owners : List Owner
  pub known : List Known
  pub guards : List GuardWatch
  pub registrations : List Known
  pub waiting : List Known

abbrev pub things : RecursorState → Things
things s = record { owners = s.owners; known = s.known; guards = s.guards; registrations = s.registrations; waiting = s.waiting }

-- no identity comes twice
abbrev pub IdentitiesOnce : List Known → Type 0
IdentitiesOnce [] = Unit {0}
IdentitiesOnce (k ∷ ks) = (has_identity k.identity ks ≡ false) × IdentitiesOnce ks

-- an owned path, a guard, a representative, or one that waits
abbrev pub Among : Things → Known → Type 0
Among h k = In k h.known ⊎ (In k (map guard_known h.guards) ⊎ (In k h.registrations ⊎ In k h.waiting))

-- an owned path or a guard
abbrev pub Serves : Things → Known → Type 0
Serves h k = In k h.known ⊎ In k (map guard_known h.guards)

-- No path and no identity is registered twice, and each identity of an owned path or a guard is registered, or waits for replay.
pub record AreSound (h : Things) : Type 0 where
  -- no path stands for two identities, so no path is registered twice
  pub uniform : (k l : Known) → Among h k → Among h l → k.path ≡ l.path → k.identity ≡ l.identity
  -- no identity is registered twice
  pub once : IdentitiesOnce h.registrations
  pub wait : IdentitiesOnce h.waiting
  pub apart : (k : Known) → In k h.registrations → has_identity k.identity h.waiting ≡ false
  -- one for each identity of an owned path or a guard, save those that wait for replay
  pub backed : (k : Known) → Serves h k → (has_identity k.identity h.registrations || has_identity k.identity h.waiting) ≡ true
  -- each owned path has its identity
  pub owned : (p : Path) → has_owner p h.owners ≡ true → (k : Known) × In k h.known × (k.path ≡ p)

-- the root covers the path: it is its own, or below it where the root is recursive
abbrev pub covers : Root → Path → Bool
covers r p = same r.path p || (r.recursive && holds r.path p)

-- what is scanned, and each candidate, is covered by its recursive root
abbrev pub FitsItem : Item → Type 0
FitsItem (Guard r) = Unit {0}
FitsItem (Visit r) = Unit {0}
FitsItem (Scan r p) = (covers r p ≡ true) × (r.recursive ≡ true)
FitsItem (Candidate r p) = (covers r p ≡ true) × (r.recursive ≡ true)

abbrev pub FitsWork : Work → Type 0
FitsWork (Plain i) = FitsItem i
FitsWork (Probe p owners) = (r : Root) → In r owners → covers r p ≡ true

-- who owns what, what is queued, and what is kept for the next reconcile
pub record Parts : Type 0 where
  pub owners : List Owner
  pub queue : List Work
  pub retries : List Retry

abbrev pub parts : RecursorState → Parts
parts s = record { owners = s.owners; queue = s.queue; retries = s.retries }

-- Each owner covers its path.
pub record AreCovered (c : Parts) : Type 0 where
  pub owners : (o : Owner) → In o c.owners → covers o.root o.path ≡ true
  pub queue : (w : Work) → In w c.queue → FitsWork w
  pub retries : (x : Retry) → In x c.retries → covers x.root x.path ≡ true

-- all that speaks of a root
pub record Rooted : Type 0 where
  pub roots : List Root
  pub owners : List Owner
  pub guards : List GuardWatch
  pub queue : List Work
  pub retries : List Retry

abbrev pub rooted : RecursorState → Rooted
rooted s = record { roots = s.roots; owners = s.owners; guards = s.guards; queue = s.queue; retries = s.retries }

-- the item is about one of these roots
abbrev pub IsItemOf : List Root → Item → Type 0
IsItemOf given (Guard r) = In r given
IsItemOf given (Visit r) = In r given
IsItemOf given (Scan r p) = In r given
IsItemOf given (Candidate r p) = In r given

abbrev pub IsWorkOf : List Root → Work → Type 0
IsWorkOf given (Plain i) = IsItemOf given i
IsWorkOf given (Probe p owners) = (r : Root) → In r owners → In r given

-- Each root of an owner, a guard, a queued item or a retry was given by some reconcile.
pub record AreGiven (given : List Root) (x : Rooted) : Type 0 where
  pub roots : (r : Root) → In r x.roots → In r given
  pub owners : (o : Owner) → In o x.owners → In o.root given
  pub guards : (g : GuardWatch) → In g x.guards → In g.root given
  pub queue : (w : Work) → In w x.queue → IsWorkOf given w
  pub retries : (y : Retry) → In y x.retries → In y.root given
