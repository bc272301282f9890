-- Where a release changes nothing.
use Rattle.std.specs.Prelude.{◌≡◌, Bool, true, false, ◌&&◌, List, [], ◌∷◌}
use Rattle.wx_recursor.specs.Holding.{is_held}
use Rattle.wx_recursor.specs.Owners.{has_owner}
use Rattle.wx_recursor.specs.States.{RecursorState}
use Rattle.wx_recursor.specs.declared.known.Known.{Known}
use Rattle.wx_recursor.specs.declared.owner.GuardWatch.{GuardWatch}
use Rattle.wx_recursor.specs.declared.owner.Owner.{Owner}
use Rattle.wx_recursor.specs.declared.work.Item.TheVariants.{Candidate, Guard, Scan, Visit}
use Rattle.wx_recursor.specs.declared.work.Work.{Work}
use Rattle.wx_recursor.specs.declared.work.Work.TheVariants.{Plain, Probe}

-- each known path has an owner
abbrev pub all_owned : List Owner → List Known → Bool
all_owned os [] = true
all_owned os (k ∷ ks) = has_owner k.path os && all_owned os ks

-- an owned path or a guard is at the path of each registration, under its identity
abbrev pub all_held : List Known → List GuardWatch → List Known → Bool
all_held ks gs [] = true
all_held ks gs (g ∷ registrations) = is_held ks gs g && all_held ks gs registrations

-- There is nothing to be let go: each known path has an owner, each registration is held by its own path, none waits, and none
-- is lost.
pub record IsAtRest (s : RecursorState) : Type 0 where
  pub known : all_owned s.owners s.known ≡ true
  pub registrations : all_held s.known s.guards s.registrations ≡ true
  pub waiting : s.waiting ≡ []
  pub lost : s.lost ≡ []

-- something is queued, and the first of it leaves the guards as they are
abbrev pub leaves_guards : List Work → Bool
leaves_guards [] = false
leaves_guards (Plain (Guard r) ∷ q) = false
leaves_guards (Plain (Visit r) ∷ q) = false
leaves_guards (Plain (Scan r p) ∷ q) = true
leaves_guards (Plain (Candidate r p) ∷ q) = true
leaves_guards (Probe p owners ∷ q) = true
