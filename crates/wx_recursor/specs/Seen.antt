-- What a step sees on a tree that stays still, where links aren't followed, the filter never fails and the backend is exact: it
-- watches what is there, and answers that nothing is there exactly where this is so.
use Rattle.std.specs.Prelude.{◌≡◌, Bool, true, not, ◌&&◌, Option, Some, None, List, [], ◌∷◌, if◌then◌else◌}
use Rattle.wx_watch.specs.declared.notify_fault.NotifyFault.{NotifyFault}
use Rattle.wx_watch.specs.declared.notify_fault.NotifyFaultKind.TheVariants.{PathNotFound}
use Rattle.wx_tree.specs.Lists.{In}
use Rattle.wx_tree.specs.Paths.{Path, same}
use Rattle.wx_tree.specs.Trees.{IsListing, Tree, guard_of, is_chain, is_directory, is_safe, is_there, node_at}
use Rattle.wx_tree.specs.declared.node.Node.{Node}
use Rattle.wx_tree.specs.declared.node.Node.TheVariants.{Dir, File, Link}
use Rattle.wx_tree.specs.declared.root.Root.{Root}
use Rattle.wx_recursor.specs.Identities.{refusal}
use Rattle.wx_recursor.specs.States.{Evidence}
use Rattle.wx_recursor.specs.declared.answers.Found.{Found}
use Rattle.wx_recursor.specs.declared.answers.Found.TheVariants.{Barred, Entries, Here, Missing, Rejected}
use Rattle.wx_recursor.specs.declared.answers.GuardFound.{GuardFound}
use Rattle.wx_recursor.specs.declared.answers.GuardFound.TheVariants.{At, Nowhere}
use Rattle.wx_recursor.specs.declared.answers.Look.{Look}
use Rattle.wx_recursor.specs.declared.answers.Look.TheVariants.{Absent, Directory, Linked, Other}
use Rattle.wx_recursor.specs.declared.answers.Watched.{Watched}
use Rattle.wx_recursor.specs.declared.answers.Watched.TheVariants.{Failed, Kept}
use Rattle.wx_recursor.specs.declared.known.Identity.{Identity}
use Rattle.wx_recursor.specs.declared.known.Identity.TheVariants.{Canonical, Lexical}
use Rattle.wx_recursor.specs.declared.work.Item.{Item}
use Rattle.wx_recursor.specs.declared.work.Item.TheVariants.{Candidate, Guard, Scan, Visit}
use Rattle.wx_recursor.specs.declared.work.Work.{Work}
use Rattle.wx_recursor.specs.declared.work.Work.TheVariants.{Plain, Probe}

-- each unwatch was done
abbrev pub NoneRefused : List (Option NotifyFault) → Type 0
NoneRefused us = (u : Option NotifyFault) → In u us → refusal u ≡ None

-- as what a path of the tree is known
abbrev pub identity_at : Tree → Path → Identity
identity_at t p = if is_directory t p then Canonical p else Lexical p

abbrev pub look_at_node : Path → Option Node → Look
look_at_node p None = Absent
look_at_node p (Some Dir) = Directory p
look_at_node p (Some (File c)) = Other
look_at_node p (Some (Link l)) = Linked

abbrev pub watch_of_node : Path → Option Node → Watched
watch_of_node p None = Failed (record { kind = PathNotFound; paths = [] })
watch_of_node p (Some Dir) = Kept (look_at_node p (Some Dir))
watch_of_node p (Some (File c)) = Kept (look_at_node p (Some (File c)))
watch_of_node p (Some (Link l)) = Kept (look_at_node p (Some (Link l)))

-- what a watch of the path answers, and the second look
abbrev pub watched_at : Tree → Path → Watched
watched_at t p = watch_of_node p (node_at t p)

abbrev pub Watches : Tree → Option Path → Watched → Type 0
Watches t None w = Unit {0}
Watches t (Some p) w = w ≡ watched_at t p

abbrev pub guard_found_at : Option Path → GuardFound
guard_found_at None = Nowhere
guard_found_at (Some p) = At p (Canonical p)

-- the way down from / to the path first breaks off at an absent path
abbrev pub is_gap : Tree → Path → Bool
is_gap t [] = not (is_there t [])
is_gap t (x ∷ p) = if is_chain t p then not (is_there t (x ∷ p)) else is_gap t p

-- What a look at a root finds. The first break on the way down to it decides: at an absent path it counts as absent, at a link
-- or anything else that is no directory as unsafe.
abbrev pub root_found : Tree → Path → Found
root_found t p = if is_safe t p then Here (identity_at t p) else if is_gap t p then Missing else Barred

-- the filter accepts each path below the root down to the path
abbrev pub passes : (Path → Bool) → Root → Path → Bool
passes ok r [] = true
passes ok r (x ∷ p) = if same r.path (x ∷ p) then true else ok (x ∷ p) && passes ok r p

-- what a look at a candidate finds
abbrev pub try_found : Tree → (Path → Bool) → Root → Path → Found
try_found t ok r p =
    if is_there t p
    then (if is_directory t p && passes ok r p then Here (identity_at t p) else Rejected)
    else Missing

pub record SeesGuard (t : Tree) (r : Root) (e : Evidence) : Type 0 where
  pub guard_found : e.guard_found ≡ guard_found_at (guard_of t r.path)
  pub watched : Watches t (guard_of t r.path) e.watched
  pub root_is_safe : e.root_is_safe ≡ is_safe t r.path

pub record SeesRoot (t : Tree) (r : Root) (e : Evidence) : Type 0 where
  pub found : e.found ≡ root_found t r.path
  pub guard_found : e.guard_found ≡ guard_found_at (guard_of t r.path)
  pub watched : Watches t (if is_safe t r.path then Some r.path else guard_of t r.path) e.watched
  pub root_is_safe : e.root_is_safe ≡ is_safe t r.path

pub record SeesCandidate (t : Tree) (ok : Path → Bool) (r : Root) (p : Path) (e : Evidence) : Type 0 where
  pub found : e.found ≡ try_found t ok r p
  pub watched : e.watched ≡ watched_at t p

-- this is what a step about the item sees
abbrev pub Sees : Tree → (Path → Bool) → Item → Evidence → Type 0
Sees t ok (Guard r) e = SeesGuard t r e
Sees t ok (Visit r) e = SeesRoot t r e
Sees t ok (Scan r p) e = is_directory t p ≡ true → (cs : List Path) × (e.found ≡ Entries cs) × IsListing t p cs
Sees t ok (Candidate r p) e = SeesCandidate t ok r p e

abbrev pub SeesFirst : Tree → (Path → Bool) → List Work → Evidence → Type 0
SeesFirst t ok [] e = Unit {0}
SeesFirst t ok (Plain i ∷ q) e = Sees t ok i e
SeesFirst t ok (Probe p owners ∷ q) e = Unit {0}
