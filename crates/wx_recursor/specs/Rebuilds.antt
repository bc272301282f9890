-- A rebuild of the backend: it is dropped, another is installed, and what was registered is watched again.
use Rattle.std.specs.Prelude.{ℕ, ◌+◌, Bool, true, false, not, ◌||◌, List, [], ◌∷◌, ◌++◌, filter, map, length, if◌then◌else◌}
use Rattle.wx_tree.specs.Paths.{Path, holds, same}
use Rattle.wx_recursor.specs.Calls.{guards_of_roots_below}
use Rattle.wx_recursor.specs.Holding.{enqueue, show, still_known}
use Rattle.wx_recursor.specs.Identities.{guard_known, has_identity, has_known, is_path_gone, named, same_identity}
use Rattle.wx_recursor.specs.Owners.{has_path}
use Rattle.wx_recursor.specs.Owning.{failed_watch, is_resource_fault, stop}
use Rattle.wx_recursor.specs.States.{RecursorState}
use Rattle.wx_recursor.specs.declared.answers.BackendPlace.TheVariants.{Dropped, Installed, Lent}
use Rattle.wx_recursor.specs.declared.answers.Watched.{Watched}
use Rattle.wx_recursor.specs.declared.answers.Watched.TheVariants.{Failed, Kept}
use Rattle.wx_recursor.specs.declared.errors.ShownError.TheVariants.{PathAdd}
use Rattle.wx_recursor.specs.declared.known.Identity.{Identity}
use Rattle.wx_recursor.specs.declared.known.Known.{Known}
use Rattle.wx_recursor.specs.declared.owner.GuardWatch.{GuardWatch}

-- the path lies at or below one of these
abbrev pub is_under_any : Path → List Path → Bool
is_under_any p [] = false
is_under_any p (q ∷ qs) = holds q p || is_under_any p qs

-- The replay leaves out what is excluded, skipped, or at or below a tombstone.
abbrev pub is_left_out : RecursorState → Path → Bool
is_left_out s p = has_path p s.excluded || (has_path p s.skipped || is_under_any p s.tombstones)

abbrev pub known_to_replay : RecursorState → List Known
known_to_replay s = filter (λ k. not (is_left_out s k.path)) (still_known s.owners s.known)

abbrev pub guards_to_replay : RecursorState → List GuardWatch
guards_to_replay s = filter (λ g. not (is_left_out s g.path)) s.guards

-- the first path that stands for the identity
abbrev pub first_of : Identity → List Known → List Known
first_of i [] = []
first_of i (k ∷ ks) = if same_identity k.identity i then named k.path i ∷ [] else first_of i ks

-- A registration is watched again by its own path where this still stands for its identity, else by the first that does.
abbrev pub representative : Known → List Known → List Known
representative g ks = if has_known g.path g.identity ks then g ∷ [] else first_of g.identity ks

abbrev pub representatives : List Known → List Known → List Known
representatives [] ks = []
representatives (g ∷ gs) ks = representative g ks ++ representatives gs ks

-- what is to be watched again: what serves owned paths first, then what serves guards alone
abbrev pub replays : RecursorState → List Known → List GuardWatch → List Known
replays s ks gs =
    let all : List Known = s.registrations ++ s.waiting in
    representatives (filter (λ g. has_identity g.identity ks) all) ks ++ representatives (filter (λ g. not (has_identity g.identity ks)) all) (map guard_known gs)

-- An owned path or a guard stays only where its registration is there or waits.
abbrev pub upheld : RecursorState → RecursorState
upheld s =
    let all : List Known = s.registrations ++ s.waiting in
    let ks : List Known = filter (λ k. has_identity k.identity all) s.known in
    record s {
      known = ks;
      owners = filter (λ o. has_path o.path (map (λ k. k.path) ks)) s.owners;
      guards = filter (λ g. has_identity g.identity all) s.guards;
    }

-- The backend is dropped, and all that isn't left out waits for replay. Excluded paths are forgotten.
abbrev pub prepared : RecursorState → RecursorState
prepared s =
    let ks : List Known = known_to_replay s in
    let gs : List GuardWatch = guards_to_replay s in
    upheld (record s { backend = Dropped; registrations = []; known = ks; guards = gs; waiting = replays s ks gs; excluded = []; lost = [] })

-- another backend is installed
abbrev pub installed : RecursorState → RecursorState
installed s = record s { backend = Installed }

-- the backend is lent
abbrev pub lent : RecursorState → RecursorState
lent s = record s { backend = Lent }

-- Nothing is there any more: what is owned at or below the path goes, guards at the path too, and the guards of the roots there
-- are queued.
abbrev pub path_gone : Path → RecursorState → RecursorState
path_gone p s = enqueue (guards_of_roots_below p s.roots) (record s { owners = filter (λ o. not (holds p o.path)) s.owners; guards = filter (λ g. not (same g.path p)) s.guards })

abbrev pub waits : Known → RecursorState → RecursorState
waits g s = record s { waiting = s.waiting ++ g ∷ [] }

-- the registration waits by another path that stands for its identity
abbrev pub waits_by_alias : Known → RecursorState → RecursorState
waits_by_alias g s =
    record s { known = still_known s.owners s.known; waiting = s.waiting ++ first_of g.identity (still_known s.owners s.known ++ map guard_known s.guards) }

-- One registration is watched again. Where nothing is there, that is shown, and another path of its identity waits. After a
-- resource fault it waits for the next epoch. After a first other fault it waits for a rebuild, after a second it is given up.
abbrev pub replayed_one : Known → Watched → RecursorState → RecursorState
replayed_one g (Kept look) s = record s { registrations = s.registrations ++ g ∷ [] }
replayed_one g (Failed f) s =
    if is_path_gone f then waits_by_alias g (path_gone g.path (show (PathAdd g.path f) s))
    else if is_resource_fault f then waits g (stop f s)
    else if has_path g.path s.failed then failed_watch g.path f s
    else waits g (failed_watch g.path f s)

-- a replay ends where a rebuild is asked for, or nothing more may be watched
abbrev pub is_replay_over : RecursorState → Bool
is_replay_over s = s.asks_rebuild || s.stopped

abbrev pub keep_waiting : List Known → RecursorState → RecursorState
keep_waiting gs s = record s { waiting = gs ++ s.waiting }

abbrev pub replayed_all : List Known → List Watched → RecursorState → RecursorState
replayed_all [] ws s = s
replayed_all (g ∷ gs) [] s = keep_waiting (g ∷ gs) s
replayed_all (g ∷ gs) (w ∷ ws) s = if is_replay_over s then keep_waiting (g ∷ gs) s else replayed_all gs ws (replayed_one g w s)

-- The replay: what waits is watched again, one after the other, and the rest waits on.
abbrev pub replayed : List Watched → RecursorState → RecursorState
replayed ws s = upheld (replayed_all s.waiting ws (record s { waiting = [] }))

-- the known registrations and the guards
abbrev pub replay_count : RecursorState → ℕ
replay_count s = length s.registrations + length s.waiting + length s.guards

-- the rest waits for a later reconcile
abbrev pub replay_deferred : RecursorState → RecursorState
replay_deferred s = record s { deferred = true }
