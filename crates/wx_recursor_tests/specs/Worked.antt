-- Worked runs of a recursor, computed from its definitions. What each step sees is read off a tree that stays still. A step that
-- asks for a rebuild is followed by one: the backend is dropped, another is installed, and all that waits is watched again.
use Rattle.std.specs.Prelude.{ℕ, zero, suc, ◌-◌, Bool, true, false, ◌&&◌, if◌then◌else◌, Option, Some, None, List, [], ◌∷◌, ◌++◌, map, replicate}
use Rattle.wx_watch.specs.declared.notify_fault.NotifyFault.{NotifyFault}
use Rattle.wx_watch.specs.declared.notify_fault.NotifyFaultKind.TheVariants.{Generic}
use Rattle.wx_tree.specs.Paths.{Path, same, has_entry}
use Rattle.wx_tree.specs.Trees.{Tree, is_safe, is_there, guard_of}
use Rattle.wx_recursor.specs.declared.answers.Found.{Found}
use Rattle.wx_recursor.specs.declared.answers.Found.TheVariants.{Missing, Here, Entries}
use Rattle.wx_recursor.specs.declared.answers.GuardFound.{GuardFound}
use Rattle.wx_recursor.specs.declared.answers.GuardFound.TheVariants.{Nowhere}
use Rattle.wx_recursor.specs.declared.answers.Look.TheVariants.{Other}
use Rattle.wx_recursor.specs.declared.answers.Watched.{Watched}
use Rattle.wx_recursor.specs.declared.answers.Watched.TheVariants.{Kept, Failed}
use Rattle.wx_recursor.specs.declared.errors.ShownError.{ShownError}
use Rattle.wx_recursor.specs.declared.work.Item.TheVariants.{Guard, Visit, Scan, Candidate}
use Rattle.wx_recursor.specs.declared.work.Work.{Work}
use Rattle.wx_recursor.specs.declared.work.Work.TheVariants.{Plain, Probe}
use Rattle.wx_recursor.specs.States.{RecursorState, Evidence}
use Rattle.wx_recursor.specs.Identities.{known_path}
use Rattle.wx_recursor.specs.Holding.{still_known}
use Rattle.wx_recursor.specs.Steps.{stepped, stepped_at, told, idle_registrations}
use Rattle.wx_recursor.specs.Calls.{has_work}
use Rattle.wx_recursor.specs.Rebuilds.{prepared, installed, replayed}
use Rattle.wx_recursor.specs.Seen.{identity_at, guard_found_at, root_found, try_found, watched_at}

abbrev pub entries : Tree → Path → List Path
entries [] p = []
entries (e ∷ t) p = if has_entry p e.path then e.path ∷ entries t p else entries t p

-- where nothing is watched, what a watch would answer isn't read
abbrev pub watched_for : Tree → Option Path → Watched
watched_for t None = Kept Other
watched_for t (Some p) = watched_at t p

abbrev pub evidence : Found → GuardFound → Watched → Bool → Evidence
evidence f g w safe = record { found = f; guard_found = g; watched = w; undone = None; root_is_safe = safe; releases = replicate 9 None }

-- what a step sees of the first of the queue
abbrev pub saw : Tree → (Path → Bool) → List Work → Evidence
saw t ok [] = evidence Missing Nowhere (Kept Other) false
saw t ok (Plain (Guard r) ∷ q) = evidence Missing (guard_found_at (guard_of t r.path)) (watched_for t (guard_of t r.path)) (is_safe t r.path)
saw t ok (Plain (Visit r) ∷ q) = evidence (root_found t r.path) (guard_found_at (guard_of t r.path)) (watched_for t (if is_safe t r.path then Some r.path else guard_of t r.path)) (is_safe t r.path)
saw t ok (Plain (Scan r p) ∷ q) = evidence (Entries (entries t p)) Nowhere (Kept Other) false
saw t ok (Plain (Candidate r p) ∷ q) = evidence (try_found t ok r p) Nowhere (watched_at t p) false
saw t ok (Probe p owners ∷ q) = evidence (if is_there t p then Here (identity_at t p) else Missing) Nowhere (Kept Other) false

pub record Run : Type 0 where
  pub state : RecursorState
  pub shown : List ShownError  -- the errors of all steps so far, in order
  pub rebuilds : ℕ  -- how many steps asked for a rebuild
  pub unwatched : List Path  -- what was unwatched, in order
  pub failures : ℕ  -- how many more tries to watch the failing path are to fail

abbrev pub a_fault : NotifyFault
a_fault = record { kind = Generic []; paths = [] }

abbrev pub is_try : Path → List Work → Bool
is_try p [] = false
is_try p (Plain (Guard r) ∷ q) = false
is_try p (Plain (Visit r) ∷ q) = false
is_try p (Plain (Scan r c) ∷ q) = false
is_try p (Plain (Candidate r c) ∷ q) = same p c
is_try p (Probe c owners ∷ q) = false

abbrev pub is_left : ℕ → Bool
is_left zero = false
is_left (suc n) = true

abbrev pub rebuilt : RecursorState → RecursorState
rebuilt s = if s.asks_rebuild then told (replayed (replicate 9 (Kept Other)) (installed (prepared (told s)))) else told s

-- what the step unwatches, in order
abbrev pub let_go : Evidence → RecursorState → List Path
let_go e s =
    let u : RecursorState = stepped_at s.queue e s in
    map known_path (idle_registrations (still_known u.owners u.known) u.guards u.registrations)

abbrev pub after_step : Bool → Evidence → Run → Run
after_step fails seen x =
    let e : Evidence = if fails then record seen { watched = Failed a_fault } else seen in
    let u : RecursorState = stepped e x.state in
    record {
      state = rebuilt u;
      shown = x.shown ++ u.shown;
      rebuilds = if u.asks_rebuild then suc x.rebuilds else x.rebuilds;
      unwatched = x.unwatched ++ let_go e x.state;
      failures = if fails then x.failures - 1 else x.failures;
    }

-- at most so many steps, while there is work; the tries to watch p as a candidate fail as often as is left
abbrev pub run : Tree → (Path → Bool) → Path → ℕ → Run → Run
run t ok p zero x = x
run t ok p (suc n) x =
    if has_work x.state.queue x.state.sweep_due
    then run t ok p n (after_step (is_try p x.state.queue && is_left x.failures) (saw t ok x.state.queue) x)
    else x

abbrev pub begin : RecursorState → ℕ → Run
begin s failures = record { state = s; shown = []; rebuilds = 0; unwatched = []; failures = failures }

abbrev pub owned : Run → List Path
owned x = map (λ o. o.path) x.state.owners

abbrev pub registered : Run → List Path
registered x = map known_path x.state.registrations

abbrev pub guarding : Run → List Path
guarding x = map (λ g. g.path) x.state.guards
