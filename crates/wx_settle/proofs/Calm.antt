-- One step more.
use Rattle.std.proofs.Common.{◌≡◌, ℕ, suc, zero, Bool, true, false, List, [], ◌∷◌, refl, sym, subst}
use Rattle.std.proofs.lemmas.List.{append-nil}
use Rattle.std.proofs.Math.Bool.{or-false}
use Rattle.wx_tree.specs.Lists.{In}
use Rattle.wx_tree.specs.Paths.{Path}
use Rattle.wx_tree.specs.Trees.{Tree}
use Rattle.wx_recursor.specs.Calls.{has_work, reconciled}
use Rattle.wx_recursor.specs.Seen.{NoneRefused, SeesFirst}
use Rattle.wx_recursor.specs.States.{Evidence, RecursorState}
use Rattle.wx_recursor.specs.Steps.{stepped, told}
use Rattle.wx_recursor.specs.declared.errors.ShownError.{ShownError}
use Rattle.wx_walk.specs.Reached.{Call, one_more}
use Rattle.wx_walk.proofs.WatchedLemmas.{reached_roots}
use Rattle.wx_settle.specs.Plain.{plain}
use Rattle.wx_settle.specs.Runs.{RecursorReached, RecursorShows, RecursorSteps}
use Rattle.wx_settle.proofs.Reach.{Stands, call_stands, full_reached, full_steps}
use Rattle.wx_settle.proofs.Shows.{ShowsAbsentRoot, Tells, reached_quiet, steps_show}

steps_more : (t : Tree) (ok : Path → Bool) (n : ℕ) (s u : RecursorState) (e : Evidence) → RecursorSteps t ok n s u → has_work u.queue u.sweep_due ≡ true → SeesFirst t ok u.queue e → NoneRefused e.releases → RecursorSteps t ok (suc n) s (told (stepped e u))
steps_more t ok zero s u e same work sees releases =
    subst (λ x. RecursorSteps t ok 1 x (told (stepped e u))) same (e, work, sees, releases, refl)
steps_more t ok (suc n) s u e (d, w, l, f, rest) work sees releases = (d, w, l, f, steps_more t ok n (told (stepped d s)) u e rest work sees releases)

-- one step more of the last call
pub full_more : (t : Tree) (c : Call) (cs : List Call) (u : RecursorState) (e : Evidence) → RecursorReached t (c ∷ cs) u → has_work u.queue u.sweep_due ≡ true → SeesFirst t c.ok u.queue e → NoneRefused e.releases → RecursorReached t (one_more c ∷ cs) (told (stepped e u))
full_more t c cs u e (n, s, before, steps) work sees releases = (n, s, before, steps_more t c.ok c.steps (reconciled c.roots n s) u e steps work sees releases)

pub full_stands : (t : Tree) (c : Call) (cs : List Call) (u : RecursorState) → RecursorReached t (c ∷ cs) u → Stands t c.ok u
full_stands t c cs u (n, s, before, steps) =
    let a = full_reached t cs s before in
    let b = full_steps t c.ok c.steps (reconciled c.roots n s) u (call_stands t c.ok c.roots n cs s a.0 a.1) steps in
    b.0

-- what it shows, and that it asks for no rebuild
pub step_calm : (t : Tree) (c : Call) (cs : List Call) (u : RecursorState) (e : Evidence) → RecursorReached t (c ∷ cs) u → has_work u.queue u.sweep_due ≡ true → SeesFirst t c.ok u.queue e → NoneRefused e.releases
    → ((stepped e u).asks_rebuild ≡ false) × ((x : ShownError) → In x (stepped e u).shown → ShowsAbsentRoot t c.roots x)
step_calm t c cs u e r work sees releases =
    let a = full_reached t (c ∷ cs) u r in
    let k = full_stands t c cs u r in
    let one : RecursorShows t c.ok 1 u (told (stepped e u)) (stepped e u).shown (stepped e u).asks_rebuild = (e, [], false, work, sees, releases, sym (append-nil (stepped e u).shown), sym (or-false (stepped e u).asks_rebuild), (refl, refl, refl)) in
    let d : Tells t c.roots u (told (stepped e u)) (stepped e u).shown (stepped e u).asks_rebuild = steps_show t c.ok 1 c.roots u (told (stepped e u)) (stepped e u).shown (stepped e u).asks_rebuild (reached_roots t (c ∷ cs) (plain u) a.1) (reached_quiet t (c ∷ cs) u r) k one in
    (d.calm, d.only)
