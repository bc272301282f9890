-- What the calls of a recursor make of an epoch.
use Rattle.std.proofs.Common.{◌≡◌, ℕ, zero, suc, Bool, true, false, List, [], ◌∷◌, ◌++◌, refl, ap, sym, ◌∙◌, Result, Ok, Err, subst}
use Rattle.std.specs.Prelude.{OnOk, Some, map}
use Rattle.wx_watch.specs.declared.watched.Watcher.{Watcher}
use Rattle.wx_error.specs.declared.runtime.RuntimeError.{RuntimeError}
use Rattle.wx_tree.specs.Lists.{In}
use Rattle.wx_tree.specs.Paths.{Path}
use Rattle.wx_tree.specs.Trees.{Tree}
use Rattle.wx_tree.specs.declared.root.Root.{Root}
use Rattle.wx_scan.specs.Backings.{Backing}
use Rattle.wx_recursor.specs.Calls.{fresh, has_work, reconciled}
use Rattle.wx_recursor.specs.Sound.{AreSound, things}
use Rattle.wx_recursor.specs.States.{Evidence, RecursorState}
use Rattle.wx_recursor.specs.Steps.{stepped, told}
use Rattle.wx_recursor.specs.Written.{handed_error}
use Rattle.wx_recursor.specs.declared.errors.ShownError.{ShownError}
use Rattle.wx_recursor.proofs.SoundSteps.{fresh_sound, reconcile_sound, step_sound}
use Rattle.wx_scan.specs.Told.{AreNames, IsNamed}
use Rattle.wx_holding.specs.Calm.{StandsBy}
use Rattle.wx_step.specs.Calmly.{HandsCalmly, IsFirstReadable}
use Rattle.wx_walk.specs.Reached.{Call, one_more}
use Rattle.wx_settle.specs.Runs.{IsEpoch, RecursorReached, RecursorSteps}
use Rattle.wx_settle.proofs.EpochLemmas.{Goes, epoch_begins, epoch_few, epoch_more, epoch_reached, epoch_settled}
use Rattle.wx_fs.proofs.Readable.{epoch_readable}
use Rattle.wx_fs.specs.Settling.{BackendStands, Begins, GoesOn, Settles, StepsOn, first_call}

-- a call of reconcile begins one
begins_at : (roots : List Root) (n : ℕ) (s u : RecursorState) → u ≡ reconciled roots n s → Begins roots s u
begins_at roots n s u e = λ t ok calls reached. subst (λ x. IsEpoch t (first_call roots ok) calls x []) (sym e) (epoch_begins t (first_call roots ok) calls n s reached refl)

pub begins : {A E : Type 0} → (r : Result A E) (roots given : List Root) (n : ℕ) (s u : RecursorState) → given ≡ roots → OnOk r (u ≡ reconciled given n s) → OnOk r (Begins roots s u)
begins (Ok a) roots given n s u same e = begins_at roots n s u (e ∙ ap (λ x. reconciled x n s) same)
begins (Err e) roots given n s u same h = tt

-- a new recursor stands by its backend, which watches nothing
pub fresh_stands : {B : Type 0} → (backing : B → Backing) (fits : B → Tree → Type 0) (t : Tree) (s : RecursorState) (back : B) → s ≡ fresh → (backing back).registrations ≡ [] → (backing back).exact ≡ true → fits back t → BackendStands backing fits t s.registrations (Some back)
fresh_stands backing fits t s back new none exact fit =
    subst (λ x. StandsBy t x (backing back) (fits back t)) (sym (ap (λ (x : RecursorState). x.registrations) new)) (record {
      exact = exact;
      watched = λ k m. absurd m;
      registered = λ bytes m. absurd (subst (λ x. In bytes x) none m);
      readable = λ k m. absurd m;
      seen = fit;
    })

-- where there is no work it has settled
pub settles : (u : RecursorState) → has_work u.queue u.sweep_due ≡ false → Settles u
settles u rest = λ t call calls errors x. epoch_settled t call calls u errors x rest

-- ---- a step

steps_sound : (t : Tree) (ok : Path → Bool) (n : ℕ) (s u : RecursorState) → AreSound (things s) → RecursorSteps t ok n s u → AreSound (things u)
steps_sound t ok zero s u k e = subst (λ x. AreSound (things x)) (sym e) k
steps_sound t ok (suc n) s u k (e, work, sees, releases, rest) = steps_sound t ok n (told (stepped e s)) u (step_sound e s k) rest

reached_sound : (t : Tree) (cs : List Call) (u : RecursorState) → RecursorReached t cs u → AreSound (things u)
reached_sound t [] u e = subst (λ x. AreSound (things x)) (sym e) fresh_sound
reached_sound t (c ∷ cs) u (n, s, before, steps) = steps_sound t c.ok c.steps (reconciled c.roots n s) u (reconcile_sound c.roots n s (reached_sound t cs s before)) steps

-- a step in which nothing fails goes on
goes_on : (t : Tree) (call : Call) (calls : List Call) (kind : Watcher) (s u : RecursorState) (before shown : List ShownError) (errors : List RuntimeError) (asks : Bool)
    → HandsCalmly t call.ok s u shown asks → errors ≡ map (handed_error kind) shown → has_work s.queue s.sweep_due ≡ true → IsEpoch t call calls s before → GoesOn t call calls kind u before errors asks
goes_on t call calls kind s u before shown errors asks h told_errors work x =
    let e : Evidence = h.evidence in
    let g : Goes t call calls e s x.before before = epoch_more t call calls s before e x work h.sees h.released in
    let next : IsEpoch t (one_more call) calls u (before ++ (stepped e s).shown) = subst (λ y. IsEpoch t (one_more call) calls y (before ++ (stepped e s).shown)) (sym h.state) g.epoch in
    record {
      more = (stepped e s).shown;
      epoch = next;
      shown = told_errors ∙ ap (map (handed_error kind)) h.shown;
      rebuild = h.rebuild ∙ g.calm;
      few = λ owned. epoch_few t (one_more call) calls u (before ++ (stepped e s).shown) next owned;
    }

-- what a step makes of whatever epoch, where nothing of it fails
pub steps_on : (t : Tree) (kind : Watcher) (s u : RecursorState) (shown : List ShownError) (errors : List RuntimeError) (asks : Bool) (agrees : (Path → Bool) → Type 0) (after : Type 0)
    → IsNamed t → ((r : Root) → In r s.roots → AreNames r.path) → errors ≡ map (handed_error kind) shown
    → ((ok : Path → Bool) → agrees ok → IsFirstReadable t s.queue → AreSound (things s) → HandsCalmly t ok s u shown asks × after)
    → StepsOn t kind agrees after s u errors asks
steps_on t kind s u shown errors asks agrees after named roots told_errors calmly = λ call calls before agreed x work.
    let sound : AreSound (things s) = reached_sound t (call ∷ calls) s (epoch_reached t call calls s before x) in
    let done = calmly call.ok agreed (epoch_readable t call calls s before x named roots) sound in
    (goes_on t call calls kind s u before shown errors asks done.0 told_errors work x, done.1)
