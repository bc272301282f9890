-- Epochs: how they begin, go on and settle.
use Rattle.std.proofs.Common.{◌≡◌, ℕ, suc, zero, ◌≤◌, Bool, true, false, List, [], ◌∷◌, ◌++◌, length, refl, ap, sym, ◌∙◌, subst, append_assoc}
use Rattle.std.specs.Prelude.{◌||◌, map}
use Rattle.std.proofs.lemmas.List.{append-nil}
use Rattle.std.proofs.Math.Bool.{or_assoc, or-false}
use Rattle.wx_tree.specs.Paths.{Path}
use Rattle.wx_tree.specs.Trees.{Tree, settle}
use Rattle.wx_recursor.specs.Calls.{has_work, reconciled}
use Rattle.wx_recursor.specs.Seen.{NoneRefused, SeesFirst}
use Rattle.wx_recursor.specs.States.{Evidence, RecursorState}
use Rattle.wx_recursor.specs.Steps.{stepped, told}
use Rattle.wx_recursor.specs.declared.errors.ShownError.{ShownError}
use Rattle.wx_walk.specs.Machine.{kept_guards}
use Rattle.wx_walk.specs.Reached.{Call, one_more}
use Rattle.wx_settle.specs.Plain.{plain_guard}
use Rattle.wx_settle.specs.Runs.{HasSettled, IsEpoch, RecursorReached, RecursorShows, RecursorSteps}
use Rattle.wx_settle.proofs.Calm.{step_calm}
use Rattle.wx_settle.proofs.Reach.{full_calm, full_few, full_guards, full_reached, full_regs, full_walk}
use Rattle.wx_settle.proofs.Shows.{call_shows}

-- the steps without what they show
shows_steps : (t : Tree) (ok : Path → Bool) (n : ℕ) (s u : RecursorState) (errors : List ShownError) (asks : Bool) → RecursorShows t ok n s u errors asks → RecursorSteps t ok n s u
shows_steps t ok zero s u errors asks (same, none, quiet) = same
shows_steps t ok (suc n) s u errors asks (e, more, later, work, sees, releases, shown, asked, rest) = (e, work, sees, releases, shows_steps t ok n (told (stepped e s)) u more later rest)

first_shown : (t : Tree) (ok : Path → Bool) (u : RecursorState) (errors : List ShownError) (asks : Bool) (e : Evidence) → errors ≡ [] → asks ≡ false → has_work u.queue u.sweep_due ≡ true → SeesFirst t ok u.queue e → NoneRefused e.releases
    → RecursorShows t ok 1 u (told (stepped e u)) (errors ++ (stepped e u).shown) (asks || (stepped e u).asks_rebuild)
first_shown t ok u errors asks e none quiet work sees releases = (
  e,
  [],
  false,
  work,
  sees,
  releases,
  ap (λ xs. xs ++ (stepped e u).shown) none ∙ sym (append-nil (stepped e u).shown),
  ap (λ b. b || (stepped e u).asks_rebuild) quiet ∙ sym (or-false (stepped e u).asks_rebuild),
  (refl, refl, refl),
)

-- one step more shows more
shows_more : (t : Tree) (ok : Path → Bool) (n : ℕ) (s u : RecursorState) (errors : List ShownError) (asks : Bool) (e : Evidence) → RecursorShows t ok n s u errors asks → has_work u.queue u.sweep_due ≡ true → SeesFirst t ok u.queue e → NoneRefused e.releases
    → RecursorShows t ok (suc n) s (told (stepped e u)) (errors ++ (stepped e u).shown) (asks || (stepped e u).asks_rebuild)
shows_more t ok zero s u errors asks e (same, none, quiet) work sees releases =
    subst (λ x. RecursorShows t ok 1 x (told (stepped e u)) (errors ++ (stepped e u).shown) (asks || (stepped e u).asks_rebuild)) same (first_shown t ok u errors asks e none quiet work sees releases)
shows_more t ok (suc n) s u errors asks e (d, more, later, w, l, f, shown, asked, rest) work sees releases = (
  d,
  more ++ (stepped e u).shown,
  later || (stepped e u).asks_rebuild,
  w,
  l,
  f,
  ap (λ xs. xs ++ (stepped e u).shown) shown ∙ append_assoc (stepped d s).shown more (stepped e u).shown,
  ap (λ b. b || (stepped e u).asks_rebuild) asked ∙ or_assoc (stepped d s).asks_rebuild later (stepped e u).asks_rebuild,
  shows_more t ok n (told (stepped d s)) u more later e rest work sees releases,
)

-- it begins with a call of reconcile
pub epoch_begins : (t : Tree) (c : Call) (cs : List Call) (n : ℕ) (s : RecursorState) → RecursorReached t cs s → c.steps ≡ 0 → IsEpoch t c cs (reconciled c.roots n s) []
epoch_begins t c cs n s before none = record {
  filter = n;
  before = s;
  reached = before;
  shows = subst (λ k. RecursorShows t c.ok k (reconciled c.roots n s) (reconciled c.roots n s) [] false) (sym none) (refl, refl, refl);
}

-- its steps
epoch_steps : (t : Tree) (c : Call) (cs : List Call) (u : RecursorState) (errors : List ShownError) (x : IsEpoch t c cs u errors) → RecursorSteps t c.ok c.steps (reconciled c.roots x.filter x.before) u
epoch_steps t c cs u errors x = shows_steps t c.ok c.steps (reconciled c.roots x.filter x.before) u errors false x.shows

pub epoch_reached : (t : Tree) (c : Call) (cs : List Call) (u : RecursorState) (errors : List ShownError) → IsEpoch t c cs u errors → RecursorReached t (c ∷ cs) u
epoch_reached t c cs u errors x = (x.filter, x.before, x.reached, epoch_steps t c cs u errors x)

-- it goes on by a step
pub record Goes (t : Tree) (c : Call) (cs : List Call) (e : Evidence) (u before : RecursorState) (errors : List ShownError) : Type 0 where
  pub epoch : IsEpoch t (one_more c) cs (told (stepped e u)) (errors ++ (stepped e u).shown)
  pub same : epoch.before ≡ before
  pub calm : (stepped e u).asks_rebuild ≡ false

pub epoch_more : (t : Tree) (c : Call) (cs : List Call) (u : RecursorState) (errors : List ShownError) (e : Evidence) (x : IsEpoch t c cs u errors) → has_work u.queue u.sweep_due ≡ true → SeesFirst t c.ok u.queue e → NoneRefused e.releases → Goes t c cs e u x.before errors
epoch_more t c cs u errors e x work sees releases =
    let calm = step_calm t c cs u e (epoch_reached t c cs u errors x) work sees releases in
    let more : RecursorShows t c.ok (suc c.steps) (reconciled c.roots x.filter x.before) (told (stepped e u)) (errors ++ (stepped e u).shown) (stepped e u).asks_rebuild = shows_more t c.ok c.steps (reconciled c.roots x.filter x.before) u errors false e x.shows work sees releases in
    record {
      epoch = record {
        filter = x.filter;
        before = x.before;
        reached = x.reached;
        shows = subst (λ b. RecursorShows t c.ok (suc c.steps) (reconciled c.roots x.filter x.before) (told (stepped e u)) (errors ++ (stepped e u).shown) b) calm.0 more;
      };
      same = refl;
      calm = calm.0;
    }

-- its steps are few
pub epoch_few : (t : Tree) (c : Call) (cs : List Call) (u : RecursorState) (errors : List ShownError) (x : IsEpoch t c cs u errors) (owned : ℕ)
    → c.steps ≤ settle (length (kept_guards c.roots (map plain_guard x.before.guards))) (length c.roots) (length t) owned
epoch_few t c cs u errors x owned = full_few t c cs owned x.filter x.before u x.reached (epoch_steps t c cs u errors x)

-- where no work is left it has settled
pub epoch_settled : (t : Tree) (c : Call) (cs : List Call) (u : RecursorState) (errors : List ShownError) → IsEpoch t c cs u errors → has_work u.queue u.sweep_due ≡ false → HasSettled t c u errors
epoch_settled t c cs u errors x rest =
    let reached : RecursorReached t (c ∷ cs) u = epoch_reached t c cs u errors x in
    let registrations = full_regs t c cs u reached rest in
    let shows = call_shows t c cs x.filter x.before u errors false x.reached x.shows in
    let full = full_reached t (c ∷ cs) u reached in
    let simple = full.0 in
    record {
      owned = full_walk t c cs u reached rest;
      guarding = full_guards t c cs u reached rest;
      once = registrations.0;
      registered = registrations.1;
      shown = λ r absent. shows.2 rest r absent.root (record { unsafe = absent.unsafe; gap = absent.gap });
      only = λ y h. let d = shows.1 y h in (d.0, record { root = d.1; unsafe = d.2.unsafe; gap = d.2.gap }, d.3);
      retries = full_calm t (c ∷ cs) u reached;
      tombstones = simple.quiet.tombstones;
    }
