-- What a recursor reaches, as settings are applied and steps are done.
use Rattle.std.proofs.Common.{◌≡◌, ℕ, suc, zero, ◌+◌, ◌*◌, ◌≤◌, Bool, true, false, cond, List, [], ◌∷◌, ◌++◌, length, arith, refl, ap, sym, subst, ◌∙◌, inl, inr}
use Rattle.std.specs.Prelude.{map}
use Rattle.std.proofs.Math.Nat.{suc-mul}
use Rattle.std.proofs.lemmas.Bool.{or_parts}
use Rattle.wx_watch.specs.declared.watched.WatchedPath.{WatchedPath}
use Rattle.wx_watch.specs.declared.watched.Watcher.{Watcher}
use Rattle.wx_error.specs.declared.runtime.RuntimeError.{RuntimeError}
use Rattle.wx_tree.specs.Lists.{AllOnce, In}
use Rattle.wx_tree.specs.Paths.{Path}
use Rattle.wx_tree.specs.Roots.{same_root}
use Rattle.wx_tree.specs.Trees.{Tree, settle}
use Rattle.wx_tree.specs.declared.root.Root.{Root}
use Rattle.wx_tree.proofs.ListLemmas.{In-cases, In-right}
use Rattle.wx_tree.proofs.PathLemmas.{same_root-refl}
use Rattle.wx_recursor.specs.Calls.{reconciled}
use Rattle.wx_recursor.specs.Owners.{has_root}
use Rattle.wx_recursor.specs.States.{RecursorState}
use Rattle.wx_recursor.specs.Written.{handed_error}
use Rattle.wx_recursor.specs.declared.errors.ShownError.{ShownError}
use Rattle.wx_walk.specs.Reached.{Call, one_more}
use Rattle.wx_walk.specs.Wanted.{last_roots}
use Rattle.wx_walk.proofs.WatchedLemmas.{pigeons, reached_roots, reached_settles}
use Rattle.wx_settle.specs.Plain.{plain}
use Rattle.wx_settle.specs.Runs.{IsAbsentRoot, RecursorReached}
use Rattle.wx_settle.proofs.EpochLemmas.{epoch_begins, epoch_reached}
use Rattle.wx_settle.proofs.Reach.{full_reached}
use Rattle.wx_settle.proofs.Shows.{call_shows}
use Rattle.wx_fs.specs.Kept.{keep_root, keep_roots, kept_root, kept_roots}
use Rattle.wx_fs.specs.Settling.{GoesOn, first_call}
use Rattle.wx_journal.specs.declared.entry.Entry.{Entry}
use Rattle.wx_machine.specs.Start.{Start}
use Rattle.wx_file_turns.specs.FewSteps.{IsFewMore, SamePlace, TurnShowsAbsent, earlier_roots, newest_roots, steps_since}
use Rattle.wx_file_turns.specs.Walking.{InEpoch, IsWalking, WalksStep, WasWalking}

-- ---- the bound grows with its parts

times_more : (r q n : ℕ) → r ≤ q → r * n ≤ q * n
times_more zero q n less = omega arith
times_more (suc r) zero n less = absurd (omega (arith, less))
times_more (suc r) (suc q) n less = let more = times_more r q n (omega (arith, less)) in omega (arith, more, suc-mul r n, suc-mul q n)

pub settle_more : (g h r q n o : ℕ) → g ≤ h → r ≤ q → settle g r n o ≤ settle h q n o
settle_more g h r q n o guards roots = let more = times_more r q n roots in omega (arith, guards, roots, more)

-- ---- roots are kept once

not_in : (r : Root) (rs : List Root) → has_root r rs ≡ false → In r rs → ⊥
not_in r [] none m = m
not_in r (q ∷ rs) none (inl same) = let is : same_root q r ≡ true = subst (λ (x : Root). same_root q x ≡ true) same (same_root-refl q) in let no : true ≡ false = rw is at none in cc
not_in r (q ∷ rs) none (inr m) = not_in r rs (or_parts (same_root q r) (has_root r rs) none).1 m

once_more : {X : Type 0} (x : X) (xs : List X) → (In x xs → ⊥) → AllOnce xs → AllOnce (xs ++ x ∷ [])
once_more x [] none once = (λ m. m, tt)
once_more x (y ∷ xs) none once = (λ m. elim (In-cases y xs (x ∷ []) m) [ inl a ↦ once.0 a | inr b ↦ elim b [ inl e ↦ none (inl (sym e)) | inr c ↦ c ] ], once_more x xs (λ m. none (inr m)) once.1)

keep_once : (r : Root) (rs : List Root) (is : Bool) → has_root r rs ≡ is → AllOnce rs → AllOnce (cond is rs (rs ++ r ∷ []))
keep_once r rs true is once = once
keep_once r rs false is once = once_more r rs (not_in r rs is) once

all_once : (folder : List ℕ) (ws : List WatchedPath) (rs : List Root) → AllOnce rs → AllOnce (keep_roots folder ws rs)
all_once folder [] rs once = once
all_once folder (w ∷ ws) rs once = all_once folder ws (keep_root (kept_root folder w) rs) (keep_once (kept_root folder w) rs (has_root (kept_root folder w) rs) refl once)

pub kept_once : (folder : List ℕ) (ws : List WatchedPath) → AllOnce (kept_roots folder ws)
kept_once folder ws = all_once folder ws [] tt

-- ---- between steps

-- the roots that it has are those of its call
pub epoch_roots : (t : Tree) (ok : ℕ → Path → Bool) (u : RecursorState) (h : InEpoch t ok u) → u.roots ≡ h.call.roots
epoch_roots t ok u h = let reached = full_reached t (h.call ∷ h.calls) u (epoch_reached t h.call h.calls u h.errors h.epoch) in reached_roots t (h.call ∷ h.calls) (plain u) reached.1

-- entries that are neither settings that are applied nor steps
pub walks_over : (t : Tree) (ok : ℕ → Path → Bool) (s : Start) (p q : List Entry) (u : RecursorState) → SamePlace s p q → IsWalking t ok s p u → IsWalking t ok s q u
walks_over t ok s p q u same h = record {
  inside = h.inside;
  given = λ r m. rw same.newest (h.given r m);
  before = rw same.earlier h.before;
  steps = rw same.steps h.steps;
}

-- before settings are applied
pub was_walking : (t : Tree) (ok : ℕ → Path → Bool) (s : Start) (p : List Entry) (u : RecursorState) → IsWalking t ok s p u → WasWalking t ok (length (newest_roots s p) + earlier_roots s p) u
was_walking t ok s p u h =
    let roots = pigeons h.inside.call.roots (newest_roots s p) h.inside.once h.given in
    let before = h.before in
    record { inside = h.inside; roots = omega (arith, roots); before = omega (arith, before) }

none_left : (n k : ℕ) → n ≡ 0 → n ≤ k
none_left n k none = omega (arith, none)

-- an epoch begins, after these calls
begins_at : (t : Tree) (ok : ℕ → Path → Bool) (s : Start) (q : List Entry) (roots : List Root) (filter : ℕ) (calls : List Call) (u v : RecursorState) → RecursorReached t calls u → v ≡ reconciled roots filter u → AllOnce roots → newest_roots s q ≡ roots → length (last_roots calls) ≤ earlier_roots s q → steps_since q ≡ 0 → IsWalking t ok s q v
begins_at t ok s q roots filter calls u v reached is once newest before none = rw is (record {
  inside = record {
    call = first_call roots (ok filter);
    calls = calls;
    errors = [];
    epoch = epoch_begins t (first_call roots (ok filter)) calls filter u reached refl;
    filter = refl;
    once = once;
  };
  given = λ r m. rw newest m;
  before = before;
  steps = none_left (steps_since q) 0 none;
})

-- the first one of a recursor
pub walks_first : (t : Tree) (ok : ℕ → Path → Bool) (s : Start) (q : List Entry) (roots : List Root) (filter : ℕ) (u v : RecursorState) → RecursorReached t [] u → v ≡ reconciled roots filter u → AllOnce roots → newest_roots s q ≡ roots → steps_since q ≡ 0 → IsWalking t ok s q v
walks_first t ok s q roots filter u v reached is once newest none = begins_at t ok s q roots filter [] u v reached is once newest (omega arith) none

-- another one
pub walks_anew : (t : Tree) (ok : ℕ → Path → Bool) (s : Start) (q : List Entry) (roots : List Root) (filter most : ℕ) (u v : RecursorState) → WasWalking t ok most u → most ≤ earlier_roots s q → v ≡ reconciled roots filter u → AllOnce roots → newest_roots s q ≡ roots → steps_since q ≡ 0 → IsWalking t ok s q v
walks_anew t ok s q roots filter most u v h fits is once newest none =
    let few = h.roots in
    begins_at t ok s q roots filter (h.inside.call ∷ h.inside.calls) u v (epoch_reached t h.inside.call h.inside.calls u h.inside.errors h.inside.epoch) is once newest (omega (arith, few, fits)) none

-- it goes on where the settings that were applied ask for the same
pub walks_still : (t : Tree) (ok : ℕ → Path → Bool) (s : Start) (q : List Entry) (most : ℕ) (u : RecursorState) → WasWalking t ok most u → most ≤ earlier_roots s q → ((r : Root) → In r u.roots → In r (newest_roots s q)) → steps_since q ≡ 0 → IsWalking t ok s q u
walks_still t ok s q most u h fits same none =
    let few = h.before in
    record {
      inside = h.inside;
      given = λ r m. same r (subst (λ (rs : List Root). In r rs) (sym (epoch_roots t ok u h.inside)) m);
      before = omega (arith, few, fits);
      steps = none_left (steps_since q) h.inside.call.steps none;
    }

-- ---- a step

-- each error that was handed out was shown
was_shown : (kind : Watcher) (error : RuntimeError) (xs : List ShownError) → In error (map (handed_error kind) xs) → (x : ShownError) × In x xs × (error ≡ handed_error kind x)
was_shown kind error [] m = absurd m
was_shown kind error (x ∷ xs) (inl same) = (x, inl refl, sym same)
was_shown kind error (x ∷ xs) (inr m) = let h = was_shown kind error xs m in (h.0, inr h.1, h.2)

absent_given : (t : Tree) (rs qs : List Root) (r : Root) → ((x : Root) → In x rs → In x qs) → IsAbsentRoot t rs r → IsAbsentRoot t qs r
absent_given t rs qs r given h = record { root = given r h.root; unsafe = h.unsafe; gap = h.gap }

pub walks_step : (t : Tree) (ok : ℕ → Path → Bool) (s : Start) (p : List Entry) (kind : Watcher) (u v : RecursorState) (h : IsWalking t ok s p u) (errors : List RuntimeError) (asks : Bool) → GoesOn t h.inside.call h.inside.calls kind v h.inside.errors errors asks → v.filter ≡ u.filter → WalksStep t ok s p v errors asks
walks_step t ok s p kind u v h errors asks on same =
    let c = one_more h.inside.call in
    let reached = full_reached t (c ∷ h.inside.calls) v (epoch_reached t c h.inside.calls v (h.inside.errors ++ on.more) on.epoch) in
    let most = reached_settles t c h.inside.calls (earlier_roots s p * length t) (plain v) reached.1 in
    let bound = settle_more (length (last_roots h.inside.calls)) (earlier_roots s p) (length h.inside.call.roots) (length (newest_roots s p)) (length t) (earlier_roots s p * length t) h.before (pigeons h.inside.call.roots (newest_roots s p) h.inside.once h.given) in
    let done = h.steps in
    let first = most.0 in
    let shows = call_shows t c h.inside.calls on.epoch.filter on.epoch.before v (h.inside.errors ++ on.more) false on.epoch.reached on.epoch.shows in
    record {
      walking = record {
        inside = record { call = c; calls = h.inside.calls; errors = h.inside.errors ++ on.more; epoch = on.epoch; filter = h.inside.filter ∙ ap ok (sym same); once = h.inside.once };
        given = h.given;
        before = h.before;
        steps = omega (arith, done);
      };
      few = omega (arith, done, first, bound);
      shown = λ error m.
          let x = was_shown kind error on.more (subst (λ (es : List RuntimeError). In error es) on.shown m) in
          let d = shows.1 x.0 (In-right x.0 h.inside.errors on.more x.1) in
          (kind, d.0, absent_given t h.inside.call.roots (newest_roots s p) d.0 h.given (record { root = d.1; unsafe = d.2.unsafe; gap = d.2.gap }), x.2 ∙ ap (handed_error kind) d.3);
      rebuild = on.rebuild;
    }

-- one step more is one of few, where what the turn showed is of absent roots
pub few_done : (t : Tree) (ok : ℕ → Path → Bool) (s : Start) (p : List Entry) (v : RecursorState) (errors : List RuntimeError) (asks : Bool) → WalksStep t ok s p v errors asks → TurnShowsAbsent s t p → IsFewMore s t p
few_done t ok s p v errors asks h shows = record { few = h.few; shows = shows }

-- the same behind entries that are neither settings that are applied nor steps
pub step_over : (t : Tree) (ok : ℕ → Path → Bool) (s : Start) (p q : List Entry) (v : RecursorState) (errors : List RuntimeError) (asks : Bool) → SamePlace s p q → WalksStep t ok s p v errors asks → WalksStep t ok s q v errors asks
step_over t ok s p q v errors asks same h =
    let steps = h.walking.steps in
    record {
      walking = record { inside = h.walking.inside; given = λ r m. rw same.newest (h.walking.given r m); before = rw same.earlier h.walking.before; steps = rw same.steps steps };
      few = rw (same.newest, same.earlier, same.steps) h.few;
      shown = λ error m. rw same.newest (h.shown error m);
      rebuild = h.rebuild;
    }
