-- The same roots, in whatever order, are watched in the same way.
use Rattle.std.proofs.Common.{◌≡◌, ℕ, Bool, true, false, cond, List, [], ◌∷◌, ◌++◌, inl, inr, refl, ap, sym, subst, ◌∙◌}
use Rattle.std.specs.Prelude.{◌⊎◌, Option, None, Some, ◌==◌, ◌||◌, ◌&&◌, not}
use Rattle.std.proofs.lemmas.Bool.{eqb-true, eq-eqb, and_from, or_cases, or_left, or_right}
use Rattle.wx_scan.specs.declared.backend.Backend.{Ghosts}
use Rattle.wx_watch.specs.declared.watched.WatchedPath.{WatchedPath}
use Rattle.wx_config.specs.declared.config.Config.{Config}
use Rattle.wx_notify.specs.declared.notify.Notify.{Notify}
use Rattle.wx_notify.specs.declared.notify.NotifyPath.{NotifyPath}
use Rattle.wx_tree.specs.Lists.{In}
use Rattle.wx_tree.specs.Paths.{Path}
use Rattle.wx_tree.specs.Roots.{same_root}
use Rattle.wx_tree.proofs.PathLemmas.{same_root-refl, same_truth}
use Rattle.wx_tree.specs.declared.root.Root.{Root}
use Rattle.wx_scan.specs.Backings.{has_any}
use Rattle.wx_lane.specs.Public.{event_is_public, is_of, is_of_any, named, some_of_any}
use Rattle.wx_recursor.specs.Owners.{has_root}
use Rattle.wx_recursor.proofs.Coverage.{has_root_in}
use Rattle.wx_holding.specs.Holding.{state_of}
use Rattle.wx_fs.specs.Kept.{keep_root, keep_roots, kept_root, kept_roots}
use Rattle.wx_journal.specs.declared.entry.Entry.{Entry}
use Rattle.wx_machine.specs.Start.{Start}
use Rattle.wx_machine.specs.Settings.{settings}
use Rattle.wx_machine.specs.Files.{is_any, is_public, has_paths, are_all_in, are_made_alike, are_same_roots, is_same_switch, is_same_watcher, roots, watches_same}
use Rattle.wx_file_turns.specs.declared.files.Watching.{Watching}
use Rattle.wx_file_turns.specs.Applying.{any_keeps, serves_by}
use Rattle.wx_file_turns.specs.Standing.{SameRoots, StandsBy, WatchesBy}
use Rattle.wx_file_turns.specs.Stepping.{IsWatching}
use Rattle.wx_file_turns.proofs.Applied.{roots_same}
use Rattle.wx_file_turns.proofs.Standing.{applied_is, in_kept}

-- ---- what is tested of them

in_root : (r : Root) (rs : List Root) → In r rs → has_root r rs ≡ true
in_root r [] m = absurd m
in_root r (s ∷ rs) (inl same) = or_left (same_root s r) (has_root r rs) (ap (λ (x : Root). same_root x r) same ∙ same_root-refl r)
in_root r (s ∷ rs) (inr m) = or_right (same_root s r) (has_root r rs) (in_root r rs m)

in_all : (rs qs : List Root) → ((r : Root) → In r rs → In r qs) → are_all_in rs qs ≡ true
in_all [] qs h = refl
in_all (r ∷ rs) qs h = and_from (has_root r qs) (are_all_in rs qs) (in_root r qs (h r (inl refl))) (in_all rs qs (λ s m. h s (inr m)))

same_from : (rs qs : List Root) → SameRoots qs rs → are_same_roots rs qs ≡ true
same_from rs qs h = and_from (are_all_in rs qs) (are_all_in qs rs) (in_all rs qs h.back) (in_all qs rs h.there)

same_then : (rs qs ts : List Root) → SameRoots rs qs → SameRoots qs ts → SameRoots rs ts
same_then rs qs ts h g = record { there = λ r m. g.there r (h.there r m); back = λ r m. h.back r (g.back r m) }

same_turned : (rs qs : List Root) → SameRoots rs qs → SameRoots qs rs
same_turned rs qs h = record { there = h.back; back = h.there }

-- two lists are the same roots exactly where two others are that are the same as these
same_tested : (rs qs ts us : List Root) → SameRoots rs ts → SameRoots qs us → are_same_roots rs qs ≡ are_same_roots ts us
same_tested rs qs ts us left right = same_truth (are_same_roots rs qs) (are_same_roots ts us)
    (λ is. same_from ts us (same_then us qs ts (same_turned qs us right) (same_then qs rs ts (roots_same rs qs is) left)))
    (λ is. same_from rs qs (same_then qs us rs right (same_then us ts rs (roots_same ts us is) (same_turned rs ts left))))

-- ---- each once, or as often as it is named

in_longer : (x : Root) (rs : List Root) (y : Root) → In x rs → In x (rs ++ y ∷ [])
in_longer x [] y m = absurd m
in_longer x (r ∷ rs) y (inl same) = inl same
in_longer x (r ∷ rs) y (inr m) = inr (in_longer x rs y m)

in_last : (y : Root) (rs : List Root) → In y (rs ++ y ∷ [])
in_last y [] = inl refl
in_last y (r ∷ rs) = inr (in_last y rs)

kept_more : (b : Bool) (x : Root) (rs : List Root) (y : Root) → In x rs → In x (cond b rs (rs ++ y ∷ []))
kept_more true x rs y m = m
kept_more false x rs y m = in_longer x rs y m

kept_now : (b : Bool) (y : Root) (rs : List Root) → has_root y rs ≡ b → In y (cond b rs (rs ++ y ∷ []))
kept_now true y rs is = has_root_in y rs is
kept_now false y rs is = in_last y rs

kept_there : (folder : List ℕ) (ws : List WatchedPath) (rs : List Root) (r : Root) → In r (keep_roots folder ws rs) → In r rs ⊎ In r (roots folder ws)
kept_there folder [] rs r m = inl m
kept_there folder (w ∷ ws) rs r m = cases (kept_there folder ws (keep_root (kept_root folder w) rs) r m)
  where
    first : (In r rs ⊎ (kept_root folder w ≡ r)) → In r rs ⊎ In r (roots folder (w ∷ ws))
    first (inl m) = inl m
    first (inr same) = inr (inl same)

    cases : (In r (keep_root (kept_root folder w) rs) ⊎ In r (roots folder ws)) → In r rs ⊎ In r (roots folder (w ∷ ws))
    cases (inl m) = first (in_kept (has_root (kept_root folder w) rs) r rs (kept_root folder w) m)
    cases (inr m) = inr (inr m)

kept_back : (folder : List ℕ) (ws : List WatchedPath) (rs : List Root) (r : Root) → (In r rs ⊎ In r (roots folder ws)) → In r (keep_roots folder ws rs)
kept_back folder [] rs r (inl m) = m
kept_back folder [] rs r (inr m) = absurd m
kept_back folder (w ∷ ws) rs r (inl m) = kept_back folder ws (keep_root (kept_root folder w) rs) r (inl (kept_more (has_root (kept_root folder w) rs) r rs (kept_root folder w) m))
kept_back folder (w ∷ ws) rs r (inr (inl same)) = kept_back folder ws (keep_root (kept_root folder w) rs) r (inl (subst (λ (x : Root). In x (keep_root (kept_root folder w) rs)) same (kept_now (has_root (kept_root folder w) rs) (kept_root folder w) rs refl)))
kept_back folder (w ∷ ws) rs r (inr (inr m)) = kept_back folder ws (keep_root (kept_root folder w) rs) r (inr m)

none_before : (r : Root) (qs : List Root) → (In r [] ⊎ In r qs) → In r qs
none_before r qs (inl m) = absurd m
none_before r qs (inr m) = m

kept_same : (folder : List ℕ) (ws : List WatchedPath) → SameRoots (kept_roots folder ws) (roots folder ws)
kept_same folder ws = record { there = λ r m. none_before r (roots folder ws) (kept_there folder ws [] r m); back = λ r m. kept_back folder ws [] r (inr m) }

-- ---- whether the same is watched in the same way, by what is kept

-- where none was watched
none_same : (folder : List ℕ) (ws vs : List WatchedPath) (alike : Bool) → is_any vs ≡ false → (is_any ws && (are_same_roots (roots folder ws) (roots folder vs) && alike)) ≡ false
none_same folder [] vs alike none = refl
none_same folder (w ∷ ws) [] alike none = refl
none_same folder (w ∷ ws) (v ∷ vs) alike none = absurd cc

turned : (alike same filter : Bool) → (alike && (same && filter)) ≡ (same && (filter && alike))
turned true true true = refl
turned true true false = refl
turned true false filter = refl
turned false true true = refl
turned false true false = refl
turned false false filter = refl

number_turned : (n m : ℕ) → (n == m) ≡ (m == n)
number_turned n m = same_truth (n == m) (m == n) (λ is. eq-eqb m n (sym (eqb-true n m is))) (λ is. eq-eqb n m (sym (eqb-true m n is)))

made_known : {B : Type 0} {G : Ghosts B} (folder : List ℕ) (c d : Config) (back : ℕ) (w : Watching B G) → WatchesBy folder d back w → serves_by c w ≡ are_made_alike c d
made_known folder c d back w h = ap (λ k. is_same_watcher c.file_watcher k && is_same_switch c.follow_symlinks w.recursor.follow) h.kind_kept ∙ ap (λ (on : Bool). is_same_watcher c.file_watcher d.file_watcher && is_same_switch c.follow_symlinks on) h.follow_kept

roots_known : {B : Type 0} {G : Ghosts B} (folder : List ℕ) (c d : Config) (back : ℕ) (w : Watching B G) → WatchesBy folder d back w → are_same_roots (kept_roots w.recursor.cwd c.pathset) (state_of w.recursor.held).roots ≡ are_same_roots (roots folder c.pathset) (roots folder d.pathset)
roots_known folder c d back w h =
    ap (λ (f : List ℕ). are_same_roots (kept_roots f c.pathset) (state_of w.recursor.held).roots) h.folder_kept
    ∙ same_tested (kept_roots folder c.pathset) (state_of w.recursor.held).roots (roots folder c.pathset) (roots folder d.pathset) (kept_same folder c.pathset) (same_then (state_of w.recursor.held).roots (kept_roots folder d.pathset) (roots folder d.pathset) h.roots_kept (kept_same folder d.pathset))

filter_known : {B : Type 0} {G : Ghosts B} (folder : List ℕ) (c d : Config) (back : ℕ) (w : Watching B G) → WatchesBy folder d back w → ((state_of w.recursor.held).filter == c.filterer) ≡ (c.filterer == d.filterer)
filter_known folder c d back w h = ap (λ (n : ℕ). n == c.filterer) h.filter_kept ∙ number_turned d.filterer c.filterer

all_known : (paths alike same filter alike' same' filter' : Bool) → alike ≡ alike' → same ≡ same' → filter ≡ filter' → (paths && (alike && (same && filter))) ≡ (paths && (same' && (filter' && alike')))
all_known paths alike same filter alike' same' filter' a s f = rw (a, s, f) (ap (λ (b : Bool). paths && b) (turned alike' same' filter'))

pub keeps_known : {B : Type 0} {G : Ghosts B} (folder : List ℕ) (c : Config) (o : Option Config) (current : Option ℕ) (f : Option (Watching B G)) → StandsBy folder o current f → any_keeps c f ≡ watches_same folder c o
keeps_known folder c None None None h = refl
keeps_known folder c None None (Some w) h = absurd h
keeps_known folder c None (Some back) f h = absurd h
keeps_known folder c (Some d) None None h = sym (none_same folder c.pathset d.pathset (c.filterer == d.filterer && are_made_alike c d) h)
keeps_known folder c (Some d) None (Some w) h = absurd h
keeps_known folder c (Some d) (Some back) None h = absurd h
keeps_known folder c (Some d) (Some back) (Some w) h =
    all_known (has_paths c) (serves_by c w) (are_same_roots (kept_roots w.recursor.cwd c.pathset) (state_of w.recursor.held).roots) ((state_of w.recursor.held).filter == c.filterer) (are_made_alike c d) (are_same_roots (roots folder c.pathset) (roots folder d.pathset)) (c.filterer == d.filterer)
    (made_known folder c d back w h) (roots_known folder c d back w h) (filter_known folder c d back w h)

-- ---- what is of them

record IsOfOne (rs : List Root) (p : Path) : Type 0 where
  root : Root
  there : In root rs
  of : is_of root p ≡ true

of_later : (r : Root) (rs : List Root) (p : Path) → IsOfOne rs p → IsOfOne (r ∷ rs) p
of_later r rs p h = record { root = h.root; there = inr h.there; of = h.of }

of_either : (r : Root) (rs : List Root) (p : Path) → (is_of_any rs p ≡ true → IsOfOne rs p) → (is_of r p ≡ true) ⊎ (is_of_any rs p ≡ true) → IsOfOne (r ∷ rs) p
of_either r rs p more (inl first) = record { root = r; there = inl refl; of = first }
of_either r rs p more (inr later) = of_later r rs p (more later)

of_one : (rs : List Root) (p : Path) → is_of_any rs p ≡ true → IsOfOne rs p
of_one [] p is = absurd cc
of_one (r ∷ rs) p is = of_either r rs p (λ later. of_one rs p later) (or_cases (is_of r p) (is_of_any rs p) is)

of_any : (r : Root) (rs : List Root) (p : Path) → In r rs → is_of r p ≡ true → is_of_any rs p ≡ true
of_any r [] p m of = absurd m
of_any r (s ∷ rs) p (inl same) of = or_left (is_of s p) (is_of_any rs p) (ap (λ (x : Root). is_of x p) same ∙ of)
of_any r (s ∷ rs) p (inr m) of = or_right (is_of s p) (is_of_any rs p) (of_any r rs p m of)

any_there : (rs qs : List Root) (p : Path) → SameRoots rs qs → is_of_any rs p ≡ true → is_of_any qs p ≡ true
any_there rs qs p same is = let one = of_one rs p is in of_any one.root qs p (same.there one.root one.there) one.of

any_same : (rs qs : List Root) (p : Path) → SameRoots rs qs → is_of_any rs p ≡ is_of_any qs p
any_same rs qs p same = same_truth (is_of_any rs p) (is_of_any qs p) (any_there rs qs p same) (any_there qs rs p (same_turned rs qs same))

some_same : (folder : List ℕ) (rs qs : List Root) (ps : List NotifyPath) → SameRoots rs qs → some_of_any folder rs ps ≡ some_of_any folder qs ps
some_same folder rs qs [] same = refl
some_same folder rs qs (p ∷ ps) same = rw (any_same rs qs (named folder p.path) same, some_same folder rs qs ps same) refl

public_same : (folder : List ℕ) (rs qs : List Root) (n : Notify) → SameRoots rs qs → event_is_public folder rs n ≡ event_is_public folder qs n
public_same folder rs qs n same = ap (λ (b : Bool). not (has_any n.paths) || b) (some_same folder rs qs n.paths same)

-- whether what happened is public, by what is kept
pub public_known : {B : Type 0} {G : Ghosts B} (s : Start) (w : Watching B G) (p : List Entry) (n : Notify) → IsWatching s w p → is_public s p n ≡ event_is_public w.recursor.cwd (state_of w.recursor.held).roots n
public_known s w p n h =
    let by = h.watches in
    let kept = same_then (state_of w.recursor.held).roots (kept_roots s.folder (settings s p).pathset) (roots s.folder (settings s p).pathset) by.roots_kept (kept_same s.folder (settings s p).pathset) in
    ap (λ (c : Config). event_is_public s.folder (roots s.folder c.pathset) n) (applied_is s p h.applied_now)
    ∙ sym (public_same s.folder (state_of w.recursor.held).roots (roots s.folder (settings s p).pathset) n kept)
    ∙ ap (λ (f : List ℕ). event_is_public f (state_of w.recursor.held).roots n) (sym by.folder_kept)
