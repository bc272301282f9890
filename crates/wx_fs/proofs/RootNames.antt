-- Roots that are kept have names for parts: a normal path has no empty part, and neither `.` nor `..`.
use Rattle.std.proofs.Common.{◌≡◌, ℕ, zero, suc, Bool, true, false, cond, List, [], ◌∷◌, ◌++◌, length, refl, ap, sym, ◌∙◌, inl, inr, subst, codes}
use Rattle.std.specs.Prelude.{◌==◌, ◌||◌, not, take}
use Rattle.std.specs.List.{fold, join_with_byte, onto_first}
use Rattle.std.specs.Str.{bytes_eq}
use Rattle.std.proofs.lemmas.Bool.{and_parts, not-true}
use Rattle.std.proofs.lemmas.List.{append-nil}
use Rattle.wx_watch.specs.declared.watched.WatchedPath.{WatchedPath}
use Rattle.wx_words.specs.Line.{parts}
use Rattle.wx_paths.specs.Paths.{is_absolute, is_named, kept, normalize, path_parts, spelled, with_part, without_last}
use Rattle.wx_tree.specs.Lists.{In}
use Rattle.wx_tree.specs.Paths.{Part, Path, same_part}
use Rattle.wx_tree.specs.Places.{has_no_slash, is_part, place, place_from, push_part, slash}
use Rattle.wx_tree.specs.declared.root.Root.{Root}
use Rattle.wx_tree.proofs.ListLemmas.{In-cases, In-filter}
use Rattle.wx_tree.proofs.PlaceLemmas.{part-read}
use Rattle.wx_scan.specs.Told.{AreNames, is_name}
use Rattle.wx_recursor.specs.Owners.{has_root}
use Rattle.wx_lane.specs.Public.{absolute}
use Rattle.wx_fs.specs.Kept.{keep_root, keep_roots, kept_root, kept_roots}

-- ---- the parts of a path

-- no piece has a slash
abbrev pub AreClean : List Part → Type 0
AreClean xs = (x : Part) → In x xs → has_no_slash x ≡ true

clean_onto : (b : ℕ) (pieces : List Part) → (b == 47) ≡ false → AreClean pieces → AreClean (onto_first b pieces)
clean_onto b [] e h x (inl same) = subst (λ y. has_no_slash y ≡ true) same (rw e refl)
clean_onto b [] e h x (inr m) = absurd m
clean_onto b (piece ∷ pieces) e h x (inl same) = subst (λ y. has_no_slash y ≡ true) same (let k : has_no_slash piece ≡ true = h piece (inl refl) in rw (e, k) refl)
clean_onto b (piece ∷ pieces) e h x (inr m) = h x (inr m)

clean_by : (b : ℕ) (pieces : List Part) (t : Bool) → (b == 47) ≡ t → AreClean pieces → AreClean (cond t ([] ∷ pieces) (onto_first b pieces))
clean_by b pieces true e h x (inl same) = subst (λ y. has_no_slash y ≡ true) same refl
clean_by b pieces true e h x (inr m) = h x m
clean_by b pieces false e h x m = clean_onto b pieces e h x m

clean_pieces : (path : List ℕ) → AreClean (parts 47 path)
clean_pieces [] x (inl same) = subst (λ y. has_no_slash y ≡ true) same refl
clean_pieces [] x (inr m) = absurd m
clean_pieces (b ∷ path) x m = clean_by b (parts 47 path) (b == 47) refl (clean_pieces path) x m

-- pieces that name something
abbrev pub AreNamed : List Part → Type 0
AreNamed xs = (x : Part) → In x xs → (is_named x ≡ true) × (has_no_slash x ≡ true)

named_parts : (path : List ℕ) → AreNamed (path_parts path)
named_parts path x m = let a = In-filter is_named x (parts 47 path) m in (a.1, clean_pieces path x a.0)

-- ---- the parts that are kept

abbrev pub AllNames : List Part → Type 0
AllNames xs = (x : Part) → In x xs → is_name x ≡ true

not_either : (a b : Bool) → not (a || b) ≡ true → b ≡ false
not_either true b e = cc
not_either false b e = not-true b e

-- what names something, and isn't `..`
name_from : (x : Part) → is_named x ≡ true → has_no_slash x ≡ true → bytes_eq x (codes "..") ≡ false → is_name x ≡ true
name_from [] e h n = cc
name_from (b ∷ x) e h n =
    let here : same_part (b ∷ x) (codes ".") ≡ false = not_either (length (b ∷ x) == 0) (same_part (b ∷ x) (codes ".")) e in
    rw (h, here, n) refl

in_take : (n : ℕ) (x : Part) (xs : List Part) → In x (take n xs) → In x xs
in_take zero x xs m = absurd m
in_take (suc n) x [] m = absurd m
in_take (suc n) x (y ∷ xs) (inl e) = inl e
in_take (suc n) x (y ∷ xs) (inr m) = inr (in_take n x xs m)

one_more : (names : List Part) (part : Part) → AllNames names → is_name part ≡ true → AllNames (names ++ part ∷ [])
one_more names part h e x m =
    elim (In-cases x names (part ∷ []) m) [
      | inl a ↦ h x a
      | inr b ↦ elim b [ inl same ↦ subst (λ y. is_name y ≡ true) same e | inr none ↦ absurd none ]
    ]

keep_by : (names : List Part) (part : Part) (t : Bool) → bytes_eq part (codes "..") ≡ t → AllNames names → (is_named part ≡ true) × (has_no_slash part ≡ true) → AllNames (cond t (without_last names) (names ++ part ∷ []))
keep_by names part true e h p x m = h x (in_take _ x names m)
keep_by names part false e h p x m = one_more names part h (name_from part p.0 p.1 e) x m

keep_all : (names more : List Part) → AllNames names → AreNamed more → AllNames (fold with_part names more)
keep_all names [] h p = h
keep_all names (part ∷ more) h p = keep_all (with_part names part) more (keep_by names part (bytes_eq part (codes "..")) refl h (p part (inl refl))) (λ x m. p x (inr m))

kept_names : (path : List ℕ) → AllNames (kept (path_parts path))
kept_names path = keep_all [] (path_parts path) (λ x m. absurd m) (named_parts path)

-- ---- the place that they spell

-- bytes without a slash are read into the part
name_clean : (x : Part) → is_name x ≡ true → has_no_slash x ≡ true
name_clean [] e = refl
name_clean (b ∷ x) e = let a = and_parts (is_part (b ∷ x)) _ e in a.0

pushed_names : (x : Part) (path : Path) → is_name x ≡ true → AreNames path → AreNames (push_part x path)
pushed_names [] path e h = h
pushed_names (b ∷ x) path e h = (e, h)

joined_names : (names : List Part) (path : Path) → AllNames names → AreNames path → AreNames (place_from (join_with_byte 47 names) [] path)
joined_names [] path h k = k
joined_names (x ∷ []) path h k =
    let e : is_name x ≡ true = h x (inl refl) in
    let same : place_from x [] path ≡ push_part x path = ap (λ y. place_from y [] path) (sym (append-nil x)) ∙ part-read x [] [] path (name_clean x e) in
    subst AreNames (sym same) (pushed_names x path e k)
joined_names (x ∷ y ∷ names) path h k =
    let e : is_name x ≡ true = h x (inl refl) in
    let rest : List ℕ = join_with_byte 47 (y ∷ names) in
    let same : place_from (x ++ slash ∷ rest) [] path ≡ place_from rest [] (push_part x path) = part-read x (slash ∷ rest) [] path (name_clean x e) in
    subst AreNames (sym same) (joined_names (y ∷ names) (push_part x path) (λ z m. h z (inr m)) (pushed_names x path e k))

spelled_names : (rooted : Bool) (names : List Part) → AllNames names → AreNames (place (spelled rooted names))
spelled_names true names h = joined_names names [] h tt
spelled_names false names h = joined_names names [] h tt

-- a normal path's place has names for parts
pub normal_names : (path : List ℕ) → AreNames (place (normalize path))
normal_names path = spelled_names (is_absolute path) (kept (path_parts path)) (kept_names path)

-- ---- the roots that are kept

abbrev pub AreNamedRoots : List Root → Type 0
AreNamedRoots rs = (r : Root) → In r rs → AreNames r.path

keep_named : (r : Root) (rs : List Root) → AreNames r.path → AreNamedRoots rs → AreNamedRoots (keep_root r rs)
keep_named r rs n h = go (has_root r rs)
  where
    go : (b : Bool) → AreNamedRoots (cond b rs (rs ++ r ∷ []))
    go true s m = h s m
    go false s m =
        elim (In-cases s rs (r ∷ []) m) [
          | inl a ↦ h s a
          | inr b ↦ elim b [ inl same ↦ subst (λ x. AreNames x.path) same n | inr none ↦ absurd none ]
        ]

all_named : (folder : List ℕ) (ws : List WatchedPath) (rs : List Root) → AreNamedRoots rs → AreNamedRoots (keep_roots folder ws rs)
all_named folder [] rs h = h
all_named folder (w ∷ ws) rs h = all_named folder ws (keep_root (kept_root folder w) rs) (keep_named (kept_root folder w) rs (normal_names (absolute folder w.path)) h)

pub kept_named : (folder : List ℕ) (ws : List WatchedPath) (roots : List Root) → roots ≡ kept_roots folder ws → AreNamedRoots roots
kept_named folder ws roots e = subst AreNamedRoots (sym e) (all_named folder ws [] (λ r m. absurd m))

-- the same roots, for the same paths
pub kept_as : (folder : List ℕ) (roots : List Root) (ws vs : List WatchedPath) → roots ≡ kept_roots folder ws → ws ≡ vs → roots ≡ kept_roots folder vs
kept_as folder roots ws vs e same = e ∙ ap (kept_roots folder) same
