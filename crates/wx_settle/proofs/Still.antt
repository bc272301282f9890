-- On a tree that stays still nothing fails.
use Rattle.std.proofs.Common.{◌≡◌, Bool, true, false, cond, List, [], ◌∷◌, refl, ap, sym, ◌∙◌, inl, inr, subst}
use Rattle.std.specs.Prelude.{◌&&◌, Option, Some, None}
use Rattle.std.proofs.lemmas.Bool.{cases_Bool, and_parts}
use Rattle.wx_tree.specs.Paths.{Path, has_entry, same}
use Rattle.wx_tree.specs.Trees.{Tree, guard_of, is_chain_above, is_directory, is_directory_node, is_fit_node, is_safe, is_there, node_at, reaches}
use Rattle.wx_tree.specs.declared.node.Node.{Node}
use Rattle.wx_tree.specs.declared.node.Node.TheVariants.{Dir, File, Link}
use Rattle.wx_tree.specs.declared.root.Root.{Root}
use Rattle.wx_tree.proofs.PathLemmas.{same-refl, same-true}
use Rattle.wx_tree.proofs.Reaching.{entry-apart, reaches-inside, guard_dir}
use Rattle.wx_recursor.specs.Identities.{is_of_directory}
use Rattle.wx_recursor.specs.Seen.{Sees, SeesCandidate, SeesRoot, Watches, guard_found_at, identity_at, is_gap, passes, watch_of_node, watched_at}
use Rattle.wx_recursor.specs.States.{Evidence}
use Rattle.wx_recursor.specs.declared.answers.Found.{Found}
use Rattle.wx_recursor.specs.declared.answers.Found.TheVariants.{Barred, Here, Missing, Rejected}
use Rattle.wx_recursor.specs.declared.answers.GuardFound.{GuardFound}
use Rattle.wx_recursor.specs.declared.answers.Watched.{Watched}
use Rattle.wx_recursor.specs.declared.known.Identity.{Identity}
use Rattle.wx_recursor.specs.declared.known.Identity.TheVariants.{Canonical, Lexical}
use Rattle.wx_recursor.specs.declared.work.Item.{Item}
use Rattle.wx_recursor.specs.declared.work.Item.TheVariants.{Candidate, Guard, Scan, Visit}
use Rattle.wx_walk.specs.Reached.{Finds}
use Rattle.wx_walk.specs.declared.plain.Saw.TheVariants.{Held, Leaf, Lost, Reset, Unsafe}
use Rattle.wx_walk.proofs.Kept.{Fits}
use Rattle.wx_settle.proofs.Simple.{IsClear, IsClearRoot, IsClearScan, IsClearSpot, IsClearTry, IsKept, item_saw, scan_saw, spot_path, try_saw, visit_saw}

-- a guard is a directory

-- what is watched is still what was found

dir_kept : (p : Path) (n : Option Node) → is_directory_node n ≡ true → IsKept p (Canonical p) (watch_of_node p n)
dir_kept p None e = cc
dir_kept p (Some Dir) e = same-refl p
dir_kept p (Some (File c)) e = cc
dir_kept p (Some (Link l)) e = cc

fit_kept : (p : Path) (n : Option Node) → is_fit_node n ≡ true → IsKept p (cond (is_directory_node n) (Canonical p) (Lexical p)) (watch_of_node p n)
fit_kept p None e = cc
fit_kept p (Some Dir) e = same-refl p
fit_kept p (Some (File c)) e = same-refl p
fit_kept p (Some (Link l)) e = cc

dir_id : (t : Tree) (p : Path) → is_directory t p ≡ true → identity_at t p ≡ Canonical p
dir_id t p e = rw e refl

spot_clear : (t : Tree) (g : Option (Path)) (w : Watched) → ((p : Path) → g ≡ Some p → is_directory t p ≡ true) → Watches t g w → IsClearSpot (identity_at t) (guard_found_at g) w
spot_clear t None w dir h = tt
spot_clear t (Some p) w dir h =
    let d : is_directory t p ≡ true = dir p refl in
    (sym (dir_id t p d), subst (λ x. IsKept p (Canonical p) x) (sym h) (dir_kept p (node_at t p) d))

spot_back : (g : Option (Path)) → spot_path (guard_found_at g) ≡ g
spot_back None = refl
spot_back (Some p) = refl

-- what an item needs besides
abbrev pub IsListed : Tree → Item → Type 0
IsListed t (Guard r) = Unit {0}
IsListed t (Visit r) = Unit {0}
IsListed t (Scan r p) = Unit {0}
IsListed t (Candidate r p) = is_there t p ≡ true

-- the filter accepts what lies above

covers_passes : (t : Tree) (ok : Path → Bool) (r : Root) (p : Path) → reaches t ok r p ≡ true → passes ok r p ≡ true
covers_passes t ok r [] h = refl
covers_passes t ok r (x ∷ p) h =
    elim (cases_Bool (same r.path (x ∷ p))) [
      | inl a ↦ rw a refl
      | inr a ↦
          let i = reaches-inside t ok r x p a h in
          rw (a, i.passes) (covers_passes t ok r p i.covered)
    ]

true_right : (a b : Bool) → b ≡ true → (a && b) ≡ a
true_right true b e = e
true_right false b e = refl

entry_passes : (t : Tree) (ok : Path → Bool) (r : Root) (q p : Path) → has_entry q p ≡ true → reaches t ok r q ≡ true → passes ok r p ≡ ok p
entry_passes t ok r q [] e c = cc
entry_passes t ok r q (x ∷ p) e c =
    let f : q ≡ p = same-true q p e in
    let a : same r.path (x ∷ p) ≡ false = entry-apart t ok r q (x ∷ p) c e in
    let b : passes ok r p ≡ true = subst (λ y. passes ok r y ≡ true) f (covers_passes t ok r q c) in
    rw a (true_right (ok (x ∷ p)) (passes ok r p) b)

-- a root

root_clear : (t : Tree) (r : Root) (e : Evidence) → SeesRoot t r e → IsClearRoot (identity_at t) r e.found e
root_clear t r e s =
    elim (cases_Bool (is_safe t r.path)) [
      | inl a ↦
          let f : e.found ≡ Here (identity_at t r.path) = s.found ∙ rw a refl in
          let w : e.watched ≡ watched_at t r.path = rw a at s.watched in
          let b = and_parts (is_chain_above t r.path) (is_fit_node (node_at t r.path)) a in
          subst (λ x. IsClearRoot (identity_at t) r x e) (sym f)
          (refl, subst (λ x. IsKept r.path (identity_at t r.path) x) (sym w) (fit_kept r.path (node_at t r.path) b.1))
      | inr a ↦
          let f : e.found ≡ cond (is_gap t r.path) Missing Barred = s.found ∙ rw a refl in
          let w : Watches t (guard_of t r.path) e.watched = rw a at s.watched in
          let no_more : e.root_is_safe ≡ false = s.root_is_safe ∙ a in
          let c : IsClearSpot (identity_at t) e.guard_found e.watched = subst (λ x. IsClearSpot (identity_at t) x e.watched) (sym s.guard_found) (spot_clear t (guard_of t r.path) e.watched (guard_dir t r.path) w) in
          subst (λ x. IsClearRoot (identity_at t) r x e) (sym f)
          (elim (is_gap t r.path) as (λ b. IsClearRoot (identity_at t) r (cond b Missing Barred) e) [ true ↦ (c, no_more) | false ↦ (c, no_more) ])
    ]

is_directory_id : (t : Tree) (p : Path) → is_of_directory (identity_at t p) ≡ is_directory t p
is_directory_id t p = elim (is_directory t p) as (λ b. is_of_directory (cond b (Canonical p) (Lexical p)) ≡ b) [ true ↦ refl | false ↦ refl ]

unsafe_saw : (r : Root) (b : Bool) (g : GuardFound) → visit_saw r (cond b Missing Barred) g ≡ Unsafe (spot_path g)
unsafe_saw r true g = refl
unsafe_saw r false g = refl

root_finds : (t : Tree) (ok : Path → Bool) (r : Root) (e : Evidence) → SeesRoot t r e → Finds t ok (Visit r) (visit_saw r e.found e.guard_found)
root_finds t ok r e s =
    elim (cases_Bool (is_safe t r.path)) [
      | inl a ↦
          let f : e.found ≡ Here (identity_at t r.path) = s.found ∙ rw a refl in
          ap (λ x. visit_saw r x e.guard_found) f ∙ ap (λ b. cond (r.recursive && b) Held Leaf) (is_directory_id t r.path) ∙ rw a refl
      | inr a ↦
          let f : e.found ≡ cond (is_gap t r.path) Missing Barred = s.found ∙ rw a refl in
          ap (λ x. visit_saw r x e.guard_found) f ∙ unsafe_saw r (is_gap t r.path) e.guard_found ∙ ap Unsafe (ap spot_path s.guard_found ∙ spot_back (guard_of t r.path)) ∙ rw a refl
    ]

-- a candidate

try_is : (t : Tree) (ok : Path → Bool) (r : Root) (p : Path) (e : Evidence) → SeesCandidate t ok r p e → is_there t p ≡ true → passes ok r p ≡ ok p → e.found ≡ cond (is_directory t p && ok p) (Here (identity_at t p)) Rejected
try_is t ok r p e s there pass = s.found ∙ rw (there, pass) refl

try_clear : (t : Tree) (ok : Path → Bool) (p : Path) (f : Found) (w : Watched) → f ≡ cond (is_directory t p && ok p) (Here (identity_at t p)) Rejected → w ≡ watched_at t p → IsClearTry (identity_at t) p f w
try_clear t ok p f w e h =
    elim (cases_Bool (is_directory t p)) [
      | inl a ↦ elim (cases_Bool (ok p)) [
        | inl b ↦
            let g : f ≡ Here (identity_at t p) = e ∙ rw (a, b) refl in
            let k : IsKept p (identity_at t p) w = subst (λ x. IsKept p x w) (sym (dir_id t p a)) (subst (λ x. IsKept p (Canonical p) x) (sym h) (dir_kept p (node_at t p) a)) in
            subst (λ x. IsClearTry (identity_at t) p x w) (sym g) (refl, k)
        | inr b ↦
            let g : f ≡ Rejected = e ∙ rw (a, b) refl in
            subst (λ x. IsClearTry (identity_at t) p x w) (sym g) tt
      ]
      | inr a ↦
          let g : f ≡ Rejected = e ∙ rw a refl in
          subst (λ x. IsClearTry (identity_at t) p x w) (sym g) tt
    ]

try_finds : (b : Bool) (i : Identity) → try_saw (cond b (Here i) Rejected) ≡ cond b Held Lost
try_finds true i = refl
try_finds false i = refl

-- what is seen on the tree is clear, and is what the reduced machine finds
pub record Tells (t : Tree) (ok : Path → Bool) (i : Item) (e : Evidence) : Type 0 where
  pub clear : IsClear (identity_at t) i e
  pub finds : Finds t ok i (item_saw i e)

pub sees_tells : (t : Tree) (ok : Path → Bool) (rs : List Root) (i : Item) (e : Evidence) → Fits t ok rs i → IsListed t i → Sees t ok i e → Tells t ok i e
sees_tells t ok rs (Guard r) e fits there s = record {
  clear = subst (λ x. IsClearSpot (identity_at t) x e.watched) (sym s.guard_found) (spot_clear t (guard_of t r.path) e.watched (guard_dir t r.path) s.watched);
  finds = ap (λ g. Reset g e.root_is_safe) (ap spot_path s.guard_found ∙ spot_back (guard_of t r.path)) ∙ ap (λ b. Reset (guard_of t r.path) b) s.root_is_safe;
}
sees_tells t ok rs (Visit r) e fits there s = record { clear = root_clear t r e s; finds = root_finds t ok r e s }
sees_tells t ok rs (Scan r p) e fits there s =
    let a = s fits.2 in
    record {
      clear = subst (λ x. IsClearScan p x) (sym a.1) (let l = a.2 in l.each);
      finds = (a.0, ap scan_saw a.1, a.2);
    }
sees_tells t ok rs (Candidate r p) e fits there s =
    let q = fits.2 in
    let a : e.found ≡ cond (is_directory t p && ok p) (Here (identity_at t p)) Rejected = try_is t ok r p e s there (entry_passes t ok r q.0 p q.1 q.3) in
    record {
      clear = try_clear t ok p e.found e.watched a s.watched;
      finds = ap try_saw a ∙ try_finds (is_directory t p && ok p) (identity_at t p);
    }
