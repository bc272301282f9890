-- What a walk reaches is a chain of directories below its root.
use Rattle.std.proofs.Common.{◌≡◌, suc, ◌≤◌, ◌<◌, Bool, true, false, [], ◌∷◌, Some, None, length, arith, refl, ap, subst, inl, inr}
use Rattle.std.specs.Prelude.{Option, ◌&&◌}
use Rattle.std.proofs.lemmas.Bool.{cases_Bool, and_parts, and_from, or_cases}
use Rattle.std.proofs.lemmas.Option.{same_Some}
use Rattle.wx_tree.specs.Paths.{Part, Path, has_entry, holds, same}
use Rattle.wx_tree.specs.Trees.{Tree, guard_of, is_chain, is_chain_above, is_directory, is_directory_node, is_fit_node, is_safe, is_there_node, last_of_chain, node_at, reaches}
use Rattle.wx_tree.specs.declared.node.Node.{Node}
use Rattle.wx_tree.specs.declared.node.Node.TheVariants.{Dir, File, Link}
use Rattle.wx_tree.specs.declared.root.Root.{Root}
use Rattle.wx_tree.proofs.PathLemmas.{entry-length, holds-length, same-refl, same-true}

-- what a path below its root owes
pub record Inside (t : Tree) (ok : Path → Bool) (r : Root) (c p : Path) : Type 0 where
  pub apart : same r.path c ≡ false
  pub recursive : r.recursive ≡ true
  pub passes : ok c ≡ true
  pub here : is_directory t c ≡ true
  pub above : is_directory t p ≡ true
  pub covered : reaches t ok r p ≡ true

pub reaches-inside : (t : Tree) (ok : Path → Bool) (r : Root) (x : Part) (p : Path) → same r.path (x ∷ p) ≡ false → reaches t ok r (x ∷ p) ≡ true → Inside t ok r (x ∷ p) p
reaches-inside t ok r x p e h =
    let a = and_parts (r.recursive && ok (x ∷ p)) (is_directory t (x ∷ p) && (is_directory t p && reaches t ok r p)) (rw e at h) in
    let b = and_parts r.recursive (ok (x ∷ p)) a.0 in
    let c = and_parts (is_directory t (x ∷ p)) (is_directory t p && reaches t ok r p) a.1 in
    let d = and_parts (is_directory t p) (reaches t ok r p) c.1 in
    record { apart = e; recursive = b.0; passes = b.1; here = c.0; above = d.0; covered = d.1 }

pub reaches-root : (t : Tree) (ok : Path → Bool) (r : Root) (p : Path) → r.path ≡ p → is_safe t r.path ≡ true → reaches t ok r p ≡ true
reaches-root t ok r [] e s = and_from (same r.path []) (is_safe t []) (rw e refl) (rw e at s)
reaches-root t ok r (x ∷ p) e s =
    let f : same r.path (x ∷ p) ≡ true = rw e (same-refl (x ∷ p)) in
    rw f (rw e at s)

pub reaches-safe : (t : Tree) (ok : Path → Bool) (r : Root) (p : Path) → reaches t ok r p ≡ true → is_safe t r.path ≡ true
reaches-safe t ok r [] h =
    let a = and_parts (same r.path []) (is_safe t []) h in
    let e : r.path ≡ [] = same-true r.path [] a.0 in
    rw e a.1
reaches-safe t ok r (x ∷ p) h =
    elim (cases_Bool (same r.path (x ∷ p))) [
      | inl a ↦ let e : r.path ≡ x ∷ p = same-true r.path (x ∷ p) a in rw e (rw a at h)
      | inr a ↦ reaches-safe t ok r p (reaches-inside t ok r x p a h).covered
    ]

-- a root that owns a path is no longer than it
pub reaches-length : (t : Tree) (ok : Path → Bool) (r : Root) (p : Path) → reaches t ok r p ≡ true → length r.path ≤ length p
reaches-length t ok r [] h =
    let a = and_parts (same r.path []) (is_safe t []) h in
    let e : r.path ≡ [] = same-true r.path [] a.0 in
    rw e (omega arith)
reaches-length t ok r (x ∷ p) h =
    elim (cases_Bool (same r.path (x ∷ p))) [
      | inl a ↦ let e : r.path ≡ x ∷ p = same-true r.path (x ∷ p) a in rw e (omega arith)
      | inr a ↦ let k : length r.path ≤ length p = reaches-length t ok r p (reaches-inside t ok r x p a h).covered in omega arith
    ]

-- an entry of an owned directory is no root of this root
pub entry-apart : (t : Tree) (ok : Path → Bool) (r : Root) (p c : Path) → reaches t ok r p ≡ true → has_entry p c ≡ true → same r.path c ≡ false
entry-apart t ok r p c h e =
    elim (cases_Bool (same r.path c)) [
      | inl a ↦
          let f : length r.path ≡ length c = ap length (same-true r.path c a) in
          let k : length r.path ≤ length p = reaches-length t ok r p h in
          let l : length c ≡ suc (length p) = entry-length p c e in
          absurd (omega arith)
      | inr a ↦ a
    ]

pub entry-reached : (t : Tree) (ok : Path → Bool) (r : Root) (p c : Path) → r.recursive ≡ true → is_directory t p ≡ true → reaches t ok r p ≡ true → has_entry p c ≡ true → is_directory t c ≡ true → ok c ≡ true → reaches t ok r c ≡ true
entry-reached t ok r p [] rec dir h e d o = cc
entry-reached t ok r p (x ∷ c) rec dir h e d o =
    let a : same r.path (x ∷ c) ≡ false = entry-apart t ok r p (x ∷ c) h e in
    let f : p ≡ c = same-true p c e in
    let g : is_directory t c ≡ true = rw (← f) dir in
    let k : reaches t ok r c ≡ true = rw (← f) h in
    rw (a, rec, o, d, g, k) refl

-- what a root owns at or below an entry of an owned directory, it owns at this entry
pub reaches-down : (t : Tree) (ok : Path → Bool) (r : Root) (c q : Path) → holds c q ≡ true → reaches t ok r q ≡ true → length r.path < length c → (is_directory t c ≡ true) × (ok c ≡ true)
reaches-down t ok r c [] h k lt =
    let e : c ≡ [] = same-true c [] h in
    let z : length c ≡ 0 = rw e refl in
    absurd (omega arith)
reaches-down t ok r c (x ∷ q) h k lt =
    elim (cases_Bool (same r.path (x ∷ q))) [
      | inl a ↦
          let f : length r.path ≡ length (x ∷ q) = ap length (same-true r.path (x ∷ q) a) in
          let l : length c ≤ length (x ∷ q) = holds-length c (x ∷ q) h in
          absurd (omega arith)
      | inr a ↦
          let inside = reaches-inside t ok r x q a k in
          elim (or_cases (same c (x ∷ q)) (holds c q) h) [
            | inl b ↦ let e : c ≡ x ∷ q = same-true c (x ∷ q) b in rw e (inside.here, inside.passes)
            | inr b ↦ reaches-down t ok r c q b inside.covered lt
          ]
    ]

pub chain_here : (t : Tree) (p : Path) → is_chain_above t p ≡ true → is_directory t p ≡ true → is_chain t p ≡ true
chain_here t [] a d = d
chain_here t (x ∷ p) a d = and_from (is_directory t (x ∷ p)) (is_chain t p) d a

-- above what is owned all are directories
pub reaches-chain : (t : Tree) (ok : Path → Bool) (r : Root) (p : Path) → reaches t ok r p ≡ true → is_chain_above t p ≡ true
reaches-chain t ok r [] h = refl
reaches-chain t ok r (x ∷ p) h =
    elim (cases_Bool (same r.path (x ∷ p))) [
      | inl a ↦ let b = and_parts (is_chain_above t (x ∷ p)) (is_fit_node (node_at t (x ∷ p))) (rw a at h) in b.0
      | inr a ↦ let i = reaches-inside t ok r x p a h in chain_here t p (reaches-chain t ok r p i.covered) i.above
    ]

-- and above its entries
pub entry-chain : (t : Tree) (ok : Path → Bool) (r : Root) (p c : Path) → has_entry p c ≡ true → is_directory t p ≡ true → reaches t ok r p ≡ true → is_chain_above t c ≡ true
entry-chain t ok r p [] e d h = cc
entry-chain t ok r p (x ∷ c) e d h = let f : p ≡ c = same-true p c e in rw (← f) (chain_here t p (reaches-chain t ok r p h) d)

pub there_from_dir : (n : Option Node) → is_directory_node n ≡ true → is_there_node n ≡ true
there_from_dir None e = e
there_from_dir (Some Dir) e = refl
there_from_dir (Some (File _)) e = refl
there_from_dir (Some (Link l)) e = refl

pub fit_from_dir : (n : Option Node) → is_directory_node n ≡ true → is_fit_node n ≡ true
fit_from_dir None e = e
fit_from_dir (Some Dir) e = refl
fit_from_dir (Some (File _)) e = refl
fit_from_dir (Some (Link l)) e = cc

pub chain_dir : (t : Tree) (p : Path) → is_chain t p ≡ true → is_directory t p ≡ true
chain_dir t [] h = h
chain_dir t (x ∷ p) h = let a = and_parts (is_directory t (x ∷ p)) (is_chain t p) h in a.0

pub last_chain : (t : Tree) (q p : Path) → last_of_chain t q ≡ Some p → is_chain t p ≡ true
last_chain t [] p e =
    elim (cases_Bool (is_directory t [])) [
      | inl a ↦ subst (λ y. is_chain t y ≡ true) (same_Some [] p (rw a at e)) a
      | inr a ↦ absurd (let f : None ≡ Some p = rw a at e in cc)
    ]
last_chain t (x ∷ q) p e =
    elim (cases_Bool (is_chain t (x ∷ q))) [
      | inl a ↦ subst (λ y. is_chain t y ≡ true) (same_Some (x ∷ q) p (rw a at e)) a
      | inr a ↦ last_chain t q p (rw a at e)
    ]

pub guard_dir : (t : Tree) (q p : Path) → guard_of t q ≡ Some p → is_directory t p ≡ true
guard_dir t [] p e = cc
guard_dir t (x ∷ q) p e = chain_dir t p (last_chain t q p e)
