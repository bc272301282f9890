-- What is found in the list of entries is what the tree has.
use Rattle.std.proofs.Common.{◌≡◌, ℕ, suc, zero, ◌≤◌, Bool, true, false, List, [], ◌∷◌, length, drop, arith, refl, ap, sym, ◌∙◌, inl, inr}
use Rattle.std.specs.Prelude.{◌&&◌, Option, Some}
use Rattle.std.proofs.lemmas.Bool.{cases_Bool, both_ways, or_parts}
use Rattle.wx_tree.specs.Paths.{Path, same}
use Rattle.wx_tree.specs.Trees.{Tree, node_at}
use Rattle.wx_tree.proofs.PathLemmas.{same-true}
use Rattle.wx_scan.specs.Told.{SpellsPath, has_link_above, is_link_node}
use Rattle.wx_mem_tree.specs.declared.entry.MemEntry.{MemEntry}
use Rattle.wx_mem_tree.specs.Entries.{found_at, has_link_on, is_link_at, node_found, tree_of}

pub node_is_found : (p : Path) (es : List MemEntry) → node_at (tree_of es) p ≡ node_found (found_at p es)
node_is_found p [] = refl
node_is_found p (e ∷ es) = elim (cases_Bool (same e.path p)) [ inl a ↦ rw a refl | inr a ↦ rw a (node_is_found p es) ]

pub found_node : (p : Path) (es : List MemEntry) (found : Option MemEntry) → found_at p es ≡ found → node_at (tree_of es) p ≡ node_found found
found_node p es found e = node_is_found p es ∙ ap node_found e

pub found_path : (p : Path) (es : List MemEntry) (x : MemEntry) → found_at p es ≡ Some x → x.path ≡ p
found_path p [] x h = absurd cc
found_path p (e ∷ es) x h =
    elim (cases_Bool (same e.path p)) [
      | inl a ↦ (let k : Some e ≡ Some x = (rw a at h) in let m : e ≡ x = cc in rw (← m) (same-true e.path p a))
      | inr a ↦ found_path p es x (rw a at h)
    ]

-- no link stands so many levels above
pub no_link_up : (t : Tree) (p : Path) (n : ℕ) → has_link_above t p ≡ false → 1 ≤ n → n ≤ length p → is_link_at t (drop n p) ≡ false
no_link_up t [] n h lo hi = absurd (omega arith)
no_link_up t (x ∷ p) zero h lo hi = absurd (omega arith)
no_link_up t (x ∷ p) (suc zero) h lo hi = (or_parts (is_link_node (node_at t p)) (has_link_above t p) h).0
no_link_up t (x ∷ p) (suc (suc n)) h lo hi = no_link_up t p (suc n) (or_parts (is_link_node (node_at t p)) (has_link_above t p) h).1 (omega arith) (omega arith)

pub no_link_on : (t : Tree) (p : Path) (bytes : List ℕ) (with_last : Bool) → SpellsPath t p bytes → (with_last && is_link_at t p) ≡ false → has_link_on with_last t p ≡ false
no_link_on t p bytes with_last s e = rw (s.no_link, e) refl

found_link : (es : List MemEntry) (q : Path) → is_link_at (tree_of es) q ≡ is_link_node (node_found (found_at q es))
found_link es q = ap is_link_node (node_is_found q es)

-- where no link stands above the path, none is found there
pub no_link_there : (es : List MemEntry) (p q : Path) (n : ℕ) (with_last found : Bool) → has_link_on with_last (tree_of es) p ≡ false → 1 ≤ n → n ≤ length p → q ≡ drop n p
    → found ≡ is_link_node (node_found (found_at q es)) → found ≡ true → ⊥
no_link_there es p q n with_last found h lo hi e f g =
    let a = or_parts (has_link_above (tree_of es) p) (with_last && is_link_at (tree_of es) p) h in
    let k : is_link_at (tree_of es) (drop n p) ≡ false = no_link_up (tree_of es) p n a.0 lo hi in
    both_ways (is_link_at (tree_of es) q) (ap (is_link_at (tree_of es)) e ∙ k) (found_link es q ∙ (sym f ∙ g))

-- nor at the path itself, where this counts
pub no_link_here : (es : List MemEntry) (p : Path) (with_last found : Bool) → has_link_on with_last (tree_of es) p ≡ false → with_last ≡ true → found ≡ is_link_node (node_found (found_at p es)) → found ≡ true → ⊥
no_link_here es p with_last found h w f g =
    let a = or_parts (has_link_above (tree_of es) p) (with_last && is_link_at (tree_of es) p) h in
    let k : is_link_at (tree_of es) p ≡ false = (rw w at a.1) in
    both_ways (is_link_at (tree_of es) p) k (found_link es p ∙ (sym f ∙ g))

-- what is found for a path of the tree
pub node_there : (es : List MemEntry) (p q : Path) → q ≡ p → node_found (found_at q es) ≡ node_at (tree_of es) p
node_there es p q e = ap (λ x. node_found (found_at x es)) e ∙ sym (node_is_found p es)
