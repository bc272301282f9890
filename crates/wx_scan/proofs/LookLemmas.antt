-- What looks leave, and what is known of nodes and of chains above a path.
use Rattle.std.proofs.Common.{◌≡◌, ℕ, true, false, List, [], ◌∷◌, Some, None, inl, inr, refl, ◌∙◌, arith, ap}
use Rattle.std.specs.Prelude.{Option}
use Rattle.std.proofs.lemmas.Bool.{cases_Bool, and_parts}
use Rattle.wx_tree.specs.Lists.{In}
use Rattle.wx_tree.specs.Paths.{Part, Path, same_part}
use Rattle.wx_tree.specs.Places.{AreParts, is_part, place}
use Rattle.wx_tree.specs.Trees.{Tree, is_chain, is_chain_above, is_directory, is_directory_node, node_at}
use Rattle.wx_tree.specs.declared.node.Node.{Node}
use Rattle.wx_tree.specs.declared.node.Node.TheVariants.{Dir, File, Link}
use Rattle.wx_tree.proofs.PathLemmas.{same_part-true}
use Rattle.wx_tree.proofs.PlaceLemmas.{place_spelled}
use Rattle.wx_scan.specs.Backings.{is_registered}
use Rattle.wx_scan.specs.Looked.{Looked, OnlyLooks}
use Rattle.wx_scan.specs.Told.{AreNames, has_link_above, is_link_node, SpellsPath}

pub directory_no_link : (n : Option Node) → is_directory_node n ≡ true → is_link_node n ≡ false
directory_no_link None h = cc
directory_no_link (Some Dir) h = refl
directory_no_link (Some (File stamp)) h = cc
directory_no_link (Some (Link target)) h = cc

chain_no_link : (t : Tree) (x : Part) (p : Path) → is_chain t p ≡ true → has_link_above t (x ∷ p) ≡ false
chain_no_link t x [] h = rw (directory_no_link (node_at t []) h) refl
chain_no_link t x (y ∷ p) h =
    let parts = and_parts (is_directory t (y ∷ p)) (is_chain t p) h in
    rw (directory_no_link (node_at t (y ∷ p)) parts.0, chain_no_link t y p parts.1) refl

pub no_link_above : (t : Tree) (p : Path) → is_chain_above t p ≡ true → has_link_above t p ≡ false
no_link_above t [] h = refl
no_link_above t (x ∷ p) h = chain_no_link t x p h

pub names_parts : (p : Path) → AreNames p → AreParts p
names_parts [] h = tt
names_parts (x ∷ p) h = ((and_parts (is_part x) _ h.0).0, names_parts p h.1)

pub no_looks : (a : Looked) → OnlyLooks a a
no_looks a = record { same = record { tree = refl; stamps = refl; shape = refl; exact = refl }; looks = omega arith; faults = omega arith }

pub more_looks : (a b c : Looked) → OnlyLooks a b → OnlyLooks b c → OnlyLooks a c
more_looks a b c h k = record {
  same = record { tree = k.same.tree ∙ h.same.tree; stamps = k.same.stamps ∙ h.same.stamps; shape = k.same.shape ∙ h.same.shape; exact = k.same.exact ∙ h.same.exact };
  looks = omega (arith, h.looks, k.looks);
  faults = omega (arith, h.faults, k.faults);
}

pub registered_in : (r : List ℕ) (rs : List (List ℕ)) → is_registered r rs ≡ true → In r rs
registered_in r [] h = absurd cc
registered_in r (k ∷ rs) h = elim (cases_Bool (same_part k r)) [ inl a ↦ inl (same_part-true k r a) | inr a ↦ inr (registered_in r rs (rw a at h)) ]

pub spells_place : (t : Tree) (p : Path) (bytes : List ℕ) → SpellsPath t p bytes → place bytes ≡ p
spells_place t p bytes s = ap place s.spelled ∙ place_spelled p (names_parts p s.names)
