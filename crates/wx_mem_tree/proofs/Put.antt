-- A node is put in place.
use Rattle.std.proofs.Common.{◌≡◌, ℕ, ◌++◌, Result, Ok, Err, Option, true, None, Some, List, [], ◌∷◌, slice_set, slice_index_or, refl, ap, sym, ◌∙◌, inl, inr}
use Rattle.std.proofs.lemmas.Bool.{cases_Bool}
use Rattle.std.proofs.lemmas.Option.{same_Some}
use Rattle.std.specs.Prelude.{OnOk}
use Rattle.wx_text.specs.declared.list.Memory.{Memory}
use Rattle.wx_tree.specs.Paths.{Path, same}
use Rattle.wx_tree.specs.Places.{place}
use Rattle.wx_mem_tree.specs.declared.index.EntryIndex.{EntryIndex}
use Rattle.wx_tree.specs.Trees.{TreeEntry, node_at}
use Rattle.wx_tree.specs.declared.node.Node.{Node}
use Rattle.wx_tree.specs.declared.node.Node.TheVariants.{Dir, File, Link}
use Rattle.wx_scan.specs.Told.{is_file_node}
use Rattle.wx_mem_tree.specs.declared.entry.MemEntry.{MemEntry}
use Rattle.wx_mem_tree.specs.Indexed.{AreIndexed, place_of}
use Rattle.wx_mem_tree.specs.Children.{children_of}
use Rattle.wx_mem_tree.proofs.Listed.{children_put}
use Rattle.wx_mem_tree.proofs.Placed.{later, nowhere, placed_put}
use Rattle.wx_mem_tree.specs.Entries.{put_node, tree_of, without_stamp}

-- where an entry of this path stands its node is another one now
pub put_there : (p : Path) (n : Node) (es : List MemEntry) (k : ℕ) (d : MemEntry) → place_of p es ≡ Some k → d ≡ slice_index_or es k d → slice_set es k (record { path = d.path; node = n }) ≡ put_node p n es
put_there p n [] k d h at = absurd cc
put_there p n (e ∷ es) k d h at =
    elim (cases_Bool (same e.path p)) [
      | inl a ↦
          let f : 0 ≡ k = same_Some 0 k (rw a at h) in
          let g : d ≡ e = at ∙ ap (λ i. slice_index_or (e ∷ es) i d) (sym f) in
          rw (a, ← f, g) refl
      | inr a ↦
          let j = later (place_of p es) k (rw a at h) in
          let g : d ≡ slice_index_or es j.0 d = at ∙ ap (λ i. slice_index_or (e ∷ es) i d) j.2 in
          rw (a, j.2) (ap (λ ys. e ∷ ys) (put_there p n es j.0 d j.1 g))
    ]

-- and where none stands it stands behind all others
pub put_behind : (p : Path) (n : Node) (es : List MemEntry) → place_of p es ≡ None → es ++ record { path = p; node = n } ∷ [] ≡ put_node p n es
put_behind p n [] h = refl
put_behind p n (e ∷ es) h =
    elim (cases_Bool (same e.path p)) [
      | inl a ↦ (let f : Some 0 ≡ None = (rw a at h) in absurd cc)
      | inr a ↦ rw a (ap (λ ys. e ∷ ys) (put_behind p n es (nowhere (place_of p es) (rw a at h))))
    ]

pub put_last : (r : Result (Unit {0}) Memory) (p : Path) (n : Node) (es fs : List MemEntry) → place_of p es ≡ None → OnOk r (fs ≡ es ++ record { path = p; node = n } ∷ []) → OnOk r (fs ≡ put_node p n es)
put_last (Ok u) p n es fs h ok = ok ∙ put_behind p n es h
put_last (Err m) p n es fs h ok = tt

-- another node leaves its entry where it is
pub still_indexed : (p : Path) (n : Node) (es fs : List MemEntry) (k : ℕ) (index : Option EntryIndex) → place_of p es ≡ Some k → fs ≡ put_node p n es → AreIndexed es index → AreIndexed fs index
still_indexed p n es fs k index h f is = λ x e.
    let was = is x e in (
      λ bytes b. was.0 bytes b ∙ (sym (placed_put (place bytes) p n es k h) ∙ ap (place_of (place bytes)) (sym f)),
      λ bytes b. was.1 bytes b ∙ (sym (children_put 0 (place bytes) p n es k h) ∙ ap (children_of (place bytes)) (sym f)),
    )

-- A new stamp of a file leaves the tree, in which stamps don't count.
pub restamped : (p : Path) (stamp : ℕ) (es : List MemEntry) → is_file_node (node_at (tree_of es) p) ≡ true → tree_of (put_node p (File stamp) es) ≡ tree_of es
restamped p stamp [] h = absurd cc
restamped p stamp (e ∷ es) h =
    elim (cases_Bool (same e.path p)) [
      | inl a ↦ rw a (ap (λ (x : TreeEntry). x ∷ tree_of es) (ap (λ (n : Node). record { path = e.path; node = n }) (of_file e.node (rw a at h))))
      | inr a ↦ rw a (ap (λ t. record { path = e.path; node = without_stamp e.node } ∷ t) (restamped p stamp es (rw a at h)))
    ]
  where
    of_file : (n : Node) → is_file_node (Some (without_stamp n)) ≡ true → File 0 ≡ without_stamp n
    of_file Dir f = absurd cc
    of_file (File s) f = refl
    of_file (Link target) f = absurd cc
