-- What a run needs to take few steps, where its script is still.
use Rattle.std.proofs.Common.{◌≡◌, ℕ, Bool, true, false, cond, List, [], ◌∷◌, drop, get_or, length, filter, refl, sym, ap, subst, ◌∙◌, arith, inl, inr}
use Rattle.std.specs.Prelude.{not}
use Rattle.std.specs.List.{list_all}
use Rattle.std.proofs.lemmas.Bool.{and_parts, cases_Bool}
use Rattle.std.proofs.lemmas.Slice.Eq.{bytes_eq-Decides}
use Rattle.wx_paths.specs.Paths.{normalize}
use Rattle.wx_tree.specs.Paths.{Path, holds, same}
use Rattle.wx_tree.specs.Places.{place}
use Rattle.wx_tree.specs.declared.node.Node.{Node as ANode}
use Rattle.wx_tree.proofs.PathLemmas.{same-true}
use Rattle.wx_scan.specs.Looked.{Rose}
use Rattle.wx_scan.specs.Told.{AreNames, IsNamed}
use Rattle.wx_mem_tree.specs.declared.entry.MemEntry.{MemEntry}
use Rattle.wx_mem_tree.specs.declared.mem_tree.FailingLook.{FailingLook}
use Rattle.wx_mem_tree.specs.Entries.{none_fails, put_node, tree_of}
use Rattle.wx_fs.proofs.RootNames.{normal_names}
use Rattle.wx_journal.specs.declared.entry.Entry.{Entry}
use Rattle.wx_machine.specs.Start.{is_absolute}
use Rattle.wx_file_turns.specs.Calm.{Foresees}
use Rattle.wx_script.specs.declared.script.FailingCall.{FailingCall}
use Rattle.wx_script.specs.declared.script.Script.{Script}
use Rattle.wx_script.specs.declared.script.TreeEdit.{TreeEdit}
use Rattle.wx_script.specs.declared.script.TreeEdit.TheVariants.{Node, Gone}
use Rattle.wx_script.specs.Follows.{edits_of, is_placed_edit}
use Rattle.wx_script.specs.Scripts.{is_placed}
use Rattle.wx_script.specs.Turns.{any_fails, turns_of}
use Rattle.wx_follow.specs.Edits.{IsAhead, are_new_stamps, edit, edited, files_of, tree_after}
use Rattle.wx_replay.specs.Still.{first_tree}

-- ---- names

placed_named : (path : List ℕ) → is_placed path ≡ true → AreNames (place path)
placed_named path h =
    let normal : normalize path ≡ path = (bytes_eq-Decides (normalize path) path).0 (and_parts (is_absolute path) _ h).1 in
    subst (λ (q : List ℕ). AreNames (place q)) normal (normal_names path)

-- each path at which something stands has names for parts
abbrev AllNamed : List MemEntry → Type 0
AllNamed [] = Unit {0}
AllNamed (e ∷ es) = AreNames e.path × AllNamed es

put_named : (q : Path) (n : ANode) (es : List MemEntry) → AreNames q → AllNamed es → AllNamed (put_node q n es)
put_named q n [] names all = (names, tt)
put_named q n (e ∷ es) names all =
    let more = put_named q n es names all.1 in
    elim (cases_Bool (same e.path q)) [ inl a ↦ rw a all | inr a ↦ rw a (all.0, more) ]

kept_named : (keep : MemEntry → Bool) (es : List MemEntry) → AllNamed es → AllNamed (filter keep es)
kept_named keep [] all = tt
kept_named keep (e ∷ es) all =
    let more = kept_named keep es all.1 in
    elim (cases_Bool (keep e)) [ inl a ↦ rw a (all.0, more) | inr a ↦ rw a more ]

edit_named : (x : TreeEdit) (es : List MemEntry) → is_placed_edit x ≡ true → AllNamed es → AllNamed (edit x es)
edit_named (Node path node) es h all = put_named (place path) node es (placed_named path h) all
edit_named (Gone path) es h all = kept_named (λ e. not (holds (place path) e.path)) es all

edited_named : (xs : List TreeEdit) (es : List MemEntry) → list_all is_placed_edit xs ≡ true → AllNamed es → AllNamed (edited xs es)
edited_named [] es h all = all
edited_named (x ∷ xs) es h all = let parts = and_parts (is_placed_edit x) (list_all is_placed_edit xs) h in edited_named xs (edit x es) parts.1 (edit_named x es parts.0 all)

tree_named : (es : List MemEntry) → AllNamed es → IsNamed (tree_of es)
tree_named [] all p there = cc
tree_named (e ∷ es) all p there = elim (cases_Bool (same e.path p)) [ inl a ↦ subst AreNames (same-true e.path p a) all.0 | inr a ↦ tree_named es all.1 p (rw a at there) ]

first_line : (edits : List (List TreeEdit)) → list_all (list_all is_placed_edit) edits ≡ true → list_all is_placed_edit (get_or edits 0 []) ≡ true
first_line [] h = refl
first_line (xs ∷ edits) h = (and_parts (list_all is_placed_edit xs) (list_all (list_all is_placed_edit) edits) h).0

pub first_named : (s : Script) → list_all (list_all is_placed_edit) (edits_of s) ≡ true → IsNamed (first_tree s)
first_named s h = tree_named (tree_after (edits_of s) 1) (edited_named (get_or (edits_of s) 0 []) [] (first_line (edits_of s) h) tt)

-- ---- what is known before the first turn

pub foreseen : (s : Script) (edits : List (List TreeEdit)) (told : List Entry) (ahead es : List MemEntry) (failing : List FailingCall) (looks faults : ℕ)
    → told ≡ [] → edits ≡ edits_of s → IsAhead edits (length (turns_of told)) ahead → failing ≡ [] → are_new_stamps (first_tree s) (drop 1 (edits_of s)) ≡ true
    → Foresees (first_tree s) (files_of edits (length (turns_of told)) ahead failing es looks faults)
foreseen s edits told ahead es failing looks faults none same_edits first unfailing stamps =
    let now : (p : List Entry) → [] ≡ p → IsAhead edits (length (turns_of p)) ahead → Foresees (first_tree s) (files_of edits (length (turns_of p)) ahead failing es looks faults) =
    λ p e. subst (λ (q : List Entry). IsAhead edits (length (turns_of q)) ahead → Foresees (first_tree s) (files_of edits (length (turns_of q)) ahead failing es looks faults)) e
    (λ is. begun edits ahead same_edits is) in
    now told (sym none) first
  where
    begun : (edits : List (List TreeEdit)) (ahead : List MemEntry) → edits ≡ edits_of s → ahead ≡ tree_after edits 1 → Foresees (first_tree s) (files_of edits 0 ahead failing es looks faults)
    begun edits ahead e is = rw (is, e, unfailing) (record { shape = rw stamps refl; exact = refl })

-- ---- no look fails where none is to

pub none_rises : (before faults : ℕ) (failing : List FailingLook) (lines : List FailingCall) → (cond (none_fails failing) faults 0) ≡ 0 → not (none_fails failing) ≡ any_fails lines → lines ≡ [] → Rose before faults → ⊥
none_rises before faults failing lines calm same none rose = not_risen before faults (calm_faults (none_fails failing) faults calm (same ∙ ap any_fails none)) rose
  where
    calm_faults : (none : Bool) (faults : ℕ) → cond none faults 0 ≡ 0 → not none ≡ false → faults ≡ 0
    calm_faults true faults e n = e
    calm_faults false faults e n = absurd cc

    not_risen : (a b : ℕ) → b ≡ 0 → Rose a b → ⊥
    not_risen a b e (inl lt) = absurd (omega (arith, e, lt))
    not_risen a b e (inr end) = absurd (omega (arith, e, end))
