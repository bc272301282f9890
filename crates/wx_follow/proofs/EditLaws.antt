-- The tree of the world, as its changes are made.
use Rattle.std.proofs.Common.{◌≡◌, ℕ, zero, suc, ◌≤◌, min, Bool, true, ◌||◌, Some, Result, Ok, Err, List, [], ◌∷◌, ◌++◌, length, drop, get_or, refl, sym, ap, subst, ◌∙◌, arith}
use Rattle.std.specs.Prelude.{OnErr, OnOk}
use Rattle.std.specs.List.{list_all}
use Rattle.std.proofs.lemmas.Bool.{and_parts, or_parts}
use Rattle.std.proofs.lemmas.Option.{cond_some}
use Rattle.wx_text.specs.declared.list.Memory.{Memory}
use Rattle.wx_tree.specs.Places.{place}
use Rattle.wx_tree.specs.Trees.{Tree}
use Rattle.wx_tree.specs.declared.node.Node.{Node as ANode}
use Rattle.wx_tree.specs.declared.node.Node.TheVariants.{Dir, File, Link}
use Rattle.wx_mem_tree.specs.declared.entry.MemEntry.{MemEntry}
use Rattle.wx_mem_tree.specs.Entries.{put_node, tree_of}
use Rattle.wx_mem_tree.proofs.Put.{restamped}
use Rattle.wx_hooks.specs.Given.{TurnsTree}
use Rattle.wx_script.specs.declared.script.FailingCall.{FailingCall}
use Rattle.wx_script.specs.declared.script.TreeEdit.{TreeEdit}
use Rattle.wx_script.specs.declared.script.TreeEdit.TheVariants.{Node}
use Rattle.wx_journal.specs.declared.entry.Entry.{Entry}
use Rattle.wx_script.specs.declared.script.ScriptTurn.{ScriptTurn}
use Rattle.wx_script.specs.Turns.{entry_of, turns_of}
use Rattle.wx_follow.specs.Edits.{FollowsEdits, IsAhead, Made, MadeNext, any_lines, are_new_stamps, edited, files_of, is_new_stamp, shape_of, still_tree}
use Rattle.wx_follow.proofs.GivenLaws.{next_line, turns_more}

-- ---- one change

-- a new stamp leaves the tree, whether it is put or memory is short
pub node_still : (r : Result (Unit {0}) Memory) (path : List ℕ) (n : ANode) (es new : List MemEntry) → OnOk r (new ≡ put_node (place path) n es) → OnErr r (new ≡ es) → is_new_stamp (tree_of es) (Node path n) ≡ true → tree_of new ≡ tree_of es
node_still (Ok u) path Dir es new ok err h = absurd cc
node_still (Ok u) path (File stamp) es new ok err h = ap tree_of ok ∙ restamped (place path) stamp es h
node_still (Ok u) path (Link target) es new ok err h = absurd cc
node_still (Err want) path n es new ok err h = ap tree_of err

-- ---- those of a line

was_first : (edits : List (List TreeEdit)) (k : ℕ) (short : Bool) (ahead es new : List MemEntry) → k ≡ 0 → MadeNext edits k short ahead es new → new ≡ ahead
was_first edits zero short ahead es new e made = made.1
was_first edits (suc k) short ahead es new e made = absurd cc

was_later : (edits : List (List TreeEdit)) (k : ℕ) (short : Bool) (ahead es new : List MemEntry) → 1 ≤ k → MadeNext edits k short ahead es new → Made (get_or edits k []) short es new
was_later edits zero short ahead es new e made = absurd (omega (arith, e))
was_later edits (suc k) short ahead es new e made = made

-- ---- those of the next turn

some_lines : (edits : List (List TreeEdit)) → any_lines edits ≡ true → 1 ≤ length edits
some_lines [] h = absurd cc
some_lines (xs ∷ edits) h = omega arith

pub line_behind : (edits : List (List TreeEdit)) (xs : List TreeEdit) → any_lines (edits ++ xs ∷ []) ≡ true
line_behind [] xs = refl
line_behind (ys ∷ edits) xs = refl

pub edits_more : (short more : Bool) (edits : List (List TreeEdit)) (n changed : ℕ) (ahead es new : List MemEntry)
    → changed ≡ min n (length edits) → any_lines edits ≡ true → MadeNext edits changed more ahead es new → IsAhead edits n ahead → FollowsEdits short edits n es → FollowsEdits (short || more) edits (suc n) new
edits_more short more edits zero changed ahead es new is some made before so_far so =
    let none : changed ≡ 0 = omega (arith, is) in
    was_first edits changed more ahead es new none made ∙ before
edits_more short more edits (suc n) changed ahead es new is some made before so_far so =
    let within = some_lines edits some in
    let later : 1 ≤ changed = omega (arith, is, within) in
    let m = was_later edits changed more ahead es new later made in
    m.all (or_parts short more so).1 ∙ ap (λ (xs : List TreeEdit). edited xs es) (ap (λ (k : ℕ). get_or edits k []) is ∙ next_line edits (suc n) []) ∙ ap (edited (get_or edits (suc n) [])) (so_far (or_parts short more so).0)

line_passes : (p : List TreeEdit → Bool) (edits : List (List TreeEdit)) (k : ℕ) → p [] ≡ true → list_all p (drop k edits) ≡ true → (p (get_or edits k []) ≡ true) × (list_all p (drop (suc k) edits) ≡ true)
line_passes p [] zero e h = (e, refl)
line_passes p [] (suc k) e h = (e, refl)
line_passes p (xs ∷ edits) zero e h = and_parts (p xs) (list_all p edits) h
line_passes p (xs ∷ edits) (suc k) e h = line_passes p edits k e h

-- where all that changes from now on are stamps, the tree is the same
still_more : (edits : List (List TreeEdit)) (k : ℕ) (es new : List MemEntry) (t : Tree) → (list_all (is_new_stamp (tree_of es)) (get_or edits k []) ≡ true → tree_of new ≡ tree_of es) → still_tree (drop k edits) es ≡ Some t
    → (tree_of new ≡ t) × (still_tree (drop (suc k) edits) new ≡ Some t)
still_more edits k es new t still h =
    let g = cond_some (are_new_stamps (tree_of es) (drop k edits)) (tree_of es) t h in
    let next = line_passes (list_all (is_new_stamp (tree_of es))) edits k refl g.0 in
    let same : tree_of new ≡ tree_of es = still next.0 in
    (same ∙ g.1, rw (same, next.1) (ap Some g.1))

tree_stays : (edits : List (List TreeEdit)) (n changed : ℕ) (more : Bool) (ahead es ahead' new : List MemEntry) (t : Tree)
    → changed ≡ min n (length edits) → any_lines edits ≡ true → MadeNext edits changed more ahead es new → shape_of edits n ahead es ≡ Some t → (tree_of new ≡ t) × (shape_of edits (suc n) ahead' new ≡ Some t)
tree_stays edits zero changed more ahead es ahead' new t is some made h =
    let none : changed ≡ 0 = omega (arith, is) in
    let first : new ≡ ahead = was_first edits changed more ahead es new none made in
    let g = cond_some (are_new_stamps (tree_of ahead) (drop 1 edits)) (tree_of ahead) t h in
    (ap tree_of first ∙ g.1, ap (still_tree (drop 1 edits)) first ∙ h)
tree_stays edits (suc n) changed more ahead es ahead' new t is some made h =
    let within = some_lines edits some in
    let later : 1 ≤ changed = omega (arith, is, within) in
    let m = was_later edits changed more ahead es new later made in
    let line : get_or edits changed [] ≡ get_or edits (suc n) [] = ap (λ (k : ℕ). get_or edits k []) is ∙ next_line edits (suc n) [] in
    still_more edits (suc n) es new t (λ all. m.still (ap (list_all (is_new_stamp (tree_of es))) line ∙ all)) h

-- What a turn leaves of what was seen of files.
pub turns_tree : (edits : List (List TreeEdit)) (n changed : ℕ) (more : Bool) (ahead es ahead' new : List MemEntry) (failing : List FailingCall) (looks faults looks' faults' : ℕ)
    → changed ≡ min n (length edits) → any_lines edits ≡ true → MadeNext edits changed more ahead es new → looks' ≡ looks → faults' ≡ faults
    → TurnsTree (files_of edits n ahead failing es looks faults) (files_of edits (suc n) ahead' failing new looks' faults')
turns_tree edits n changed more ahead es ahead' new failing looks faults looks' faults' is some made same_looks same_faults = record {
  looks_kept = omega (arith, same_looks);
  faults_kept = omega (arith, same_faults);
  exact_kept = λ e. e;
  shape_kept = λ t h. (tree_stays edits n changed more ahead es ahead' new t is some made h).1;
  tree_now = λ t h. ap Some (tree_stays edits n changed more ahead es ahead' new t is some made h).0;
}

-- the same by what was told
pub turned_tree : (edits : List (List TreeEdit)) (told told' : List Entry) (x : ScriptTurn) (changed : ℕ) (more : Bool) (ahead es ahead' new : List MemEntry) (failing : List FailingCall) (looks faults looks' faults' : ℕ)
    → told' ≡ entry_of x ∷ told → changed ≡ min (length (turns_of told)) (length edits) → any_lines edits ≡ true → MadeNext edits changed more ahead es new → looks' ≡ looks → faults' ≡ faults
    → TurnsTree (files_of edits (length (turns_of told)) ahead failing es looks faults) (files_of edits (length (turns_of told')) ahead' failing new looks' faults')
turned_tree edits told told' x changed more ahead es ahead' new failing looks faults looks' faults' e is some made same_looks same_faults =
    let longer : suc (length (turns_of told)) ≡ length (turns_of told') = ap length (turns_more x told) ∙ ap (λ (p : List Entry). length (turns_of p)) (sym e) in
    subst (λ (n : ℕ). TurnsTree (files_of edits (length (turns_of told)) ahead failing es looks faults) (files_of edits n ahead' failing new looks' faults')) longer
    (turns_tree edits (length (turns_of told)) changed more ahead es ahead' new failing looks faults looks' faults' is some made same_looks same_faults)

pub ahead_turn : (edits : List (List TreeEdit)) (told : List Entry) (x : ScriptTurn) (ahead : List MemEntry) → IsAhead edits (length (turns_of (entry_of x ∷ told))) ahead
ahead_turn edits told x ahead = rw (← turns_more x told) tt
