-- Where direct entries stand, and that an index finds them.
use Rattle.std.proofs.Common.{Bor, Result, Ok, Err, subst, option_map, ◌≡◌, ℕ, suc, ◌+◌, true, false, cond, Option, Some, None, List, [], ◌∷◌, ◌++◌, length, drop, slice_get, map, inl, inr, arith, refl, sym, ap, ◌∙◌}
use Rattle.std.proofs.lemmas.Bool.{cases_Bool, both_ways}
use Rattle.std.proofs.lemmas.Option.{slice_get_past, slice_get_read}
use Rattle.std.specs.BTreeMap.{Updates}
use Rattle.std.specs.Cmp.Lexicographic.{slice_cmp}
use Rattle.std.specs.Option.{unwrap_or}
use Rattle.std.specs.Ordering.{nat_cmp}
use Rattle.std.specs.Prelude.{IfOk, OnOk}
use Rattle.std.specs.Slice.{IsItemAt}
use Rattle.std.specs.Global.{Vec}
use Rattle.std.specs.Vec.{vec_items}
use Rattle.wx_text.specs.declared.list.Memory.{Memory}
use Rattle.wx_tree.specs.declared.node.Node.{Node}
use Rattle.wx_mem_tree.specs.declared.index.EntryIndex.{EntryIndex}
use Rattle.wx_mem_tree.specs.Indexed.{AreIndexed, place_of}
use Rattle.wx_mem_tree.proofs.Placed.{apart_at, later}
use Rattle.std.proofs.lemmas.List.{append_assoc, length-append}
use Rattle.wx_tree.specs.Paths.{Path, has_entry, same, same_part}
use Rattle.wx_tree.specs.Places.{place, spelled}
use Rattle.wx_tree.proofs.PathLemmas.{same-true, same-refl, same_part-refl, same_part-true}
use Rattle.wx_mem_tree.specs.declared.entry.MemEntry.{MemEntry}
use Rattle.wx_mem_tree.specs.declared.children.Children.{Children}
use Rattle.wx_mem_tree.specs.Children.{AreListed, IsBelow, children_from, children_in, children_of, paths_at, with_path}
use Rattle.wx_mem_tree.specs.Entries.{entries_of, put_node}

-- one more at the end
children_here : (n : ℕ) (p : Path) (es : List MemEntry) (e : MemEntry) → has_entry p e.path ≡ true → children_from n p (es ++ e ∷ []) ≡ children_from n p es ++ (n + length es) ∷ []
children_here n p [] e h = (let z : n ≡ n + 0 = omega arith in rw h (ap (λ k. k ∷ []) z))
children_here n p (x ∷ es) e h =
    let next : suc n + length es ≡ n + suc (length es) = omega arith in
    let more : children_from (suc n) p (es ++ e ∷ []) ≡ children_from (suc n) p es ++ (n + suc (length es)) ∷ [] =
    children_here (suc n) p es e h ∙ ap (λ k. children_from (suc n) p es ++ k ∷ []) next in
    elim (cases_Bool (has_entry p x.path)) [ inl a ↦ rw a (ap (λ ks. n ∷ ks) more) | inr a ↦ rw a more ]

children_other : (n : ℕ) (p : Path) (es : List MemEntry) (e : MemEntry) → has_entry p e.path ≡ false → children_from n p (es ++ e ∷ []) ≡ children_from n p es
children_other n p [] e h = rw h refl
children_other n p (x ∷ es) e h =
    let more = children_other (suc n) p es e h in
    elim (cases_Bool (has_entry p x.path)) [ inl a ↦ rw a (ap (λ ks. n ∷ ks) more) | inr a ↦ rw a more ]

parent_of : (p path : Path) → (length path ≡ 0 → ⊥) → has_entry p path ≡ same p (drop 1 path)
parent_of p [] h = absurd (h refl)
parent_of p (x ∷ q) h = refl

-- one more below its parent, of which these are the bytes
pub below_listed : (es : List MemEntry) (e : MemEntry) (path : Path) (key : List ℕ) (at : ℕ) (c d : Children) → AreListed es c → e.path ≡ path → (length path ≡ 0 → ⊥) → key ≡ spelled (drop 1 path) → place key ≡ drop 1 path → at ≡ length es → IsBelow key at c d
    → AreListed (es ++ e ∷ []) d
below_listed es e path key at c d is same_path deep k b len below = λ bytes back.
    let entry : (p : Path) → has_entry p e.path ≡ same p (drop 1 path) = λ p. ap (has_entry p) same_path ∙ parent_of p path deep in
    elim (cases_Bool (same_part bytes key)) [
      | inl a ↦
          let f : bytes ≡ key = same_part-true bytes key a in
          let key_back : spelled (place key) ≡ key = ap spelled b ∙ sym k in
          let first : at ≡ 0 + length es = omega (arith, len) in
          let there : has_entry (place key) e.path ≡ true = entry (place key) ∙ (ap (λ p. same p (drop 1 path)) b ∙ same-refl (drop 1 path)) in
          rw f (below.0 ∙ (ap (λ ks. ks ++ at ∷ []) (is key key_back) ∙ (ap (λ n. children_of (place key) es ++ n ∷ []) first ∙ sym (children_here 0 (place key) es e there))))
      | inr a ↦
          let apart : bytes ≡ key → ⊥ = λ f. both_ways (same_part bytes key) a (rw f (same_part-refl key)) in
          let other : has_entry (place bytes) e.path ≡ false =
          elim (cases_Bool (has_entry (place bytes) e.path)) [
            | inl t ↦
                let g : place bytes ≡ drop 1 path = same-true (place bytes) (drop 1 path) (sym (entry (place bytes)) ∙ t) in
                absurd (apart (sym back ∙ (ap spelled g ∙ sym k)))
            | inr t ↦ t
          ] in
          below.1 bytes apart ∙ (is bytes back ∙ sym (children_other 0 (place bytes) es e other))
    ]

-- / stands below nothing
pub root_listed : (es : List MemEntry) (e : MemEntry) (path : Path) (c : Children) → AreListed es c → e.path ≡ path → length path ≡ 0 → AreListed (es ++ e ∷ []) c
root_listed es e path c is same_path root = λ bytes back.
    is bytes back ∙ sym (children_other 0 (place bytes) es e (ap (has_entry (place bytes)) same_path ∙ no_entry (place bytes) path root))
  where
    no_entry : (p path : Path) → length path ≡ 0 → has_entry p path ≡ false
    no_entry p [] h = refl
    no_entry p (x ∷ q) h = absurd (omega (arith, h))

-- what stands there are the direct entries
get_here : (xs ys : List MemEntry) (e : MemEntry) → slice_get (xs ++ e ∷ ys) (length xs) ≡ Some e
get_here [] ys e = refl
get_here (x ∷ xs) ys e = get_here xs ys e

paths_behind : (p : Path) (before es : List MemEntry) → paths_at (children_from (length before) p es) (before ++ es) ≡ entries_of p es
paths_behind p before [] = refl
paths_behind p before (e ∷ es) =
    let n = length-append before (e ∷ []) in
    let longer : suc (length before) ≡ length (before ++ e ∷ []) = omega (arith, n) in
    let more : paths_at (children_from (suc (length before)) p es) (before ++ e ∷ es) ≡ entries_of p es =
    ap (λ n. paths_at (children_from n p es) (before ++ e ∷ es)) longer
    ∙ (ap (paths_at (children_from (length (before ++ e ∷ [])) p es)) (sym (append_assoc before (e ∷ []) es)) ∙ paths_behind p (before ++ e ∷ []) es) in
    elim (cases_Bool (has_entry p e.path)) [
      | inl a ↦ rw (a, get_here before es e) (ap (λ ps. e.path ∷ ps) more)
      | inr a ↦ rw a more
    ]

-- an entry with another node has its path
pub children_put : (n : ℕ) (p q : Path) (node : Node) (es : List MemEntry) (k : ℕ) → place_of q es ≡ Some k → children_from n p (put_node q node es) ≡ children_from n p es
children_put n p q node [] k h = absurd cc
children_put n p q node (e ∷ es) k h =
    elim (cases_Bool (same e.path q)) [
      | inl a ↦ rw a refl
      | inr a ↦
          let j = later (place_of q es) k (rw a at h) in
          rw a (ap (λ ks. cond (has_entry p e.path) (n ∷ ks) ks) (children_put (suc n) p q node es j.0 j.1))
    ]

-- what an index finds below a path
pub indexed_paths : (es fs : List MemEntry) (p : Path) (o : Option EntryIndex) (index : EntryIndex) (bytes text ks : List ℕ) → AreIndexed es o → o ≡ Some index → es ≡ fs → bytes ≡ spelled p → place bytes ≡ p → text ≡ bytes → ks ≡ children_in index.children text
    → map spelled (paths_at ks es) ≡ map spelled (entries_of p fs)
indexed_paths es fs p o index bytes text ks is some same_list a b t k =
    let found : children_in index.children bytes ≡ children_of (place bytes) es = (is index some).1 bytes (ap spelled b ∙ sym a) in
    let f : ks ≡ children_of p es = k ∙ (ap (children_in index.children) t ∙ (found ∙ ap (λ q. children_of q es) b)) in
    ap (λ l. map spelled (paths_at l es)) f ∙ (ap (map spelled) (paths_behind p [] es) ∙ ap (λ l. map spelled (entries_of p l)) same_list)

-- the path of what stands there is added
pub added_path : (r : Result (Unit {0}) Memory) (es : List MemEntry) (at : ℕ) (b : Bor MemEntry) (bytes : List ℕ) (old new : List (List ℕ)) → IsItemAt es at (Some b) → bytes ≡ spelled b.now.path → OnOk r (new ≡ old ++ bytes ∷ [])
    → OnOk r ((ps : List Path) → new ++ map spelled ps ≡ old ++ map spelled (with_path (slice_get es at) ps))
added_path (Ok u) es at b bytes old new is e ok = λ ps.
    let there : slice_get es at ≡ Some b.now = slice_get_read es (length es) at b.now refl is.3.0 is.1 in
    rw (there, ok, e) (append_assoc old (spelled b.now.path ∷ []) (map spelled ps))
added_path (Err m) es at b bytes old new is e ok = tt

pub no_path : (es : List MemEntry) (at : ℕ) (old : List (List ℕ)) → IsItemAt es at None → (ps : List Path) → old ++ map spelled ps ≡ old ++ map spelled (with_path (slice_get es at) ps)
no_path es at old is = λ ps. (let none : slice_get es at ≡ None = slice_get_past es at is.3 in rw none refl)

-- one more below these bytes
abbrev list_of : Option (Vec ℕ) → List ℕ
list_of o = unwrap_or (option_map vec_items o) []

pub kept_lists : (k : List ℕ) (c d : Children) (w : Option (Vec ℕ)) → Updates (slice_cmp nat_cmp) c.lists d.lists k w → (b : List ℕ) → (b ≡ k → ⊥) → children_in d b ≡ children_in c b
kept_lists k c d w up b apart = ap list_of (up.2 b (apart_at k b apart))

pub is_below : (parent key : List ℕ) (at : ℕ) (c t d : Children) (was list : Vec ℕ) → key ≡ parent → was.items ≡ children_in c parent → list.items ≡ was.items ++ at ∷ [] → ((b : List ℕ) → (b ≡ parent → ⊥) → children_in t b ≡ children_in c b) → Updates (slice_cmp nat_cmp) t.lists d.lists key (Some list)
    → IsBelow parent at c d
is_below parent key at c t d was list same_key had more rest up =
    let at_parent : Updates (slice_cmp nat_cmp) t.lists d.lists parent (Some list) = subst (λ k. Updates (slice_cmp nat_cmp) t.lists d.lists k (Some list)) same_key up in
    (ap list_of at_parent.1 ∙ (more ∙ ap (λ ks. ks ++ at ∷ []) had), λ b apart. kept_lists parent t d (Some list) at_parent b apart ∙ rest b apart)

pub with_below : (r : Result Children Memory) (path : Path) (key : List ℕ) (at : ℕ) (c : Children) → (length path ≡ 0 → ⊥) → key ≡ spelled (drop 1 path) → place key ≡ drop 1 path → IfOk r (λ d. IsBelow key at c d)
    → IfOk r (λ d. (es : List MemEntry) (e : MemEntry) → AreListed es c → e.path ≡ path → at ≡ length es → AreListed (es ++ e ∷ []) d)
with_below (Ok d) path key at c deep k b below = λ es e is same_path len. below_listed es e path key at c d is same_path deep k b len below
with_below (Err m) path key at c deep k b below = tt
