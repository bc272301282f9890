-- Each path comes once, and the entries of a directory are its listing.
use Rattle.std.proofs.Common.{◌≡◌, Bool, true, false, cond, Result, Ok, Err, List, [], ◌∷◌, refl, ap, sym, ◌∙◌, inl, inr}
use Rattle.std.specs.Prelude.{OnErr, OnOk, Some, filter, not}
use Rattle.wx_text.specs.declared.list.Memory.{Memory}
use Rattle.std.proofs.lemmas.Bool.{and_parts, cases_Bool, both_ways, not-true, or_parts}
use Rattle.wx_tree.specs.Lists.{In, AllOnce}
use Rattle.wx_tree.specs.Paths.{Path, has_entry, same}
use Rattle.wx_tree.specs.Trees.{IsListing, is_there, is_there_node}
use Rattle.wx_tree.specs.declared.node.Node.{Node}
use Rattle.wx_tree.specs.declared.node.Node.TheVariants.{Dir, File, Link}
use Rattle.wx_tree.proofs.PathLemmas.{same-true, same-refl}
use Rattle.wx_mem_tree.specs.declared.entry.MemEntry.{MemEntry}
use Rattle.wx_mem_tree.specs.Entries.{are_once, entries_of, is_at, put_node, tree_of, without_stamp}

abbrev PathsOnce : List MemEntry → Type 0
PathsOnce [] = Unit {0}
PathsOnce (e ∷ es) = (is_at e.path es ≡ false) × PathsOnce es

once_parts : (es : List MemEntry) → are_once es ≡ true → PathsOnce es
once_parts [] h = tt
once_parts (e ∷ es) h = let a = and_parts (not (is_at e.path es)) (are_once es) h in (not-true (is_at e.path es) a.0, once_parts es a.1)

once_from : (es : List MemEntry) → PathsOnce es → are_once es ≡ true
once_from [] h = refl
once_from (e ∷ es) h = rw (h.0, once_from es h.1) refl

filtered_at : (keep : MemEntry → Bool) (p : Path) (es : List MemEntry) → is_at p es ≡ false → is_at p (filter keep es) ≡ false
filtered_at keep p [] h = refl
filtered_at keep p (e ∷ es) h =
    let o = or_parts (same e.path p) (is_at p es) h in
    let more = filtered_at keep p es o.1 in
    elim (cases_Bool (keep e)) [ inl a ↦ rw (a, o.0) more | inr a ↦ rw a more ]

filtered_once : (keep : MemEntry → Bool) (es : List MemEntry) → PathsOnce es → PathsOnce (filter keep es)
filtered_once keep [] h = tt
filtered_once keep (e ∷ es) h =
    let more = filtered_once keep es h.1 in
    elim (cases_Bool (keep e)) [ inl a ↦ rw a (filtered_at keep e.path es h.0, more) | inr a ↦ rw a more ]

turned : (p q : Path) → same p q ≡ false → same q p ≡ false
turned p q h = elim (cases_Bool (same q p)) [ inl a ↦ (let e : q ≡ p = same-true q p a in absurd (both_ways (same p q) h (rw e (same-refl p)))) | inr a ↦ a ]

put_elsewhere : (p q : Path) (n : Node) (es : List MemEntry) → is_at q es ≡ false → same p q ≡ false → is_at q (put_node p n es) ≡ false
put_elsewhere p q n [] h d = rw d refl
put_elsewhere p q n (e ∷ es) h d =
    let o = or_parts (same e.path q) (is_at q es) h in
    let more = put_elsewhere p q n es o.1 d in
    elim (cases_Bool (same e.path p)) [ inl a ↦ rw (a, o.0) o.1 | inr a ↦ rw (a, o.0) more ]

put_apart : (p : Path) (n : Node) (es : List MemEntry) → PathsOnce es → PathsOnce (put_node p n es)
put_apart p n [] h = (refl, tt)
put_apart p n (e ∷ es) h =
    let more = put_apart p n es h.1 in
    elim (cases_Bool (same e.path p)) [ inl a ↦ rw a h | inr a ↦ rw a (put_elsewhere p e.path n es h.0 (turned e.path p a), more) ]

pub kept_once : (keep : MemEntry → Bool) (es : List MemEntry) → are_once es ≡ true → are_once (filter keep es) ≡ true
kept_once keep es h = once_from (filter keep es) (filtered_once keep es (once_parts es h))

pub put_once : (p : Path) (n : Node) (es : List MemEntry) → are_once es ≡ true → are_once (put_node p n es) ≡ true
put_once p n es h = once_from (put_node p n es) (put_apart p n es (once_parts es h))

-- ---- the listing

pub there : (n : Node) → is_there_node (Some (without_stamp n)) ≡ true
there Dir = refl
there (File stamp) = refl
there (Link target) = refl

at_later : (c : Path) (e : MemEntry) (es : List MemEntry) → is_at c es ≡ true → is_at c (e ∷ es) ≡ true
at_later c e es h = elim (cases_Bool (same e.path c)) [ inl a ↦ rw a refl | inr a ↦ rw a h ]

abbrev Listed : (p c : Path) (es : List MemEntry) → Type 0
Listed p c es = (has_entry p c ≡ true) × (is_at c es ≡ true)

listed_more : (p c : Path) (e : MemEntry) (es : List MemEntry) → (In c (entries_of p es) → Listed p c es) → (b : Bool) → has_entry p e.path ≡ b → In c (cond b (e.path ∷ entries_of p es) (entries_of p es)) → Listed p c (e ∷ es)
listed_more p c e es more true t (inl s) = (ap (has_entry p) (sym s) ∙ t, (let k : same e.path c ≡ true = ap (same e.path) (sym s) ∙ same-refl e.path in rw k refl))
listed_more p c e es more true t (inr k) = let m = more k in (m.0, at_later c e es m.1)
listed_more p c e es more false t k = let m = more k in (m.0, at_later c e es m.1)

listed_at : (p c : Path) (es : List MemEntry) → In c (entries_of p es) → Listed p c es
listed_at p c [] h = absurd h
listed_at p c (e ∷ es) h = listed_more p c e es (listed_at p c es) (has_entry p e.path) refl h

at_there : (c : Path) (es : List MemEntry) → is_at c es ≡ true → is_there (tree_of es) c ≡ true
at_there c [] h = absurd cc
at_there c (e ∷ es) h = elim (cases_Bool (same e.path c)) [ inl a ↦ rw a (there e.node) | inr a ↦ rw a (at_there c es (rw a at h)) ]

there_listed : (p c : Path) (es : List MemEntry) → has_entry p c ≡ true → is_there (tree_of es) c ≡ true → In c (entries_of p es)
there_listed p c [] e h = absurd cc
there_listed p c (x ∷ es) e h =
    elim (cases_Bool (same x.path c)) [
      | inl a ↦ (let s : x.path ≡ c = same-true x.path c a in let k : has_entry p x.path ≡ true = ap (has_entry p) s ∙ e in rw k (inl s))
      | inr a ↦ (let m = there_listed p c es e (rw a at h) in elim (cases_Bool (has_entry p x.path)) [ inl b ↦ rw b (inr m) | inr b ↦ rw b m ])
    ]

once_listed : (p : Path) (es : List MemEntry) → PathsOnce es → AllOnce (entries_of p es)
once_listed p [] h = tt
once_listed p (e ∷ es) h =
    let more = once_listed p es h.1 in
    elim (cases_Bool (has_entry p e.path)) [
      | inl a ↦ rw a ((λ k. both_ways (is_at e.path es) h.0 (listed_at p e.path es k).1), more)
      | inr a ↦ rw a more
    ]

pub is_listing : (p : Path) (es : List MemEntry) → are_once es ≡ true → IsListing (tree_of es) p (entries_of p es)
is_listing p es h = record {
  once = once_listed p es (once_parts es h);
  each = λ c k. (listed_at p c es k).0;
  there = λ c k. at_there c es (listed_at p c es k).1;
  all = λ c e t. there_listed p c es e t;
}

-- whether the node was put or memory was short
pub put_kept : (r : Result (Unit {0}) Memory) (p : Path) (n : Node) (es fs : List MemEntry) → are_once es ≡ true → OnOk r (fs ≡ put_node p n es) → OnErr r (fs ≡ es) → are_once fs ≡ true
put_kept (Ok u) p n es fs h ok err = ap are_once ok ∙ put_once p n es h
put_kept (Err m) p n es fs h ok err = ap are_once err ∙ h
