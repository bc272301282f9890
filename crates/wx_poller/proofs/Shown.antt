-- What a tree shows, as it is listed.
use Rattle.std.proofs.Common.{◌≡◌, ℕ, Bool, true, false, cond, Option, None, Some, Result, Ok, Err, List, [], ◌∷◌, refl, ap, sym, subst, ◌∙◌, inl, inr}
use Rattle.std.specs.Prelude.{◌&&◌, ◌||◌, map, option_map}
use Rattle.std.specs.Option.{option_or}
use Rattle.std.proofs.lemmas.Bool.{both_ways, cases_Bool, or_right}
use Rattle.std.proofs.Math.Bool.{or-false}
use Rattle.wx_events.specs.declared.file_type.FileType.{FileType}
use Rattle.wx_events.specs.declared.file_type.FileType.TheVariants as type
use Rattle.wx_watch.specs.declared.scan_fault.EntryKind.{EntryKind}
use Rattle.wx_watch.specs.declared.scan_fault.EntryKind.TheVariants.{Directory, NonFollowedSymlink, Other}
use Rattle.wx_tree.specs.Lists.{In}
use Rattle.wx_tree.specs.Paths.{Path, has_entry, same, same_part}
use Rattle.wx_tree.specs.Places.{place, spelled}
use Rattle.wx_tree.specs.Trees.{IsListing, Tree, is_directory, is_directory_node, is_there, is_there_node, node_at}
use Rattle.wx_tree.specs.declared.node.Node.{Node}
use Rattle.wx_tree.specs.declared.node.Node.TheVariants.{Dir, File, Link}
use Rattle.wx_tree.proofs.PathLemmas.{same-true, same_part-refl, same_part-true}
use Rattle.wx_scan.specs.Backings.{AllSpellPaths, is_registered}
use Rattle.wx_scan.specs.Told.{IsNamed, SpellsPath, has_link_above, is_fault, is_link_node, kind_of}
use Rattle.wx_scan.specs.declared.scanner.ScanError.{ScanError}
use Rattle.wx_scan.specs.declared.scanner.ScanError.TheVariants.{Io, Memory as OutOfMemory, NotFound}
use Rattle.wx_scan.proofs.LookLemmas.{spells_place}
use Rattle.wx_poller.specs.declared.seen.Seen.{Seen}
use Rattle.wx_poller.specs.Fitting.{Agrees, Answers, IsKnown, any_shows, is_spelled, shown, shows, type_of}
use Rattle.wx_poller.specs.Listings.{Sight, is_dir, seen_at, type_at}

-- bytes that spell a path are spelled by their place
pub spelled_of : (t : Tree) (q : Path) (bytes : List ℕ) → SpellsPath t q bytes → is_spelled bytes ≡ true
spelled_of t q bytes s = ap (λ x. same_part (spelled x) bytes) (spells_place t q bytes s) ∙ (ap (λ b. same_part (spelled q) b) s.spelled ∙ same_part-refl (spelled q))

-- what stands at a path of a directory is a path of the tree
entry_spelled : (t : Tree) (q c : Path) → IsNamed t → has_link_above t q ≡ false → node_at t q ≡ Some Dir → has_entry q c ≡ true → is_there t c ≡ true → SpellsPath t c (spelled c)
entry_spelled t q [] named l d h i = absurd cc
entry_spelled t q (x ∷ c) named l d h i =
    let e : q ≡ c = same-true q c h in
    record { spelled = refl; names = named (x ∷ c) i; no_link = (let m : node_at t c ≡ Some Dir = ap (node_at t) (sym e) ∙ d in let k : has_link_above t c ≡ false = ap (has_link_above t) (sym e) ∙ l in rw (m, k) refl) }

-- the entries of a directory are paths of the tree
pub entries_spelled : (t : Tree) (q : Path) (bytes : List ℕ) (cs : List Path) → IsNamed t → SpellsPath t q bytes → node_at t q ≡ Some Dir → ((c : Path) → In c cs → (has_entry q c ≡ true) × (is_there t c ≡ true)) → AllSpellPaths t (map spelled cs)
entries_spelled t q bytes [] named s d h = tt
entries_spelled t q bytes (c ∷ cs) named s d h =
    let k = h c (inl refl) in
    ((c, entry_spelled t q c named s.no_link d k.0 k.1), entries_spelled t q bytes cs named s d (λ e i. h e (inr i)))

there_type : (n : Option Node) (T : Option FileType) → type_of n ≡ T → is_there_node n ≡ false → T ≡ None
there_type None T e h = sym e
there_type (Some Dir) T e h = absurd cc
there_type (Some (File stamp)) T e h = absurd cc
there_type (Some (Link target)) T e h = absurd cc

registered_in : (cs : List Path) (p : List ℕ) → is_registered p (map spelled cs) ≡ true → (c : Path) × In c cs × (spelled c ≡ p)
registered_in [] p h = absurd cc
registered_in (c ∷ cs) p h =
    elim (cases_Bool (same_part (spelled c) p)) [
      | inl a ↦ (c, inl refl, same_part-true (spelled c) p a)
      | inr a ↦ (let more = registered_in cs p (rw a at h) in (more.0, inr more.1, more.2))
    ]

in_registered : (cs : List Path) (c : Path) → In c cs → is_registered (spelled c) (map spelled cs) ≡ true
in_registered [] c h = absurd h
in_registered (x ∷ cs) c (inl e) = (let k : same_part (spelled x) (spelled c) ≡ true = ap (λ y. same_part (spelled y) (spelled c)) e ∙ same_part-refl (spelled c) in rw k refl)
in_registered (x ∷ cs) c (inr h) = (let k = in_registered cs c h in or_right (same_part (spelled x) (spelled c)) (is_registered (spelled c) (map spelled cs)) k)

abbrev Kind : Type 0
Kind = Option FileType

-- what a path that is no directory shows
pub shown_leaf : (t : Tree) (q : Path) (bytes p : List ℕ) → SpellsPath t q bytes → is_directory t q ≡ false → shown t (bytes ∷ []) p ≡ cond (same_part bytes p) (type_of (node_at t q)) None
shown_leaf t q bytes p s d =
    elim (cases_Bool (same_part bytes p)) [
      | inl a ↦ (let e : bytes ≡ p = same_part-true bytes p a in
          let k : is_spelled p ≡ true = ap is_spelled (sym e) ∙ spelled_of t q bytes s in
          let m : place p ≡ q = ap place (sym e) ∙ spells_place t q bytes s in
          rw (a, k, m) refl)
      | inr a ↦ (let m : is_directory t (place bytes) ≡ false = ap (is_directory t) (spells_place t q bytes s) ∙ d in rw (a, m) refl)
    ]

absent_kind : (t : Tree) (c : Path) → is_there t c ≡ false → type_of (node_at t c) ≡ None
absent_kind t c h = there_type (node_at t c) (type_of (node_at t c)) refl h

-- what is no entry of a directory isn't shown by it
hidden : (t : Tree) (q : Path) (cs : List Path) (p : List ℕ) → IsListing t q cs → is_registered p (map spelled cs) ≡ false
    → (e s : Bool) → has_entry q (place p) ≡ e → is_spelled p ≡ s → cond (e && s) (type_of (node_at t (place p))) None ≡ None
hidden t q cs p l h false s he hs = refl
hidden t q cs p l h true false he hs = refl
hidden t q cs p l h true true he hs =
    elim (cases_Bool (is_there t (place p))) [
      | inl a ↦ absurd (both_ways (is_registered p (map spelled cs)) h (ap (λ x. is_registered x (map spelled cs)) (sym (same_part-true (spelled (place p)) p hs)) ∙ in_registered cs (place p) (l.all (place p) he a)))
      | inr a ↦ absent_kind t (place p) a
    ]

-- an entry is shown by its directory
entry_shown : (t : Tree) (q c : Path) (p : List ℕ) → SpellsPath t c p → has_entry q c ≡ true → (has_entry q (place p) && is_spelled p) ≡ true
entry_shown t q c p s h = (let a : has_entry q (place p) ≡ true = ap (has_entry q) (spells_place t c p s) ∙ h in rw (a, spelled_of t c p s) refl)

-- what a directory shows
pub shown_directory : (t : Tree) (q : Path) (bytes p : List ℕ) (cs : List Path) → IsNamed t → SpellsPath t q bytes → node_at t q ≡ Some Dir → IsListing t q cs
    → shown t (bytes ∷ []) p ≡ cond (same_part bytes p) (Some type.Dir) (cond (is_registered p (map spelled cs)) (type_of (node_at t (place p))) None)
shown_directory t q bytes p cs named s d l =
    elim (cases_Bool (same_part bytes p)) [
      | inl a ↦ (let e : bytes ≡ p = same_part-true bytes p a in
          let k : is_spelled p ≡ true = ap is_spelled (sym e) ∙ spelled_of t q bytes s in
          let m : node_at t (place p) ≡ Some Dir = ap (node_at t) (ap place (sym e) ∙ spells_place t q bytes s) ∙ d in
          rw (a, k, m) refl)
      | inr a ↦ (
          let m : node_at t (place bytes) ≡ Some Dir = ap (node_at t) (spells_place t q bytes s) ∙ d in
          let n : has_entry (place bytes) (place p) ≡ has_entry q (place p) = ap (λ x. has_entry x (place p)) (spells_place t q bytes s) in
          elim (cases_Bool (is_registered p (map spelled cs))) [
            | inl b ↦ (let r = registered_in cs p b in
                let sp : SpellsPath t r.0 p = subst (SpellsPath t r.0) r.2 (entry_spelled t q r.0 named s.no_link d (l.each r.0 r.1) (l.there r.0 r.1)) in
                let z : (has_entry q (place p) && is_spelled p) ≡ true = entry_shown t q r.0 p sp (l.each r.0 r.1) in
                rw (a, b, m, n, or-false (has_entry q (place p)), z) refl)
            | inr b ↦ rw (a, b, m, n, or-false (has_entry q (place p))) (hidden t q cs p l b (has_entry q (place p)) (is_spelled p) refl refl)
          ])
    ]

-- ---- one after the other

pub shown_both : (a b : Bool) (T x : Kind) → option_or (cond b T None) (option_or (cond a T None) x) ≡ option_or (cond (a || b) T None) x
shown_both true true None x = refl
shown_both true true (Some k) x = refl
shown_both true false T x = refl
shown_both false b T x = refl

pub shown_next : (t : Tree) (r : List ℕ) (rs : List (List ℕ)) (p : List ℕ) (old new : List Sight) → type_at new p ≡ option_or (shown t (r ∷ []) p) (type_at old p)
    → option_or (shown t rs p) (type_at new p) ≡ option_or (shown t (r ∷ rs) p) (type_at old p)
shown_next t r rs p old new h = rw h (next (shows t r p) (any_shows t rs p) (is_spelled p) (type_of (node_at t (place p))) (type_at old p))
  where
    next : (a b s : Bool) (T x : Kind) → option_or (cond (b && s) T None) (option_or (cond ((a || false) && s) T None) x) ≡ option_or (cond ((a || b) && s) T None) x
    next true true true None x = refl
    next true true true (Some k) x = refl
    next true true false T x = refl
    next true false true T x = refl
    next true false false T x = refl
    next false true s T x = refl
    next false false s T x = refl

pub entry_next : (p r : List ℕ) (rs : List (List ℕ)) (T : Kind) (old new : List Sight) → type_at new p ≡ option_or (cond (same_part r p) T None) (type_at old p)
    → option_or (cond (is_registered p rs) T None) (type_at new p) ≡ option_or (cond (is_registered p (r ∷ rs)) T None) (type_at old p)
entry_next p r rs T old new h = rw h (shown_both (same_part r p) (is_registered p rs) T (type_at old p))

-- what a look found is put
pub leaf_put : (b : Bool) (T x y : Kind) (k : FileType) → y ≡ cond b (Some k) x → Some k ≡ T → y ≡ option_or (cond b T None) x
leaf_put true T x y k e h = e ∙ ap (λ (z : Kind). option_or z x) h
leaf_put false T x y k e h = e

pub leaf_absent : (b : Bool) (T x : Kind) → None ≡ T → x ≡ option_or (cond b T None) x
leaf_absent true T x h = ap (λ (z : Kind). option_or z x) h
leaf_absent false T x h = refl

pub directory_put : (b r : Bool) (T x y z : Kind) → y ≡ option_or (cond r T None) x → z ≡ cond b (Some type.Dir) y → z ≡ option_or (cond b (Some type.Dir) (cond r T None)) x
directory_put true r T x y z e h = h
directory_put false r T x y z e h = h ∙ e

-- a path and its bytes
pub entry_put : (t : Tree) (q : Path) (bytes p : List ℕ) (old new : List Sight) (k : FileType) → SpellsPath t q bytes → type_at new p ≡ cond (same_part bytes p) (Some k) (type_at old p)
    → Some k ≡ type_of (node_at t q) → type_at new p ≡ option_or (cond (same_part bytes p) (type_of (node_at t (place p))) None) (type_at old p)
entry_put t q bytes p old new k s e h =
    elim (cases_Bool (same_part bytes p)) [
      | inl a ↦ (let m : place p ≡ q = ap place (sym (same_part-true bytes p a)) ∙ spells_place t q bytes s in
          let f : type_at new p ≡ Some k = e ∙ ap (λ b. cond b (Some k) (type_at old p)) a in
          rw (a, f, m, sym h) refl)
      | inr a ↦ (let f : type_at new p ≡ type_at old p = e ∙ ap (λ b. cond b (Some k) (type_at old p)) a in rw (a, f) refl)
    ]

pub entry_absent : (t : Tree) (q : Path) (bytes p : List ℕ) (old : List Sight) → SpellsPath t q bytes
    → None ≡ type_of (node_at t q) → type_at old p ≡ option_or (cond (same_part bytes p) (type_of (node_at t (place p))) None) (type_at old p)
entry_absent t q bytes p old s h =
    elim (cases_Bool (same_part bytes p)) [
      | inl a ↦ (let m : place p ≡ q = ap place (sym (same_part-true bytes p a)) ∙ spells_place t q bytes s in rw (a, m, sym h) refl)
      | inr a ↦ rw a refl
    ]

pub answers_map : {X : Type 0} (r : Result X ScanError) (P Q : X → Type 0) → ((x : X) → P x → Q x) → Answers P r → Answers Q r
answers_map (Ok x) P Q f h = f x h
answers_map (Err e) P Q f h = h

-- in an empty listing nothing is seen
pub none_seen : (T : Kind) (p : List ℕ) (seen : List Sight) → seen ≡ [] → option_or T (type_at seen p) ≡ T
none_seen None p seen e = ap (λ es. type_at es p) e
none_seen (Some k) p seen e = refl

-- what was listed of a directory
pub directory_listed : (t : Tree) (q : Path) (bytes p : List ℕ) (entries : List (List ℕ)) (k : FileType) (cs : List Path) (old mid new : List Sight) → IsNamed t → SpellsPath t q bytes → node_at t q ≡ Some Dir → k ≡ type.Dir
    → entries ≡ map spelled cs → IsListing t q cs → type_at mid p ≡ option_or (cond (is_registered p entries) (type_of (node_at t (place p))) None) (type_at old p)
    → type_at new p ≡ cond (same_part bytes p) (Some k) (type_at mid p) → type_at new p ≡ option_or (shown t (bytes ∷ []) p) (type_at old p)
directory_listed t q bytes p entries k cs old mid new named s d e f l m h =
    let n : type_at mid p ≡ option_or (cond (is_registered p (map spelled cs)) (type_of (node_at t (place p))) None) (type_at old p) =
    m ∙ ap (λ ks. option_or (cond (is_registered p ks) (type_of (node_at t (place p))) None) (type_at old p)) f in
    let g : type_at new p ≡ cond (same_part bytes p) (Some type.Dir) (type_at mid p) = h ∙ ap (λ (z : FileType). cond (same_part bytes p) (Some z) (type_at mid p)) e in
    directory_put (same_part bytes p) (is_registered p (map spelled cs)) (type_of (node_at t (place p))) (type_at old p) (type_at mid p) (type_at new p) n g
    ∙ ap (λ (z : Kind). option_or z (type_at old p)) (sym (shown_directory t q bytes p cs named s d l))

no_directory : (n : Option Node) → None ≡ type_of n → is_directory_node n ≡ false
no_directory None e = refl
no_directory (Some Dir) e = absurd cc
no_directory (Some (File stamp)) e = absurd cc
no_directory (Some (Link target)) e = absurd cc

other_kind : (n : Option Node) (k : FileType) → is_dir k ≡ false → Some k ≡ type_of n → is_directory_node n ≡ false
other_kind None k a e = absurd cc
other_kind (Some Dir) type.Dir a e = absurd cc
other_kind (Some Dir) type.File a e = absurd cc
other_kind (Some Dir) type.Symlink a e = absurd cc
other_kind (Some Dir) type.Other a e = absurd cc
other_kind (Some (File stamp)) k a e = refl
other_kind (Some (Link target)) k a e = refl

pub directory_node : (n : Option Node) (k : FileType) → k ≡ type.Dir → Some k ≡ type_of n → n ≡ Some Dir
directory_node None k a e = absurd cc
directory_node (Some Dir) k a e = refl
directory_node (Some (File stamp)) k a e = (let f : Some type.Dir ≡ Some type.File = ap (λ (z : FileType). Some z) (sym a) ∙ e in absurd cc)
directory_node (Some (Link target)) k a e = (let f : Some type.Dir ≡ Some type.Symlink = ap (λ (z : FileType). Some z) (sym a) ∙ e in absurd cc)

pub is_not_there : (n : Option Node) → None ≡ type_of n → false ≡ is_there_node n
is_not_there None e = refl
is_not_there (Some Dir) e = absurd cc
is_not_there (Some (File stamp)) e = absurd cc
is_not_there (Some (Link target)) e = absurd cc

pub is_there_too : (n : Option Node) (k : FileType) → Some k ≡ type_of n → true ≡ is_there_node n
is_there_too None k e = absurd cc
is_there_too (Some Dir) k e = refl
is_there_too (Some (File stamp)) k e = refl
is_there_too (Some (Link target)) k e = refl

pub absent_listed : (t : Tree) (q : Path) (bytes p : List ℕ) (old : List Sight) → SpellsPath t q bytes → None ≡ type_of (node_at t q) → type_at old p ≡ option_or (shown t (bytes ∷ []) p) (type_at old p)
absent_listed t q bytes p old s e =
    leaf_absent (same_part bytes p) (type_of (node_at t q)) (type_at old p) e ∙ ap (λ (z : Kind). option_or z (type_at old p)) (sym (shown_leaf t q bytes p s (no_directory (node_at t q) e)))

pub leaf_listed : (t : Tree) (q : Path) (bytes p : List ℕ) (k : FileType) (old new : List Sight) → SpellsPath t q bytes → is_dir k ≡ false → Some k ≡ type_of (node_at t q)
    → type_at new p ≡ cond (same_part bytes p) (Some k) (type_at old p) → type_at new p ≡ option_or (shown t (bytes ∷ []) p) (type_at old p)
leaf_listed t q bytes p k old new s a e h =
    leaf_put (same_part bytes p) (type_of (node_at t q)) (type_at old p) (type_at new p) k h e ∙ ap (λ (z : Kind). option_or z (type_at old p)) (sym (shown_leaf t q bytes p s (other_kind (node_at t q) k a e)))

pub found_is : (x y : Option Seen) (T : Kind) → x ≡ y → option_map (λ s. s.file_type) x ≡ T → option_map (λ s. s.file_type) y ≡ T
found_is x y T e h = ap (λ (z : Option Seen). option_map (λ s. s.file_type) z) (sym e) ∙ h

pub known_memory : (e : ScanError) (Risen : Type 0) → IsKnown {X = Unit {0}} (Err e) → (is_fault {X = Unit {0}} (Err e) ≡ true → Risen) → (Risen → ⊥) → e ≡ OutOfMemory
known_memory NotFound Risen k f n = absurd k
known_memory (Io code) Risen k f n = absurd (n (f refl))
known_memory OutOfMemory Risen k f n = refl
