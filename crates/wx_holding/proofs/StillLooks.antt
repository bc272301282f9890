-- Looks at a told tree, where no look fails: each finds what the tree says.
use Rattle.std.proofs.Common.{arith, ◌≡◌, ◌≤◌, ◌<◌, ℕ, zero, suc, true, false, List, [], ◌∷◌, Ok, Some, None, inl, inr, refl, ap, sym, ◌∙◌, subst, length, drop}
use Rattle.std.specs.Prelude.{IfOk, Option, Result, ◌⊎◌, map, not, if◌then◌else◌}
use Rattle.std.proofs.lemmas.Bool.{cases_Bool, and_right}
use Rattle.std.proofs.lemmas.Result.{IfOk-weaker}
use Rattle.wx_tree.specs.Lists.{In}
use Rattle.wx_tree.specs.Paths.{Path}
use Rattle.wx_tree.specs.Places.{AreParts, place, spelled}
use Rattle.wx_tree.specs.Trees.{Tree, guard_of, is_chain, is_chain_above, is_directory, is_directory_node, is_fit_node, is_safe, is_there, is_there_node, last_of_chain, node_at}
use Rattle.wx_tree.specs.declared.node.Node.{Node}
use Rattle.wx_tree.specs.declared.node.Node.TheVariants.{Dir, File, Link}
use Rattle.wx_tree.proofs.PlaceLemmas.{place_spelled}
use Rattle.wx_tree.proofs.Reaching.{chain_here}
use Rattle.wx_scan.specs.Looked.{Looked, OnlyLooks}
use Rattle.wx_scan.specs.Told.{AreNames, IsListed, IsNamed, Unlinked}
use Rattle.wx_scan.proofs.LookLemmas.{directory_no_link, no_link_above, names_parts}
use Rattle.wx_recursor.specs.Seen.{guard_found_at, identity_at, is_gap, look_at_node, root_found}
use Rattle.wx_recursor.specs.declared.answers.Found.{Found}
use Rattle.wx_recursor.specs.declared.answers.Found.TheVariants.{Barred, Entries, Here, Missing}
use Rattle.wx_recursor.specs.declared.answers.GuardFound.{GuardFound}
use Rattle.wx_recursor.specs.declared.answers.GuardFound.TheVariants.{At, Nowhere}
use Rattle.wx_recursor.specs.declared.answers.Look.{Look}
use Rattle.wx_recursor.specs.declared.answers.Look.TheVariants.{Absent, Broken, Directory, Linked, Other}
use Rattle.wx_recursor.specs.declared.known.Identity.{Identity}
use Rattle.wx_recursor.specs.declared.known.Identity.TheVariants.{Canonical, Lexical}
use Rattle.wx_holding.specs.Calm.{FindsEntries, IsReadable, IsStill, break_found, here_found}
use Rattle.wx_holding.proofs.StandingBy.{still_after}

-- ---- where no look fails, none of its parts does

-- ---- names are parts, and lie above names

names_above : (n : ℕ) (p : Path) → AreNames p → AreNames (drop n p)
names_above zero p h = h
names_above (suc n) [] h = h
names_above (suc n) (x ∷ p) h = names_above n p h.1

-- ---- below directories no link stands above

-- no link stands in a chain
-- a path of names below directories is readable
pub readable_below : (t : Tree) (p : Path) → AreNames p → is_chain_above t p ≡ true → IsReadable t p
readable_below t p names h = record { spelled = refl; names = names; no_link = no_link_above t p h }

readable_above : (t : Tree) (n : ℕ) (p above : Path) → above ≡ drop n p → AreNames p → is_chain_above t (drop n p) ≡ true → IsReadable t above
readable_above t n p above is names h = subst (λ q. IsReadable t q) (sym is) (readable_below t (drop n p) (names_above n p names) h)

-- ---- the way down

-- the way down goes on through a directory
chain_down : (t : Tree) (n m : ℕ) (p : Path) → suc m ≡ n → n ≤ length p → is_chain_above t (drop n p) ≡ true → is_directory t (drop n p) ≡ true → is_chain_above t (drop m p) ≡ true
chain_down t zero m p e le h k = absurd (omega (arith, e))
chain_down t (suc n) m [] e le h k = absurd (omega (arith, le))
chain_down t (suc n) zero (x ∷ p) e le h k = (let z : n ≡ 0 = omega (arith, e) in chain_here t p (rw z at h) (rw z at k))
chain_down t (suc n) (suc m) (x ∷ p) e le h k = chain_down t n m p (omega (arith, e)) (omega (arith, le)) h k

chain_top : (t : Tree) (p : Path) → is_chain_above t (drop (length p) p) ≡ true
chain_top t [] = refl
chain_top t (x ∷ p) = chain_top t p

-- it begins at /
chain_begins : (t : Tree) (n : ℕ) (p : Path) → n ≡ length p → is_chain_above t (drop n p) ≡ true
chain_begins t n p e = rw e (chain_top t p)

broken_here : (t : Tree) (p : Path) → is_directory t p ≡ false → is_chain t p ≡ false
broken_here t [] h = h
broken_here t (x ∷ p) h = rw h refl

-- what is no directory breaks each chain through it
broken_below : (t : Tree) (n : ℕ) (p : Path) → is_directory t (drop n p) ≡ false → is_chain t p ≡ false
broken_below t zero p h = broken_here t p h
broken_below t (suc n) [] h = broken_here t [] h
broken_below t (suc n) (x ∷ p) h = and_right (is_directory t (x ∷ p)) (is_chain t p) (broken_below t n p h)

-- ---- looks

look_directory : (p c : Path) (n : Option Node) → look_at_node p n ≡ Directory c → (is_directory_node n ≡ true) × (c ≡ p)
look_directory p c None h = cc
look_directory p c (Some Dir) h = (refl, cc)
look_directory p c (Some (File stamp)) h = cc
look_directory p c (Some (Link target)) h = cc

look_absent : (p : Path) (n : Option Node) → look_at_node p n ≡ Absent → n ≡ None
look_absent p None h = refl
look_absent p (Some Dir) h = cc
look_absent p (Some (File stamp)) h = cc
look_absent p (Some (Link target)) h = cc

look_linked : (p : Path) (n : Option Node) → look_at_node p n ≡ Linked → (target : List ℕ) × (n ≡ Some (Link target))
look_linked p None h = cc
look_linked p (Some Dir) h = cc
look_linked p (Some (File stamp)) h = cc
look_linked p (Some (Link target)) h = (target, refl)

look_other : (p : Path) (n : Option Node) → look_at_node p n ≡ Other → (stamp : ℕ) × (n ≡ Some (File stamp))
look_other p None h = cc
look_other p (Some Dir) h = cc
look_other p (Some (File stamp)) h = (stamp, refl)
look_other p (Some (Link target)) h = cc

look_broken : (p : Path) (c : ℕ) (n : Option Node) (X : Type 0) → look_at_node p n ≡ Broken c → X
look_broken p c None X h = cc
look_broken p c (Some Dir) X h = cc
look_broken p c (Some (File stamp)) X h = cc
look_broken p c (Some (Link target)) X h = cc

-- what is said of a look at a path above
pub finds_above : (t : Tree) (n : ℕ) (p above : Path) (l : Look) (a b c : Looked) → OnlyLooks a b → above ≡ drop n p → is_chain_above t (drop n p) ≡ true → IsStill t a c → AreNames p → (IsStill t b c → IsReadable t above → l ≡ look_at_node above (node_at t above))
    → l ≡ look_at_node above (node_at t above)
finds_above t n p above l a b c before is way still names told = told (still_after t a b c before still) (readable_above t n p above is names way)

-- a look that finds no directory
abbrev pub IsNoDirectory : Look → Type 0
IsNoDirectory l = (l ≡ Absent) ⊎ ((l ≡ Linked) ⊎ ((l ≡ Other) ⊎ ((code : ℕ) × (l ≡ Broken code))))

no_directory : (p : Path) (l : Look) (n : Option Node) → l ≡ look_at_node p n → IsNoDirectory l → is_directory_node n ≡ false
no_directory p l None e h = refl
no_directory p l (Some Dir) e h = elim h [
  | inl absent ↦ (let z : Directory p ≡ Absent = sym e ∙ absent in cc)
  | inr more ↦ elim more [
    | inl linked ↦ (let z : Directory p ≡ Linked = sym e ∙ linked in cc)
    | inr rest ↦ elim rest [
      | inl other ↦ (let z : Directory p ≡ Other = sym e ∙ other in cc)
      | inr broken ↦ (let z : Directory p ≡ Broken broken.0 = sym e ∙ broken.1 in cc)
    ]
  ]
]
no_directory p l (Some (File stamp)) e h = refl
no_directory p l (Some (Link target)) e h = refl

-- ---- the search for a guard

-- the last directory above this level is found, and the way down to the level is one
pub record IsLastAt (t : Tree) (level : ℕ) (p : Path) (found : GuardFound) : Type 0 where
  pub way : is_chain_above t (drop level p) ≡ true
  pub last : found ≡ guard_found_at (guard_of t (drop level p))

drop_all : (p : Path) → drop (length p) p ≡ []
drop_all [] = refl
drop_all (x ∷ p) = drop_all p

pub last_begins : (t : Tree) (n : ℕ) (p : Path) → n ≡ length p → IsLastAt t n p Nowhere
last_begins t n p e = record { way = chain_begins t n p e; last = (let z : drop n p ≡ [] = ap (λ k. drop k p) e ∙ drop_all p in rw z refl) }

last_whole : (t : Tree) (p : Path) → is_chain t p ≡ true → last_of_chain t p ≡ Some p
last_whole t [] h = rw h refl
last_whole t (x ∷ p) h = rw h refl

guard_next : (t : Tree) (n m : ℕ) (p : Path) → suc m ≡ n → n ≤ length p → is_chain t (drop n p) ≡ true → guard_of t (drop m p) ≡ Some (drop n p)
guard_next t zero m p e le h = absurd (omega (arith, e))
guard_next t (suc n) m [] e le h = absurd (omega (arith, le))
guard_next t (suc n) zero (x ∷ p) e le h = (let z : n ≡ 0 = omega (arith, e) in rw z (last_whole t p (rw z at h)))
guard_next t (suc n) (suc m) (x ∷ p) e le h = guard_next t n m p (omega (arith, e)) (omega (arith, le)) h

-- a directory more
pub last_goes_on : (t : Tree) (n m : ℕ) (p above canonical : Path) (found : GuardFound) (l : Look) → suc m ≡ n → n ≤ length p → above ≡ drop n p → l ≡ look_at_node above (node_at t above) → l ≡ Directory canonical → IsLastAt t n p found
    → IsLastAt t m p (At above (Canonical canonical))
last_goes_on t n m p above canonical found l e le is looked there h =
    let at = look_directory above canonical (node_at t above) (sym looked ∙ there) in
    let directory : is_directory t (drop n p) ≡ true = subst (λ q. is_directory t q ≡ true) is at.0 in
    let chain : is_chain t (drop n p) ≡ true = chain_here t (drop n p) h.way directory in
    record {
      way = chain_down t n m p e le h.way directory;
      last = ap (λ q. At above (Canonical q)) at.1 ∙ (ap (λ q. At q (Canonical q)) is ∙ ap guard_found_at (sym (guard_next t n m p e le chain)));
    }

last_broken : (t : Tree) (n : ℕ) (p : Path) → is_directory t (drop n p) ≡ false → last_of_chain t p ≡ guard_of t (drop n p)
last_broken t zero [] h = rw h refl
last_broken t zero (x ∷ p) h = rw (broken_here t (x ∷ p) h) refl
last_broken t (suc n) [] h = rw h refl
last_broken t (suc n) (x ∷ p) h = rw (broken_below t (suc n) (x ∷ p) h) (last_broken t n p h)

guard_broken : (t : Tree) (n : ℕ) (p : Path) → 1 ≤ n → is_directory t (drop n p) ≡ false → guard_of t p ≡ guard_of t (drop n p)
guard_broken t zero p le h = absurd (omega (arith, le))
guard_broken t (suc n) [] le h = refl
guard_broken t (suc n) (x ∷ p) le h = last_broken t n p h

-- no directory ends the search
pub last_ends : (t : Tree) (n : ℕ) (p above : Path) (found : GuardFound) (l : Look) → 1 ≤ n → above ≡ drop n p → l ≡ look_at_node above (node_at t above) → IsNoDirectory l → IsLastAt t n p found → found ≡ guard_found_at (guard_of t p)
last_ends t n p above found l le is looked none h =
    let broken : is_directory t (drop n p) ≡ false = subst (λ q. is_directory t q ≡ false) is (no_directory above l (node_at t above) looked none) in
    h.last ∙ ap guard_found_at (sym (guard_broken t n p le broken))

pub last_done : (t : Tree) (n : ℕ) (p : Path) (found : GuardFound) → n < 1 → IsLastAt t n p found → found ≡ guard_found_at (guard_of t p)
last_done t zero p found le h = h.last
last_done t (suc n) p found le h = absurd (omega (arith, le))

-- ---- the way down to a path

gap_here : (t : Tree) (p : Path) → is_chain_above t p ≡ true → is_gap t p ≡ not (is_there t p)
gap_here t [] h = refl
gap_here t (x ∷ p) h = rw h refl

-- the first break decides
gap_broken : (t : Tree) (n : ℕ) (p : Path) → n ≤ length p → is_chain_above t (drop n p) ≡ true → is_directory t (drop n p) ≡ false → is_gap t p ≡ not (is_there t (drop n p))
gap_broken t zero p le h k = gap_here t p h
gap_broken t (suc n) [] le h k = absurd (omega (arith, le))
gap_broken t (suc n) (x ∷ p) le h k = rw (broken_below t n p k) (gap_broken t n p (omega (arith, le)) h k)

above_broken : (t : Tree) (n : ℕ) (p : Path) → 1 ≤ n → n ≤ length p → is_directory t (drop n p) ≡ false → is_chain_above t p ≡ false
above_broken t zero p one le k = absurd (omega (arith, one))
above_broken t (suc n) [] one le k = absurd (omega (arith, le))
above_broken t (suc n) (x ∷ p) one le k = broken_below t n p k

break_at : (t : Tree) (n : ℕ) (p : Path) → 1 ≤ n → n ≤ length p → is_chain_above t (drop n p) ≡ true → is_directory t (drop n p) ≡ false → break_found t p ≡ Some (if is_there t (drop n p) then Barred else Missing)
break_at t n p one le h k =
    elim (cases_Bool (is_there t (drop n p))) [
      | inl e ↦ rw (above_broken t n p one le k, gap_broken t n p le h k, e) refl
      | inr e ↦ rw (above_broken t n p one le k, gap_broken t n p le h k, e) refl
    ]

-- nothing is there
pub breaks_absent : (t : Tree) (n : ℕ) (p above : Path) (l : Look) → 1 ≤ n → n ≤ length p → above ≡ drop n p → l ≡ look_at_node above (node_at t above) → l ≡ Absent → is_chain_above t (drop n p) ≡ true → Some Missing ≡ break_found t p
breaks_absent t n p above l one le is looked there h =
    let none : node_at t (drop n p) ≡ None = ap (node_at t) (sym is) ∙ look_absent above (node_at t above) (sym looked ∙ there) in
    sym (break_at t n p one le h (rw none refl) ∙ rw none refl)

-- something that is no directory is there
pub breaks_barred : (t : Tree) (n : ℕ) (p above : Path) (l : Look) → 1 ≤ n → n ≤ length p → above ≡ drop n p → l ≡ look_at_node above (node_at t above) → (l ≡ Linked) ⊎ (l ≡ Other) → is_chain_above t (drop n p) ≡ true → Some Barred ≡ break_found t p
breaks_barred t n p above l one le is looked there h =
    elim there [
      | inl linked ↦
          (let node = look_linked above (node_at t above) (sym looked ∙ linked) in
          let at : node_at t (drop n p) ≡ Some (Link node.0) = ap (node_at t) (sym is) ∙ node.1 in
          sym (break_at t n p one le h (rw at refl) ∙ rw at refl))
      | inr other ↦
          (let node = look_other above (node_at t above) (sym looked ∙ other) in
          let at : node_at t (drop n p) ≡ Some (File node.0) = ap (node_at t) (sym is) ∙ node.1 in
          sym (break_at t n p one le h (rw at refl) ∙ rw at refl))
    ]

pub never_broken : (t : Tree) (above : Path) (code : ℕ) (l : Look) (X : Type 0) → l ≡ look_at_node above (node_at t above) → l ≡ Broken code → X
never_broken t above code l X looked there = look_broken above code (node_at t above) X (sym looked ∙ there)

-- the way down goes on through a directory
pub way_goes_on : (t : Tree) (n m : ℕ) (p above canonical : Path) (l : Look) → suc m ≡ n → n ≤ length p → above ≡ drop n p → l ≡ look_at_node above (node_at t above) → l ≡ Directory canonical → is_chain_above t (drop n p) ≡ true → is_chain_above t (drop m p) ≡ true
way_goes_on t n m p above canonical l e le is looked there h =
    let at = look_directory above canonical (node_at t above) (sym looked ∙ there) in
    chain_down t n m p e le h (subst (λ q. is_directory t q ≡ true) is at.0)

-- nothing breaks it
pub way_done : (t : Tree) (n : ℕ) (p : Path) → n < 1 → is_chain_above t (drop n p) ≡ true → None ≡ break_found t p
way_done t zero p lt h = rw h refl
way_done t (suc n) p lt h = absurd (omega (arith, lt))

-- ---- a root

way_unbroken : (t : Tree) (p : Path) → None ≡ break_found t p → is_chain_above t p ≡ true
way_unbroken t p h =
    elim (cases_Bool (is_chain_above t p)) [
      | inl e ↦ e
      | inr e ↦ (let z : break_found t p ≡ Some (if is_gap t p then Missing else Barred) = rw e refl in let y : None ≡ Some (if is_gap t p then Missing else Barred) = h ∙ z in cc)
    ]

here_root : (p : Path) (n : Option Node) → here_found p n ≡ (if is_fit_node n then Here (if is_directory_node n then Canonical p else Lexical p) else if not (is_there_node n) then Missing else Barred)
here_root p None = refl
here_root p (Some Dir) = refl
here_root p (Some (File stamp)) = refl
here_root p (Some (Link target)) = refl

here_is_root : (t : Tree) (p : Path) → is_chain_above t p ≡ true → here_found p (node_at t p) ≡ root_found t p
here_is_root t p h = rw (h, gap_here t p h) (here_root p (node_at t p))

-- nothing breaks the way down to a root: what the path itself is decides
pub root_unbroken : {E : Type 0} (t : Tree) (p : Path) (r : Result Found E) → None ≡ break_found t p → AreNames p → (IsReadable t p → IfOk r (λ found. found ≡ here_found p (node_at t p))) → IfOk r (λ found. found ≡ root_found t p)
root_unbroken t p r none names told =
    let way = way_unbroken t p none in
    IfOk-weaker r (λ found. found ≡ here_found p (node_at t p)) (λ found. found ≡ root_found t p) (λ found e. e ∙ here_is_root t p way) (told (readable_below t p names way))

-- a root at which something else was found isn't safe
pub unsafe_found : (t : Tree) (p : Path) (f g : Found) → f ≡ root_found t p → f ≡ g → ((i : Identity) → g ≡ Here i → ⊥) → false ≡ is_safe t p
unsafe_found t p f g found is never =
    elim (cases_Bool (is_safe t p)) [
      | inl e ↦ (let z : root_found t p ≡ Here (identity_at t p) = rw e refl in absurd (never (identity_at t p) (sym is ∙ (found ∙ z))))
      | inr e ↦ sym e
    ]

-- ---- a listing

read_back : (cs : List Path) → ((c : Path) → In c cs → AreParts c) → map place (map spelled cs) ≡ cs
read_back [] each = refl
read_back (c ∷ cs) each = rw (place_spelled c (each c (inl refl)), read_back cs (λ x m. each x (inr m))) refl

-- what is listed at a directory are its entries
pub entries_found : (t : Tree) (p : Path) (bytes : List (List ℕ)) (places : List Path) → IsNamed t → IsReadable t p → is_directory t p ≡ true → places ≡ map place bytes → Unlinked (IsListed (Ok bytes)) t p → FindsEntries t p (Entries places)
entries_found t p bytes places named readable directory read listed =
    let entries = (listed (directory_no_link (node_at t p) directory)).1 directory in
    let cs : List Path = entries.0 in
    let back : map place (map spelled cs) ≡ cs = read_back cs (λ c m. names_parts c (named c (entries.2.there c m))) in
    (cs, ap Entries (read ∙ (ap (map place) entries.1 ∙ back)), entries.2)
