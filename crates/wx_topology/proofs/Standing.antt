-- What stands for a path.
use Rattle.std.proofs.Common.{◌≡◌, ◌≤◌, ℕ, true, false, ◌||◌, List, [], ◌∷◌, ◌++◌, map, length, take, drop, get_or, append_assoc, arith, refl, ap, sym, subst, ◌∙◌, inl, inr}
use Rattle.std.proofs.lemmas.Bool.{cases_Bool}
use Rattle.std.proofs.lemmas.List.{append-nil}
use Rattle.wx_tree.specs.Paths.{Part, Path, same}
use Rattle.wx_tree.specs.Places.{AreParts, parts_spelled, place, spelled}
use Rattle.wx_tree.proofs.PathLemmas.{same-true}
use Rattle.wx_tree.proofs.PlaceLemmas.{place_parts, place_spelled}
use Rattle.wx_recursor.specs.Calls.{aliases_at, each_once, entries_of, identities_of, paths_of}
use Rattle.wx_recursor.specs.Identities.{same_identity}
use Rattle.wx_recursor.specs.Owners.{has_path}
use Rattle.wx_recursor.specs.declared.known.Identity.{Identity}
use Rattle.wx_recursor.specs.declared.known.Identity.TheVariants.{Canonical}
use Rattle.wx_recursor.specs.declared.known.Known.{Known}
use Rattle.wx_topology.specs.Entries.{entries_at, entries_in_each, entry_in, identities_at}

pub appends_two : {X : Type 0} (a b c xs ys zs : List X) → b ≡ a ++ xs → c ≡ b ++ ys → zs ≡ xs ++ ys → c ≡ a ++ zs
appends_two a b c xs ys zs e f g = f ∙ (ap (λ u. u ++ ys) e ∙ (append_assoc a xs ys ∙ ap (λ u. a ++ u) (sym g)))

pub paths_both : (i : Identity) (ks ls : List Known) → paths_of i (ks ++ ls) ≡ paths_of i ks ++ paths_of i ls
paths_both i [] ls = refl
paths_both i (k ∷ ks) ls =
    elim (cases_Bool (same_identity k.identity i)) [
      | inl e ↦ rw e (ap (λ ps. k.path ∷ ps) (paths_both i ks ls))
      | inr e ↦ rw e (paths_both i ks ls)
    ]

pub identities_both : (p : Path) (ks ls : List Known) → identities_of p (ks ++ ls) ≡ identities_of p ks ++ identities_of p ls
identities_both p [] ls = refl
identities_both p (k ∷ ks) ls =
    elim (cases_Bool (same k.path p)) [
      | inl e ↦ rw e (ap (λ is. k.identity ∷ is) (identities_both p ks ls))
      | inr e ↦ rw e (identities_both p ks ls)
    ]

pub all_identities : (p p' : Path) (ks ls : List Known) (a b c d : List Identity) → a ≡ [] → p' ≡ p → b ≡ a ++ Canonical p' ∷ [] → c ≡ b ++ identities_of p ks → d ≡ c ++ identities_of p ls → d ≡ identities_at p (ks ++ ls)
all_identities p p' ks ls a b c d none is e f g = rw (g, f, e, none, is, identities_both p ks ls) refl

-- entries

pub entry_place : (p d : Path) (bytes more : List ℕ) → AreParts p → 1 ≤ length p → bytes ≡ spelled d → place bytes ≡ d → more ≡ bytes ++ parts_spelled (take 1 p) → place more ≡ entry_in p d
entry_place [] d bytes more parts below e f g = absurd (omega arith)
entry_place (x ∷ p) [] bytes more parts below e f g = rw (g, e) (place_spelled (x ∷ []) (parts.0, tt))
entry_place (x ∷ p) (y ∷ d) bytes more parts below e f g =
    let known : AreParts (y ∷ d) = subst AreParts f (place_parts bytes) in
    rw (g, e) (place_spelled (x ∷ (y ∷ d)) (parts.0, known))

pub have_parts : (p : Path) (bytes : List ℕ) → place bytes ≡ p → AreParts p
have_parts p bytes e = subst AreParts e (place_parts bytes)

named_entries : (x : Part) (p : Path) (qs : List Path) → map (λ q. entry_in (x ∷ p) q) qs ≡ map (λ q. x ∷ q) qs
named_entries x p [] = refl
named_entries x p (q ∷ qs) = ap (λ rs. (x ∷ q) ∷ rs) (named_entries x p qs)

each_entries : (x : Part) (p : Path) (is : List Identity) (ks : List Known) → entries_in_each (x ∷ p) is ks ≡ entries_of x is ks
each_entries x p [] ks = refl
each_entries x p (i ∷ is) ks =
    ap (λ u. u ++ entries_in_each (x ∷ p) is ks) (named_entries x p (paths_of i ks)) ∙ ap (λ u. map (λ q. x ∷ q) (paths_of i ks) ++ u) (each_entries x p is ks)

pub all_entries : (p q : Path) (is : List Identity) (ks : List Known) → 1 ≤ length p → q ≡ drop 1 p → is ≡ identities_at q ks → entries_in_each p is ks ≡ entries_at p ks
all_entries [] q is ks below e f = absurd (omega arith)
all_entries (x ∷ p) q is ks below e f =
    let g : is ≡ identities_at p ks = f ∙ ap (λ z. identities_at z ks) e in
    ap (λ z. entries_in_each (x ∷ p) z ks) g ∙ each_entries x p (identities_at p ks) ks

pub no_entries : (p : Path) (ks : List Known) (out : List Path) → length p ≡ 0 → out ≡ out ++ entries_at p ks
no_entries [] ks out h = sym (append-nil out)
no_entries (x ∷ p) ks out h = absurd (omega arith)

pub all_aliases : (p : Path) (ks : List Known) → aliases_at p ks ≡ paths_of (Canonical p) ks ++ entries_at p ks
all_aliases [] ks = sym (append-nil (paths_of (Canonical []) ks))
all_aliases (x ∷ p) ks = refl

-- each once

once_has : (q : Path) (ps : List Path) → has_path q (each_once ps) ≡ has_path q ps
once_has q [] = refl
once_has q (p ∷ ps) =
    elim (cases_Bool (has_path p (each_once ps))) [
      | inl e ↦ elim (cases_Bool (same p q)) [
        | inl k ↦
            let is : p ≡ q = same-true p q k in
            let m : has_path q (each_once ps) ≡ true = (rw (← is) e) in
            rw (e, k) m
        | inr k ↦ rw (e, k) (once_has q ps)
      ]
      | inr e ↦ rw e (ap (λ b. same p q || b) (once_has q ps))
    ]

pub once_new : (p : Path) (ps : List Path) → 1 ≤ length ps → p ≡ get_or ps 0 p → has_path p (drop 1 ps) ≡ false → each_once ps ≡ p ∷ each_once (drop 1 ps)
once_new p [] h e f = absurd (omega arith)
once_new p (x ∷ ps) h e f =
    let k : has_path x (each_once ps) ≡ false = once_has x ps ∙ (rw (← e) f) in
    rw (k, ← e) refl

pub once_again : (p : Path) (ps : List Path) → 1 ≤ length ps → p ≡ get_or ps 0 p → has_path p (drop 1 ps) ≡ true → each_once (drop 1 ps) ≡ each_once ps
once_again p [] h e f = absurd (omega arith)
once_again p (x ∷ ps) h e f =
    let k : has_path x (each_once ps) ≡ true = once_has x ps ∙ (rw (← e) f) in
    rw k refl

pub once_pushed : (out more rest qs all : List Path) (p p' : Path) → out ++ each_once rest ≡ all → more ≡ out ++ p' ∷ [] → p' ≡ p → each_once rest ≡ p ∷ qs → more ++ qs ≡ all
once_pushed out more rest qs all p p' e f g h =
    let k : more ≡ out ++ p ∷ [] = f ∙ ap (λ z. out ++ z ∷ []) g in
    ap (λ z. z ++ qs) k ∙ (append_assoc out (p ∷ []) qs ∙ (ap (λ z. out ++ z) (sym h) ∙ e))
