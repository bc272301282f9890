-- Each path is under its own identity.
use Rattle.std.proofs.Common.{◌≡◌, Bool, true, false, cond, List, [], ◌∷◌, refl, ap, sym, ◌∙◌, inl, inr, subst}
use Rattle.std.specs.Prelude.{◌&&◌, ◌||◌, not, Option, Some, map}
use Rattle.std.proofs.lemmas.Bool.{cases_Bool}
use Rattle.wx_tree.specs.Lists.{In}
use Rattle.wx_tree.specs.Paths.{Path, same}
use Rattle.wx_tree.specs.Roots.{same_root}
use Rattle.wx_tree.specs.Trees.{Tree, is_directory}
use Rattle.wx_tree.specs.declared.root.Root.{Root}
use Rattle.wx_tree.proofs.ListLemmas.{In-filter}
use Rattle.wx_tree.proofs.PathLemmas.{same-refl, same-true, same_truth, same-sym}
use Rattle.wx_recursor.specs.Guarding.{guards_of_others}
use Rattle.wx_recursor.specs.Holding.{has_met, is_lost, serves, still_known}
use Rattle.wx_recursor.specs.Identities.{guard_known, has_identity, has_known, identity_of, is_identity, is_other, known_path, same_identity}
use Rattle.wx_recursor.specs.Owners.{has_owner, has_path}
use Rattle.wx_recursor.specs.Seen.{identity_at}
use Rattle.wx_recursor.specs.Steps.{serving_registrations}
use Rattle.wx_recursor.specs.declared.known.Identity.{Identity}
use Rattle.wx_recursor.specs.declared.known.Identity.TheVariants.{Canonical, Lexical}
use Rattle.wx_recursor.specs.declared.known.Known.{Known}
use Rattle.wx_recursor.specs.declared.owner.GuardWatch.{GuardWatch}
use Rattle.wx_recursor.specs.declared.owner.Owner.{Owner}
use Rattle.wx_walk.specs.Machine.{has_guard, has_seen, release, unguard}
use Rattle.wx_settle.specs.Plain.{plain_guard}

-- identities that tell paths apart
abbrev pub Tells : (Path → Identity) → Type 0
Tells id = (p q : Path) → same_identity (id p) (id q) ≡ same p q

apart : (a b : Bool) (p q : Path) → (p ≡ q → a ≡ b) → same_identity (cond a (Canonical p) (Lexical p)) (cond b (Canonical q) (Lexical q)) ≡ same p q
apart true true p q e = refl
apart true false p q e = same_truth false (same p q) (λ h. cc) (λ h. let k : true ≡ false = e (same-true p q h) in cc)
apart false true p q e = same_truth false (same p q) (λ h. cc) (λ h. let k : false ≡ true = e (same-true p q h) in cc)
apart false false p q e = refl

pub tells_tree : (t : Tree) → Tells (identity_at t)
tells_tree t p q = apart (is_directory t p) (is_directory t q) p q (λ e. ap (is_directory t) e)

abbrev pub AllRight : (Path → Identity) → List Known → Type 0
AllRight id ks = (k : Known) → In k ks → k.identity ≡ id k.path

pub has_identity-path : (id : Path → Identity) → Tells id → (p : Path) (ks : List Known) → AllRight id ks → has_identity (id p) ks ≡ has_path p (map known_path ks)
has_identity-path id tells p [] right = refl
has_identity-path id tells p (k ∷ ks) right =
    let a : k.identity ≡ id k.path = right k (inl refl) in
    let b = has_identity-path id tells p ks (λ x h. right x (inr h)) in
    rw (a, tells k.path p, b) refl

other_none : (a b : Bool) → b ≡ a → (a && not b) ≡ false
other_none true b e = rw e refl
other_none false b e = refl

pub not_other : (id : Path → Identity) → Tells id → (p : Path) (ks : List Known) → AllRight id ks → is_other p (id p) ks ≡ false
not_other id tells p [] right = refl
not_other id tells p (k ∷ ks) right =
    let a : k.identity ≡ id k.path = right k (inl refl) in
    let b = not_other id tells p ks (λ x h. right x (inr h)) in
    let c : same_identity k.identity (id p) ≡ same k.path p = rw a (tells k.path p) in
    rw (other_none (same k.path p) (same_identity k.identity (id p)) c, b) refl

both_same : (a b : Bool) → b ≡ a → (a && b) ≡ a
both_same true b e = e
both_same false b e = refl

pub has_known-identity : (id : Path → Identity) → Tells id → (p : Path) (ks : List Known) → AllRight id ks → has_known p (id p) ks ≡ has_identity (id p) ks
has_known-identity id tells p [] right = refl
has_known-identity id tells p (k ∷ ks) right =
    let a : k.identity ≡ id k.path = right k (inl refl) in
    let b = has_known-identity id tells p ks (λ x h. right x (inr h)) in
    let c : same_identity k.identity (id p) ≡ same k.path p = rw a (tells k.path p) in
    rw (both_same (same k.path p) (same_identity k.identity (id p)) c, b, c) refl

-- the identity that a path is known under is its own
pub identity_right : (id : Path → Identity) (p : Path) (ks : List Known) (i : Identity) → AllRight id ks → identity_of p ks ≡ Some i → i ≡ id p
identity_right id p [] i right e = cc
identity_right id p (k ∷ ks) i right e =
    elim (cases_Bool (same k.path p)) [
      | inl a ↦
          let f : k.identity ≡ id k.path = right k (inl refl) in
          let g : Some k.identity ≡ Some i = rw a at e in
          let h : k.path ≡ p = same-true k.path p a in
          let m : k.identity ≡ i = cc in
          sym m ∙ f ∙ ap id h
      | inr a ↦ identity_right id p ks i (λ x h. right x (inr h)) (rw a at e)
    ]

pub known_there : (p : Path) (ks : List Known) (i : Identity) → identity_of p ks ≡ Some i → has_path p (map known_path ks) ≡ true
known_there p [] i e = cc
known_there p (k ∷ ks) i e =
    elim (cases_Bool (same k.path p)) [
      | inl a ↦ rw a refl
      | inr a ↦ rw a (known_there p ks i (rw a at e))
    ]

-- what is still known is what is owned

pub still_identity : (p : Path) (os : List Owner) (ks : List Known) → has_owner p os ≡ true → identity_of p (still_known os ks) ≡ identity_of p ks
still_identity p os [] h = refl
still_identity p os (k ∷ ks) h =
    let b = still_identity p os ks h in
    elim (cases_Bool (same k.path p)) [
      | inl a ↦
          let e : k.path ≡ p = same-true k.path p a in
          let f : has_owner k.path os ≡ true = rw e h in
          rw (f, a) refl
      | inr a ↦ elim (cases_Bool (has_owner k.path os)) [
        | inl f ↦ rw (f, a) b
        | inr f ↦ rw (f, a) b
      ]
    ]

still_path : (p : Path) (os : List Owner) (ks : List Known) → has_path p (map known_path (still_known os ks)) ≡ (has_owner p os && has_path p (map known_path ks))
still_path p os [] = elim (has_owner p os) as (λ b. false ≡ (b && false)) [ true ↦ refl | false ↦ refl ]
still_path p os (k ∷ ks) =
    let b = still_path p os ks in
    elim (cases_Bool (same k.path p)) [
      | inl a ↦
          let e : k.path ≡ p = same-true k.path p a in
          elim (cases_Bool (has_owner p os)) [
            | inl f ↦ let g : has_owner k.path os ≡ true = rw e f in rw (g, f, a) refl
            | inr f ↦ let g : has_owner k.path os ≡ false = rw e f in rw (g, f) (b ∙ rw f refl)
          ]
      | inr a ↦ elim (cases_Bool (has_owner k.path os)) [
        | inl f ↦ rw (f, a) b
        | inr f ↦ rw (f, a) b
      ]
    ]

pub still_right : (id : Path → Identity) (os : List Owner) (ks : List Known) → AllRight id ks → AllRight id (still_known os ks)
still_right id os ks right k h = let a = In-filter (λ k. has_owner k.path os) k ks h in right k a.0

true_and : (a b : Bool) → (a ≡ true → b ≡ true) → (a && b) ≡ a
true_and true b f = f refl
true_and false b f = refl

pub still_serves : (id : Path → Identity) → Tells id → (p : Path) (os : List Owner) (ks : List Known) → AllRight id ks → ((q : Path) → has_owner q os ≡ true → identity_of q ks ≡ Some (id q)) → has_identity (id p) (still_known os ks) ≡ has_owner p os
still_serves id tells p os ks right all =
    has_identity-path id tells p (still_known os ks) (still_right id os ks right)
    ∙ still_path p os ks
    ∙ true_and (has_owner p os) (has_path p (map known_path ks)) (λ h. known_there p ks (id p) (all p h))

pub guard_serves : (id : Path → Identity) → Tells id → (p : Path) (gs : List GuardWatch) → ((g : GuardWatch) → In g gs → g.identity ≡ id g.path) → has_identity (id p) (map guard_known gs) ≡ has_guard p (map plain_guard gs)
guard_serves id tells p [] right = refl
guard_serves id tells p (g ∷ gs) right =
    let a : g.identity ≡ id g.path = right g (inl refl) in
    let b = guard_serves id tells p gs (λ x h. right x (inr h)) in
    rw (a, tells g.path p, b) refl

pub guards_right : (id : Path → Identity) (gs : List GuardWatch) → ((g : GuardWatch) → In g gs → g.identity ≡ id g.path) → AllRight id (map guard_known gs)
guards_right id [] right k h = absurd h
guards_right id (g ∷ gs) right k (inl e) =
    let a : g.identity ≡ id g.path = right g (inl refl) in
    subst (λ x. x.identity ≡ id x.path) e a
guards_right id (g ∷ gs) right k (inr h) = guards_right id gs (λ x i. right x (inr i)) k h

-- the registrations that serve something
pub serving_release : (id : Path → Identity) → Tells id → (os : List Owner) (ks : List Known) (gs : List GuardWatch) (registrations : List Known)
    → AllRight id ks → ((q : Path) → has_owner q os ≡ true → identity_of q ks ≡ Some (id q)) → ((g : GuardWatch) → In g gs → g.identity ≡ id g.path) → AllRight id registrations
    → map known_path (serving_registrations (still_known os ks) gs registrations) ≡ release os (map plain_guard gs) (map known_path registrations)
serving_release id tells os ks gs [] right all guards regs_right = refl
serving_release id tells os ks gs (k ∷ registrations) right all guards regs_right =
    let a : k.identity ≡ id k.path = regs_right k (inl refl) in
    let b = serving_release id tells os ks gs registrations right all guards (λ x h. regs_right x (inr h)) in
    let c : serves (still_known os ks) gs k.identity ≡ (has_owner k.path os || has_guard k.path (map plain_guard gs)) =
    rw (a, still_serves id tells k.path os ks right all, guard_serves id tells k.path gs guards) refl in
    elim (cases_Bool (has_owner k.path os || has_guard k.path (map plain_guard gs))) [
      | inl h ↦ rw (c, h) (ap (λ xs. k.path ∷ xs) b)
      | inr h ↦ rw (c, h) b
    ]

pub unserved_plain : (r : Root) (gs : List GuardWatch) → map plain_guard (guards_of_others r gs) ≡ unguard r (map plain_guard gs)
unserved_plain r [] = refl
unserved_plain r (g ∷ gs) =
    let b = unserved_plain r gs in
    elim (cases_Bool (same_root r g.root)) [
      | inl h ↦ rw h b
      | inr h ↦ rw h (ap (λ xs. plain_guard g ∷ xs) b)
    ]

-- what a root has met it has seen

shuffle : (a b c : Bool) (x y : Bool) → x ≡ y → (((a && b) && c) || x) ≡ cond ((a && c) && b) true y
shuffle true true true x y e = refl
shuffle true true false x y e = e
shuffle true false true x y e = e
shuffle true false false x y e = e
shuffle false b c x y e = e

met_is : (id : Path → Identity) → Tells id → (p q : Path) (o : Option Identity) → o ≡ Some (id q) → is_identity (id p) o ≡ same p q
met_is id tells p q o e = rw e (tells q p ∙ same-sym q p)

pub met_seen : (id : Path → Identity) → Tells id → (r : Root) (p : Path) (ks : List Known) (os : List Owner) → ((q : Path) → has_owner q os ≡ true → identity_of q ks ≡ Some (id q)) → has_met r (id p) ks os ≡ has_seen r p os
met_seen id tells r p ks [] all = refl
met_seen id tells r p ks (o ∷ os) all =
    let a : identity_of o.path ks ≡ Some (id o.path) = all o.path (rw (same-refl o.path) refl) in
    let b = met_seen id tells r p ks os (λ q h. all q (rw h (elim (same o.path q) as (λ x. (x || true) ≡ true) [ true ↦ refl | false ↦ refl ]))) in
    let c : is_identity (id p) (identity_of o.path ks) ≡ same p o.path = met_is id tells p o.path (identity_of o.path ks) a in
    rw c (shuffle (same_root r o.root) o.seen (same p o.path) (has_met r (id p) ks os) (has_seen r p os) b)

-- no representative is lost

not_both : (a : Bool) → (a && not a) ≡ false
not_both true = refl
not_both false = refl

pub none_lost : (id : Path → Identity) → Tells id → (ks : List Known) (gs : List GuardWatch) (k : Known) → AllRight id ks → ((g : GuardWatch) → In g gs → g.identity ≡ id g.path) → k.identity ≡ id k.path → is_lost ks gs k ≡ false
none_lost id tells ks gs k right guards e =
    rw (e, has_known-identity id tells k.path ks right, has_known-identity id tells k.path (map guard_known gs) (guards_right id gs guards))
    (not_both (has_identity (id k.path) ks || has_identity (id k.path) (map guard_known gs)))
