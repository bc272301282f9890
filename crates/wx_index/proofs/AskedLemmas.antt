-- What the first that is met says of a list, and what has the same key.
use Rattle.std.proofs.Common.{◌≡◌, ℕ, zero, suc, ◌+◌, ◌<◌, get_or, take, Bool, true, false, cond, Option, Some, None, List, [], ◌∷◌, ◌++◌, length, map, nat_lt, inl, inr, arith, refl, sym, ap, ◌∙◌}
use Rattle.std.specs.Prelude.{◌&&◌, ◌||◌, IfSome}
use Rattle.std.specs.Cmp.{both_ways}
use Rattle.std.proofs.lemmas.Bool.{cases_Bool, lt-ltb, ltb-true}
use Rattle.std.proofs.lemmas.List.{map-append}
use Rattle.std.proofs.lemmas.Option.{same_Some}
use Rattle.wx_tree.specs.Paths.{Path, same}
use Rattle.wx_tree.specs.Places.{spelled}
use Rattle.wx_tree.proofs.PathLemmas.{same-true}
use Rattle.wx_recursor.specs.Identities.{same_identity}
use Rattle.wx_recursor.specs.declared.known.Identity.{Identity}
use Rattle.wx_recursor.specs.declared.known.Identity.TheVariants.{Canonical, Lexical}
use Rattle.wx_recursor.specs.declared.known.Known.{Known}
use Rattle.wx_index.specs.declared.chains.Chains.{Chains}
use Rattle.wx_index.specs.Chained.{AreFound, Key, first_at}
use Rattle.wx_index.specs.Keys.{AreIndexed, AreKnown, identity_bytes}
use Rattle.wx_index.specs.declared.known_index.KnownIndex.{KnownIndex}

ltb_suc : (n m : ℕ) → nat_lt (suc n) (suc m) ≡ nat_lt n m
ltb_suc n m =
    both_ways (nat_lt (suc n) (suc m)) (nat_lt n m)
    (λ h. let lt = ltb-true (suc n) (suc m) h in lt-ltb n m (omega arith))
    (λ h. let lt = ltb-true n m h in lt-ltb (suc n) (suc m) (omega arith))

pub any_is : {X : Type 0} (F : List X → Bool) (asks : X → Bool) → F [] ≡ false → ((x : X) (xs : List X) → F (x ∷ xs) ≡ (asks x || F xs)) → (xs : List X) → nat_lt (first_at asks xs) (length xs) ≡ F xs
any_is F asks none more [] = sym none
any_is F asks none more (x ∷ xs) =
    elim (cases_Bool (asks x)) [
      | inl a ↦ rw (more x xs, a) (lt-ltb 0 (suc (length xs)) (omega arith))
      | inr a ↦ rw (more x xs, a) (ltb_suc (first_at asks xs) (length xs) ∙ any_is F asks none more xs)
    ]

pub any_at : {X : Type 0} (F : List X → Bool) (asks : X → Bool) (xs : List X) (n : ℕ) → F [] ≡ false → ((x : X) (xs : List X) → F (x ∷ xs) ≡ (asks x || F xs)) → n ≡ first_at asks xs → nat_lt n (length xs) ≡ F xs
any_at F asks xs n none more e = rw e (any_is F asks none more xs)

pub same_bytes : (p q : Path) (bytes : List ℕ) → bytes ≡ spelled q → same p q ≡ true → spelled p ≡ bytes
same_bytes p q bytes e h = ap spelled (same-true p q h) ∙ sym e

pub same_bytes_back : (p q : Path) (bytes : List ℕ) → bytes ≡ spelled q → same q p ≡ true → spelled p ≡ bytes
same_bytes_back p q bytes e h = ap spelled (sym (same-true q p h)) ∙ sym e

pub same_identity_bytes : (i j : Identity) (bytes : List ℕ) → bytes ≡ identity_bytes j → same_identity i j ≡ true → identity_bytes i ≡ bytes
same_identity_bytes (Canonical p) (Canonical q) bytes e h = same_bytes p q bytes e h
same_identity_bytes (Canonical p) (Lexical q) bytes e h = cc
same_identity_bytes (Lexical p) (Canonical q) bytes e h = cc
same_identity_bytes (Lexical p) (Lexical q) bytes e h = same_bytes p q bytes e h

pub grown_found : {X : Type 0} (key : X → Key) (ks : List X) (x : X) (bytes : Key) (new : Chains) → bytes ≡ key x → AreFound (map key ks ++ bytes ∷ []) new → AreFound (map key (ks ++ x ∷ [])) new
grown_found key ks x bytes new e h = rw (map-append key ks (x ∷ []), ← e) h

pub indexed_some : (ks : List Known) (o : Option KnownIndex) (index : KnownIndex) → o ≡ Some index → AreIndexed ks o → AreKnown ks index
indexed_some ks None index e h = cc
indexed_some ks (Some i) index e h = (let f = same_Some i index e in rw (← f) h)

taken_suc : {X : Type 0} (xs : List X) (i : ℕ) (x : X) → i < length xs → x ≡ get_or xs i x → take (suc i) xs ≡ take i xs ++ x ∷ []
taken_suc [] i x lt e = absurd (omega arith)
taken_suc (y ∷ xs) zero x lt e = rw e refl
taken_suc (y ∷ xs) (suc i) x lt e = ap (λ zs. y ∷ zs) (taken_suc xs i x (omega arith) e)

pub taken_more : {X : Type 0} (xs : List X) (i : ℕ) (x : X) → i < length xs → x ≡ get_or xs i x → take (i + 1) xs ≡ take i xs ++ x ∷ []
taken_more xs i x lt e = (let f : i + 1 ≡ suc i = omega arith in ap (λ n. take n xs) f ∙ taken_suc xs i x lt e)

pub indexed_taken : (ks : List Known) (i : ℕ) (k : Known) (index : Option KnownIndex) → i < length ks → k ≡ get_or ks i k → AreIndexed (take i ks ++ k ∷ []) index → AreIndexed (take (i + 1) ks) index
indexed_taken ks i k index lt e h = rw (taken_more ks i k lt e) h
