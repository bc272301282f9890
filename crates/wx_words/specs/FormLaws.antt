-- What stands at the front of words.
use Rattle.std.proofs.Common.{◌≡◌, ℕ, Option, Some, List, [], ◌∷◌, ◌++◌, map, refl, sym, ap, subst, ◌∙◌, append_assoc}
use Rattle.std.proofs.lemmas.List.{map-append}
use Rattle.wx_words.specs.Forms.{Stood}

pub stood-one : {V : Type 0} (see : List ℕ → V) (w v : List ℕ) (rest : List (List ℕ)) → see w ≡ see v → Stood see (v ∷ []) (w ∷ rest) rest
stood-one {V} see w v rest e = record { front = w ∷ []; parts = refl; same = ap (λ (o : V). o ∷ []) e }

pub stood-then : {V : Type 0} (see : List ℕ → V) (vs us ws mid rest : List (List ℕ)) → Stood see vs ws mid → Stood see us mid rest → Stood see (vs ++ us) ws rest
stood-then {V} see vs us ws mid rest p q = record {
  front = p.front ++ q.front;
  parts = p.parts ∙ ap (λ (t : List (List ℕ)). p.front ++ t) q.parts ∙ sym (append_assoc p.front q.front rest);
  same = map-append see p.front q.front ∙ ap (λ (t : List V). t ++ map see q.front) p.same ∙ ap (λ (t : List V). map see vs ++ t) q.same ∙ sym (map-append see vs us);
}

-- an answer and its rest, by parts
pub same_read : {X : Type 0} (P : X → List (List ℕ) → Type 0) (x y : X) (s r : List (List ℕ)) → ◌≡◌ {A = Option (X × List (List ℕ))} (Some (x, s)) (Some (y, r)) → P x s → P y r
same_read {X} P x y s r e h = let q : ◌≡◌ {A = X × List (List ℕ)} (x, s) (y, r) = cc in subst (λ (p : X × List (List ℕ)). P p.0 p.1) q h
