-- A form of words: how a value is spelled, and how it is read.
use Rattle.std.specs.Prelude.{◌≡◌, Option, Some, List, ◌++◌, ℕ, map}

-- these words stood at the front, as see sees them, and the rest behind them
pub record Stood {V : Type 0} (see : List ℕ → V) (words ws rest : List (List ℕ)) : Type 0 where
  pub front : List (List ℕ)
  pub parts : ws ≡ front ++ rest
  pub same : map see front ≡ map see words

pub record IsForm {V X : Type 0} (see : List ℕ → V) (fits : X → Type 0) (words : X → List (List ℕ)) (read : List (List ℕ) → Option (X × List (List ℕ))) : Type 0 where
  pub again : (x : X) (rest : List (List ℕ)) → fits x → read (words x ++ rest) ≡ Some (x, rest)
  pub takes : (ws : List (List ℕ)) (x : X) (rest : List (List ℕ)) → read ws ≡ Some (x, rest) → fits x × Stood see (words x) ws rest
