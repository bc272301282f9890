-- The spelling of a type's values: which words they are, how these are read, and that the two agree.
use Rattle.std.specs.Prelude.{◌≡◌, ℕ, Bool, true, List}
use Rattle.std.specs.List.{AllByRecursion}
use Rattle.wx_words.specs.Combine.{Reader}
use Rattle.wx_words.specs.Forms.{IsForm}

-- what a word has to be, as a test shows it, and as what a word is seen where it is read
pub record Kind : Type 1 where
  pub Seen : Type 0
  pub see : List ℕ → Seen
  pub Ok : List ℕ → Type 0
  pub test : List ℕ → Bool
  pub tested : (w : List ℕ) → test w ≡ true → Ok w

pub record Spelling (kind : Kind) (X : Type 0) : Type 1 where
  pub fits : X → Type 0
  pub words : X → List (List ℕ)
  pub read : Reader X
  pub form : IsForm kind.see fits words read
  pub clean : (x : X) → fits x → AllByRecursion kind.Ok (words x)
