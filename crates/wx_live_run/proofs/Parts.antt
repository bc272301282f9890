-- Lists without some of their items.
use Rattle.std.proofs.Common.{List, [], ◌∷◌, ◌++◌, refl, inl, inr}
use Rattle.wx_live_run.specs.Subsequences.{IsSubsequence}

module _ {A : Type 0} where
  pub whole : (xs : List A) → IsSubsequence xs xs
  whole [] = tt
  whole (x ∷ xs) = inl (refl, whole xs)

  -- items may stand before
  behind : (ys us vs : List A) → IsSubsequence us vs → IsSubsequence us (ys ++ vs)
  behind [] us vs is = is
  behind (y ∷ ys) [] vs is = tt
  behind (y ∷ ys) (u ∷ us) vs is = inr (behind ys (u ∷ us) vs is)

  pub joined : (xs ys us vs : List A) → IsSubsequence xs ys → IsSubsequence us vs → IsSubsequence (xs ++ us) (ys ++ vs)
  joined [] ys us vs first second = behind ys us vs second
  joined (x ∷ xs) [] us vs first second = absurd first
  joined (x ∷ xs) (y ∷ ys) us vs (inl same) second = inl (same.0, joined xs ys us vs same.1 second)
  joined (x ∷ xs) (y ∷ ys) us vs (inr later) second = inr (joined (x ∷ xs) ys us vs later second)

  -- a front of such a list is one too
  pub front : (xs us ys : List A) → IsSubsequence (xs ++ us) ys → IsSubsequence xs ys
  front [] us ys is = tt
  front (x ∷ xs) us [] is = absurd is
  front (x ∷ xs) us (y ∷ ys) (inl same) = inl (same.0, front xs us ys same.1)
  front (x ∷ xs) us (y ∷ ys) (inr later) = inr (front (x ∷ xs) us ys later)
