-- Lists as words: the length, then the items.
use Rattle.std.specs.Prelude.{ℕ, zero, suc, ◌^◌, ◌<◌, Some, List, [], ◌∷◌, length, decimal}
use Rattle.std.specs.List.{flat_map, AllByRecursion}
use Rattle.wx_words.specs.Line.{◌>>=◌}
use Rattle.wx_words.specs.Combine.{Reader}
use Rattle.wx_words.specs.Numbers.{read_number}

-- fewer than 2 ^ 64 items, each of which fits
abbrev pub ListFits : {X : Type 0} → (X → Type 0) → List X → Type 0
ListFits fits xs = (length xs < 2 ^ 64) × AllByRecursion fits xs

abbrev pub list_words : {X : Type 0} → (X → List (List ℕ)) → List X → List (List ℕ)
list_words words xs = decimal (length xs) ∷ flat_map words xs

-- so many items at the front
unfoldable pub read_items : {X : Type 0} → Reader X → ℕ → Reader (List X)
read_items read zero ws = Some ([], ws)
read_items read (suc n) ws = do
  x ← read ws
  xs ← read_items read n x.1
  Some (x.0 ∷ xs.0, xs.1)

unfoldable pub read_list : {X : Type 0} → Reader X → Reader (List X)
read_list read ws = do
  n ← read_number ws
  read_items read n.0 n.1
