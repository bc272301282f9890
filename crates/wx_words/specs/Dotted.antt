-- One word of parts with dots between them.
use Rattle.std.specs.Prelude.{ℕ, List, [], ◌∷◌, ◌++◌}
use Rattle.wx_words.specs.Line.{parts}
use Rattle.wx_words.specs.Combine.{Reader, read_word_by, whole}

-- each part with a dot before it
abbrev pub after_dots : List (List ℕ) → List ℕ
after_dots [] = []
after_dots (p ∷ ps) = 46 ∷ (p ++ after_dots ps)

-- the parts with a dot between them
abbrev pub dotted : List (List ℕ) → List ℕ
dotted [] = []
dotted (p ∷ ps) = p ++ after_dots ps

-- the parts of a word, which stand between dots
abbrev pub parts_of : List ℕ → List (List ℕ)
parts_of word = parts 46 word

-- a value whose parts are one word
abbrev pub read_dotted : {X : Type 0} → Reader X → Reader X
read_dotted read ws = read_word_by (λ w. whole (read (parts_of w))) ws
