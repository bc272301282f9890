-- Which texts name one program, so that a shell can give its place to it.
use Rattle.std.specs.Prelude.{ℕ, ◌==◌, length, Bool, false, not, ◌&&◌, ◌||◌, Option, None, Some, List, [], ◌∷◌, codes}
use Rattle.std.specs.List.{find, list_any, slice_split}
use Rattle.std.specs.Str.{bytes_eq}

-- `;`, `&`, `|` or a line feed: behind it the shell has more to do
abbrev pub parts_commands : ℕ → Bool
parts_commands b = b == 59 || b == 38 || b == 124 || b == 10

abbrev pub has_more : List ℕ → Bool
has_more text = list_any parts_commands text

-- a space, a tab, a line feed, a form feed or a carriage return
abbrev pub is_space : ℕ → Bool
is_space b = b == 32 || b == 9 || b == 10 || b == 12 || b == 13

-- of the pieces between spaces the first that isn't empty
abbrev pub first_word : List ℕ → Option (List ℕ)
first_word text = find (λ piece. not (length piece == 0)) (slice_split is_space text)

-- the words by which the shell itself is meant
abbrev pub shell_words : List (List ℕ)
shell_words =
    codes "!" ∷ codes "{" ∷ codes "[[" ∷ codes "case" ∷ codes "coproc" ∷ codes "eval" ∷ codes "exec" ∷ codes "for"
    ∷ codes "function" ∷ codes "if" ∷ codes "select" ∷ codes "time" ∷ codes "until" ∷ codes "while" ∷ []

abbrev pub is_shell_word : List ℕ → Bool
is_shell_word word = list_any (λ v. bytes_eq v word) shell_words

-- with `=` it sets a variable
abbrev pub is_setting : List ℕ → Bool
is_setting word = list_any (λ b. b == 61) word

-- with `(` it begins a shell of its own
abbrev pub is_subshell : List ℕ → Bool
is_subshell [] = false
is_subshell (b ∷ word) = b == 40

-- else it names a program
abbrev pub is_program : List ℕ → Bool
is_program word = not (is_setting word || is_subshell word || is_shell_word word)

-- by its first word: it has to have one that names a program, and nothing behind which the shell has more to do
abbrev pub execable_by : Option (List ℕ) → List ℕ → Bool
execable_by None text = false
execable_by (Some word) text = not (has_more text) && is_program word

-- whether a shell can give its place to the one program that this text names
unfoldable pub execable : List ℕ → Bool
execable text = execable_by (first_word text) text
