-- The options of a spawn as a word: a letter for each that is on, and a hyphen for each that is off.
use Rattle.std.specs.Prelude.{ℕ, ◌==◌, Bool, true, false, if◌then◌else◌, Option, None, Some, List, [], ◌∷◌}
use Rattle.wx_words.specs.Line.{◌>>=◌}
use Rattle.wx_words.specs.Combine.{Reader, read_word_by}
use Rattle.wx_command.specs.declared.command.SpawnOptions.{SpawnOptions}

-- this letter or a hyphen
abbrev pub flag_byte : ℕ → Bool → ℕ
flag_byte letter on = if on then letter else 45

-- the letters g, s, r and f, in this order
abbrev pub options_word : SpawnOptions → List ℕ
options_word o = flag_byte 103 o.grouped ∷ flag_byte 115 o.session ∷ flag_byte 114 o.reset_sigmask ∷ flag_byte 102 o.grant_foreground ∷ []

abbrev pub flag_in : ℕ → ℕ → Option Bool
flag_in letter byte = if byte == letter then Some true else (if byte == 45 then Some false else None)

-- the options that a word stands for
abbrev pub options_in : List ℕ → Option SpawnOptions
options_in [] = None
options_in (g ∷ []) = None
options_in (g ∷ s ∷ []) = None
options_in (g ∷ s ∷ r ∷ []) = None
options_in (g ∷ s ∷ r ∷ f ∷ []) = do
  grouped ← flag_in 103 g
  session ← flag_in 115 s
  reset ← flag_in 114 r
  grant ← flag_in 102 f
  Some (record { grouped = grouped; session = session; reset_sigmask = reset; grant_foreground = grant })
options_in (g ∷ s ∷ r ∷ f ∷ x ∷ w) = None

-- the options at the front
abbrev pub read_options : Reader SpawnOptions
read_options ws = read_word_by options_in ws
