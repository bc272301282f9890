-- Keys as words: a key is one word, in which a character stands as the text that it is alone.
use Rattle.std.specs.Prelude.{ℕ, ◌==◌, true, false, if◌then◌else◌, Option, None, Some, option_map, List, [], ◌∷◌, ◌++◌, codes}
use Rattle.std.specs.Str.{bytes_eq, chars, is_utf8}
use Rattle.std.specs.Char.{IsScalar, encode_utf8}
use Rattle.wx_words.specs.Line.{◌>>=◌}
use Rattle.wx_words.specs.Texts.{text_in, text_word}
use Rattle.wx_events.specs.declared.keyboard.Keyboard.{Keyboard}
use Rattle.wx_events.specs.declared.keyboard.Keyboard.TheVariants.{Eof, Key}
use Rattle.wx_events.specs.declared.keyboard.KeyCode.{KeyCode}
use Rattle.wx_events.specs.declared.keyboard.KeyCode.TheVariants.{Char, Enter, Escape}
use Rattle.wx_events.specs.declared.keyboard.Modifiers.{Modifiers}

-- ---- how a key is spelled

abbrev pub modifiers_word : Modifiers → List ℕ
modifiers_word modifiers = if modifiers.ctrl then codes "ctrl." else []

abbrev pub code_word : KeyCode → List ℕ
code_word (Char c) = codes "char." ++ text_word (encode_utf8 c)
code_word Enter = codes "enter"
code_word Escape = codes "escape"

abbrev pub key_word : Keyboard → List ℕ
key_word Eof = codes "eof"
key_word (Key key modifiers) = modifiers_word modifiers ++ code_word key

-- a character of the code is one
abbrev pub CodeFits : KeyCode → Type 0
CodeFits (Char c) = IsScalar c
CodeFits Enter = Unit {0}
CodeFits Escape = Unit {0}

abbrev pub KeyFits : Keyboard → Type 0
KeyFits Eof = Unit {0}
KeyFits (Key key modifiers) = CodeFits key

-- ---- how a key is read

-- what stands in a word behind these bytes
abbrev pub behind_front : List ℕ → List ℕ → Option (List ℕ)
behind_front [] w = Some w
behind_front (b ∷ bs) [] = None
behind_front (b ∷ bs) (c ∷ w) = if c == b then behind_front bs w else None

-- the character of a text of one
abbrev pub only_one : List ℕ → Option ℕ
only_one [] = None
only_one (c ∷ []) = Some c
only_one (c ∷ d ∷ cs) = None

abbrev pub char_in : List ℕ → Option ℕ
char_in bytes = if is_utf8 bytes then only_one (chars bytes) else None

-- the key that a word without modifiers spells
abbrev pub code_in : List ℕ → Option KeyCode
code_in w =
    if bytes_eq w (codes "enter") then Some Enter
    else (if bytes_eq w (codes "escape") then Some Escape
    else (behind_front (codes "char.") w >>= λ escaped. text_in escaped >>= λ bytes. option_map Char (char_in bytes)))

abbrev pub pressed : Modifiers → List ℕ → Option Keyboard
pressed modifiers w = option_map (λ key. Key key modifiers) (code_in w)

-- the same where the word is looked at for modifiers
abbrev pub with_modifiers : Option (List ℕ) → List ℕ → Option Keyboard
with_modifiers (Some key) w = pressed (record { ctrl = true }) key
with_modifiers None w = pressed (record { ctrl = false }) w

-- what a word spells
abbrev pub key_in : List ℕ → Option Keyboard
key_in w = if bytes_eq w (codes "eof") then Some Eof else with_modifiers (behind_front (codes "ctrl.") w) w
