-- The end of the input is among the keys of a read just where the read holds it.
use Rattle.std.proofs.Common.{◌≡◌, ℕ, ◌+◌, Bool, true, false, cond, List, [], ◌∷◌, refl, ap, ◌∙◌}
use Rattle.std.specs.Prelude.{Option, None, Some, ◌==◌, ◌||◌}
use Rattle.std.specs.List.{filter_map, cons_option, list_any}
use Rattle.wx_events.specs.declared.keyboard.Keyboard.{Keyboard}
use Rattle.wx_events.specs.declared.keyboard.Keyboard.TheVariants.{Eof, Key}
use Rattle.wx_events.specs.declared.keyboard.KeyCode.{KeyCode}
use Rattle.wx_events.specs.declared.keyboard.KeyCode.TheVariants.{Char, Enter, Escape}
use Rattle.wx_keys.specs.Keys.{pressed, is_between, is_end, byte_key, up_to_eof, read_keys, ends_input, is_eof}

-- what a byte says is the end
abbrev says_end : Option Keyboard → Bool
says_end None = false
says_end (Some key) = is_eof key

by_tests : (end enter control escape shown : Bool) (letter plain : KeyCode) → says_end (cond end (Some Eof) (cond enter (Some (pressed Enter false)) (cond control (Some (pressed letter true)) (cond escape (Some (pressed Escape false)) (cond shown (Some (pressed plain false)) None))))) ≡ end
by_tests true enter control escape shown letter plain = refl
by_tests false true control escape shown letter plain = refl
by_tests false false true escape shown letter plain = refl
by_tests false false false true shown letter plain = refl
by_tests false false false false true letter plain = refl
by_tests false false false false false letter plain = refl

byte_end : (b : ℕ) → says_end (byte_key b) ≡ is_end b
byte_end b = by_tests (is_end b) (b == 13) (is_between 1 26 b) (b == 27) (is_between 32 126 b) (Char (b + 96)) (Char b)

-- one key more
one_more : (key : Option Keyboard) (keys : List Keyboard) (rest : Bool) → list_any is_eof (up_to_eof keys) ≡ rest → list_any is_eof (up_to_eof (cons_option key keys)) ≡ (says_end key || rest)
one_more None keys rest more = more
one_more (Some Eof) keys rest more = refl
one_more (Some (Key key modifiers)) keys rest more = more

keys_end : (bytes : List ℕ) → list_any is_eof (up_to_eof (filter_map byte_key bytes)) ≡ list_any is_end bytes
keys_end [] = refl
keys_end (b ∷ bytes) = one_more (byte_key b) (filter_map byte_key bytes) (list_any is_end bytes) (keys_end bytes) ∙ ap (λ (end : Bool). end || list_any is_end bytes) (byte_end b)

pub read_ends : (bytes : List ℕ) → list_any is_eof (read_keys bytes) ≡ ends_input bytes
read_ends [] = refl
read_ends (b ∷ bytes) = keys_end (b ∷ bytes)
