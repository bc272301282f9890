use Rattle.std.proofs.Common.{◌≡◌, ◌++◌, ℕ, Bool, true, false, cond, Some, None, List, [], refl, sym, ◌∙◌}
use Rattle.std.specs.Char.{encode_utf8}
use Rattle.std.specs.Str.{chars, is_utf8, IsUtf8}
use Rattle.std.proofs.lemmas.List.{nil_from_length}
use Rattle.std.proofs.lemmas.Str.{chars-nil, chars_past_char, IsUtf8-past_char, IsUtf8-from_is_utf8, is_utf8-from_IsUtf8}
use Rattle.wx_events.specs.Keys.{only_one, char_in}
use Rattle.wx_events.proofs.keyboard.char_of.Goals as goal

no_text : (bytes : List ℕ) → ¬ (IsUtf8 bytes) → char_in bytes ≡ None
no_text bytes not = by_test (is_utf8 bytes) refl
  where
    by_test : (b : Bool) → is_utf8 bytes ≡ b → cond b (only_one (chars bytes)) None ≡ None
    by_test true e = absurd (not (IsUtf8-from_is_utf8 bytes e))
    by_test false e = refl

one_char : (bytes rest : List ℕ) (c : ℕ) → IsUtf8 bytes → bytes ≡ encode_utf8 c ++ rest → rest ≡ [] → char_in bytes ≡ Some c
one_char bytes rest c utf8 e none = rw (is_utf8-from_IsUtf8 bytes utf8, chars_past_char bytes rest c utf8 e, none, chars-nil) refl

two_chars : (bytes rest more : List ℕ) (c d : ℕ) → IsUtf8 bytes → bytes ≡ encode_utf8 c ++ rest → rest ≡ encode_utf8 d ++ more → char_in bytes ≡ None
two_chars bytes rest more c d utf8 e f =
    let later = chars_past_char rest more d (IsUtf8-past_char bytes rest c utf8 e) f in
    rw (is_utf8-from_IsUtf8 bytes utf8, chars_past_char bytes rest c utf8 e, later) refl

pub returns-in_default : goal.returns-in_default
returns-in_default c = sym (no_text c.args.bytes.now c.in_default.ensures.cases.0)

pub returns-in-Some : goal.returns-in-Some
returns-in-Some c =
    let text = sym c.in-Ok.ensures.cases.0 ∙ sym c.chars-chars.ensures.rest in
    sym (two_chars _ _ _ _ _ c.in-Ok.ensures.cases.1 (text ∙ c.in_ok-first.ensures.steps.0) c.in-Some.ensures.steps.0)

pub returns-in-None : goal.returns-in-None
returns-in-None c =
    let text = sym c.in-Ok.ensures.cases.0 ∙ sym c.chars-chars.ensures.rest in
    sym (one_char _ _ _ c.in-Ok.ensures.cases.1 (text ∙ c.in_ok-first.ensures.steps.0) (nil_from_length _ c.in-None.ensures.steps.0.0))
