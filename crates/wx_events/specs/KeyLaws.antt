-- A key is read from its word, and what is read was written so, up to escapes in its character.
use Rattle.std.proofs.Common.{◌≡◌, ℕ, ◌+◌, ◌/◌, ◌<◌, Bool, true, false, cond, Option, None, Some, List, [], ◌∷◌, ◌++◌, length, refl, sym, ap, subst, inl, inr, ◌∙◌, arith}
use Rattle.std.specs.Prelude.{◌==◌, codes, nat_lt, option_map}
use Rattle.std.specs.List.{AllByRecursion}
use Rattle.std.specs.Str.{bytes_eq, chars, is_utf8}
use Rattle.std.specs.Char.{IsScalar, encode_utf8}
use Rattle.std.proofs.lemmas.Bool.{and_parts, ltb-true, eqb-true}
use Rattle.std.proofs.lemmas.List.{append-nil}
use Rattle.std.proofs.Math.Utf8.{next, scalars, encodes, scalar_cases}
use Rattle.std.proofs.lemmas.Str.{IsUtf8-encode, IsUtf8-from_is_utf8, is_utf8-from_IsUtf8, chars-encodes, encodes-chars, scalars-chars, length-encode, len_utf8_bounds}
use Rattle.wx_words.specs.Clean.{IsClean}
use Rattle.wx_words.specs.CleanLaws.{clean, text_clean}
use Rattle.wx_words.specs.Combine.{read_word_by}
use Rattle.wx_words.specs.EachLaws.{each_append}
use Rattle.wx_words.specs.Forms.{IsForm, Stood}
use Rattle.wx_words.specs.FormLaws.{stood-one, same_read}
use Rattle.wx_words.specs.Line.{◌>>=◌}
use Rattle.wx_words.specs.LineLaws.{bytes_same}
use Rattle.wx_words.specs.OptionLaws.{bind_some, map_some, guarded, chosen_by}
use Rattle.wx_words.specs.Parts.{line}
use Rattle.wx_words.specs.Texts.{AllBytes, is_plain, onto, text_in, text_word, unescaped}
use Rattle.wx_words.specs.TextLaws.{plain_head, text_again}
use Rattle.wx_events.specs.declared.keyboard.Keyboard.{Keyboard}
use Rattle.wx_events.specs.declared.keyboard.Keyboard.TheVariants.{Eof, Key}
use Rattle.wx_events.specs.declared.keyboard.KeyCode.{KeyCode}
use Rattle.wx_events.specs.declared.keyboard.KeyCode.TheVariants.{Char, Enter, Escape}
use Rattle.wx_events.specs.declared.keyboard.Modifiers.{Modifiers}
use Rattle.wx_events.specs.Keys.{code_word, key_word, CodeFits, KeyFits, behind_front, only_one, char_in, code_in, pressed, with_modifiers, key_in}

-- ---- characters

pub encode_bytes : (c : ℕ) → IsScalar c → AllBytes (encode_utf8 c)
unfolding encode_utf8
encode_bytes c scalar = by_size (nat_lt c 128) (nat_lt c 2048) (nat_lt c 65536) refl refl refl
  where
    small : c < 0x11_0000
    small = elim (scalar_cases c scalar) [ inl below ↦ omega arith | inr above ↦ above.1 ]

    by_size : (one two three : Bool) → nat_lt c 128 ≡ one → nat_lt c 2048 ≡ two → nat_lt c 65536 ≡ three
        → AllBytes (cond one (c ∷ []) (cond two ((192 + c / 64) ∷ next c ∷ []) (cond three ((224 + c / 4096) ∷ next (c / 64) ∷ next c ∷ []) ((240 + c / 262144) ∷ next (c / 4096) ∷ next (c / 64) ∷ next c ∷ []))))
    by_size true two three o t h = (omega (arith, ltb-true c 128 o), tt)
    by_size false true three o t h = (omega (arith, ltb-true c 2048 t), (omega arith, tt))
    by_size false false true o t h = (omega (arith, ltb-true c 65536 h), (omega arith, (omega arith, tt)))
    by_size false false false o t h = (omega (arith, small), (omega arith, (omega arith, (omega arith, tt))))

encode_some : (c : ℕ) → 0 < length (encode_utf8 c)
encode_some c = omega (arith, length-encode c, (len_utf8_bounds c).0)

pub char_again : (c : ℕ) → IsScalar c → char_in (encode_utf8 c) ≡ Some c
char_again c scalar =
    let whole : encode_utf8 c ++ [] ≡ encode_utf8 c = append-nil (encode_utf8 c) in
    let alone : chars (encode_utf8 c) ≡ c ∷ [] = ap chars (sym whole) ∙ chars-encodes (c ∷ []) (rw scalar refl) in
    rw (is_utf8-from_IsUtf8 (encode_utf8 c) (IsUtf8-encode c scalar), alone) refl

only_is : (cs : List ℕ) (c : ℕ) → only_one cs ≡ Some c → cs ≡ c ∷ []
only_is [] c e = absurd cc
only_is (d ∷ []) c e = let same : d ≡ c = cc in ap (λ (x : ℕ). x ∷ []) same
only_is (d ∷ b ∷ cs) c e = absurd cc

pub char_takes : (bytes : List ℕ) (c : ℕ) → char_in bytes ≡ Some c → IsScalar c × (bytes ≡ encode_utf8 c)
char_takes bytes c e =
    let g = guarded (is_utf8 bytes) (only_one (chars bytes)) c e in
    let utf8 = IsUtf8-from_is_utf8 bytes g.0 in
    let alone = only_is (chars bytes) c g.1 in
    let scalar : scalars (c ∷ []) ≡ true = ap scalars (sym alone) ∙ scalars-chars bytes utf8 in
    let whole : bytes ≡ encodes (c ∷ []) = sym (encodes-chars bytes utf8) ∙ ap encodes alone in
    ((and_parts _ _ scalar).0, whole ∙ append-nil (encode_utf8 c))

-- ---- words

behind_plain : (front w v : List ℕ) → AllByRecursion (λ b. is_plain b ≡ true) front → unescaped w ≡ unescaped v → unescaped (front ++ w) ≡ unescaped (front ++ v)
behind_plain [] w v all e = e
behind_plain (b ∷ front) w v all e = plain_head b (front ++ w) all.0 ∙ ap (onto b) (behind_plain front w v all.1 e) ∙ sym (plain_head b (front ++ v) all.0)

-- the word of a text that isn't empty
some_text : (w t : List ℕ) → 0 < length t → text_in w ≡ Some t → unescaped w ≡ Some t
some_text [] t some e = absurd cc
some_text (b ∷ []) t some e =
    elim (chosen_by (b == 37) (Some []) (unescaped (b ∷ [])) t e) [
      | inl p ↦ let none : [] ≡ t = cc in absurd (omega (arith, ap length none))
      | inr p ↦ p.1
    ]
some_text (b ∷ c ∷ w) t some e = e

pub front_is : (front w rest : List ℕ) → behind_front front w ≡ Some rest → w ≡ front ++ rest
front_is [] w rest e = cc
front_is (b ∷ front) [] rest e = absurd cc
front_is (b ∷ front) (c ∷ w) rest e =
    let g = guarded (c == b) (behind_front front w) rest e in
    let same : c ≡ b = eqb-true c b g.0 in
    let behind = front_is front w rest g.1 in
    cc

-- ---- keys without modifiers

pub code_again : (key : KeyCode) → CodeFits key → code_in (code_word key) ≡ Some key
code_again (Char c) scalar = rw (text_again (encode_utf8 c) (encode_bytes c scalar), char_again c scalar) refl
code_again Enter fits = refl
code_again Escape fits = refl

-- what was read, behind other plain bytes or not
pub record IsCode (w : List ℕ) (key : KeyCode) : Type 0 where
  pub fits : CodeFits key
  pub alone : text_in w ≡ text_in (code_word key)
  pub behind : unescaped w ≡ unescaped (code_word key)

char_is : (escaped : List ℕ) (bytes : List ℕ) (c : ℕ) → text_in escaped ≡ Some bytes → char_in bytes ≡ Some c → IsCode (codes "char." ++ escaped) (Char c)
char_is escaped bytes c e h =
    let is = char_takes bytes c h in
    let read : text_in escaped ≡ Some (encode_utf8 c) = e ∙ ap (λ (t : List ℕ). Some t) is.1 in
    let again = text_again (encode_utf8 c) (encode_bytes c is.0) in
    let same : unescaped escaped ≡ unescaped (text_word (encode_utf8 c)) = some_text escaped (encode_utf8 c) (encode_some c) read ∙ sym (some_text (text_word (encode_utf8 c)) (encode_utf8 c) (encode_some c) again) in
    let behind = behind_plain (codes "char.") escaped (text_word (encode_utf8 c)) (refl, (refl, (refl, (refl, (refl, tt))))) same in
    record { fits = is.0; alone = behind; behind = behind }

pub code_takes : (w : List ℕ) (key : KeyCode) → code_in w ≡ Some key → IsCode w key
code_takes w key e =
    elim (chosen_by (bytes_eq w (codes "enter")) _ _ key e) [
      | inl p ↦
          let is : Enter ≡ key = cc in
          subst (λ (v : List ℕ). IsCode v key) (sym (bytes_same w (codes "enter") p.0)) (subst (λ (k : KeyCode). IsCode (codes "enter") k) is (record { fits = tt; alone = refl; behind = refl }))
      | inr q ↦
          elim (chosen_by (bytes_eq w (codes "escape")) _ _ key q.1) [
            | inl p ↦
                let is : Escape ≡ key = cc in
                subst (λ (v : List ℕ). IsCode v key) (sym (bytes_same w (codes "escape") p.0)) (subst (λ (k : KeyCode). IsCode (codes "escape") k) is (record { fits = tt; alone = refl; behind = refl }))
            | inr r ↦
                let front = bind_some (behind_front (codes "char.") w) (λ escaped. text_in escaped >>= λ bytes. option_map Char (char_in bytes)) key r.1 in
                let text = bind_some (text_in front.0) (λ bytes. option_map Char (char_in bytes)) key front.2 in
                let c = map_some Char (char_in text.0) key text.2 in
                subst (λ (v : List ℕ). IsCode v key) (sym (front_is (codes "char.") w front.0 front.1)) (subst (λ (k : KeyCode). IsCode (codes "char." ++ front.0) k) c.2 (char_is front.0 text.0 c.0 text.1 c.1))
          ]
    ]

pub code_clean : (key : KeyCode) → IsClean (code_word key)
code_clean (Char c) = each_append (λ b. 32 < b) (codes "char.") (text_word (encode_utf8 c)) (clean (codes "char.") refl) (text_clean (encode_utf8 c))
code_clean Enter = clean (codes "enter") refl
code_clean Escape = clean (codes "escape") refl

-- ---- keys

-- a key without modifiers never begins with them
no_modifiers : (key : KeyCode) → key_in (code_word key) ≡ pressed (record { ctrl = false }) (code_word key)
no_modifiers (Char c) = refl
no_modifiers Enter = refl
no_modifiers Escape = refl

pressed_again : (ctrl : Bool) (key : KeyCode) → CodeFits key → key_in (key_word (Key key (record { ctrl = ctrl }))) ≡ Some (Key key (record { ctrl = ctrl }))
pressed_again true key fits = rw (code_again key fits) refl
pressed_again false key fits = no_modifiers key ∙ rw (code_again key fits) refl

pub key_again : (key : Keyboard) → KeyFits key → key_in (key_word key) ≡ Some key
key_again Eof fits = refl
key_again (Key key modifiers) fits = pressed_again modifiers.ctrl key fits

pressed_takes : (modifiers : Modifiers) (w : List ℕ) (key : Keyboard) → pressed modifiers w ≡ Some key → (code : KeyCode) × IsCode w code × (Key code modifiers ≡ key)
pressed_takes modifiers w key e =
    let m = map_some (λ code. Key code modifiers) (code_in w) key e in
    (m.0, code_takes w m.0 m.1, m.2)

abbrev IsKey : List ℕ → Keyboard → Type 0
IsKey w key = KeyFits key × (text_in w ≡ text_in (key_word key))

with_takes : (o : Option (List ℕ)) (w : List ℕ) (key : Keyboard) → behind_front (codes "ctrl.") w ≡ o → with_modifiers o w ≡ Some key → IsKey w key
with_takes None w key b e =
    let p = pressed_takes (record { ctrl = false }) w key e in
    subst (λ (k : Keyboard). IsKey w k) p.2 (p.1.fits, p.1.alone)
with_takes (Some v) w key b e =
    let p = pressed_takes (record { ctrl = true }) v key e in
    let behind = behind_plain (codes "ctrl.") v (code_word p.0) (refl, (refl, (refl, (refl, (refl, tt))))) p.1.behind in
    let is : IsKey (codes "ctrl." ++ v) (Key p.0 (record { ctrl = true })) = (p.1.fits, behind) in
    subst (λ (u : List ℕ). IsKey u key) (sym (front_is (codes "ctrl.") w v b)) (subst (λ (k : Keyboard). IsKey (codes "ctrl." ++ v) k) p.2 is)

pub key_takes : (w : List ℕ) (key : Keyboard) → key_in w ≡ Some key → IsKey w key
key_takes w key e =
    elim (chosen_by (bytes_eq w (codes "eof")) _ _ key e) [
      | inl p ↦
          let is : Eof ≡ key = cc in
          subst (λ (v : List ℕ). IsKey v key) (sym (bytes_same w (codes "eof") p.0)) (subst (λ (k : Keyboard). IsKey (codes "eof") k) is (tt, refl))
      | inr p ↦ with_takes (behind_front (codes "ctrl.") w) w key refl p.1
    ]

pub key_clean : (key : Keyboard) → IsClean (key_word key)
key_clean Eof = clean (codes "eof") refl
key_clean (Key key modifiers) = held modifiers.ctrl
  where
    held : (ctrl : Bool) → IsClean (cond ctrl (codes "ctrl.") [] ++ code_word key)
    held true = each_append (λ b. 32 < b) (codes "ctrl.") (code_word key) (clean (codes "ctrl.") refl) (code_clean key)
    held false = code_clean key

-- ---- the spelling

pub key_form : IsForm line.see KeyFits (λ key. key_word key ∷ []) (read_word_by key_in)
key_form = record { again = λ key rest fits. rw (key_again key fits) refl; takes = takes }
  where
    takes : (ws : List (List ℕ)) (key : Keyboard) (rest : List (List ℕ)) → read_word_by key_in ws ≡ Some (key, rest) → KeyFits key × Stood line.see (key_word key ∷ []) ws rest
    takes [] key rest e = absurd cc
    takes (w ∷ ws) key rest e =
        let m = map_some (λ k. (k, ws)) (key_in w) (key, rest) e in
        let t = key_takes w m.0 m.1 in
        same_read (λ (k : Keyboard) (r : List (List ℕ)). KeyFits k × Stood line.see (key_word k ∷ []) (w ∷ ws) r) m.0 key ws rest (ap (λ (p : Keyboard × List (List ℕ)). Some p) m.2)
        (t.0, stood-one line.see w (key_word m.0) ws t.1)
