-- No word of a spelling has a byte of 32 or less, so a line gives its words back.
use Rattle.std.proofs.Common.{◌≡◌, ℕ, ◌/◌, ◌%◌, ◌^◌, ◌<◌, ◌≤◌, Bool, true, false, cond, List, [], ◌∷◌, ◌++◌, length, refl, ap, ◌∙◌, append_assoc, arith, ne_eqb}
use Rattle.std.specs.Prelude.{nat_lt, ◌==◌, decimal}
use Rattle.std.specs.List.{flat_map, AllByRecursion}
use Rattle.std.specs.Fmt.{digit_glyph}
use Rattle.std.specs.Str.Parse.{AllDigits}
use Rattle.std.proofs.lemmas.Fmt.{decimal_is_IsNumeral}
use Rattle.std.proofs.lemmas.Str.Parse.{digit_from_value}
use Rattle.std.proofs.lemmas.Bool.{ltb-true, and_parts}
use Rattle.std.proofs.lemmas.Bool.Decides.{nat_tests}
use Rattle.std.proofs.lemmas.List.{append-nil}
use Rattle.std.proofs.lemmas.List.Elements.{All-from_recursion}
use Rattle.std.proofs.lemmas.List.Splits.{slice_split_none, slice_split_at}
use Rattle.wx_words.specs.EachLaws.{each_append}
use Rattle.wx_words.specs.Clean.{IsClean, AllClean, is_clean}
use Rattle.wx_words.specs.Line.{parts, words_of, spaced, joined}
use Rattle.wx_words.specs.Texts.{AllBytes, text_word, text_words, escaped, escaped_byte, is_plain}
use Rattle.wx_words.specs.Lists.{ListFits, list_words}

pub clean : (w : List ℕ) → is_clean w ≡ true → IsClean w
clean [] e = tt
clean (b ∷ w) e = let h = and_parts (nat_lt 32 b) (is_clean w) e in (ltb-true 32 b h.0, clean w h.1)

digits_clean : (ds : List ℕ) → AllDigits 10 ds → IsClean ds
digits_clean [] all = tt
digits_clean (d ∷ ds) all = let r = digit_from_value d all.0 in (omega arith, digits_clean ds all.1)

pub number_clean : (n : ℕ) → n < 2 ^ 64 → IsClean (decimal n)
number_clean n lt = digits_clean (decimal n) (decimal_is_IsNumeral n lt).0.1

pub number_words_clean : (n : ℕ) → n < 2 ^ 64 → AllClean (decimal n ∷ [])
number_words_clean n lt = (number_clean n lt, tt)

pub u32_clean : (n : ℕ) → n < 2 ^ 32 → AllClean (decimal n ∷ [])
u32_clean n lt = (number_clean n (omega arith), tt)

glyph_clean : (d : ℕ) → 32 < digit_glyph true d
glyph_clean d = grind (arith, nat_tests)

byte_clean : (b : ℕ) → IsClean (escaped_byte b)
byte_clean b = by_test (is_plain b) refl
  where
    by_test : (plain : Bool) → is_plain b ≡ plain → IsClean (cond plain (b ∷ []) (37 ∷ digit_glyph true (b / 16) ∷ digit_glyph true (b % 16) ∷ []))
    by_test true p = (grind (arith, nat_tests), tt)
    by_test false p = (omega arith, (glyph_clean (b / 16), (glyph_clean (b % 16), tt)))

escaped_clean : (bs : List ℕ) → IsClean (escaped bs)
escaped_clean [] = tt
escaped_clean (b ∷ bs) = each_append (λ c. 32 < c) (escaped_byte b) (escaped bs) (byte_clean b) (escaped_clean bs)

pub text_clean : (t : List ℕ) → IsClean (text_word t)
text_clean [] = clean (37 ∷ []) refl
text_clean (b ∷ bs) = escaped_clean (b ∷ bs)

pub text_words_clean : (t : List ℕ) → AllBytes t → AllClean (text_words t)
text_words_clean t all = (text_clean t, tt)

pub items_clean : {X : Type 0} (fits : X → Type 0) (words : X → List (List ℕ)) → ((x : X) → fits x → AllClean (words x)) → (xs : List X) → AllByRecursion fits xs → AllClean (flat_map words xs)
items_clean fits words each [] all = tt
items_clean fits words each (x ∷ xs) all = each_append IsClean (words x) (flat_map words xs) (each x all.0) (items_clean fits words each xs all.1)

pub list_clean : {X : Type 0} (fits : X → Type 0) (words : X → List (List ℕ)) → ((x : X) → fits x → AllClean (words x)) → (xs : List X) → ListFits fits xs → AllClean (list_words words xs)
list_clean fits words each xs all = (number_clean (length xs) all.0, items_clean fits words each xs all.1)

pub pair_clean : {A B : Type 0} (fa : A → Type 0) (wa : A → List (List ℕ)) → ((a : A) → fa a → AllClean (wa a)) → (fb : B → Type 0) (wb : B → List (List ℕ)) → ((b : B) → fb b → AllClean (wb b))
    → (p : A × B) → fa p.0 × fb p.1 → AllClean (wa p.0 ++ wb p.1)
pair_clean fa wa first fb wb second p fits = each_append IsClean (wa p.0) (wb p.1) (first p.0 fits.0) (second p.1 fits.1)

-- ---- lines

no_byte : (c : ℕ) (w : List ℕ) → c ≤ 32 → IsClean w → AllByRecursion (λ b. (b == c) ≡ false) w
no_byte c [] le h = tt
no_byte c (b ∷ w) le h = (ne_eqb b c (λ e. absurd (omega (arith, h.0))), no_byte c w le h.1)

pub words_back : (w : List ℕ) (ws : List (List ℕ)) → IsClean w → AllClean ws → words_of (joined (w ∷ ws)) ≡ w ∷ ws
words_back w [] h all =
    ap words_of (append-nil w) ∙ slice_split_none (λ b. b == 32) w (All-from_recursion (λ b. (b == 32) ≡ false) w (no_byte 32 w (omega arith) h))
words_back w (v ∷ ws) h all =
    slice_split_at (λ b. b == 32) w 32 (v ++ spaced ws) (All-from_recursion (λ b. (b == 32) ≡ false) w (no_byte 32 w (omega arith) h)) refl ∙ ap (λ (vs : List (List ℕ)). w ∷ vs) (words_back v ws all.0 all.1)

no_feed_word : (w : List ℕ) → IsClean w → AllByRecursion (λ b. (b == 10) ≡ false) w
no_feed_word w h = no_byte 10 w (omega arith) h

no_feed_spaced : (ws : List (List ℕ)) → AllClean ws → AllByRecursion (λ b. (b == 10) ≡ false) (spaced ws)
no_feed_spaced [] all = tt
no_feed_spaced (w ∷ ws) all = (refl, each_append (λ b. (b == 10) ≡ false) w (spaced ws) (no_feed_word w all.0) (no_feed_spaced ws all.1))

-- the first line of a text is the words of its front
pub line_back : (w : List ℕ) (ws : List (List ℕ)) (rest : List ℕ) → IsClean w → AllClean ws → parts 10 ((joined (w ∷ ws) ++ 10 ∷ []) ++ rest) ≡ joined (w ∷ ws) ∷ parts 10 rest
line_back w ws rest h all =
    let clear : AllByRecursion (λ b. (b == 10) ≡ false) (joined (w ∷ ws)) = each_append (λ b. (b == 10) ≡ false) w (spaced ws) (no_feed_word w h) (no_feed_spaced ws all) in
    ap (parts 10) (append_assoc (joined (w ∷ ws)) (10 ∷ []) rest) ∙ slice_split_at (λ b. b == 10) (joined (w ∷ ws)) 10 rest (All-from_recursion (λ b. (b == 10) ≡ false) (joined (w ∷ ws)) clear) refl
