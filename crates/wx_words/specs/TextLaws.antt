-- A text is read from its word, and what is read was written so, up to escapes.
use Rattle.std.proofs.Common.{◌≡◌, ℕ, ◌+◌, ◌-◌, ◌*◌, ◌/◌, ◌%◌, ◌<◌, ◌≤◌, Bool, true, false, cond, Option, None, Some, List, [], ◌∷◌, ◌++◌, length, take, drop, get_or, refl, sym, ap, subst, inl, inr, ◌∙◌, arith, lt-ltb}
use Rattle.std.specs.Prelude.{nat_lt, ◌==◌}
use Rattle.std.specs.Char.{digit_value}
use Rattle.std.proofs.lemmas.List.{take_all}
use Rattle.std.proofs.lemmas.Option.{cond_some}
use Rattle.std.specs.Fmt.{digit_glyph}
use Rattle.std.proofs.lemmas.Bool.{ltb-true}
use Rattle.std.proofs.lemmas.Bool.Decides.{nat_tests}
use Rattle.wx_words.specs.OptionLaws.{bind_some, map_some, guarded, chosen}
use Rattle.wx_words.specs.Line.{◌>>=◌}
use Rattle.wx_words.specs.Forms.{IsForm, Stood}
use Rattle.wx_words.specs.FormLaws.{stood-one}
use Rattle.wx_words.specs.Texts.{AllBytes, escaped, text_in, read_text, text_word, text_words, onto, unescaped, is_plain, hex_in}

-- a byte that stands for itself is no percent sign
not_percent : (b : ℕ) → is_plain b ≡ true → (b == 37) ≡ false
not_percent b p = grind arith

-- what stands behind plain bytes is read apart
pub plain_head : (b : ℕ) (bs : List ℕ) → is_plain b ≡ true → unescaped (b ∷ bs) ≡ onto b (unescaped bs)
plain_head b [] p = rw p refl
plain_head b (c ∷ []) p = rw p refl
plain_head b (c ∷ d ∷ bs) p = rw (p, not_percent b p) refl

pub plain_first : (w : List ℕ) → 0 < length w → is_plain (get_or w 0 0) ≡ true → unescaped w ≡ onto (get_or w 0 0) (unescaped (take (length w - 1) (drop 1 w)))
plain_first [] lt p = absurd (omega arith)
plain_first (b ∷ bs) lt p = let whole : take (length (b ∷ bs) - 1) bs ≡ bs = take_all _ _ (omega arith) in rw whole (plain_head b bs p)

pub escaped_first : (w : List ℕ) (high low : ℕ) → 3 ≤ length w → get_or w 0 0 ≡ 37 → hex_in (get_or w 1 0) ≡ Some high → hex_in (get_or w 2 0) ≡ Some low → unescaped w ≡ onto (16 * high + low) (unescaped (take (length w - 3) (drop 3 w)))
escaped_first [] high low le e h l = absurd (omega arith)
escaped_first (b ∷ []) high low le e h l = absurd (omega arith)
escaped_first (b ∷ c ∷ []) high low le e h l = absurd (omega arith)
escaped_first (b ∷ c ∷ d ∷ rest) high low le e h l =
    let whole : take (length (b ∷ c ∷ d ∷ rest) - 3) rest ≡ rest = take_all _ _ (omega arith) in
    rw (whole, e, h, l) refl

hex_small : (c n : ℕ) → hex_in c ≡ Some n → n < 16
hex_small c n e = let p = cond_some (nat_lt (digit_value c) 16) (digit_value c) n e in omega (arith, ltb-true _ _ p.0, p.1)

glyph_value : (d : ℕ) → d < 16 → digit_value (digit_glyph true d) ≡ d
glyph_value d lt = grind (arith, nat_tests)

escaped_head : (c d : ℕ) (bs : List ℕ) → c < 16 → d < 16 → unescaped (37 ∷ digit_glyph true c ∷ digit_glyph true d ∷ bs) ≡ onto (16 * c + d) (unescaped bs)
escaped_head c d bs lc ld =
    let tc : nat_lt c 16 ≡ true = lt-ltb c 16 lc in
    let td : nat_lt d 16 ≡ true = lt-ltb d 16 ld in
    rw (glyph_value c lc, glyph_value d ld, tc, td) refl

pub unescaped_again : (bs : List ℕ) → AllBytes bs → unescaped (escaped bs) ≡ Some bs
unescaped_again [] all = refl
unescaped_again (b ∷ bs) all = by_byte b bs (is_plain b) refl all.0 (unescaped_again bs all.1)
  where
    by_byte : (b : ℕ) (bs : List ℕ) (plain : Bool) → is_plain b ≡ plain → b < 256 → unescaped (escaped bs) ≡ Some bs → unescaped (cond plain (b ∷ []) (37 ∷ digit_glyph true (b / 16) ∷ digit_glyph true (b % 16) ∷ []) ++ escaped bs) ≡ Some (b ∷ bs)
    by_byte b bs true p lt rest = plain_head b (escaped bs) p ∙ ap (onto b) rest
    by_byte b bs false p lt rest =
        escaped_head (b / 16) (b % 16) (escaped bs) (omega arith) (omega arith) ∙ ap (onto (16 * (b / 16) + b % 16)) rest ∙ ap (λ (k : ℕ). Some (k ∷ bs)) (omega arith)

text_from : (w : List ℕ) (b : ℕ) (t : List ℕ) → unescaped w ≡ Some (b ∷ t) → text_in w ≡ Some (b ∷ t)
text_from [] b t e = absurd cc
text_from (c ∷ []) b t e =
    let g = guarded (is_plain c) (onto c (Some [])) (b ∷ t) e in
    ap (λ (v : Bool). cond v (Some []) (unescaped (c ∷ []))) (not_percent c g.0) ∙ e
text_from (c ∷ d ∷ w) b t e = e

pub text_again : (t : List ℕ) → AllBytes t → text_in (text_word t) ≡ Some t
text_again [] all = refl
text_again (b ∷ bs) all = text_from (escaped (b ∷ bs)) b bs (unescaped_again (b ∷ bs) all)

-- what is read is bytes
onto_bytes : (b : ℕ) (o : Option (List ℕ)) (t : List ℕ) → b < 256 → ((u : List ℕ) → o ≡ Some u → AllBytes u) → onto b o ≡ Some t → AllBytes t
onto_bytes b None t lt all e = absurd cc
onto_bytes b (Some u) t lt all e = let same : b ∷ u ≡ t = cc in subst AllBytes same (lt, all u refl)

plain_small : (b : ℕ) → is_plain b ≡ true → b < 256
plain_small b p = grind (arith, nat_tests)

unescaped_bytes : (w t : List ℕ) → unescaped w ≡ Some t → AllBytes t
unescaped_bytes [] t e = let same : [] ≡ t = cc in subst AllBytes same tt
unescaped_bytes (b ∷ []) t e =
    let g = guarded (is_plain b) (onto b (Some [])) t e in onto_bytes b (Some []) t (plain_small b g.0) (λ u h. unescaped_bytes [] u h) g.1
unescaped_bytes (b ∷ c ∷ []) t e =
    let g = guarded (is_plain b) (onto b (unescaped (c ∷ []))) t e in onto_bytes b (unescaped (c ∷ [])) t (plain_small b g.0) (λ u h. unescaped_bytes (c ∷ []) u h) g.1
unescaped_bytes (b ∷ c ∷ d ∷ rest) t e =
    elim (chosen (b == 37) _ _ t e) [
      | inl p ↦
          let high = bind_some (hex_in c) (λ high. hex_in d >>= λ low. onto (16 * high + low) (unescaped rest)) t p in
          let low = bind_some (hex_in d) (λ low. onto (16 * high.0 + low) (unescaped rest)) t high.2 in
          onto_bytes (16 * high.0 + low.0) (unescaped rest) t (omega (arith, hex_small c high.0 high.1, hex_small d low.0 low.1)) (λ u k. unescaped_bytes rest u k) low.2
      | inr p ↦
          let g = guarded (is_plain b) (onto b (unescaped (c ∷ d ∷ rest))) t p in
          onto_bytes b (unescaped (c ∷ d ∷ rest)) t (plain_small b g.0) (λ u k. unescaped_bytes (c ∷ d ∷ rest) u k) g.1
    ]

pub text_bytes : (w t : List ℕ) → text_in w ≡ Some t → AllBytes t
text_bytes [] t e = absurd cc
text_bytes (b ∷ []) t e =
    elim (chosen (b == 37) (Some []) (unescaped (b ∷ [])) t e) [
      | inl p ↦ let same : [] ≡ t = cc in subst AllBytes same tt
      | inr p ↦ unescaped_bytes (b ∷ []) t p
    ]
text_bytes (b ∷ c ∷ w) t e = unescaped_bytes (b ∷ c ∷ w) t e

pub text_form : IsForm text_in AllBytes text_words read_text
text_form = record {
  again = λ t rest all. rw (text_again t all) refl;
  takes = takes;
}
  where
    takes : (ws : List (List ℕ)) (t : List ℕ) (rest : List (List ℕ)) → read_text ws ≡ Some (t, rest) → AllBytes t × Stood text_in (text_words t) ws rest
    takes [] t rest e = absurd cc
    takes (w ∷ ws) t rest e =
        let m = map_some (λ k. (k, ws)) (text_in w) (t, rest) e in
        let et : m.0 ≡ t = ap (λ p. p.0) m.2 in
        let er : ws ≡ rest = ap (λ p. p.1) m.2 in
        let here : text_in w ≡ Some t = m.1 ∙ ap (λ (k : List ℕ). Some k) et in
        let all = text_bytes w t here in
        (all, subst (λ (r : List (List ℕ)). Stood text_in (text_words t) (w ∷ ws) r) er (stood-one text_in w (text_word t) ws (here ∙ sym (text_again t all))))
