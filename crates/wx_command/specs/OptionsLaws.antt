-- Options are read from their one word.
use Rattle.std.proofs.Common.{◌≡◌, ℕ, ◌<◌, Bool, true, false, Some, List, [], ◌∷◌, refl, ap, subst, ◌∙◌, inl, inr, arith}
use Rattle.std.specs.Prelude.{◌==◌}
use Rattle.std.proofs.lemmas.Bool.{eqb-true}
use Rattle.wx_words.specs.OptionLaws.{map_some, bind_some, chosen_by, guarded}
use Rattle.wx_words.specs.Texts.{text_in}
use Rattle.wx_words.specs.Forms.{Stood, IsForm}
use Rattle.wx_words.specs.FormLaws.{stood-one, same_read}
use Rattle.wx_words.specs.Clean.{IsClean}
use Rattle.wx_words.specs.Spellings.{Spelling}
use Rattle.wx_words.specs.Parts.{line}
use Rattle.wx_command.specs.Options.{flag_byte, flag_in, options_word, options_in, read_options}
use Rattle.wx_command.specs.declared.command.SpawnOptions.{SpawnOptions}

options_again : (g s r f : Bool) → options_in (options_word (record { grouped = g; session = s; reset_sigmask = r; grant_foreground = f })) ≡ Some (record { grouped = g; session = s; reset_sigmask = r; grant_foreground = f })
options_again g s r f = rw (again_g g, again_s s, again_r r, again_f f) refl
  where
    again_g : (b : Bool) → flag_in 103 (flag_byte 103 b) ≡ Some b
    again_g true = refl
    again_g false = refl

    again_s : (b : Bool) → flag_in 115 (flag_byte 115 b) ≡ Some b
    again_s true = refl
    again_s false = refl

    again_r : (b : Bool) → flag_in 114 (flag_byte 114 b) ≡ Some b
    again_r true = refl
    again_r false = refl

    again_f : (b : Bool) → flag_in 102 (flag_byte 102 b) ≡ Some b
    again_f true = refl
    again_f false = refl

flag_takes : (letter byte : ℕ) (b : Bool) → flag_in letter byte ≡ Some b → byte ≡ flag_byte letter b
flag_takes letter byte b e =
    elim (chosen_by (byte == letter) (Some true) _ b e) [
      | inl p ↦ let same : true ≡ b = cc in subst (λ (c : Bool). byte ≡ flag_byte letter c) same (eqb-true byte letter p.0)
      | inr p ↦
          let g = guarded (byte == 45) (Some false) b p.1 in
          let same : false ≡ b = cc in subst (λ (c : Bool). byte ≡ flag_byte letter c) same (eqb-true byte 45 g.0)
    ]

-- a word is its four bytes
built : (g s r f : ℕ) (o : SpawnOptions) → g ≡ flag_byte 103 o.grouped → s ≡ flag_byte 115 o.session → r ≡ flag_byte 114 o.reset_sigmask → f ≡ flag_byte 102 o.grant_foreground → g ∷ s ∷ r ∷ f ∷ [] ≡ options_word o
built g s r f o p q u v = rw (p, q, u, v) refl

options_takes : (w : List ℕ) (o : SpawnOptions) → options_in w ≡ Some o → w ≡ options_word o
options_takes [] o e = absurd cc
options_takes (g ∷ []) o e = absurd cc
options_takes (g ∷ s ∷ []) o e = absurd cc
options_takes (g ∷ s ∷ r ∷ []) o e = absurd cc
options_takes (g ∷ s ∷ r ∷ f ∷ []) o e =
    let a = bind_some (flag_in 103 g) _ o e in
    let b = bind_some (flag_in 115 s) _ o a.2 in
    let c = bind_some (flag_in 114 r) _ o b.2 in
    let d = bind_some (flag_in 102 f) _ o c.2 in
    let same : record { grouped = a.0; session = b.0; reset_sigmask = c.0; grant_foreground = d.0 } ≡ o = cc in
    built g s r f (record { grouped = a.0; session = b.0; reset_sigmask = c.0; grant_foreground = d.0 }) (flag_takes 103 g a.0 a.1) (flag_takes 115 s b.0 b.1) (flag_takes 114 r c.0 c.1) (flag_takes 102 f d.0 d.1) ∙ ap options_word same
options_takes (g ∷ s ∷ r ∷ f ∷ x ∷ w) o e = absurd cc

pub options_form : IsForm text_in (λ (o : SpawnOptions). Unit {0}) (λ o. options_word o ∷ []) read_options
options_form = record { again = λ o rest fits. rw (options_again o.grouped o.session o.reset_sigmask o.grant_foreground) refl; takes = takes }
  where
    takes : (ws : List (List ℕ)) (o : SpawnOptions) (rest : List (List ℕ)) → read_options ws ≡ Some (o, rest) → Unit {0} × Stood text_in (options_word o ∷ []) ws rest
    takes [] o rest e = absurd cc
    takes (w ∷ ws) o rest e =
        let m = map_some (λ p. (p, ws)) (options_in w) (o, rest) e in
        same_read (λ (p : SpawnOptions) (r : List (List ℕ)). Unit {0} × Stood text_in (options_word p ∷ []) (w ∷ ws) r) m.0 o ws rest (ap (λ (p : SpawnOptions × List (List ℕ)). Some p) m.2)
        (tt, stood-one text_in w (options_word m.0) ws (ap text_in (options_takes w m.0 m.1)))

flag_clean : (letter : ℕ) (b : Bool) → 32 < letter → 32 < flag_byte letter b
flag_clean letter true lt = lt
flag_clean letter false lt = omega arith

pub options_word_clean : (o : SpawnOptions) → IsClean (options_word o)
options_word_clean o = (flag_clean 103 o.grouped (omega arith), (flag_clean 115 o.session (omega arith), (flag_clean 114 o.reset_sigmask (omega arith), (flag_clean 102 o.grant_foreground (omega arith), tt))))

unfoldable pub options : Spelling line SpawnOptions
options = record { fits = λ o. Unit {0}; words = λ o. options_word o ∷ []; read = read_options; form = options_form; clean = λ o fits. (options_word_clean o, tt) }
