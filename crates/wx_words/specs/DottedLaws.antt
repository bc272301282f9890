-- A word of parts between dots keeps both laws, where the parts hold no dot.
use Rattle.std.proofs.Common.{◌≡◌, ℕ, ◌^◌, ◌<◌, Bool, true, false, eqb, Option, None, Some, List, [], ◌∷◌, ◌++◌, length, refl, sym, ap, subst, ◌∙◌, arith, ne_eqb}
use Rattle.std.specs.Prelude.{◌&&◌, ◌==◌, not, decimal}
use Rattle.std.specs.List.{AllByRecursion, join_with_byte}
use Rattle.std.specs.Str.Parse.{AllDigits}
use Rattle.std.proofs.lemmas.Fmt.{decimal_is_IsNumeral}
use Rattle.std.proofs.lemmas.Str.Parse.{digit_from_value}
use Rattle.std.proofs.lemmas.Bool.{eqb-true, and_parts, not-true}
use Rattle.std.proofs.lemmas.List.{append-nil, nil_from_length, map-id}
use Rattle.std.proofs.lemmas.List.Elements.{All-from_recursion}
use Rattle.std.proofs.lemmas.List.Splits.{slice_split_none, slice_split_at, join_with_byte-slice_split}
use Rattle.wx_words.specs.Combine.{Reader, whole}
use Rattle.wx_words.specs.Dotted.{after_dots, dotted, parts_of, read_dotted}
use Rattle.wx_words.specs.Forms.{IsForm, Stood}
use Rattle.wx_words.specs.FormLaws.{stood-one}
use Rattle.wx_words.specs.OptionLaws.{map_some, guarded}
use Rattle.wx_words.specs.Clean.{IsClean, AllClean}
use Rattle.wx_words.specs.EachLaws.{each_append}

-- no dot
abbrev pub NoDot : List ℕ → Type 0
NoDot w = AllByRecursion (λ b. (b == 46) ≡ false) w

-- a test that computes
abbrev pub no_dot : List ℕ → Bool
no_dot [] = true
no_dot (b ∷ w) = not (b == 46) && no_dot w

pub undotted : (w : List ℕ) → no_dot w ≡ true → NoDot w
undotted [] e = tt
undotted (b ∷ w) e = let h = and_parts (not (b == 46)) (no_dot w) e in (not-true (b == 46) h.0, undotted w h.1)

pub number_undotted : (n : ℕ) → n < 2 ^ 64 → NoDot (decimal n)
number_undotted n lt = digits (decimal n) (decimal_is_IsNumeral n lt).0.1
  where
    digits : (ds : List ℕ) → AllDigits 10 ds → NoDot ds
    digits [] all = tt
    digits (d ∷ ds) all = let r = digit_from_value d all.0 in (ne_eqb d 46 (λ e. absurd (omega (arith, r.0))), digits ds all.1)

-- at least one part, and none with a dot
abbrev pub AreParts : List (List ℕ) → Type 0
AreParts [] = ⊥
AreParts (p ∷ ps) = NoDot p × AllByRecursion NoDot ps

-- parts behind a part are parts
pub parts_behind : (p : List ℕ) (ps : List (List ℕ)) → NoDot p → AreParts ps → AreParts (p ∷ ps)
parts_behind p [] h all = absurd all
parts_behind p (q ∷ ps) h all = (h, all)

parts_back : (p : List ℕ) (ps : List (List ℕ)) → NoDot p → AllByRecursion NoDot ps → parts_of (p ++ after_dots ps) ≡ p ∷ ps
parts_back p [] h all = ap parts_of (append-nil p) ∙ slice_split_none (λ b. b == 46) p (All-from_recursion (λ b. (b == 46) ≡ false) p h)
parts_back p (q ∷ ps) h all =
    slice_split_at (λ b. b == 46) p 46 (q ++ after_dots ps) (All-from_recursion (λ b. (b == 46) ≡ false) p h) refl ∙ ap (λ (qs : List (List ℕ)). p ∷ qs) (parts_back q ps all.0 all.1)

dotted_back : (ps : List (List ℕ)) → AreParts ps → parts_of (dotted ps) ≡ ps
dotted_back [] h = absurd h
dotted_back (p ∷ ps) h = parts_back p ps h.0 h.1

-- the parts of a word, with dots between them, are the word
dotted-parts : (w : List ℕ) → dotted (parts_of w) ≡ w
dotted-parts w = joins (parts_of w) ∙ join_with_byte-slice_split 46 w
  where
    joins : (ps : List (List ℕ)) → dotted ps ≡ join_with_byte 46 ps
    joins [] = refl
    joins (p ∷ []) = append-nil p
    joins (p ∷ q ∷ ps) = ap (λ (t : List ℕ). p ++ 46 ∷ t) (joins (q ∷ ps))

-- a part is seen as it stands
abbrev pub as_it_stands : List ℕ → List ℕ
as_it_stands w = w

pub dotted_form : {V : Type 0} (see : List ℕ → V) {X : Type 0} {fits : X → Type 0} {words : X → List (List ℕ)} {read : Reader X}
    → IsForm as_it_stands fits words read → ((x : X) → fits x → AreParts (words x)) → IsForm see fits (λ x. dotted (words x) ∷ []) (read_dotted read)
dotted_form {V} see {X} {fits} {words} {read} form are = record { again = again; takes = takes }
  where
    again : (x : X) (rest : List (List ℕ)) → fits x → read_dotted read (dotted (words x) ∷ rest) ≡ Some (x, rest)
    again x rest h =
        let inner : read (parts_of (dotted (words x))) ≡ Some (x, []) = ap read (dotted_back (words x) (are x h) ∙ sym (append-nil (words x))) ∙ form.again x [] h in
        rw inner refl

    whole_some : (o : Option (X × List (List ℕ))) (x : X) → whole o ≡ Some x → o ≡ Some (x, [])
    whole_some None x e = absurd cc
    whole_some (Some y) x e =
        let g = guarded (eqb (length y.1) 0) (Some y.0) x e in
        let a : y.0 ≡ x = cc in
        let b : y.1 ≡ [] = nil_from_length y.1 (eqb-true _ _ g.0) in
        λ i. Some (a i, b i)

    takes : (ws : List (List ℕ)) (x : X) (rest : List (List ℕ)) → read_dotted read ws ≡ Some (x, rest) → fits x × Stood see (dotted (words x) ∷ []) ws rest
    takes [] x rest e = absurd cc
    takes (w ∷ ws) x rest e =
        let m = map_some (λ y. (y, ws)) (whole (read (parts_of w))) (x, rest) e in
        let t = form.takes (parts_of w) m.0 [] (whole_some (read (parts_of w)) m.0 m.1) in
        let front : parts_of w ≡ t.1.front = t.1.parts ∙ append-nil t.1.front in
        let words_are : t.1.front ≡ words m.0 = sym (map-id t.1.front) ∙ t.1.same ∙ map-id (words m.0) in
        let w_is : w ≡ dotted (words m.0) = sym (dotted-parts w) ∙ ap dotted (front ∙ words_are) in
        subst (λ (p : X × List (List ℕ)). fits p.0 × Stood see (dotted (words p.0) ∷ []) (w ∷ ws) p.1) m.2 (t.0, stood-one see w (dotted (words m.0)) ws (ap see w_is))

-- ---- no word has a byte of 32 or less

after_dots_clean : (ps : List (List ℕ)) → AllClean ps → IsClean (after_dots ps)
after_dots_clean [] all = tt
after_dots_clean (p ∷ ps) all = (omega arith, each_append (λ b. 32 < b) p (after_dots ps) all.0 (after_dots_clean ps all.1))

pub dotted_clean : (ps : List (List ℕ)) → AllClean ps → AllClean (dotted ps ∷ [])
dotted_clean [] all = (tt, tt)
dotted_clean (p ∷ ps) all = (each_append (λ b. 32 < b) p (after_dots ps) all.0 (after_dots_clean ps all.1), tt)
