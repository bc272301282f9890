-- The two kinds of words, and the spellings that others are made of.
use Rattle.std.proofs.Common.{◌≡◌, ℕ, ◌^◌, ◌<◌, Bool, true, false, Option, None, Some, List, [], ◌∷◌, cond, map, refl, sym, ap, subst, ◌∙◌}
use Rattle.std.specs.Prelude.{◌&&◌, if◌then◌else◌, option_map, ℤ, decimal, FitsSigned}
use Rattle.std.specs.Int.{w32, w64}
use Rattle.std.specs.Str.{bytes_eq}
use Rattle.std.specs.List.{AllByRecursion}
use Rattle.std.proofs.lemmas.Bool.{and_parts}
use Rattle.std.proofs.lemmas.List.{map-id}
use Rattle.wx_words.specs.EachLaws.{each_append, each_weaker}
use Rattle.wx_words.specs.Texts.{AllBytes, text_in, text_words, read_text}
use Rattle.wx_words.specs.TextLaws.{text_form}
use Rattle.wx_words.specs.Clean.{IsClean, AllClean, is_clean}
use Rattle.wx_words.specs.CleanLaws.{clean, number_clean, list_clean, u32_clean, text_words_clean}
use Rattle.wx_words.specs.Combine.{Reader, pair_words, read_pair, read_as, read_some, read_literal, read_nothing, read_never}
use Rattle.wx_words.specs.CombineLaws.{pair_form, nothing_form, never_form, as_form, some_form, literal_form}
use Rattle.wx_words.specs.Dotted.{dotted, read_dotted}
use Rattle.wx_words.specs.DottedLaws.{NoDot, no_dot, undotted, AreParts, as_it_stands, dotted_form, dotted_clean, number_undotted}
use Rattle.wx_words.specs.Forms.{Stood, IsForm}
use Rattle.wx_words.specs.LineLaws.{bytes_same}
use Rattle.wx_words.specs.OptionLaws.{map_some}
use Rattle.wx_words.specs.FormLaws.{stood-one, same_read}
use Rattle.wx_words.specs.Lists.{ListFits, list_words, read_list}
use Rattle.wx_words.specs.ListLaws.{list_form}
use Rattle.wx_words.specs.Optional.{OptionalFits, optional_words, read_optional}
use Rattle.wx_words.specs.OptionalLaws.{optional_form, optional_clean}
use Rattle.wx_words.specs.Numbers.{read_number, read_u32}
use Rattle.wx_words.specs.NumberLaws.{number_form, u32_form}
use Rattle.wx_words.specs.Signed.{signed_words, read_i32, read_i64}
use Rattle.wx_words.specs.SignedLaws.{i32_form, i32_undotted, i32_clean, i64_form, i64_undotted, i64_clean}
use Rattle.wx_words.specs.NonZero.{i64_other_than_zero, i32_other_than_zero}
use Rattle.wx_words.specs.NonZeroLaws.{i64_found, i64_is, i32_found, i32_is}
use Rattle.std.specs.declared.num.NonZeroI32.{NonZeroI32}
use Rattle.std.specs.declared.num.NonZeroI64.{NonZeroI64}
use Rattle.std.specs.Int.NonZero.{non_zero_i32_get, non_zero_i64_get}
use Rattle.wx_words.specs.Spellings.{Kind, Spelling}

-- a word of a line: no byte of 32 or less, and seen as the text that it stands for
abbrev pub line : Kind
line = record { Seen = Option (List ℕ); see = text_in; Ok = IsClean; test = is_clean; tested = clean }

-- a part of a word between dots: no dot either, and seen as it stands
abbrev pub IsPart : List ℕ → Type 0
IsPart w = IsClean w × NoDot w

abbrev pub is_part : List ℕ → Bool
is_part w = is_clean w && no_dot w

pub part_tested : (w : List ℕ) → is_part w ≡ true → IsPart w
part_tested w e = let h = and_parts (is_clean w) (no_dot w) e in (clean w h.0, undotted w h.1)

abbrev pub part : Kind
part = record { Seen = List ℕ; see = as_it_stands; Ok = IsPart; test = is_part; tested = part_tested }

-- a part may be a word
stood_line : (words ws rest : List (List ℕ)) → Stood as_it_stands words ws rest → Stood text_in words ws rest
stood_line words ws rest s = record { front = s.front; parts = s.parts; same = ap (λ (v : List (List ℕ)). map text_in v) (sym (map-id s.front) ∙ s.same ∙ map-id words) }

pub line_form : {X : Type 0} {fits : X → Type 0} {words : X → List (List ℕ)} {read : Reader X} → IsForm as_it_stands fits words read → IsForm text_in fits words read
line_form {X} {fits} {words} {read} form = record { again = form.again; takes = λ ws x rest e. let t = form.takes ws x rest e in (t.0, stood_line (words x) ws rest t.1) }

pub line_clean : {X : Type 0} (s : Spelling part X) (x : X) → s.fits x → AllClean (s.words x)
line_clean s x fits = each_weaker IsPart IsClean (λ w p. p.0) (s.words x) (s.clean x fits)

abbrev pub as_line : {X : Type 0} → Spelling part X → Spelling line X
as_line s = record { fits = s.fits; words = s.words; read = s.read; form = line_form s.form; clean = line_clean s }

-- parts with dots between them are a word
pub dotted_parts : (ws : List (List ℕ)) → AllByRecursion IsPart ws → (ws ≡ [] → ⊥) → AreParts ws
dotted_parts [] all some = absurd (some refl)
dotted_parts (w ∷ ws) all some = (all.0.1, each_weaker IsPart NoDot (λ v p. p.1) ws all.1)

abbrev pub one_word : {X : Type 0} (s : Spelling part X) → ((x : X) → s.words x ≡ [] → ⊥) → Spelling line X
one_word s some = record {
  fits = s.fits;
  words = λ x. dotted (s.words x) ∷ [];
  read = read_dotted s.read;
  form = dotted_form text_in s.form (λ x fits. dotted_parts (s.words x) (s.clean x fits) (some x));
  clean = λ x fits. dotted_clean (s.words x) (line_clean s x fits);
}

abbrev pub nothing : {kind : Kind} → Spelling kind (Unit {0})
nothing {kind} = record { fits = λ u. Unit {0}; words = λ u. []; read = read_nothing; form = nothing_form kind.see; clean = λ u fits. tt }

-- one behind the other
unfoldable pub both : {kind : Kind} {A B : Type 0} → Spelling kind A → Spelling kind B → Spelling kind (A × B)
both {kind} s t = record {
  fits = λ p. s.fits p.0 × t.fits p.1;
  words = pair_words s.words t.words;
  read = read_pair s.read t.read;
  form = pair_form s.form t.form;
  clean = λ p fits. each_append kind.Ok (s.words p.0) (t.words p.1) (s.clean p.0 fits.0) (t.clean p.1 fits.1);
}

-- the same of another type
abbrev pub renamed : {kind : Kind} {A X : Type 0} → Spelling kind A → (make : A → X) (back : X → A) → ((x : X) → make (back x) ≡ x) → ((a : A) → back (make a) ≡ a) → Spelling kind X
renamed s make back there again = record {
  fits = λ x. s.fits (back x);
  words = λ x. s.words (back x);
  read = read_as make s.read;
  form = as_form s.form make back there again;
  clean = λ x fits. s.clean (back x) fits;
}

-- the same of another type, to which not every value belongs
abbrev pub partly : {kind : Kind} {A X : Type 0} → Spelling kind A → (make : A → Option X) (back : X → A) → ((x : X) → make (back x) ≡ Some x) → ((a : A) (x : X) → make a ≡ Some x → back x ≡ a) → Spelling kind X
partly s make back there again = record {
  fits = λ x. s.fits (back x);
  words = λ x. s.words (back x);
  read = read_some make s.read;
  form = some_form s.form make back there again;
  clean = λ x fits. s.clean (back x) fits;
}

-- behind a word that names it
abbrev pub read_named : {X : Type 0} → List ℕ → Reader X → Reader X
read_named w read ws = read_as (λ p. p.1) (read_pair (read_literal w) read) ws

pub named_form : {kind : Kind} {X : Type 0} (w : List ℕ) (s : Spelling kind X) → IsForm kind.see s.fits (λ x. w ∷ s.words x) (read_named w s.read)
named_form {kind} {X} w s = record { again = λ x rest fits. form.again x rest (tt, fits); takes = λ ws x rest e. let t = form.takes ws x rest e in (t.0.1, t.1) }
  where
    form : IsForm kind.see (λ (x : X). Unit {0} × s.fits x) (λ x. w ∷ s.words x) (read_named w s.read)
    form = as_form (pair_form (literal_form kind.see w) s.form) (λ p. p.1) (λ x. (tt, x)) (λ x. refl) (λ p. refl)

abbrev pub named : {kind : Kind} {X : Type 0} (w : List ℕ) → kind.test w ≡ true → Spelling kind X → Spelling kind X
named {kind} w good s = record { fits = s.fits; words = λ x. w ∷ s.words x; read = read_named w s.read; form = named_form w s; clean = λ x fits. (kind.tested w good, s.clean x fits) }

-- what no words spell
abbrev pub never : {kind : Kind} {X : Type 0} → Spelling kind X
never {kind} = record { fits = λ x. ⊥; words = λ x. []; read = read_never; form = never_form kind.see; clean = λ x fits. absurd fits }

-- the length, then the items
abbrev pub list_of : {X : Type 0} → Spelling line X → Spelling line (List X)
list_of s = record { fits = ListFits s.fits; words = list_words s.words; read = read_list s.read; form = list_form s.form; clean = list_clean s.fits s.words s.clean }

-- a word for each value
abbrev pub one_of : {X : Type 0} → (X → List ℕ) → List X → List ℕ → Option X
one_of word [] w = None
one_of word (x ∷ all) w = if bytes_eq w (word x) then Some x else one_of word all w

abbrev pub read_one_of : {X : Type 0} → (X → List ℕ) → List X → Reader X
read_one_of word all [] = None
read_one_of word all (w ∷ ws) = option_map (λ x. (x, ws)) (one_of word all w)

-- each value is found by its word
abbrev pub HasWords : {X : Type 0} → (X → List ℕ) → List X → Type 0
HasWords {X} word all = (x : X) → one_of word all (word x) ≡ Some x

abbrev pub all_ok : {X : Type 0} → (List ℕ → Bool) → (X → List ℕ) → List X → Bool
all_ok test word [] = true
all_ok test word (x ∷ xs) = test (word x) && all_ok test word xs

one_of_is : {X : Type 0} (kind : Kind) (word : X → List ℕ) (all : List X) (w : List ℕ) (x : X) → all_ok kind.test word all ≡ true → one_of word all w ≡ Some x → (w ≡ word x) × kind.Ok (word x)
one_of_is kind word [] w x good e = absurd cc
one_of_is {X} kind word (y ∷ all) w x good e =
    let h = and_parts (kind.test (word y)) (all_ok kind.test word all) good in by_test (bytes_eq w (word y)) refl h.0 e (one_of_is kind word all w x h.1)
  where
    by_test : (b : Bool) → bytes_eq w (word y) ≡ b → kind.test (word y) ≡ true → cond b (Some y) (one_of word all w) ≡ Some x → (one_of word all w ≡ Some x → (w ≡ word x) × kind.Ok (word x)) → (w ≡ word x) × kind.Ok (word x)
    by_test true t good e later = let same : y ≡ x = cc in subst (λ (z : X). (w ≡ word z) × kind.Ok (word z)) same (bytes_same w (word y) t, kind.tested (word y) good)
    by_test false t good e later = later e

pub keyword_form : {X : Type 0} (kind : Kind) (word : X → List ℕ) (all : List X) → HasWords word all → all_ok kind.test word all ≡ true → IsForm kind.see (λ (x : X). Unit {0}) (λ x. word x ∷ []) (read_one_of word all)
keyword_form {X} kind word all found good = record { again = λ x rest fits. rw (found x) refl; takes = takes }
  where
    takes : (ws : List (List ℕ)) (x : X) (rest : List (List ℕ)) → read_one_of word all ws ≡ Some (x, rest) → Unit {0} × Stood kind.see (word x ∷ []) ws rest
    takes [] x rest e = absurd cc
    takes (w ∷ ws) x rest e =
        let m = map_some (λ y. (y, ws)) (one_of word all w) (x, rest) e in
        let h = one_of_is kind word all w m.0 good m.1 in
        same_read (λ (y : X) (r : List (List ℕ)). Unit {0} × Stood kind.see (word y ∷ []) (w ∷ ws) r) m.0 x ws rest (ap (λ (p : X × List (List ℕ)). Some p) m.2)
        (tt, stood-one kind.see w (word m.0) ws (ap kind.see h.0))

pub keyword_clean : {X : Type 0} (kind : Kind) (word : X → List ℕ) (all : List X) → HasWords word all → all_ok kind.test word all ≡ true → (x : X) → AllByRecursion kind.Ok (word x ∷ [])
keyword_clean kind word all found good x = ((one_of_is kind word all (word x) x good (found x)).1, tt)

abbrev pub keyword : {kind : Kind} {X : Type 0} (word : X → List ℕ) (all : List X) → HasWords word all → all_ok kind.test word all ≡ true → Spelling kind X
keyword {kind} word all found good = record { fits = λ x. Unit {0}; words = λ x. word x ∷ []; read = read_one_of word all; form = keyword_form kind word all found good; clean = λ x fits. keyword_clean kind word all found good x }

-- ---- numbers

abbrev pub number : Spelling part ℕ
number = record { fits = λ n. n < 2 ^ 64; words = λ n. decimal n ∷ []; read = read_number; form = number_form as_it_stands; clean = λ n lt. ((number_clean n lt, number_undotted n lt), tt) }

abbrev pub i32 : Spelling part ℤ
i32 = record { fits = FitsSigned w32; words = signed_words; read = read_i32; form = i32_form as_it_stands; clean = λ z fits. (((i32_clean z fits).0, i32_undotted z fits), tt) }

abbrev pub i64 : Spelling part ℤ
i64 = record { fits = FitsSigned w64; words = signed_words; read = read_i64; form = i64_form as_it_stands; clean = λ z fits. (((i64_clean z fits).0, i64_undotted z fits), tt) }

abbrev pub non_zero_i32 : Spelling part NonZeroI32
non_zero_i32 = partly i32 i32_other_than_zero non_zero_i32_get i32_found i32_is

abbrev pub non_zero_i64 : Spelling part NonZeroI64
non_zero_i64 = partly i64 i64_other_than_zero non_zero_i64_get i64_found i64_is

abbrev pub u32 : Spelling line ℕ
u32 = record { fits = λ n. n < 2 ^ 32; words = λ n. decimal n ∷ []; read = read_u32; form = u32_form text_in; clean = u32_clean }

-- a number that may be absent
abbrev pub optional : Spelling line (Option ℕ)
optional = record { fits = OptionalFits; words = optional_words; read = read_optional; form = optional_form text_in; clean = optional_clean }

-- ---- texts, in which what is no plain byte is escaped

abbrev pub text : Spelling line (List ℕ)
text = record { fits = AllBytes; words = text_words; read = read_text; form = text_form; clean = text_words_clean }
