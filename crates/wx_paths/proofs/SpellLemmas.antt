-- Names that are spelled with slashes between them are read again.
use Rattle.std.proofs.Common.{◌≡◌, ℕ, zero, suc, Bool, true, false, cond, List, [], ◌∷◌, ◌++◌, take, refl, sym, ap, ◌∙◌, append_assoc, codes}
use Rattle.std.specs.Prelude.{◌==◌}
use Rattle.std.specs.List.{filter, fold, join_with_byte, onto_first}
use Rattle.std.specs.Str.{bytes_eq}
use Rattle.std.proofs.lemmas.List.{append-nil}
use Rattle.wx_words.specs.Line.{parts}
use Rattle.wx_paths.specs.Paths.{is_named, path_parts, is_absolute, with_part, kept, spelled, without_last}

-- no byte is a slash
abbrev pub HasNoSlash : List ℕ → Type 0
HasNoSlash [] = Unit {0}
HasNoSlash (b ∷ bytes) = ((b == 47) ≡ false) × HasNoSlash bytes

abbrev pub HaveNoSlash : List (List ℕ) → Type 0
HaveNoSlash [] = Unit {0}
HaveNoSlash (piece ∷ pieces) = HasNoSlash piece × HaveNoSlash pieces

abbrev pub AreNames : List (List ℕ) → Type 0
AreNames [] = Unit {0}
AreNames (name ∷ names) = ((is_named name ≡ true) × HasNoSlash name) × AreNames names

pub onto_first-clean : (b : ℕ) (pieces : List (List ℕ)) → (b == 47) ≡ false → HaveNoSlash pieces → HaveNoSlash (onto_first b pieces)
onto_first-clean b [] e h = ((e, tt), tt)
onto_first-clean b (piece ∷ pieces) e h = ((e, h.0), h.1)

-- the pieces between slashes have none
pub pieces_clean : (path : List ℕ) → HaveNoSlash (parts 47 path)
pieces_clean [] = (tt, tt)
pieces_clean (b ∷ path) =
    let P : Bool → Type 0 = λ t. (b == 47) ≡ t → HaveNoSlash (cond t ([] ∷ parts 47 path) (onto_first b (parts 47 path))) in
    elim (b == 47) as P [
      | true ↦ λ e. (tt, pieces_clean path)
      | false ↦ λ e. onto_first-clean b (parts 47 path) e (pieces_clean path)
    ] refl

pub names_from_pieces : (pieces : List (List ℕ)) → HaveNoSlash pieces → AreNames (filter is_named pieces)
names_from_pieces [] h = tt
names_from_pieces (piece ∷ pieces) h =
    let P : Bool → Type 0 = λ t. is_named piece ≡ t → AreNames (cond t (piece ∷ filter is_named pieces) (filter is_named pieces)) in
    elim (is_named piece) as P [
      | true ↦ λ e. ((e, h.0), names_from_pieces pieces h.1)
      | false ↦ λ e. names_from_pieces pieces h.1
    ] refl

-- the parts of a path are names
pub parts_are_names : (path : List ℕ) → AreNames (path_parts path)
parts_are_names path = names_from_pieces (parts 47 path) (pieces_clean path)

-- ---- names are read again

pub split_alone : (piece : List ℕ) → HasNoSlash piece → parts 47 piece ≡ piece ∷ []
split_alone [] h = refl
split_alone (b ∷ piece) h = rw (h.0, split_alone piece h.1) refl

pub split_behind : (piece rest : List ℕ) → HasNoSlash piece → parts 47 (piece ++ 47 ∷ rest) ≡ piece ∷ parts 47 rest
split_behind [] rest h = refl
split_behind (b ∷ piece) rest h = rw (h.0, split_behind piece rest h.1) refl

pub split_joined : (piece : List ℕ) (pieces : List (List ℕ)) → HasNoSlash piece → HaveNoSlash pieces → parts 47 (join_with_byte 47 (piece ∷ pieces)) ≡ piece ∷ pieces
split_joined piece [] h k = split_alone piece h
split_joined piece (next ∷ pieces) h k = split_behind piece (join_with_byte 47 (next ∷ pieces)) h ∙ ap (λ (v : List (List ℕ)). piece ∷ v) (split_joined next pieces k.0 k.1)

pub names_clean : (names : List (List ℕ)) → AreNames names → HaveNoSlash names
names_clean [] h = tt
names_clean (name ∷ names) h = (h.0.1, names_clean names h.1)

pub filter_names : (names : List (List ℕ)) → AreNames names → filter is_named names ≡ names
filter_names [] h = refl
filter_names (name ∷ names) h = rw (h.0.0, filter_names names h.1) refl

pub parts_joined : (names : List (List ℕ)) → AreNames names → path_parts (join_with_byte 47 names) ≡ names
parts_joined [] h = refl
parts_joined (name ∷ names) h = ap (filter is_named) (split_joined name names h.0.1 (names_clean names h.1)) ∙ filter_names (name ∷ names) h

pub name_relative : (name rest : List ℕ) → is_named name ≡ true → HasNoSlash name → is_absolute (name ++ rest) ≡ false
name_relative [] rest e h = absurd cc
name_relative (b ∷ name) rest e h = h.0

pub joined_relative : (names : List (List ℕ)) → AreNames names → is_absolute (join_with_byte 47 names) ≡ false
joined_relative [] h = refl
joined_relative (name ∷ []) h = ap is_absolute (sym (append-nil name)) ∙ name_relative name [] h.0.0 h.0.1
joined_relative (name ∷ next ∷ names) h = name_relative name (47 ∷ join_with_byte 47 (next ∷ names)) h.0.0 h.0.1

pub spelled-parts : (absolute : Bool) (names : List (List ℕ)) → AreNames names → path_parts (spelled absolute names) ≡ names
spelled-parts true names h = parts_joined names h
spelled-parts false names h = parts_joined names h

pub spelled-absolute : (absolute : Bool) (names : List (List ℕ)) → AreNames names → is_absolute (spelled absolute names) ≡ absolute
spelled-absolute true names h = refl
spelled-absolute false names h = joined_relative names h

-- ---- parts that are kept

-- none is `..`
abbrev pub HaveNoUp : List (List ℕ) → Type 0
HaveNoUp [] = Unit {0}
HaveNoUp (name ∷ names) = (bytes_eq name (codes "..") ≡ false) × HaveNoUp names

-- names of which none is `..`
abbrev pub AreKept : List (List ℕ) → Type 0
AreKept names = AreNames names × HaveNoUp names

pub kept-push : (names : List (List ℕ)) (name : List ℕ) → AreKept names → is_named name ≡ true → HasNoSlash name → bytes_eq name (codes "..") ≡ false → AreKept (names ++ name ∷ [])
kept-push [] name h e f g = (((e, f), tt), (g, tt))
kept-push (n ∷ names) name h e f g = let k = kept-push names name (h.0.1, h.1.1) e f g in ((h.0.0, k.0), (h.1.0, k.1))

pub kept-take : (n : ℕ) (names : List (List ℕ)) → AreKept names → AreKept (take n names)
kept-take zero names h = (tt, tt)
kept-take (suc n) [] h = (tt, tt)
kept-take (suc n) (name ∷ names) h = let k = kept-take n names (h.0.1, h.1.1) in ((h.0.0, k.0), (h.1.0, k.1))

pub kept-step : (names : List (List ℕ)) (name : List ℕ) → AreKept names → is_named name ≡ true → HasNoSlash name → AreKept (with_part names name)
kept-step names name h e f =
    let P : Bool → Type 0 = λ t. bytes_eq name (codes "..") ≡ t → AreKept (cond t (without_last names) (names ++ name ∷ [])) in
    elim (bytes_eq name (codes "..")) as P [
      | true ↦ λ g. kept-take _ names h
      | false ↦ λ g. kept-push names name h e f g
    ] refl

pub kept-fold : (names more : List (List ℕ)) → AreKept names → AreNames more → AreKept (fold with_part names more)
kept-fold names [] h k = h
kept-fold names (name ∷ more) h k = kept-fold (with_part names name) more (kept-step names name h k.0.0 k.0.1) k.1

pub kept-stays : (names more : List (List ℕ)) → HaveNoUp more → fold with_part names more ≡ names ++ more
kept-stays names [] h = sym (append-nil names)
kept-stays names (name ∷ more) h = rw h.0 (kept-stays (names ++ name ∷ []) more h.1 ∙ append_assoc names (name ∷ []) more)

pub kept_parts : (path : List ℕ) → AreKept (kept (path_parts path))
kept_parts path = kept-fold [] (path_parts path) (tt, tt) (parts_are_names path)
