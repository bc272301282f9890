-- One text more is shown.
use Rattle.std.proofs.Common.{◌≡◌, ℕ, ◌+◌, ◌<◌, true, List, [], ◌∷◌, ◌++◌, length, take, get_or, sym, ap, ◌∙◌}
use Rattle.std.specs.List.{list_all}
use Rattle.std.specs.Str.{is_utf8}
use Rattle.std.proofs.lemmas.List.{append-nil, take_more}
use Rattle.std.proofs.lemmas.List.Sums.{AllPass-from_list_all}
use Rattle.wx_words.specs.Line.{spaced}
use Rattle.wx_words.specs.LineLaws.{spaced-append}

pub utf8_at : (texts : List (List ℕ)) (i : ℕ) (t : List ℕ) → list_all is_utf8 texts ≡ true → i < length texts → t ≡ get_or texts i t → is_utf8 t ≡ true
utf8_at texts i t all lt e = ap is_utf8 e ∙ AllPass-from_list_all is_utf8 texts all i t lt

pub spaced_more : (texts : List (List ℕ)) (i : ℕ) (t : List ℕ) → i < length texts → t ≡ get_or texts i t → spaced (take i texts) ++ 32 ∷ t ≡ spaced (take (i + 1) texts)
spaced_more texts i t lt e =
    let more : take (i + 1) texts ≡ take i texts ++ t ∷ [] = take_more texts i t lt ∙ ap (λ (v : List ℕ). take i texts ++ v ∷ []) (sym e) in
    let last : 32 ∷ t ≡ spaced (t ∷ []) = ap (λ (v : List ℕ). 32 ∷ v) (sym (append-nil t)) in
    ap (λ (v : List ℕ). spaced (take i texts) ++ v) last ∙ sym (spaced-append (take i texts) (t ∷ [])) ∙ ap spaced (sym more)
