-- Events are told one after the other.
use Rattle.std.proofs.Common.{◌≡◌, ℕ, Bool, true, false, List, [], ◌∷◌, ◌++◌, refl, ap, sym, subst, ◌∙◌, append_assoc, inl, inr}
use Rattle.std.specs.Prelude.{filter, map, Some}
use Rattle.std.specs.Cmp.Lexicographic.{slice_cmp, texts_ties}
use Rattle.std.specs.List.{AllByRecursion}
use Rattle.std.specs.List.Sorted.{IsStrictlySortedBy}
use Rattle.std.specs.Map.{keys_of}
use Rattle.std.specs.Ordering.{is_eq, nat_cmp}
use Rattle.std.specs.declared.cmp.Ordering.TheVariants.{Less}
use Rattle.wx_tree.specs.Lists.{In}
use Rattle.wx_tree.specs.Paths.{same_part}
use Rattle.wx_tree.proofs.PathLemmas.{same_part-refl}
use Rattle.wx_events.specs.declared.file_type.FileType.{FileType}
use Rattle.wx_events.specs.declared.kind.FileEventKind.{FileEventKind}
use Rattle.wx_notify.specs.declared.notify.Notify.{Notify}
use Rattle.wx_poller.specs.Changes.{told}
use Rattle.wx_poller.specs.Listings.{IsMap, Sight}

pub told_more : (event : FileType → FileEventKind) (keep : Sight → Bool) (s : Sight) (rest : List Sight) (before : List Notify) → keep s ≡ true
    → (before ++ told event s ∷ []) ++ map (told event) (filter keep rest) ≡ before ++ map (told event) (filter keep (s ∷ rest))
told_more event keep s rest before h = rw h (append_assoc before (told event s ∷ []) (map (told event) (filter keep rest)))

pub told_same : (event : FileType → FileEventKind) (keep : Sight → Bool) (s : Sight) (rest : List Sight) (before : List Notify) → keep s ≡ false
    → before ++ map (told event) (filter keep rest) ≡ before ++ map (told event) (filter keep (s ∷ rest))
told_same event keep s rest before h = rw h refl

all_keys : (P : List ℕ → Type 0) (es : List Sight) (s : Sight) → AllByRecursion P (keys_of es) → In s es → P s.0
all_keys P [] s h i = absurd i
all_keys P (e ∷ es) s h (inl r) = subst (λ (z : Sight). P z.0) r h.0
all_keys P (e ∷ es) s h (inr i) = all_keys P es s h.1 i

-- paths rise, so each is there once
pub is_map : (es : List Sight) → IsStrictlySortedBy (slice_cmp nat_cmp) (keys_of es) → IsMap es
unfolding IsStrictlySortedBy
is_map [] h s i = absurd i
is_map (e ∷ es) h s (inl r) = (let k : same_part e.0 s.0 ≡ true = sym (ap (λ (z : Sight). same_part e.0 z.0) r) ∙ same_part-refl e.0 in rw k (ap (λ (z : Sight). Some z.1) r))
is_map (e ∷ es) h s (inr i) = (let k : same_part e.0 s.0 ≡ false = texts_ties e.0 s.0 ∙ ap is_eq (all_keys (λ y. slice_cmp nat_cmp e.0 y ≡ Less) es s h.0 i) in rw k (is_map es h.1 s i))
