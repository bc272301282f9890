-- A meeting tells which paths are of a root.
use Rattle.std.proofs.Common.{◌≡◌, ℕ, suc, ◌+◌, ◌≤◌, Bool, true, false, List, [], ◌∷◌, ◌++◌, length, arith, refl, ap, sym, ◌∙◌, inl, inr, append_assoc}
use Rattle.std.specs.Prelude.{◌&&◌, ◌||◌, if◌then◌else◌, nat_le, codes}
use Rattle.std.proofs.lemmas.Bool.{leb-true, le-leb, and_parts, and_from, or_cases, or_left, or_right}
use Rattle.std.proofs.Math.Bool.{or-false}
use Rattle.wx_paths.specs.Paths.{is_absolute, normalize, path_parts}
use Rattle.wx_tree.specs.Paths.{Path, has_entry, holds, holds_below, same}
use Rattle.wx_tree.specs.Places.{place}
use Rattle.wx_tree.specs.declared.root.Root.{Root}
use Rattle.wx_tree.proofs.PathLemmas.{same-true, holds-length, holds-one, holds-refl, same-refl, same_truth}
use Rattle.wx_lane.specs.Meetings.{is_of_met, meet_all, met, start}
use Rattle.wx_lane.specs.Public.{is_of, named}
use Rattle.wx_lane.specs.declared.meeting.Meeting.{Meeting}
use Rattle.wx_lane.proofs.MeetLemmas.{meet-append, meeting, met-walked, shared-holds}
use Rattle.wx_lane.proofs.WalkLemmas.{normal-walked, parts-behind}

parts-seen : (folder path : List ℕ) → path_parts (folder ++ codes "/" ++ path) ≡ path_parts folder ++ path_parts path
parts-seen folder path = ap path_parts (append_assoc folder (codes "/") path) ∙ parts-behind folder path

met-if : (r : Path) (a : Bool) (folder path : List ℕ) → meet_all r (if a then start else meet_all r start (path_parts folder)) (path_parts path) ≡ meeting r (place (normalize (if a then path else folder ++ codes "/" ++ path)))
met-if r true folder path = met-walked r [] (path_parts path) ∙ ap (meeting r) (sym (normal-walked path))
met-if r false folder path =
    sym (meet-append r start (path_parts folder) (path_parts path))
    ∙ (ap (meet_all r start) (sym (parts-seen folder path))
    ∙ (met-walked r [] (path_parts (folder ++ codes "/" ++ path)) ∙ ap (meeting r) (sym (normal-walked (folder ++ codes "/" ++ path)))))

met-named : (r : Path) (folder path : List ℕ) → met r folder path ≡ meeting r (named folder path)
met-named r folder path = met-if r (is_absolute path) folder path

below-or-same : (r p : Path) → (same r p || holds_below r p) ≡ holds r p
below-or-same r [] = or-false (same r [])
below-or-same r (x ∷ p) = refl

entry-or-same : (r p : Path) → (same r p || has_entry r p) ≡ (holds r p && nat_le (length p) (length r + 1))
entry-or-same r [] = or-false (same r []) ∙ same_truth (same r []) (same r [] && nat_le 0 (length r + 1)) (λ h. and_from (same r []) (nat_le 0 (length r + 1)) h (le-leb 0 (length r + 1) (omega arith))) (λ h. (and_parts (same r []) (nat_le 0 (length r + 1)) h).0)
entry-or-same r (x ∷ p) = same_truth (same r (x ∷ p) || same r p) (holds r (x ∷ p) && nat_le (length (x ∷ p)) (length r + 1)) there back
  where
    there : (same r (x ∷ p) || same r p) ≡ true → (holds r (x ∷ p) && nat_le (length (x ∷ p)) (length r + 1)) ≡ true
    there h = elim (or_cases (same r (x ∷ p)) (same r p) h) [
      | inl a ↦
          let e : length r ≡ length (x ∷ p) = ap length (same-true r (x ∷ p) a) in
          and_from (holds r (x ∷ p)) (nat_le (length (x ∷ p)) (length r + 1)) (or_left (same r (x ∷ p)) (holds r p) a) (le-leb (length (x ∷ p)) (length r + 1) (omega arith))
      | inr a ↦
          let f : r ≡ p = same-true r p a in
          let e : length r ≡ length p = ap length f in
          let k : holds r p ≡ true = ap (λ (q : Path). holds q p) f ∙ holds-refl p in
          and_from (holds r (x ∷ p)) (nat_le (length (x ∷ p)) (length r + 1)) (or_right (same r (x ∷ p)) (holds r p) k) (le-leb (length (x ∷ p)) (length r + 1) (omega arith))
    ]

    back : (holds r (x ∷ p) && nat_le (length (x ∷ p)) (length r + 1)) ≡ true → (same r (x ∷ p) || same r p) ≡ true
    back h =
        let a = and_parts (holds r (x ∷ p)) (nat_le (length (x ∷ p)) (length r + 1)) h in
        let most : suc (length p) ≤ length r + 1 = leb-true (suc (length p)) (length r + 1) a.1 in
        elim (or_cases (same r (x ∷ p)) (holds r p) a.0) [
          | inl b ↦ or_left (same r (x ∷ p)) (same r p) b
          | inr b ↦
              let le : length r ≤ length p = holds-length r p b in
              let l : length r ≡ length p = omega arith in
              let f : r ≡ p = holds-one r p p l b (holds-refl p) in
              or_right (same r (x ∷ p)) (same r p) (ap (λ (q : Path). same q p) f ∙ same-refl p)
        ]

of-held : (path : Path) (recursive : Bool) (p : Path) → (same path p || (if recursive then holds_below path p else has_entry path p)) ≡ (holds path p && (recursive || nat_le (length p) (length path + 1)))
of-held path true p = below-or-same path p ∙ same_truth (holds path p) (holds path p && true) (λ h. and_from (holds path p) true h refl) (λ h. (and_parts (holds path p) true h).0)
of-held path false p = entry-or-same path p

pub is_of_told : (r : Root) (folder path : List ℕ) → is_of r (named folder path) ≡ is_of_met r (met r.path folder path)
is_of_told r folder path =
    of-held r.path r.recursive (named folder path)
    ∙ (ap (λ (b : Bool). b && (r.recursive || nat_le (length (named folder path)) (length r.path + 1))) (sym (shared-holds r.path (named folder path)))
    ∙ ap (is_of_met r) (sym (met-named r.path folder path)))

pub told_of : (r : Root) (folder path : List ℕ) (m : Meeting) (b : Bool) → m ≡ met r.path folder path → b ≡ is_of_met r m → b ≡ is_of r (named folder path)
told_of r folder path m b e f = f ∙ (ap (is_of_met r) e ∙ sym (is_of_told r folder path))
