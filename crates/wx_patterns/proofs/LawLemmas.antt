-- Laws of what is ignored.
use Rattle.std.proofs.Common.{◌≡◌, ℕ, Bool, true, false, cond, List, [], ◌∷◌, length, drop, refl, ap}
use Rattle.std.specs.Prelude.{◌&&◌, ◌||◌, not, Option}
use Rattle.std.specs.List.{All, list_any}
use Rattle.std.specs.Str.{bytes_eq}
use Rattle.std.proofs.lemmas.Bool.{and_parts}
use Rattle.std.proofs.lemmas.List.Elements.{All-head, All-tail}
use Rattle.wx_words.specs.LineLaws.{bytes_same, bytes_again}
use Rattle.wx_events.specs.declared.event.Event.{Event}
use Rattle.wx_events.specs.declared.file_type.FileType.{FileType}
use Rattle.wx_keys.specs.Tags.{paths}
use Rattle.wx_paths.specs.Paths.{begins_with, components, starts_with}
use Rattle.wx_paths.specs.FrontLaws.{begins_with-trans}
use Rattle.wx_patterns.specs.declared.pattern.Pattern.{Pattern}
use Rattle.wx_patterns.specs.Lists.{is_empty, some_front}
use Rattle.wx_patterns.specs.Ignoring.{hidden_by, below, ignored, passes}
use Rattle.wx_patterns.specs.Laws.{AllBelowIsIgnored, NoEventPassesBelow, NoneIgnoreNothing, NoneLetEventsPass}

-- what holds of a front of a list holds of one of each list that begins with it
pub some_front-more : (q : List (List ℕ) → Bool) (xs ys : List (List ℕ)) → begins_with ys xs ≡ true → some_front q xs ≡ true → some_front q ys ≡ true
some_front-more q [] ys e f = absurd cc
some_front-more q (x ∷ xs) [] e f = absurd cc
some_front-more q (x ∷ xs) (y ∷ ys) e f =
    let g = and_parts (bytes_eq y x) (begins_with ys xs) e in
    let same : y ≡ x = bytes_same y x g.0 in
    let P : Bool → Type 0 = λ b. (b || some_front (λ front. q (x ∷ front)) xs) ≡ true → (b || some_front (λ front. q (x ∷ front)) ys) ≡ true in
    rw same (elim (q (x ∷ [])) as P [ true ↦ λ h. refl | false ↦ λ h. some_front-more (λ front. q (x ∷ front)) xs ys g.1 h ] f)

-- behind what both begin with, one still begins with the other
pub begins_with-drop : (base xs ys : List (List ℕ)) → begins_with ys xs ≡ true → begins_with xs base ≡ true → begins_with (drop (length base) ys) (drop (length base) xs) ≡ true
begins_with-drop [] xs ys e f = e
begins_with-drop (b ∷ base) [] ys e f = absurd cc
begins_with-drop (b ∷ base) (x ∷ xs) [] e f = absurd cc
begins_with-drop (b ∷ base) (x ∷ xs) (y ∷ ys) e f =
    begins_with-drop base xs ys (and_parts (bytes_eq y x) (begins_with ys xs) e).1 (and_parts (bytes_eq x b) (begins_with xs base) f).1

pub below-more : (base : List (List ℕ)) (q : List (List ℕ) → Bool) (xs ys : List (List ℕ)) → begins_with ys xs ≡ true → some_front q (below base xs) ≡ true → some_front q (below base ys) ≡ true
below-more base q xs ys e f =
    let P : Bool → Type 0 = λ b. begins_with xs base ≡ b → some_front q (cond b (drop (length base) xs) []) ≡ true → some_front q (below base ys) ≡ true in
    elim (begins_with xs base) as P [
      | true ↦ λ h g. rw (begins_with-trans ys xs base e h) (some_front-more q _ _ (begins_with-drop base xs ys e h) g)
      | false ↦ λ h g. absurd cc
    ] refl f

pub all_below : AllBelowIsIgnored
all_below base patterns folder path e lies = below-more base (hidden_by patterns) (components folder) (components path) lies e

-- a list of which each item fails has none that passes
pub none_of : {X : Type 0} (test : X → Bool) (P : X → Type 0) → ((x : X) → P x → test x ≡ false) → (xs : List X) → All P xs → list_any test xs ≡ false
none_of test P fails [] all = refl
none_of test P fails (x ∷ xs) all = rw (fails x (All-head P x xs all)) (none_of test P fails xs (All-tail P x xs all))

pub no_event_below : NoEventPassesBelow
no_event_below base patterns folder event e some all =
    let test : (List ℕ × Option FileType) → Bool = λ path. not (ignored base patterns path.0) in
    let P : (List ℕ × Option FileType) → Type 0 = λ path. starts_with path.0 folder ≡ true in
    rw some (none_of test P (λ path lies. ap not (all_below base patterns folder path.0 e lies)) (paths event.tags) all)

-- what holds of no front holds of none of a list
pub no_front : (q : List (List ℕ) → Bool) → ((front : List (List ℕ)) → q front ≡ false) → (names : List (List ℕ)) → some_front q names ≡ false
no_front q none [] = refl
no_front q none (x ∷ names) = rw (none (x ∷ []), no_front (λ front. q (x ∷ front)) (λ front. none (x ∷ front)) names) refl

pub none_ignore : NoneIgnoreNothing
none_ignore base path = no_front (hidden_by []) (λ front. refl) (below base (components path))

all_pass : (base : List (List ℕ)) (named : List (List ℕ × Option FileType)) → (is_empty named || list_any (λ path. not (ignored base [] path.0)) named) ≡ true
all_pass base [] = refl
all_pass base (path ∷ named) = rw (none_ignore base path.0) refl

pub none_let_pass : NoneLetEventsPass
none_let_pass base event = all_pass base (paths event.tags)
