-- What each pass sent is what was given of it, and then what the queue holds of it.
use Rattle.std.specs.Prelude.{◌≡◌, ℕ, ◌==◌, ◌<◌, ◌≤◌, Bool, true, List, [], ◌++◌, filter, map, nat_eq, slice_get, Some}
use Rattle.std.specs.List.{IsDistinct}
use mathlib.Core.Option.{Option, some, none}
use lib.ListN.{get_elem?}
use Rattle.wx_queue.specs.declared.rule.Known.{Known}
use Rattle.wx_queue.specs.declared.parcel.Sent.{Sent}

module _ {I : Type 0} where
  abbrev pub known : Bool → Bool → ℕ → List (Sent I) → List (Sent I) → ℕ → List (ℕ × List (Sent I)) → Known I
  known t s n sent given made noted = record { takes = t; sends = s; number = n; sent = sent; given = given; made = made; noted = noted }

  -- the items of pass k, in order
  abbrev pub of : ℕ → List (Sent I) → List (Sent I)
  of k items = filter (λ (m : Sent I). m.pass == k) items

  -- it stands at some place
  abbrev pub has : List (ℕ × List (Sent I)) → ℕ × List (Sent I) → Type 0
  has l e = (i : ℕ) × (get_elem? l i ≡ some e)

  -- each that was taken in has its list in the place of its number
  abbrev pub IsNoted : List (ℕ × List (Sent I)) → List (List (Sent I)) → Type 0
  IsNoted l rows = (e : ℕ × List (Sent I)) → has l e → slice_get rows e.0 ≡ Some e.1

  -- the numbers of those taken in
  abbrev pub numbers : List (ℕ × List (Sent I)) → List ℕ
  numbers l = map (λ (e : ℕ × List (Sent I)). e.0) l

  -- what the world's end knows where the queue holds these items: the passes that it took in have numbers of their own,
  -- below the count of those made; what each of them sent was given or is in the queue; and nothing is of a pass that wasn't made
  pub record Tells (v : Known I) (items : List (Sent I)) : Type 0 where
    pub apart : IsDistinct nat_eq (numbers v.noted)
    pub below : (e : ℕ × List (Sent I)) → has v.noted e → e.0 < v.made
    pub all : (e : ℕ × List (Sent I)) → has v.noted e → of e.0 (v.given ++ items) ≡ e.1
    pub more : (k : ℕ) → v.made ≤ k → of k (v.given ++ items) ≡ []

  -- a pass that may send has a seat of its own, and knows what was sent
  abbrev pub FitsPass : (ℕ → Option ℕ) → (ℕ → List (Sent I)) → ℕ → Known I → Type 0
  FitsPass seat sent place v = v.sends ≡ true → (seat v.number ≡ some place) × (v.sent ≡ sent v.number)

  -- the one world's end knows what was given, that later passes have sent nothing, and what those that it took in have sent
  abbrev pub FitsWorld : ℕ → (ℕ → Option ℕ) → (ℕ → List (Sent I)) → List (Sent I) → ℕ → Known I → Type 0
  FitsWorld reader seat sent given place v =
      v.takes ≡ true
      → (place ≡ reader) × (v.given ≡ given)
      × ((k : ℕ) → v.made ≤ k → (seat k ≡ none) × (sent k ≡ []))
      × ((e : ℕ × List (Sent I)) → has v.noted e → (seat e.0 ≡ none) × (e.1 ≡ sent e.0) × (e.0 < v.made))
      × IsDistinct nat_eq (numbers v.noted)

  abbrev pub Fits : ℕ → (ℕ → Option ℕ) → (ℕ → List (Sent I)) → List (Sent I) → ℕ → Known I → Type 0
  Fits reader seat sent given place v = FitsPass seat sent place v × FitsWorld reader seat sent given place v

  abbrev pub Delivers : {T : Type 0} → (T → Sent I) → List T → List (Known I) → Type 0
  Delivers mark items views =
      (reader : ℕ) × (seat : ℕ → Option ℕ) × (sent : ℕ → List (Sent I)) × (given : List (Sent I))
      × ((k : ℕ) → of k (given ++ map mark items) ≡ sent k)
      × ((place : ℕ) (v : Known I) → get_elem? views place ≡ some v → Fits reader seat sent given place v)
