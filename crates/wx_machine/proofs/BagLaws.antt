-- In a run an item of the bag is found by its name, and the journal lists it.
use Rattle.std.proofs.Common.{◌≡◌, ℕ, zero, suc, ◌+◌, ◌≤◌, ◌<◌, Bool, true, false, cond, List, [], ◌∷◌, ◌++◌, slice_get, arith, refl, ap, sym, subst, ◌∙◌, eq-eqb, ne_eqb}
use Rattle.std.specs.Prelude.{Option, None, Some, remove, ◌==◌}
use Rattle.std.proofs.lemmas.Bool.{eqb-true}
use Rattle.std.specs.List.{AllByRecursion}
use Rattle.wx_words.specs.EachLaws.{each_append, each_weaker, each_at}
use Rattle.wx_events.specs.declared.event.Event.{Event}
use Rattle.wx_events.specs.declared.priority.Priority.{Priority}
use Rattle.prio_channel.specs.Channel.{AllAtMost}
use Rattle.prio_channel.specs.SameBag.{SameBag, Takes}
use Rattle.prio_channel.proofs.BagLaws.{take-bag, same-trans, all-same}
use Rattle.wx_journal.specs.declared.entry.Entry.{Entry}
use Rattle.wx_journal.specs.declared.entry.Entry.TheVariants.{Sent, Offer, Take}
use Rattle.wx_journal.specs.declared.entry.Offered.TheVariants.{Queued, Full, Closed}
use Rattle.wx_journal.specs.declared.entry.Named.{Named}
use Rattle.wx_journal.specs.Names.{event_count, NamesItsOwn}
use Rattle.wx_machine.proofs.Owners.{either}
use Rattle.wx_machine.specs.Journal.{listed, named, without, bag, is_urgent_named, is_urgent_in}
use Rattle.wx_machine.specs.Due.{IsGreatest}

abbrev Item : Type 0
Item = Named × Priority

-- the names are below a number, above a number, rising
abbrev pub NamesBelow : ℕ → List Item → Type 0
NamesBelow n xs = AllByRecursion (λ x. x.0.name < n) xs

abbrev AreAbove : ℕ → List Item → Type 0
AreAbove n xs = AllByRecursion (λ x. n < x.0.name) xs

abbrev pub NamesRise : List Item → Type 0
NamesRise [] = Unit {0}
NamesRise (x ∷ xs) = AreAbove x.0.name xs × NamesRise xs

-- each item is what is looked up under its name
abbrev pub AreListed : (ℕ → Option (Event × Priority)) → List Item → Type 0
AreListed look xs = AllByRecursion (λ x. look x.0.name ≡ Some (x.0.event, x.1)) xs

below-rise : (m n : ℕ) (xs : List Item) → m ≤ n → NamesBelow m xs → NamesBelow n xs
below-rise m n xs le h = each_weaker (λ x. x.0.name < m) (λ x. x.0.name < n) (λ x lt. omega (arith, lt, le)) xs h

rising-append : (xs : List Item) (x : Item) → NamesBelow x.0.name xs → NamesRise xs → NamesRise (xs ++ x ∷ [])
rising-append [] x b r = (tt, tt)
rising-append (y ∷ xs) x b r = (each_append (λ z. y.0.name < z.0.name) xs (x ∷ []) r.0 (b.0, tt), rising-append xs x b.1 r.1)

all-without : (P : Item → Type 0) (name : ℕ) (xs : List Item) → AllByRecursion P xs → AllByRecursion P (without name xs)
all-without P name [] h = tt
all-without P name (x ∷ xs) h = either (AllByRecursion P) (x.0.name == name) xs (x ∷ without name xs) h.1 (h.0, all-without P name xs h.1)

rising-without : (name : ℕ) (xs : List Item) → NamesRise xs → NamesRise (without name xs)
rising-without name [] r = tt
rising-without name (x ∷ xs) r = either NamesRise (x.0.name == name) xs (x ∷ without name xs) r.1 (all-without (λ z. x.0.name < z.0.name) name xs r.0, rising-without name xs r.1)

-- an event that is listed under a new name leaves what is listed under the names below
not-new : (m n : ℕ) → n < m → (m == n) ≡ false
not-new m n lt = ne_eqb m n (λ e. omega arith)

listed-rise : (m : ℕ) (v : Option (Event × Priority)) (look : ℕ → Option (Event × Priority)) (xs : List Item) → NamesBelow m xs → AreListed look xs → AreListed (λ name. cond (m == name) v (look name)) xs
listed-rise m v look [] b h = tt
listed-rise m v look (x ∷ xs) b h = (ap (λ (t : Bool). cond t v (look x.0.name)) (not-new m x.0.name b.0) ∙ h.0, listed-rise m v look xs b.1 h.1)

listed-new : (m : ℕ) (v : Option (Event × Priority)) (look : ℕ → Option (Event × Priority)) → cond (m == m) v (look m) ≡ v
listed-new m v look = ap (λ (t : Bool). cond t v (look m)) (eq-eqb m m refl)

-- what is known of the bag of a journal that names only what its own entries made
pub record BagFacts (p : List Entry) : Type 0 where
  pub rising : NamesRise (bag p)
  pub below : NamesBelow (event_count p) (bag p)
  pub are_listed : AreListed (λ name. listed name p) (bag p)

-- an item more, under a new name
with_item : (xs : List Item) (look : ℕ → Option (Event × Priority)) (m : ℕ) (event : Event) (priority : Priority) → NamesRise xs → NamesBelow m xs → AreListed look xs
    → NamesRise (xs ++ (record { name = m; event = event }, priority) ∷ []) × NamesBelow (m + 1) (xs ++ (record { name = m; event = event }, priority) ∷ []) × AreListed (λ name. cond (m == name) (Some (event, priority)) (look name)) (xs ++ (record { name = m; event = event }, priority) ∷ [])
with_item xs look m event priority r b l =
    let x : Item = (record { name = m; event = event }, priority) in (
      rising-append xs x b r,
      each_append (λ z. z.0.name < m + 1) xs (x ∷ []) (below-rise m (m + 1) xs (omega arith) b) (omega arith, tt),
      each_append (λ z. cond (m == z.0.name) (Some (event, priority)) (look z.0.name) ≡ Some (z.0.event, z.1)) xs (x ∷ []) (listed-rise m (Some (event, priority)) look xs b l) (listed-new m (Some (event, priority)) look, tt),
    )

pub bag_facts : (p : List Entry) → NamesItsOwn p → BagFacts p
bag_facts [] own = record { rising = tt; below = tt; are_listed = tt }
bag_facts (Sent name event priority ∷ p) own =
    let h = bag_facts p own.1 in
    let n = with_item (bag p) (λ m. listed m p) (event_count p) event priority h.rising h.below h.are_listed in
    subst (λ (m : ℕ). BagFacts (Sent m event priority ∷ p)) (sym own.0) (record { rising = n.0; below = n.1; are_listed = n.2 })
bag_facts (Offer name item Queued event priority ∷ p) own =
    let h = bag_facts p own.1 in
    let n = with_item (bag p) (λ m. listed m p) (event_count p) event priority h.rising h.below h.are_listed in
    subst (λ (m : ℕ). BagFacts (Offer m item Queued event priority ∷ p)) (sym own.0.0) (record { rising = n.0; below = n.1; are_listed = n.2 })
bag_facts (Offer name item Full event priority ∷ p) own =
    let h = bag_facts p own.1 in
    subst (λ (m : ℕ). BagFacts (Offer m item Full event priority ∷ p)) (sym own.0.0) (record {
      rising = h.rising;
      below = below-rise _ _ (bag p) (omega arith) h.below;
      are_listed = listed-rise (event_count p) (Some (event, priority)) (λ m. listed m p) (bag p) h.below h.are_listed;
    })
bag_facts (Offer name item Closed event priority ∷ p) own =
    let h = bag_facts p own.1 in
    subst (λ (m : ℕ). BagFacts (Offer m item Closed event priority ∷ p)) (sym own.0.0) (record {
      rising = h.rising;
      below = below-rise _ _ (bag p) (omega arith) h.below;
      are_listed = listed-rise (event_count p) (Some (event, priority)) (λ m. listed m p) (bag p) h.below h.are_listed;
    })
bag_facts (Take name ∷ p) own =
    let h = bag_facts p own.1 in record {
      rising = rising-without name (bag p) h.rising;
      below = all-without (λ z. z.0.name < event_count p) name (bag p) h.below;
      are_listed = all-without (λ z. listed z.0.name p ≡ Some (z.0.event, z.1)) name (bag p) h.are_listed;
    }
bag_facts (e ∷ p) own = let h = bag_facts p own.1 in record { rising = h.rising; below = h.below; are_listed = h.are_listed }

-- ---- an item is found by its name

above-at : (n : ℕ) (xs : List Item) (i : ℕ) (x : Item) → AreAbove n xs → slice_get xs i ≡ Some x → n < x.0.name
above-at n [] i x h e = cc
above-at n (y ∷ ys) zero x h e = let same : y ≡ x = cc in rw (← same) h.0
above-at n (y ∷ ys) (suc i) x h e = above-at n ys i x h.1 e

older : (m n : ℕ) → m < n → (m == n) ≡ false
older m n lt = ne_eqb m n (λ e. omega arith)

named-at : (xs : List Item) (i : ℕ) (x : Item) → NamesRise xs → slice_get xs i ≡ Some x → named x.0.name xs ≡ Some x
named-at [] i x r e = cc
named-at (y ∷ ys) zero x r e = let same : y ≡ x = cc in rw (same, eq-eqb x.0.name x.0.name refl) refl
named-at (y ∷ ys) (suc i) x r e = rw (older y.0.name x.0.name (above-at y.0.name ys i x r.0 e)) (named-at ys i x r.1 e)

without-at : (xs : List Item) (i : ℕ) (x : Item) → NamesRise xs → slice_get xs i ≡ Some x → without x.0.name xs ≡ remove xs i
without-at [] i x r e = cc
without-at (y ∷ ys) zero x r e = let same : y ≡ x = cc in rw (same, eq-eqb x.0.name x.0.name refl) refl
without-at (y ∷ ys) (suc i) x r e = rw (older y.0.name x.0.name (above-at y.0.name ys i x r.0 e)) (ap (λ zs. y ∷ zs) (without-at ys i x r.1 e))

-- and is there no more where it was taken away
none-above : (n : ℕ) (xs : List Item) → AreAbove n xs → named n xs ≡ None
none-above n [] h = refl
none-above n (x ∷ xs) h = rw (ne_eqb x.0.name n (λ e. absurd (omega (arith, e, h.0)))) (none-above n xs h.1)

none-by : (n : ℕ) (b : Bool) (x : Item) (xs : List Item) → (x.0.name == n) ≡ b → AreAbove x.0.name xs → named n (without n xs) ≡ None → named n (cond b xs (x ∷ without n xs)) ≡ None
none-by n true x xs is above rest = let same : x.0.name ≡ n = eqb-true x.0.name n is in none-above n xs (subst (λ m. AreAbove m xs) same above)
none-by n false x xs is above rest = rw is rest

pub named-gone : (n : ℕ) (xs : List Item) → NamesRise xs → named n (without n xs) ≡ None
named-gone n [] r = refl
named-gone n (x ∷ xs) r = none-by n (x.0.name == n) x xs refl r.0 (named-gone n xs r.1)

-- what is known of an item that a queue gave, where the queue is the bag
pub record IsTaken (p : List Entry) (x : Item) (rest : List Item) : Type 0 where
  pub is_named : named x.0.name (bag p) ≡ Some x
  pub is_rest : SameBag rest (without x.0.name (bag p))
  pub is_gone : named x.0.name (without x.0.name (bag p)) ≡ None
  pub is_greatest : IsGreatest x.0.name (bag p)
  pub is_listed : listed x.0.name p ≡ Some (x.0.event, x.1)
  pub is_below : x.0.name < event_count p
  pub urgency : is_urgent_named x.0.name p ≡ is_urgent_in (Some (x.0.event, x.1))

pub is_taken : (p : List Entry) (queue rest : List Item) (x : Item) → NamesItsOwn p → SameBag queue (bag p) → Takes queue x rest → AllAtMost x.1 queue → IsTaken p x rest
is_taken p queue rest x own same takes most =
    let facts = bag_facts p own in
    let there = take-bag queue (bag p) takes.0 x same takes.1 in
    let found : named x.0.name (bag p) ≡ Some x = named-at (bag p) there.0 x facts.rising there.1 in
    let is_listed : listed x.0.name p ≡ Some (x.0.event, x.1) = each_at (λ z. listed z.0.name p ≡ Some (z.0.event, z.1)) (bag p) there.0 x facts.are_listed there.1 in
    record {
      is_named = found;
      is_rest = rw (without-at (bag p) there.0 x facts.rising there.1) (same-trans rest (remove queue takes.0) (remove (bag p) there.0) takes.2 there.2);
      is_gone = named-gone x.0.name (bag p) facts.rising;
      is_greatest = rw found (all-same _ queue (bag p) same most);
      is_listed = is_listed;
      is_below = each_at (λ z. z.0.name < event_count p) (bag p) there.0 x facts.below there.1;
      urgency = ap is_urgent_in is_listed;
    }
