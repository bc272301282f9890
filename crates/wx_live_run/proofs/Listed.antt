-- What a journal has that its turns have.
use Rattle.std.proofs.Common.{◌≡◌, ℕ, Bool, true, false, ◌&&◌, Option, Some, List, [], ◌∷◌, ◌++◌, refl, sym, ap, ◌∙◌, append-nil}
use Rattle.std.specs.List.{list_all}
use Rattle.wx_journal.specs.declared.entry.Entry.{Entry}
use Rattle.wx_journal.specs.declared.entry.Entry.TheVariants.{Turn as Turned, TurnFault}
use Rattle.wx_journal.specs.declared.entry.TurnKind.{TurnKind}
use Rattle.wx_journal.specs.declared.entry.TurnKind.TheVariants as turn
use Rattle.wx_journal.specs.Told.{anywhere, is_turn, tell, tell_if, tells}
use Rattle.wx_pass.specs.declared.item.Item.{Item}
use Rattle.wx_live.specs.Drawn.{Drawn}
use Rattle.wx_handles.specs.Rounds.{are_rounds, fits_round, place_after, place_in}
use Rattle.wx_handles.specs.Turns.{are_behind, count_given, drawn_by, entry_drawn, entry_item, is_behind, is_own, items_in, one_given}
use Rattle.wx_live_run.specs.LiveRuns.{entry_keys, fits_live, keys_of}
use Rattle.wx_live_run.proofs.Heard.{is_keys, keys_back}

module _ (jobs turns : ℕ) (drawn : Drawn) where
  -- an entry that is no turn changes nothing of this
  record IsSilent (e : Entry) : Type 0 where
    place : (x : ℕ) → place_after jobs e x ≡ x
    round : (x : ℕ) → fits_round jobs e x ≡ true
    count : (x : ℕ) → one_given e x ≡ x
    behind : (x : ℕ) → is_behind turns e x ≡ true
    draws : (x : Drawn) → entry_drawn e x ≡ x
    fits : fits_live e ≡ true
    keys : entry_keys e ≡ []

  silent : (e : Entry) → is_turn e ≡ false → IsSilent e
  silent (Turned t) other = absurd cc
  silent (TurnFault code) other = absurd cc
  silent (_) other = record { place = λ x. refl; round = λ x. refl; count = λ x. refl; behind = λ x. refl; draws = λ x. refl; fits = refl; keys = refl }

  -- these are the turns of a journal, and what is said of the one is said of the other
  pub record Listed (p : List Entry) : Type 0 where
    pub those : List Entry
    pub told : tells (anywhere is_turn) p (Some []) ≡ Some those
    pub place : place_in jobs p ≡ place_in jobs those
    pub rounds : are_rounds jobs p ≡ are_rounds jobs those
    pub count : count_given p ≡ count_given those
    pub behind : are_behind turns p ≡ are_behind turns those
    pub draws : drawn_by p drawn ≡ drawn_by those drawn
    pub fits : list_all fits_live p ≡ list_all fits_live those
    pub keys : keys_of p ≡ keys_of those

  both : {a a' b b' : Bool} → a ≡ a' → b ≡ b' → (a && b) ≡ (a' && b')
  both {a} {a'} {b} {b'} x y = ap (λ (c : Bool). c && b) x ∙ ap (λ (c : Bool). a' && c) y

  one_more : (mine : Bool) (e : Entry) (p : List Entry) → is_turn e ≡ mine → Listed p → Listed (e ∷ p)
  one_more true e p is l = record {
    those = e ∷ l.those;
    told = ap (λ (b : Bool). tell_if b e (tells (anywhere is_turn) p (Some []))) is ∙ ap (tell e) l.told;
    place = ap (place_after jobs e) l.place;
    rounds = both (ap (fits_round jobs e) l.place) l.rounds;
    count = ap (one_given e) l.count;
    behind = both (ap (is_behind turns e) l.count) l.behind;
    draws = ap (entry_drawn e) l.draws;
    fits = ap (λ (b : Bool). fits_live e && b) l.fits;
    keys = ap (λ (k : List ℕ). k ++ entry_keys e) l.keys;
  }
  one_more false e p is l = let s = silent e is in record {
    those = l.those;
    told = ap (λ (b : Bool). tell_if b e (tells (anywhere is_turn) p (Some []))) is ∙ l.told;
    place = s.place (place_in jobs p) ∙ l.place;
    rounds = ap (λ (b : Bool). b && are_rounds jobs p) (s.round (place_in jobs p)) ∙ l.rounds;
    count = s.count (count_given p) ∙ l.count;
    behind = ap (λ (b : Bool). b && are_behind turns p) (s.behind (count_given p)) ∙ l.behind;
    draws = s.draws (drawn_by p drawn) ∙ l.draws;
    fits = ap (λ (b : Bool). b && list_all fits_live p) s.fits ∙ l.fits;
    keys = ap (λ (k : List ℕ). keys_of p ++ k) s.keys ∙ append-nil (keys_of p) ∙ l.keys;
  }

  pub listed : (p : List Entry) → Listed p
  listed [] = record { those = []; told = refl; place = refl; rounds = refl; count = refl; behind = refl; draws = refl; fits = refl; keys = refl }
  listed (e ∷ p) = one_more (is_turn e) e p refl (listed p)

-- the turns that were told are those that are listed
some_same : {A : Type 0} {x y : A} → ◌≡◌ {A = Option A} (Some x) (Some y) → x ≡ y
some_same e = cc

pub those_are : (jobs turns : ℕ) (drawn : Drawn) (p those : List Entry) (l : Listed jobs turns drawn p) → Some those ≡ tells (anywhere is_turn) p (Some []) → those ≡ l.those
those_are jobs turns drawn p those l is = some_same (is ∙ l.told)

-- ---- by the items among them

keys_step : (e : Entry) (items : List Item) → keys_back (entry_item e items) ≡ keys_back items ++ entry_keys e
keys_step (Turned t) items = of_kind t.kind
  where
    of_kind : (kind : TurnKind) → keys_back (entry_item (Turned (record { at = t.at; kind = kind })) items) ≡ keys_back items ++ entry_keys (Turned (record { at = t.at; kind = kind }))
    of_kind (turn.Ask id ask) = refl
    of_kind (turn.Keys bytes) = refl
    of_kind (_) = sym (append-nil (keys_back items))
keys_step (_) items = sym (append-nil (keys_back items))

pub keys_by_items : (p : List Entry) → keys_of p ≡ keys_back (items_in p)
keys_by_items [] = refl
keys_by_items (e ∷ p) = ap (λ (k : List ℕ). k ++ entry_keys e) (keys_by_items p) ∙ sym (keys_step e (items_in p))

-- a turn of such a world that is no ask fits
fits_step : (e : Entry) (items : List Item) → is_own e ≡ true → list_all is_keys (entry_item e items) ≡ true → (fits_live e ≡ true) × (list_all is_keys items ≡ true)
fits_step (Turned t) items own keys = of_kind t.kind own keys
  where
    of_kind : (kind : TurnKind) → is_own (Turned (record { at = t.at; kind = kind })) ≡ true → list_all is_keys (entry_item (Turned (record { at = t.at; kind = kind })) items) ≡ true
        → (fits_live (Turned (record { at = t.at; kind = kind })) ≡ true) × (list_all is_keys items ≡ true)
    of_kind (turn.Ask id ask) own keys = absurd cc
    of_kind (_) own keys = (own, keys)
fits_step (_) items own keys = absurd cc

pub fits_by_items : (p : List Entry) → list_all is_own p ≡ true → list_all is_keys (items_in p) ≡ true → list_all fits_live p ≡ true
fits_by_items [] own keys = refl
fits_by_items (e ∷ p) own keys =
    let now = fits_step e (items_in p) (first (is_own e) (list_all is_own p) own) keys in
    rw now.0 (fits_by_items p (second (is_own e) (list_all is_own p) own) now.1)
  where
    first : (a b : Bool) → (a && b) ≡ true → a ≡ true
    first true b x = refl
    first false b x = absurd cc

    second : (a b : Bool) → (a && b) ≡ true → b ≡ true
    second true b x = x
    second false b x = absurd cc
