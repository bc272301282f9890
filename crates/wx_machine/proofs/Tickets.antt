-- Of which job a ticket was asked.
use Rattle.std.proofs.Common.{◌≡◌, ◌≢◌, ℕ, ◌+◌, ◌<◌, Bool, true, false, cond, List, [], ◌∷◌, ◌++◌, Option, Some, None, Ok, refl, arith, ap, sym, ◌∙◌, eq-eqb, ne_eqb}
use Rattle.std.specs.Prelude.{◌==◌, ◌&&◌, not}
use Rattle.std.specs.List.{AllByRecursion}
use Rattle.std.proofs.lemmas.Bool.{eqb-true}
use Rattle.wx_words.specs.EachLaws.{each_append, each_weaker}
use Rattle.wx_words.specs.OptionLaws.{refused}
use Rattle.wx_control.specs.declared.id.Id.{Id}
use Rattle.wx_control.specs.declared.control.Control.{Control}
use Rattle.wx_control.specs.declared.control.Control.TheVariants.{GracefulStop, TryGracefulRestart, NextEnding}
use Rattle.wx_control.specs.declared.level.Level.{Level}
use Rattle.wx_control.specs.declared.level.Level.TheVariants.{Normal, High, Urgent}
use Rattle.wx_control.specs.Levels.{rank}
use Rattle.wx_journal.specs.declared.entry.Entry.{Entry}
use Rattle.wx_journal.specs.declared.entry.Entry.TheVariants.{Made, Asked, Pick, GraceOver, Signal, Raise, Gone, Begun, Poll}
use Rattle.wx_journal.specs.Names.{NamesItsOwn, ticket_count, moment}
use Rattle.wx_machine.specs.declared.function.Function.{Function}
use Rattle.wx_machine.specs.declared.grace.Grace.{Grace}
use Rattle.wx_machine.specs.declared.state.CommandState.{CommandState}
use Rattle.wx_machine.specs.States.{is_finished}
use Rattle.wx_machine.specs.History.{same, lives, has_above, without, waits, found, picked_control, state, child, is_child, ended_child, is_ended, with_ticket, unless_raised, picked_last, begun_with, begun, begins, begins_by, grace, without_ticket, parks, parked, asked_of}
use Rattle.wx_machine.specs.JobLaws.{NamesTickets}
use Rattle.wx_machine.proofs.Owners.{same-is, either, new_below}

-- a journal that names its own names its tickets
pub tickets_named : (p : List Entry) → NamesItsOwn p → NamesTickets p
tickets_named [] own = tt
tickets_named (Asked ticket job level control ∷ p) own = (own.0, tickets_named p own.1)
tickets_named (_ ∷ p) own = tickets_named p own.1

pub asked_below : (t : ℕ) (id : Id) (p : List Entry) → NamesTickets p → asked_of t p ≡ Some id → t < ticket_count p
asked_below t id [] own e = cc
asked_below t id (Asked u job level control ∷ p) own e = new_below t u job id (ticket_count p) (asked_of t p) (u == t) refl own.0 (λ h. asked_below t id p own.1 h) e
asked_below t id (_ ∷ p) own e = asked_below t id p own e

-- a new ticket takes none from its job
pub asked_kept : (t u : ℕ) (id job : Id) (p : List Entry) → NamesTickets p → u ≡ ticket_count p → asked_of t p ≡ Some id → cond (u == t) (Some job) (asked_of t p) ≡ Some id
asked_kept t u id job p own name e = let below : t < ticket_count p = asked_below t id p own e in rw (ne_eqb u t (λ is. omega arith)) e

-- these tickets were asked of this job
abbrev pub AreOf : Id → List Entry → List ℕ → Type 0
AreOf id p ts = AllByRecursion (λ t. asked_of t p ≡ Some id) ts

abbrev pub AreWaitsOf : Id → List Entry → List (ℕ × Control) → Type 0
AreWaitsOf id p xs = AllByRecursion (λ x. asked_of x.0 p ≡ Some id) xs

waits_without : (id : Id) (p : List Entry) (t : ℕ) (xs : List (ℕ × Control)) → AreWaitsOf id p xs → AreWaitsOf id p (without t xs)
waits_without id p t [] h = tt
waits_without id p t (x ∷ xs) h = either (AreWaitsOf id p) (x.0 == t) xs (x ∷ without t xs) h.1 (h.0, waits_without id p t xs h.1)

waits_new : (id job : Id) (t : ℕ) (level at : Level) (control : Control) (p : List Entry) (b : Bool) → (b ≡ true → same job id ≡ true) → NamesTickets p → t ≡ ticket_count p → AreWaitsOf id (Asked t job at control ∷ p) (waits id level p) → AreWaitsOf id (Asked t job at control ∷ p) (cond b (waits id level p ++ (t, control) ∷ []) (waits id level p))
waits_new id job t level at control p true mine own name h = each_append (λ x. asked_of x.0 (Asked t job at control ∷ p) ≡ Some id) (waits id level p) ((t, control) ∷ []) h (rw (eq-eqb t t refl) (ap (λ j. Some j) (same-is job id (mine refl))), tt)
waits_new id job t level at control p false mine own name h = h

and_first : (a b : Bool) → (a && b) ≡ true → a ≡ true
and_first true b e = refl
and_first false b e = cc

pub waits_of : (id : Id) (level : Level) (p : List Entry) → NamesTickets p → AreWaitsOf id p (waits id level p)
waits_of id level [] own = tt
waits_of id level (Made job ∷ p) own = either (AreWaitsOf id p) (same job id) [] (waits id level p) tt (waits_of id level p own)
waits_of id level (Asked t job at control ∷ p) own =
    waits_new id job t level at control p (same job id && rank at == rank level && lives id p) (λ e. and_first _ _ (and_first _ _ e)) own.1 own.0
    (each_weaker (λ x. asked_of x.0 p ≡ Some id) (λ x. asked_of x.0 (Asked t job at control ∷ p) ≡ Some id) (λ x e. asked_kept x.0 t id job p own.1 own.0 e) (waits id level p) (waits_of id level p own.1))
waits_of id level (Pick job t ∷ p) own = either (AreWaitsOf id p) (same job id && not (has_above t level (waits id Urgent p) (waits id High p))) (without t (waits id level p)) (waits id level p) (waits_without id p t (waits id level p) (waits_of id level p own)) (waits_of id level p own)
waits_of id level (Gone job ∷ p) own = either (AreWaitsOf id p) (same job id) [] (waits id level p) tt (waits_of id level p own)
waits_of id level (_ ∷ p) own = waits_of id level p own

-- a control that is found was asked
found_of : (id : Id) (p : List Entry) (t : ℕ) (control : Control) (xs : List (ℕ × Control)) → AreWaitsOf id p xs → found t xs ≡ Some control → asked_of t p ≡ Some id
found_of id p t control [] h e = cc
found_of id p t control (x ∷ xs) h e = by_test (x.0 == t) refl e (λ f. found_of id p t control xs h.1 f)
  where
    by_test : (b : Bool) → (x.0 == t) ≡ b → cond b (Some x.1) (found t xs) ≡ Some control → (found t xs ≡ Some control → asked_of t p ≡ Some id) → asked_of t p ≡ Some id
    by_test true is f later = let same_ticket : x.0 ≡ t = eqb-true _ _ is in rw (← same_ticket) h.0
    by_test false is f later = later f

pub picked_of : (id : Id) (p : List Entry) (t : ℕ) (control : Control) → NamesTickets p → picked_control id t p ≡ Some control → asked_of t p ≡ Some id
picked_of id p t control own e =
    found_of id p t control (waits id Urgent p ++ waits id High p ++ waits id Normal p)
    (each_append (λ x. asked_of x.0 p ≡ Some id) (waits id Urgent p ++ waits id High p) (waits id Normal p)
    (each_append (λ x. asked_of x.0 p ≡ Some id) (waits id Urgent p) (waits id High p) (waits_of id Urgent p own) (waits_of id High p own)) (waits_of id Normal p own)) e

-- ---- parked tickets

of_without : (id : Id) (p : List Entry) (t : ℕ) (ts : List ℕ) → AreOf id p ts → AreOf id p (without_ticket t ts)
of_without id p t [] h = tt
of_without id p t (u ∷ us) h = either (AreOf id p) (u == t) us (u ∷ without_ticket t us) h.1 (h.0, of_without id p t us h.1)

of_parks : (id : Id) (p : List Entry) (o : Option Control) (t : ℕ) (now : CommandState) (ts : List ℕ) → ((control : Control) → o ≡ Some control → asked_of t p ≡ Some id) → AreOf id p ts → AreOf id p (parks o t now ts)
of_parks id p (Some NextEnding) t now ts asked h = either (AreOf id p) (is_finished now) ts (ts ++ t ∷ []) h (each_append (λ u. asked_of u p ≡ Some id) ts (t ∷ []) h (asked NextEnding refl, tt))
of_parks id p (_) t now ts asked h = h

pub parked_of : (id : Id) (p : List Entry) → NamesTickets p → AreOf id p (parked id p)
parked_of id [] own = tt
parked_of id (Made job ∷ p) own = either (AreOf id p) (same job id) [] (parked id p) tt (parked_of id p own)
parked_of id (Asked t job at control ∷ p) own = each_weaker (λ u. asked_of u p ≡ Some id) (λ u. asked_of u (Asked t job at control ∷ p) ≡ Some id) (λ u e. asked_kept u t id job p own.1 own.0 e) (parked id p) (parked_of id p own.1)
parked_of id (Pick job t ∷ p) own = either (AreOf id p) (same job id) (parks (picked_control id t p) t (state id p) (parked id p)) (parked id p) (of_parks id p (picked_control id t p) t (state id p) (parked id p) (λ control e. picked_of id p t control own e) (parked_of id p own)) (parked_of id p own)
parked_of id (Raise t ∷ p) own = of_without id p t (parked id p) (parked_of id p own)
parked_of id (Gone job ∷ p) own = either (AreOf id p) (same job id) [] (parked id p) tt (parked_of id p own)
parked_of id (_ ∷ p) own = parked_of id p own

-- a ticket of another job is none of these
none_without : (i id : Id) (p : List Entry) (t : ℕ) (ts : List ℕ) → i ≢ id → asked_of t p ≡ Some id → AreOf i p ts → without_ticket t ts ≡ ts
none_without i id p t [] ne its h = refl
none_without i id p t (u ∷ us) ne its h =
    let other : (u == t) ≡ false = ne_eqb u t (λ is. (let mine : asked_of t p ≡ Some i = rw (← is) h.0 in let one : Some id ≡ Some i = sym its ∙ mine in ne cc)) in
    rw other (ap (λ (ws : List ℕ). u ∷ ws) (none_without i id p t us ne its h.1))

pub parked_other : (i id : Id) (t : ℕ) (p : List Entry) → i ≢ id → NamesTickets p → asked_of t p ≡ Some id → without_ticket t (parked i p) ≡ parked i p
parked_other i id t p ne own its = none_without i id p t (parked i p) ne its (parked_of i p own)

-- ---- the control that was picked last

with_asked : (id : Id) (p : List Entry) (t : ℕ) (o : Option Control) (x : ℕ × Control) → ((control : Control) → o ≡ Some control → asked_of t p ≡ Some id) → with_ticket t o ≡ Some x → asked_of x.0 p ≡ Some id
with_asked id p t None x asked e = cc
with_asked id p t (Some control) x asked e = let is : (t, control) ≡ x = cc in rw (← is) (asked control refl)

pub raised_was : (t : ℕ) (o : Option (ℕ × Control)) (x : ℕ × Control) → unless_raised t o ≡ Some x → o ≡ Some x
raised_was t None x e = cc
raised_was t (Some y) x e = (refused (y.0 == t) (Some y) x e).1

pub one_of_two : {A : Type 0} (R : Type 0) (b : Bool) (x y : Option A) (z : A) → (x ≡ Some z → R) → (y ≡ Some z → R) → cond b x y ≡ Some z → R
one_of_two R true x y z h k e = h e
one_of_two R false x y z h k e = k e

picked_asked : (id : Id) (p : List Entry) (x : ℕ × Control) → NamesTickets p → picked_last id p ≡ Some x → asked_of x.0 p ≡ Some id
picked_asked id [] x own e = cc
picked_asked id (Made job ∷ p) x own e = picked_asked id p x own (refused (same job id) (picked_last id p) x e).1
picked_asked id (Asked t job at control ∷ p) x own e = asked_kept x.0 t id job p own.1 own.0 (picked_asked id p x own.1 e)
picked_asked id (Pick job t ∷ p) x own e =
    one_of_two (asked_of x.0 p ≡ Some id) (same job id) (with_ticket t (picked_control id t p)) (picked_last id p) x
    (λ h. with_asked id p t (picked_control id t p) x (λ control is. picked_of id p t control own is) h) (λ h. picked_asked id p x own h) e
picked_asked id (GraceOver job ∷ p) x own e = picked_asked id p x own (refused (same job id) (picked_last id p) x e).1
picked_asked id (Signal c number (Ok a) ∷ p) x own e = picked_asked id p x own (refused (is_child c (child id p)) (picked_last id p) x e).1
picked_asked id (Begun job n ∷ p) x own e = picked_asked id p x own (refused (same job id) (picked_last id p) x e).1
picked_asked id (Raise t ∷ p) x own e = picked_asked id p x own (raised_was t (picked_last id p) x e)
picked_asked id (Gone job ∷ p) x own e = picked_asked id p x own (refused (same job id) (picked_last id p) x e).1
picked_asked id (_ ∷ p) x own e = picked_asked id p x own e

-- ---- the grace that stands

-- its ticket is that of the control that begins it, or of the grace before
begins_of : (id : Id) (p : List Entry) (t : ℕ) (control : Control) (at : ℕ) (before : Option Grace) (g : Grace) → asked_of t p ≡ Some id → (before ≡ Some g → asked_of g.ticket p ≡ Some id) → begins t control at before ≡ Some g → asked_of g.ticket p ≡ Some id
begins_of id p t (GracefulStop signal grace) at before g asked h e = let is : record { ends = at + grace; ticket = t; restarts = false } ≡ g = cc in rw (← is) asked
begins_of id p t (TryGracefulRestart signal grace) at before g asked h e = let is : record { ends = at + grace; ticket = t; restarts = true } ≡ g = cc in rw (← is) asked
begins_of id p t (_) at before g asked h e = h e

begins_by_of : (id : Id) (p : List Entry) (o : Option (ℕ × Control)) (at : ℕ) (before : Option Grace) (g : Grace) → ((x : ℕ × Control) → o ≡ Some x → asked_of x.0 p ≡ Some id) → (before ≡ Some g → asked_of g.ticket p ≡ Some id) → begins_by o at before ≡ Some g → asked_of g.ticket p ≡ Some id
begins_by_of id p None at before g asked h e = h e
begins_by_of id p (Some x) at before g asked h e = begins_of id p x.0 x.1 at before g (asked x refl) h e

pub grace_asked : (id : Id) (p : List Entry) (g : Grace) → NamesTickets p → grace id p ≡ Some g → asked_of g.ticket p ≡ Some id
grace_asked id [] g own e = cc
grace_asked id (Made job ∷ p) g own e = grace_asked id p g own (refused (same job id) (grace id p) g e).1
grace_asked id (Asked t job at control ∷ p) g own e = asked_kept g.ticket t id job p own.1 own.0 (grace_asked id p g own.1 e)
grace_asked id (GraceOver job ∷ p) g own e = grace_asked id p g own (refused (same job id) (grace id p) g e).1
grace_asked id (Signal c number (Ok a) ∷ p) g own e =
    one_of_two (asked_of g.ticket p ≡ Some id) (is_child c (child id p)) (begins_by (picked_last id p) (moment p) (grace id p)) (grace id p) g
    (λ h. begins_by_of id p (picked_last id p) (moment p) (grace id p) g (λ x is. picked_asked id p x own is) (λ k. grace_asked id p g own k) h) (λ h. grace_asked id p g own h) e
grace_asked id (Gone job ∷ p) g own e = grace_asked id p g own (refused (same job id) (grace id p) g e).1
grace_asked id (e ∷ p) g own is = grace_asked id p g own (refused (is_ended (ended_child e) (child id p)) (grace id p) g is).1

-- ---- the function that is begun

-- its ticket is that of the control that began it
begun_with_of : (id : Id) (p : List Entry) (n : ℕ) (o : Option (ℕ × Control)) (f : Function) → ((x : ℕ × Control) → o ≡ Some x → asked_of x.0 p ≡ Some id) → begun_with n o ≡ Some f → asked_of f.ticket p ≡ Some id
begun_with_of id p n None f asked e = cc
begun_with_of id p n (Some x) f asked e = let is : record { n = n; ticket = x.0 } ≡ f = cc in rw (← is) (asked x refl)

pub begun_asked : (id : Id) (p : List Entry) (f : Function) → NamesTickets p → begun id p ≡ Some f → asked_of f.ticket p ≡ Some id
begun_asked id [] f own e = cc
begun_asked id (Made job ∷ p) f own e = begun_asked id p f own (refused (same job id) (begun id p) f e).1
begun_asked id (Asked t job at control ∷ p) f own e = asked_kept f.ticket t id job p own.1 own.0 (begun_asked id p f own.1 e)
begun_asked id (Begun job n ∷ p) f own e =
    one_of_two (asked_of f.ticket p ≡ Some id) (same job id) (begun_with n (picked_last id p)) (begun id p) f
    (λ h. begun_with_of id p n (picked_last id p) f (λ x is. picked_asked id p x own is) h) (λ h. begun_asked id p f own h) e
begun_asked id (Poll job n true ∷ p) f own e = begun_asked id p f own (refused (same job id) (begun id p) f e).1
begun_asked id (Gone job ∷ p) f own e = begun_asked id p f own (refused (same job id) (begun id p) f e).1
begun_asked id (_ ∷ p) f own e = begun_asked id p f own e
