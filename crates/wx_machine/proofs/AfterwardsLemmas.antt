-- What a plan of a job brings comes after faults as it must.
use Rattle.std.proofs.Common.{◌≡◌, ℕ, ◌+◌, ◌<◌, Bool, true, false, cond, List, [], ◌∷◌, ◌++◌, Option, Some, None, Ok, Err, refl, arith, sym, ◌∙◌, eq-eqb, ne_eqb}
use Rattle.std.specs.Prelude.{◌==◌, ◌&&◌, ◌||◌, not}
use Rattle.std.specs.List.{AllByRecursion}
use Rattle.std.proofs.lemmas.Bool.{eqb-true, false_from_ne_true, or_left, or_right, and_from}
use Rattle.wx_words.specs.EachLaws.{each_append}
use Rattle.wx_words.specs.OptionLaws.{refused}
use Rattle.wx_control.specs.declared.id.Id.{Id}
use Rattle.wx_control.specs.declared.control.Control.{Control}
use Rattle.wx_control.specs.declared.control.Control.TheVariants.{GracefulStop, TryGracefulRestart}
use Rattle.wx_control.specs.declared.level.Level.{Level}
use Rattle.wx_control.specs.declared.level.Level.TheVariants.{Normal, High, Urgent}
use Rattle.wx_control.specs.Levels.{rank}
use Rattle.wx_control.specs.Waits.{first}
use Rattle.wx_control.specs.declared.ask.Ask.{Ask}
use Rattle.wx_control.specs.declared.ask.Ask.TheVariants.{One, Restart, RestartWithSignal, Delete, DeleteNow, ToWait}
use Rattle.wx_control.specs.Asks.{sends_of}
use Rattle.wx_machine.specs.Table.{unless_grace}
use Rattle.wx_journal.specs.declared.entry.Entry.{Entry}
use Rattle.wx_journal.specs.declared.entry.Entry.TheVariants.{Made, Asked, Pick, GraceOver, Spawn, Signal, Raise, Gone, Begun}
use Rattle.wx_journal.specs.Names.{ticket_count, child_count, moment}
use Rattle.wx_machine.specs.declared.grace.Grace.{Grace}
use Rattle.wx_machine.specs.History.{same, lives, has_above, without, waits, found, picked_control, child, is_child, ended_child, is_ended, with_ticket, picked_last, begins, begins_by, grace, owner}
use Rattle.wx_machine.specs.JobLaws.{is_owner, NamesChildren, NamesTickets}
use Rattle.wx_machine.specs.Afterwards.{is_unborn, is_graceful, is_signalling, asks_grace, picks_grace, may_be_over, IsAtLevel, AreAtTheirLevels, MayBeOver}
use Rattle.wx_machine.proofs.Owners.{self, same-is, either, still_some, owner_below, child_owner, is_child_some}
use Rattle.wx_machine.proofs.Tickets.{raised_was, asked_below, waits_of, AreWaitsOf}

-- ---- a child that runs was spawned

below_was : (c d n : ℕ) (before : Bool) → d ≡ n → (before ≡ true → c < n) → (d == c || before) ≡ true → c < n + 1
below_was c d n before name below e = by_test (d == c) refl e
  where
    by_test : (b : Bool) → (d == c) ≡ b → (b || before) ≡ true → c < n + 1
    by_test true is h = let found : d ≡ c = eqb-true _ _ is in omega arith
    by_test false is h = let lt : c < n = below h in omega arith

unborn_below : (c : ℕ) (p : List Entry) → NamesChildren p → is_unborn c p ≡ true → c < child_count p
unborn_below c [] own e = cc
unborn_below c (Spawn d job tag what (Err fault) ∷ p) own e = below_was c d (child_count p) (is_unborn c p) own.0 (λ h. unborn_below c p own.1 h) e
unborn_below c (Spawn d job tag what (Ok done) ∷ p) own e = let lt : c < child_count p = unborn_below c p own.1 e in omega arith
unborn_below c (_ ∷ p) own e = unborn_below c p own e

born_ok : (c d : ℕ) (p : List Entry) (o : Option ℕ) (b : Bool) → NamesChildren p → d ≡ child_count p → (o ≡ Some c → is_unborn c p ≡ false) → cond b (Some d) o ≡ Some c → is_unborn c p ≡ false
born_ok c d p o true own name was e = let found : d ≡ c = cc in false_from_ne_true (is_unborn c p) (λ h. (let lt : c < child_count p = unborn_below c p own h in omega arith))
born_ok c d p o false own name was e = was e

pub born : (id : Id) (c : ℕ) (p : List Entry) → NamesChildren p → child id p ≡ Some c → is_unborn c p ≡ false
born id c [] own e = refl
born id c (Made job ∷ p) own e = born id c p own (refused (same job id) (child id p) c e).1
born id c (Spawn d job tag what (Ok done) ∷ p) own e = born_ok c d p (child id p) (same job id) own.1 own.0 (λ h. born id c p own.1 h) e
born id c (Spawn d job tag what (Err fault) ∷ p) own e =
    let below : c < child_count p = owner_below c id p own.1 (child_owner id c p own.1 e) in
    let name = own.0 in
    rw (ne_eqb d c (λ is. omega arith)) (born id c p own.1 e)
born id c (e ∷ p) own is = born id c p own (still_some (ended_child e) (child id p) c is)

-- ---- a grace that stands was begun by a signal that answered ok

-- what waits was asked so
abbrev AreAskedSo : List Entry → List (ℕ × Control) → Type 0
AreAskedSo p xs = AllByRecursion (λ (x : ℕ × Control). asks_grace x.0 p ≡ is_graceful x.1) xs

so_without : (p : List Entry) (t : ℕ) (xs : List (ℕ × Control)) → AreAskedSo p xs → AreAskedSo p (without t xs)
so_without p t [] h = tt
so_without p t (x ∷ xs) h = either (AreAskedSo p) (x.0 == t) xs (x ∷ without t xs) h.1 (h.0, so_without p t xs h.1)

-- what waits has an older ticket than the next one
so_kept : (id job : Id) (t : ℕ) (level : Level) (control : Control) (p : List Entry) (xs : List (ℕ × Control)) → NamesTickets p → t ≡ ticket_count p → AreWaitsOf id p xs → AreAskedSo p xs → AreAskedSo (Asked t job level control ∷ p) xs
so_kept id job t level control p [] own name of h = tt
so_kept id job t level control p (x ∷ xs) own name of h =
    let below : x.0 < ticket_count p = asked_below x.0 id p own of.0 in
    (rw (ne_eqb t x.0 (λ is. omega arith)) h.0, so_kept id job t level control p xs own name of.1 h.1)

so_new : (t : ℕ) (job : Id) (level : Level) (control : Control) (p : List Entry) (b : Bool) (xs : List (ℕ × Control)) → AreAskedSo (Asked t job level control ∷ p) xs → AreAskedSo (Asked t job level control ∷ p) (cond b (xs ++ (t, control) ∷ []) xs)
so_new t job level control p true xs h = each_append (λ (x : ℕ × Control). asks_grace x.0 (Asked t job level control ∷ p) ≡ is_graceful x.1) xs ((t, control) ∷ []) h (rw (eq-eqb t t refl) refl, tt)
so_new t job level control p false xs h = h

waits_so : (id : Id) (level : Level) (p : List Entry) → NamesTickets p → AreAskedSo p (waits id level p)
waits_so id level [] own = tt
waits_so id level (Made job ∷ p) own = either (AreAskedSo p) (same job id) [] (waits id level p) tt (waits_so id level p own)
waits_so id level (Asked t job at control ∷ p) own = so_new t job at control p (same job id && rank at == rank level && lives id p) (waits id level p) (so_kept id job t at control p (waits id level p) own.1 own.0 (waits_of id level p own.1) (waits_so id level p own.1))
waits_so id level (Pick job t ∷ p) own = either (AreAskedSo p) (same job id && not (has_above t level (waits id Urgent p) (waits id High p))) (without t (waits id level p)) (waits id level p) (so_without p t (waits id level p) (waits_so id level p own)) (waits_so id level p own)
waits_so id level (Gone job ∷ p) own = either (AreAskedSo p) (same job id) [] (waits id level p) tt (waits_so id level p own)
waits_so id level (_ ∷ p) own = waits_so id level p own

found_so : (p : List Entry) (t : ℕ) (control : Control) (xs : List (ℕ × Control)) → AreAskedSo p xs → found t xs ≡ Some control → asks_grace t p ≡ is_graceful control
found_so p t control [] h e = cc
found_so p t control (x ∷ xs) h e = by_test (x.0 == t) refl e (λ f. found_so p t control xs h.1 f)
  where
    by_test : (b : Bool) → (x.0 == t) ≡ b → cond b (Some x.1) (found t xs) ≡ Some control → (found t xs ≡ Some control → asks_grace t p ≡ is_graceful control) → asks_grace t p ≡ is_graceful control
    by_test true is f later =
        let same_ticket : x.0 ≡ t = eqb-true _ _ is in
        let same_control : x.1 ≡ control = cc in rw (← same_ticket, ← same_control) h.0
    by_test false is f later = later f

picked_so : (id : Id) (t : ℕ) (control : Control) (p : List Entry) → NamesTickets p → picked_control id t p ≡ Some control → asks_grace t p ≡ is_graceful control
picked_so id t control p own e =
    found_so p t control (waits id Urgent p ++ waits id High p ++ waits id Normal p)
    (each_append (λ (x : ℕ × Control). asks_grace x.0 p ≡ is_graceful x.1) (waits id Urgent p ++ waits id High p) (waits id Normal p)
    (each_append (λ (x : ℕ × Control). asks_grace x.0 p ≡ is_graceful x.1) (waits id Urgent p) (waits id High p) (waits_so id Urgent p own) (waits_so id High p own)) (waits_so id Normal p own)) e

-- a control that begins a grace, and that is the picked one, was picked last
with_so : (id : Id) (t : ℕ) (p : List Entry) (o : Option Control) (x : ℕ × Control) → NamesTickets p → o ≡ picked_control id t p → is_graceful x.1 ≡ true → with_ticket t o ≡ Some x → asks_grace t p ≡ true
with_so id t p None x own is graceful e = cc
with_so id t p (Some control) x own is graceful e =
    let mine : (t, control) ≡ x = cc in
    let its : is_graceful control ≡ true = rw (← mine) at graceful in
    picked_so id t control p own (sym is) ∙ its

last_graceful : (id : Id) (p : List Entry) (x : ℕ × Control) → NamesTickets p → picked_last id p ≡ Some x → is_graceful x.1 ≡ true → picks_grace id p ≡ true
last_graceful id [] x own e graceful = cc
last_graceful id (Made job ∷ p) x own e graceful = let other = refused (same job id) (picked_last id p) x e in rw other.0 (last_graceful id p x own other.1 graceful)
last_graceful id (Pick job t ∷ p) x own e graceful = by_test (same job id) e (λ h. last_graceful id p x own h graceful)
  where
    by_test : (b : Bool) → cond b (with_ticket t (picked_control id t p)) (picked_last id p) ≡ Some x → (picked_last id p ≡ Some x → picks_grace id p ≡ true) → cond b (asks_grace t p) (picks_grace id p) ≡ true
    by_test true h later = with_so id t p (picked_control id t p) x own refl graceful h
    by_test false h later = later h
last_graceful id (Asked t job at control ∷ p) x own e graceful = last_graceful id p x own.1 e graceful
last_graceful id (GraceOver job ∷ p) x own e graceful = last_graceful id p x own (refused (same job id) (picked_last id p) x e).1 graceful
last_graceful id (Signal c number (Ok a) ∷ p) x own e graceful = last_graceful id p x own (refused (is_child c (child id p)) (picked_last id p) x e).1 graceful
last_graceful id (Begun job n ∷ p) x own e graceful = last_graceful id p x own (refused (same job id) (picked_last id p) x e).1 graceful
last_graceful id (Raise t ∷ p) x own e graceful = last_graceful id p x own (raised_was t (picked_last id p) x e) graceful
last_graceful id (Gone job ∷ p) x own e graceful = last_graceful id p x own (refused (same job id) (picked_last id p) x e).1 graceful
last_graceful id (_ ∷ p) x own e graceful = last_graceful id p x own e graceful

-- a signal that leaves a grace standing began it, or it stood before
begins_so : (id : Id) (p : List Entry) (a : Bool) (t : ℕ) (control : Control) (at : ℕ) (before : Option Grace) (g : Grace) → (is_graceful control ≡ true → a ≡ true) → (before ≡ Some g → may_be_over id p ≡ true) → begins t control at before ≡ Some g → (a || may_be_over id p) ≡ true
begins_so id p a t (GracefulStop signal grace) at before g begun was e = or_left a (may_be_over id p) (begun refl)
begins_so id p a t (TryGracefulRestart signal grace) at before g begun was e = or_left a (may_be_over id p) (begun refl)
begins_so id p a t (_) at before g begun was e = or_right a (may_be_over id p) (was e)

begins_by_so : (id : Id) (p : List Entry) (a : Bool) (o : Option (ℕ × Control)) (at : ℕ) (before : Option Grace) (g : Grace) → ((x : ℕ × Control) → o ≡ Some x → is_graceful x.1 ≡ true → a ≡ true) → (before ≡ Some g → may_be_over id p ≡ true) → begins_by o at before ≡ Some g → (a || may_be_over id p) ≡ true
begins_by_so id p a None at before g begun was e = or_right a (may_be_over id p) (was e)
begins_by_so id p a (Some x) at before g begun was e = begins_so id p a x.0 x.1 at before g (λ graceful. begun x refl graceful) was e

-- where it isn't of another job
not_other : (b o : Bool) (x : Option Grace) (g : Grace) → cond b None x ≡ Some g → (x ≡ Some g → o ≡ true) → (not b && o) ≡ true
not_other true o x g e was = cc
not_other false o x g e was = was e

-- What an entry may be that comes next: a grace is over only where one stands, a signal is sent to the running child of a job with no
-- grace, where controls were asked at their levels, and a control is asked at its level.
abbrev pub GoesBy : List Entry → Entry → Type 0
GoesBy p (GraceOver id) = (g : Grace) × (grace id p ≡ Some g)
GoesBy p (Signal c number answer) = (id : Id) × (child id p ≡ Some c) × (AreAtTheirLevels p → grace id p ≡ None)
GoesBy p (Asked ticket job level control) = IsAtLevel level control
GoesBy p (_) = Unit {0}

pub levels_on : (e : Entry) (p : List Entry) → GoesBy p e → AreAtTheirLevels p → AreAtTheirLevels (e ∷ p)
levels_on (Asked ticket job level control) p by h = (by, h)
levels_on (_) p by h = h

-- of the job whose signal failed none stands
failed_on : (id i : Id) (g : Grace) (c : ℕ) (p : List Entry) → NamesChildren p → child id p ≡ Some c → grace id p ≡ None → grace i p ≡ Some g → may_be_over i p ≡ true → (not (is_owner i (owner c p)) && may_be_over i p) ≡ true
failed_on id i g c p children runs none is was =
    let its : owner c p ≡ Some id = child_owner id c p children runs in
    rw its (by_test (same id i) refl)
  where
    by_test : (b : Bool) → same id i ≡ b → (not b && may_be_over i p) ≡ true
    by_test true mine =
        let one : id ≡ i = same-is id i mine in
        let standing : grace id p ≡ Some g = rw (← one) at is in
        let both : None ≡ Some g = sym none ∙ standing in absurd cc
    by_test false mine = was

pub standing_on : (e : Entry) (p : List Entry) → GoesBy p e → NamesChildren p → NamesTickets p → AreAtTheirLevels p → MayBeOver p → MayBeOver (e ∷ p)
standing_on (Made job) p by children tickets levels was id g e = not_other (same job id) (may_be_over id p) (grace id p) g e (λ h. was id g h)
standing_on (GraceOver job) p by children tickets levels was id g e = not_other (same job id) (may_be_over id p) (grace id p) g e (λ h. was id g h)
standing_on (Gone job) p by children tickets levels was id g e = was id g (refused (same job id) (grace id p) g e).1
standing_on (Signal c number (Err fault)) p by children tickets levels was id g e = failed_on by.0 id g c p children by.1 (by.2 levels) e (was id g e)
standing_on (Signal c number (Ok done)) p by children tickets levels was id g e = by_test (is_child c (child id p)) refl e
  where
    by_test : (b : Bool) → is_child c (child id p) ≡ b → cond b (begins_by (picked_last id p) (moment p) (grace id p)) (grace id p) ≡ Some g → (is_owner id (owner c p) && picks_grace id p || may_be_over id p) ≡ true
    by_test true is h =
        let its : owner c p ≡ Some id = child_owner id c p children (is_child_some c (child id p) is) in
        begins_by_so id p (is_owner id (owner c p) && picks_grace id p) (picked_last id p) (moment p) (grace id p) g
        (λ x last graceful. and_from (is_owner id (owner c p)) (picks_grace id p) (rw its (self id)) (last_graceful id p x tickets last graceful)) (λ k. was id g k) h
    by_test false is h = or_right (is_owner id (owner c p) && picks_grace id p) (may_be_over id p) (was id g h)
standing_on (e) p by children tickets levels was id g is = was id g (refused (is_ended (ended_child e) (child id p)) (grace id p) g is).1

-- ---- a control that sends a signal is picked only where no grace stands

abbrev AreCalm : List (ℕ × Control) → Type 0
AreCalm xs = AllByRecursion (λ (x : ℕ × Control). is_signalling x.1 ≡ false) xs

calm_without : (t : ℕ) (xs : List (ℕ × Control)) → AreCalm xs → AreCalm (without t xs)
calm_without t [] h = tt
calm_without t (x ∷ xs) h = either AreCalm (x.0 == t) xs (x ∷ without t xs) h.1 (h.0, calm_without t xs h.1)

-- a level above Normal
abbrev IsPressed : Level → Type 0
IsPressed Normal = ⊥
IsPressed High = Unit {0}
IsPressed Urgent = Unit {0}

level_calm : (at level : Level) (control : Control) → IsAtLevel at control → IsPressed level → (rank at == rank level) ≡ true → is_signalling control ≡ false
level_calm Normal Normal control by pressed e = absurd pressed
level_calm Normal High control by pressed e = absurd cc
level_calm Normal Urgent control by pressed e = absurd cc
level_calm High level control by pressed e = by
level_calm Urgent level control by pressed e = by

and_parts : (a b c : Bool) → (a && b && c) ≡ true → b ≡ true
and_parts true true c e = refl
and_parts true false c e = e
and_parts false b c e = absurd cc

calm_new : (t : ℕ) (control : Control) (b : Bool) (xs : List (ℕ × Control)) → (b ≡ true → is_signalling control ≡ false) → AreCalm xs → AreCalm (cond b (xs ++ (t, control) ∷ []) xs)
calm_new t control true xs calm h = each_append (λ (x : ℕ × Control). is_signalling x.1 ≡ false) xs ((t, control) ∷ []) h (calm refl, tt)
calm_new t control false xs calm h = h

waits_calm : (id : Id) (level : Level) (p : List Entry) → IsPressed level → AreAtTheirLevels p → AreCalm (waits id level p)
waits_calm id level [] pressed h = tt
waits_calm id level (Made job ∷ p) pressed h = either AreCalm (same job id) [] (waits id level p) tt (waits_calm id level p pressed h)
waits_calm id level (Asked t job at control ∷ p) pressed h = calm_new t control (same job id && rank at == rank level && lives id p) (waits id level p) (λ e. level_calm at level control h.0 pressed (and_parts (same job id) (rank at == rank level) (lives id p) e)) (waits_calm id level p pressed h.1)
waits_calm id level (Pick job t ∷ p) pressed h = either AreCalm (same job id && not (has_above t level (waits id Urgent p) (waits id High p))) (without t (waits id level p)) (waits id level p) (calm_without t (waits id level p) (waits_calm id level p pressed h)) (waits_calm id level p pressed h)
waits_calm id level (Gone job ∷ p) pressed h = either AreCalm (same job id) [] (waits id level p) tt (waits_calm id level p pressed h)
waits_calm id level (_ ∷ p) pressed h = waits_calm id level p pressed h

calm_not : (x y : ℕ × Control) {A : Type 0} → Some x ≡ Some y → is_signalling x.1 ≡ false → is_signalling y.1 ≡ true → A
calm_not x y is calm signals =
    let same_one : x ≡ y = cc in
    let its : is_signalling y.1 ≡ false = rw same_one at calm in
    let both : true ≡ false = sym signals ∙ its in absurd cc

none_first : (urgent high normal : List (ℕ × Control)) (o : Option Grace) (x : ℕ × Control) → AreCalm urgent → AreCalm high → is_signalling x.1 ≡ true → first urgent high (unless_grace o normal) ≡ Some x → o ≡ None
none_first (y ∷ urgent) high normal o x h k signals e = calm_not y x e h.0 signals
none_first [] (y ∷ high) normal o x h k signals e = calm_not y x e k.0 signals
none_first [] [] normal None x h k signals e = refl
none_first [] [] normal (Some g) x h k signals e = absurd cc

pub signal_none : (id : Id) (t : ℕ) (control : Control) (p : List Entry) → first (waits id Urgent p) (waits id High p) (unless_grace (grace id p) (waits id Normal p)) ≡ Some (t, control) → is_signalling control ≡ true → AreAtTheirLevels p → grace id p ≡ None
signal_none id t control p is signals levels = none_first (waits id Urgent p) (waits id High p) (waits id Normal p) (grace id p) (t, control) (waits_calm id Urgent p tt levels) (waits_calm id High p tt levels) signals is

-- ---- what an ask owes is at its level

abbrev pub AreAtLevel : Level → Option Control → Type 0
AreAtLevel level None = Unit {0}
AreAtLevel level (Some control) = IsAtLevel level control

pub sends_first : (ask : Ask) → IsAtLevel (sends_of ask).level (sends_of ask).first
sends_first (One c) = tt
sends_first Restart = tt
sends_first (RestartWithSignal s grace) = tt
sends_first Delete = tt
sends_first DeleteNow = refl
sends_first ToWait = refl

pub sends_second : (ask : Ask) → AreAtLevel (sends_of ask).level (sends_of ask).second
sends_second (One c) = tt
sends_second Restart = tt
sends_second (RestartWithSignal s grace) = tt
sends_second Delete = tt
sends_second DeleteNow = refl
sends_second ToWait = tt
