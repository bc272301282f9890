-- Who spawned a child, and which tickets and children a journal that names its own can name.
use Rattle.std.proofs.Common.{◌≡◌, ◌≢◌, ℕ, ◌+◌, ◌<◌, Bool, true, false, cond, List, [], ◌∷◌, ◌++◌, Option, Some, None, Ok, Err, refl, arith, ap, sym, eq-eqb, ne_eqb}
use Rattle.std.specs.Prelude.{◌==◌, ◌&&◌, not}
use Rattle.std.specs.List.{AllByRecursion}
use Rattle.std.proofs.lemmas.Bool.{eqb-true}
use Rattle.wx_words.specs.EachLaws.{each_append, each_weaker}
use Rattle.wx_words.specs.OptionLaws.{refused}
use Rattle.wx_events.specs.declared.process.ProcessEnd.{ProcessEnd}
use Rattle.wx_control.specs.declared.id.Id.{Id}
use Rattle.wx_control.specs.declared.control.Control.{Control}
use Rattle.wx_control.specs.declared.level.Level.{Level}
use Rattle.wx_control.specs.declared.level.Level.TheVariants.{High, Urgent}
use Rattle.wx_control.specs.Levels.{rank}
use Rattle.wx_journal.specs.declared.entry.Entry.{Entry}
use Rattle.wx_journal.specs.declared.entry.Entry.TheVariants.{Made, Asked, Pick, Spawn, Wait, Gone, Hook}
use Rattle.wx_journal.specs.Names.{NamesItsOwn, ticket_count, child_count, moment}
use Rattle.wx_machine.specs.declared.state.CommandState.{CommandState}
use Rattle.wx_machine.specs.declared.state.CommandState.TheVariants.{Pending, Running, Finished}
use Rattle.wx_machine.specs.History.{same, lives, has_above, without, waits, child, unless, reaped_child, ended_child, still_running, state, finish, owner, is_child}
use Rattle.wx_machine.specs.States.{child_of}
use Rattle.wx_machine.specs.JobLaws.{unreaped, NamesChildren}

pub self : (id : Id) → same id id ≡ true
self id = eq-eqb id.0 id.0 refl

pub same-is : (a b : Id) → same a b ≡ true → a ≡ b
same-is a b e = let is : a.0 ≡ b.0 = eqb-true _ _ e in ap (λ (n : ℕ). record { 0 = n }) is

pub other-is : (a b : Id) → a ≢ b → same b a ≡ false
other-is a b ne = ne_eqb b.0 a.0 (λ e. ne (ap (λ (n : ℕ). record { 0 = n }) (sym e)))

-- what a choice of two gives, where both do
pub either : {A : Type 0} (P : A → Type 0) (b : Bool) (x y : A) → P x → P y → P (cond b x y)
either P true x y h g = h
either P false x y h g = g

-- ---- the owner of a child has a name below the count

-- a journal that names its own names its children
pub children_named : (p : List Entry) → NamesItsOwn p → NamesChildren p
children_named [] own = tt
children_named (Spawn c job tag what answer ∷ p) own = (own.0, children_named p own.1)
children_named (_ ∷ p) own = children_named p own.1

pub new_below : (c d : ℕ) (job id : Id) (n : ℕ) (o : Option Id) (b : Bool) → (d == c) ≡ b → d ≡ n → (o ≡ Some id → c < n) → cond b (Some job) o ≡ Some id → c < n + 1
new_below c d job id n o true is name below e = let found : d ≡ c = eqb-true _ _ is in omega arith
new_below c d job id n o false is name below e = let lt : c < n = below e in omega arith

pub owner_below : (c : ℕ) (id : Id) (p : List Entry) → NamesChildren p → owner c p ≡ Some id → c < child_count p
owner_below c id [] own e = cc
owner_below c id (Spawn d job tag what answer ∷ p) own e = new_below c d job id (child_count p) (owner c p) (d == c) refl own.0 (λ h. owner_below c id p own.1 h) e
owner_below c id (_ ∷ p) own e = owner_below c id p own e

-- a new child takes none from its owner
owner_kept : (c d : ℕ) (id job : Id) (p : List Entry) → NamesChildren p → d ≡ child_count p → owner c p ≡ Some id → cond (d == c) (Some job) (owner c p) ≡ Some id
owner_kept c d id job p own name e = let below : c < child_count p = owner_below c id p own e in rw (ne_eqb d c (λ is. omega arith)) e

owner_new : (c : ℕ) (job id : Id) (rest : Option Id) → same job id ≡ true → cond (c == c) (Some job) rest ≡ Some id
owner_new c job id rest e = rw (eq-eqb c c refl) (ap (λ j. Some j) (same-is job id e))

unless_some : (c : ℕ) (o : Option ℕ) (d : ℕ) → unless c o ≡ Some d → o ≡ Some d
unless_some c None d e = cc
unless_some c (Some x) d e = by_test (x == c) e
  where
    by_test : (b : Bool) → cond b None (Some x) ≡ Some d → Some x ≡ Some d
    by_test true h = cc
    by_test false h = h

pub still_some : (over running : Option ℕ) (d : ℕ) → still_running over running ≡ Some d → running ≡ Some d
still_some None running d e = e
still_some (Some c) running d e = unless_some c running d e

-- ---- a child that runs, one that wasn't reaped, and the one in the state were spawned by their job

-- what is looked back for in a history and names a child
abbrev Spawned : (Id → List Entry → Option ℕ) → Type 0
Spawned look = (id : Id) (c : ℕ) (p : List Entry) → NamesChildren p → look id p ≡ Some c → owner c p ≡ Some id

spawned_ok : (c d : ℕ) (id job : Id) (p : List Entry) (o : Option ℕ) (b : Bool) → same job id ≡ b → NamesChildren p → d ≡ child_count p → (o ≡ Some c → owner c p ≡ Some id) → cond b (Some d) o ≡ Some c → cond (d == c) (Some job) (owner c p) ≡ Some id
spawned_ok c d id job p o true is own name look e = let found : d ≡ c = cc in rw found (owner_new c job id (owner c p) is)
spawned_ok c d id job p o false is own name look e = owner_kept c d id job p own name (look e)

pub child_owner : Spawned child
child_owner id c [] own e = cc
child_owner id c (Made job ∷ p) own e = child_owner id c p own (refused (same job id) (child id p) c e).1
child_owner id c (Spawn d job tag what (Ok done) ∷ p) own e = spawned_ok c d id job p (child id p) (same job id) refl own.1 own.0 (λ h. child_owner id c p own.1 h) e
child_owner id c (Spawn d job tag what (Err fault) ∷ p) own e = owner_kept c d id job p own.1 own.0 (child_owner id c p own.1 e)
child_owner id c (e ∷ p) own is = child_owner id c p own (still_some (ended_child e) (child id p) c is)

pub unreaped_owner : Spawned unreaped
unreaped_owner id c [] own e = cc
unreaped_owner id c (Made job ∷ p) own e = unreaped_owner id c p own (refused (same job id) (unreaped id p) c e).1
unreaped_owner id c (Spawn d job tag what (Ok done) ∷ p) own e = spawned_ok c d id job p (unreaped id p) (same job id) refl own.1 own.0 (λ h. unreaped_owner id c p own.1 h) e
unreaped_owner id c (Spawn d job tag what (Err fault) ∷ p) own e = owner_kept c d id job p own.1 own.0 (unreaped_owner id c p own.1 e)
unreaped_owner id c (e ∷ p) own is = unreaped_owner id c p own (still_some (reaped_child e) (unreaped id p) c is)

-- the child in the state
pending_of : (b : Bool) (s : CommandState) (c : ℕ) → child_of (cond b Pending s) ≡ Some c → child_of s ≡ Some c
pending_of true s c e = cc
pending_of false s c e = e

finish_some : (d : ℕ) (status : ProcessEnd) (at : ℕ) (s : CommandState) (c : ℕ) → child_of (finish d status at s) ≡ Some c → child_of s ≡ Some c
finish_some d status at Pending c e = cc
finish_some d status at (Running x started) c e = by_test (x == d) e
  where
    by_test : (b : Bool) → child_of (cond b (Finished status started at) (Running x started)) ≡ Some c → Some x ≡ Some c
    by_test true h = cc
    by_test false h = h
finish_some d status at (Finished before started finished) c e = cc

running_ok : (c d : ℕ) (id job : Id) (at : ℕ) (p : List Entry) (s : CommandState) (b : Bool) → same job id ≡ b → NamesChildren p → d ≡ child_count p → (child_of s ≡ Some c → owner c p ≡ Some id) → child_of (cond b (Running d at) s) ≡ Some c → cond (d == c) (Some job) (owner c p) ≡ Some id
running_ok c d id job at p s true is own name look e = let found : d ≡ c = cc in rw found (owner_new c job id (owner c p) is)
running_ok c d id job at p s false is own name look e = owner_kept c d id job p own name (look e)

pub state_owner : Spawned (λ id p. child_of (state id p))
state_owner id c [] own e = cc
state_owner id c (Made job ∷ p) own e = state_owner id c p own (pending_of (same job id) (state id p) c e)
state_owner id c (Hook job n answer ∷ p) own e = state_owner id c p own (pending_of (same job id) (state id p) c e)
state_owner id c (Wait d (Ok status) ∷ p) own e = state_owner id c p own (finish_some d status (moment p) (state id p) c e)
state_owner id c (Spawn d job tag what (Ok done) ∷ p) own e = running_ok c d id job (moment p) p (state id p) (same job id) refl own.1 own.0 (λ h. state_owner id c p own.1 h) e
state_owner id c (Spawn d job tag what (Err fault) ∷ p) own e = owner_kept c d id job p own.1 own.0 (state_owner id c p own.1 (pending_of (same job id) (state id p) c e))
state_owner id c (_ ∷ p) own e = state_owner id c p own e

-- ---- the tickets that wait were asked

below_rise : (n : ℕ) (xs : List (ℕ × Control)) → AllByRecursion (λ x. x.0 < n) xs → AllByRecursion (λ x. x.0 < n + 1) xs
below_rise n xs h = each_weaker (λ x. x.0 < n) (λ x. x.0 < n + 1) (λ x lt. omega (arith, lt)) xs h

below_append : (n : ℕ) (xs : List (ℕ × Control)) (x : ℕ × Control) → AllByRecursion (λ y. y.0 < n) xs → x.0 < n → AllByRecursion (λ y. y.0 < n) (xs ++ x ∷ [])
below_append n xs x h lt = each_append (λ y. y.0 < n) xs (x ∷ []) h (lt, tt)

below_without : (n ticket : ℕ) (xs : List (ℕ × Control)) → AllByRecursion (λ y. y.0 < n) xs → AllByRecursion (λ y. y.0 < n) (without ticket xs)
below_without n ticket [] h = tt
below_without n ticket (x ∷ xs) h = either (AllByRecursion (λ y. y.0 < n)) (x.0 == ticket) xs (x ∷ without ticket xs) h.1 (h.0, below_without n ticket xs h.1)

abbrev pub AreAsked : ℕ → List (ℕ × Control) → Type 0
AreAsked n xs = AllByRecursion (λ x. x.0 < n) xs

pub waits_asked : (id : Id) (level : Level) (p : List Entry) → NamesItsOwn p → AreAsked (ticket_count p) (waits id level p)
waits_asked id level [] own = tt
waits_asked id level (Made job ∷ p) own = either (AreAsked (ticket_count p)) (same job id) [] (waits id level p) tt (waits_asked id level p own.1)
waits_asked id level (Asked ticket job at control ∷ p) own =
    let here = below_rise (ticket_count p) (waits id level p) (waits_asked id level p own.1) in
    either (AreAsked (ticket_count p + 1)) (same job id && rank at == rank level && lives id p) (waits id level p ++ (ticket, control) ∷ []) (waits id level p) (below_append (ticket_count p + 1) (waits id level p) (ticket, control) here (let name : ticket ≡ ticket_count p = own.0 in omega arith)) here
waits_asked id level (Pick job ticket ∷ p) own = let here = waits_asked id level p own.1 in either (AreAsked (ticket_count p)) (same job id && not (has_above ticket level (waits id Urgent p) (waits id High p))) (without ticket (waits id level p)) (waits id level p) (below_without (ticket_count p) ticket (waits id level p) here) here
waits_asked id level (Gone job ∷ p) own = either (AreAsked (ticket_count p)) (same job id) [] (waits id level p) tt (waits_asked id level p own.1)
waits_asked id level (_ ∷ p) own = waits_asked id level p own.1

pub is_child_some : (c : ℕ) (o : Option ℕ) → is_child c o ≡ true → o ≡ Some c
is_child_some c None e = absurd cc
is_child_some c (Some d) e = ap (λ n. Some n) (eqb-true d c e)
