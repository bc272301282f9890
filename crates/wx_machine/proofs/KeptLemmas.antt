-- What hooks keep over calls on them and over other entries.
use Rattle.std.proofs.Common.{◌≡◌, ℕ, Bool, true, false, List, [], ◌∷◌, Option, Some, refl, ◌∙◌, sym, subst}
use Rattle.wx_journal.specs.declared.entry.Entry.{Entry}
use Rattle.wx_machine.proofs.CaseLemmas.{ran-none}
use Rattle.wx_journal.specs.Names.{NamesItsOwn}
use Rattle.wx_journal.specs.Told.{tell_if, is_hooks, Obeys, Same as NoneMore, More as OneMore}
use Rattle.wx_machine.specs.Table.{Plan}
use Rattle.wx_machine.specs.Case.{PlanLeads, PlanHere, PlanThen, PlanFollowsHost}
use Rattle.wx_machine.specs.Seen.{Seen, Hooked}
use Rattle.wx_machine.specs.Kept.{Keeps, Quiet, Same, More, Kept, Still, Past, Roomy, Called, Promised}

-- ---- quiet stretches

-- what the hooks were told is as long as they were called: where they were told nothing, all was quiet
record Heard (p p' : List Entry) (hooks : Option (List Entry)) : Type 0 where
  told : List Entry
  is_told : hooks ≡ Some told
  quiet : told ≡ [] → Quiet p p'

heard_more : (e : Entry) (p p' : List Entry) (hooks : Option (List Entry)) (mine : Bool) → is_hooks e ≡ mine → Heard p p' hooks → Heard p (e ∷ p') (tell_if mine e hooks)
heard_more e p p' hooks true is h = record { told = e ∷ h.told; is_told = rw h.is_told refl; quiet = λ none. absurd cc }
heard_more e p p' hooks false is h = record { told = h.told; is_told = h.is_told; quiet = λ none. More e p' (h.quiet none) is }

heard : (k : Plan) (p : List Entry) (host : Option (List Entry)) (n : ℕ) (k' : Plan) (p' : List Entry) (host' hooks' : Option (List Entry)) (n' : ℕ) → PlanLeads k p host (Some []) n k' p' host' hooks' n' → Heard p p' hooks'
heard k p host n k' p' host' hooks' n' l = elim l as (λ k' p' host' hooks' n' _. Heard p p' hooks') [
  | PlanHere ↦ record { told = []; is_told = refl; quiet = λ none. Same }
  | PlanThen e k₁ p₁ host₁ hooks₁ n₁ n₂ (l → h) d counts ↦ heard_more e p p₁ hooks₁ (is_hooks e) refl h
]

pub quiet_led : (k : Plan) (p : List Entry) (host : Option (List Entry)) (n : ℕ) (k' : Plan) (p' : List Entry) (host' : Option (List Entry)) (n' : ℕ) → PlanLeads k p host (Some []) n k' p' host' (Some []) n' → Quiet p p'
quiet_led k p host n k' p' host' n' l = let h = heard k p host n k' p' host' (Some []) n' l in h.quiet (cc h.is_told)

-- ---- room

-- ---- calls on them, and entries that are none

pub kept-call : {K Fixed : Type 0} (seen : K → Hooked Fixed) (rule : Fixed → List Entry → Entry → Type 0) (stands : K → List Entry → Type 0) (x₀ : K) (p₀ : List Entry) (x x' : K) (e : Entry) (p : List Entry) → Keeps seen rule stands x p e x' → Kept seen rule stands x₀ p₀ x p → Kept seen rule stands x₀ p₀ x' (e ∷ p)
kept-call seen rule stands x₀ p₀ x x' e p keeps k = Called x x' e p k keeps

pub kept-one : {K Fixed : Type 0} (seen : K → Hooked Fixed) (rule : Fixed → List Entry → Entry → Type 0) (stands : K → List Entry → Type 0) (x₀ : K) (p₀ : List Entry) (x : K) (e : Entry) (p : List Entry) → is_hooks e ≡ false → Kept seen rule stands x₀ p₀ x p → Kept seen rule stands x₀ p₀ x (e ∷ p)
kept-one seen rule stands x₀ p₀ x e p other k = Past x p (e ∷ p) k (More e p Same other)

-- where only the host was called
pub quiet-followed : {Fixed : Type 0} (k : Plan) (p : List Entry) (a : Seen Fixed) (k' : Plan) (p' : List Entry) (b : Seen Fixed) → PlanFollowsHost k p a k' p' b → Quiet p p'
quiet-followed k p a k' p' b led = quiet_led k p _ _ k' p' _ _ (led k p a (Some []) (Some []) (ran-none k p a (Some []))).led

pub quiet_then : (p q r : List Entry) → Quiet p q → Quiet q r → Quiet p r
quiet_then p q _ a Same = a
quiet_then p q _ a (More e r b other) = More e r (quiet_then p q r a b) other

pub ruleset quiets = (quiet_then)

pub kept-past : {K Fixed : Type 0} (seen : K → Hooked Fixed) (rule : Fixed → List Entry → Entry → Type 0) (stands : K → List Entry → Type 0) (x₀ : K) (p₀ : List Entry) (x : K) (p p' : List Entry) → Quiet p p' → Kept seen rule stands x₀ p₀ x p → Kept seen rule stands x₀ p₀ x p'
kept-past seen rule stands x₀ p₀ x p p' quiet k = Past x p p' k quiet

pub ruleset calls = (kept-call, kept-one, kept-past, More, Same)

-- ---- what was kept, in plain words

-- what is no call on the hooks leaves what these stand for
abbrev pub KeepsOther : (List Entry → Type 0) → Type 0
KeepsOther stands = (q : List Entry) (e : Entry) → NamesItsOwn q → is_hooks e ≡ false → stands q → stands (e ∷ q)

quiet_own : (p p' : List Entry) → Quiet p p' → NamesItsOwn p' → NamesItsOwn p
quiet_own p _ Same own = own
quiet_own p _ (More e q quiet other) own = quiet_own p q quiet own.1

quiet_stands : (stands : List Entry → Type 0) (p p' : List Entry) → KeepsOther stands → Quiet p p' → NamesItsOwn p' → stands p → stands p'
quiet_stands stands p _ keep Same own h = h
quiet_stands stands p _ keep (More e q quiet other) own h = keep q e own.1 other (quiet_stands stands p q keep quiet own.1 h)

quiet_obeys : (rule : List Entry → Entry → Type 0) (p₀ p p' : List Entry) → Quiet p p' → Obeys rule p₀ p → Obeys rule p₀ p'
quiet_obeys rule p₀ p _ Same h = h
quiet_obeys rule p₀ p _ (More e q quiet other) h = OneMore e q (quiet_obeys rule p₀ p q quiet h) (λ mine. (let both : true ≡ false = sym mine ∙ other in absurd cc))

-- the promise holds where the journal names its own
record Kind {K Fixed : Type 0} (seen : K → Hooked Fixed) (rule : Fixed → List Entry → Entry → Type 0) (stands : K → List Entry → Type 0) (x₀ : K) (p₀ : List Entry) (x : K) (p : List Entry) : Type 0 where
  plan_kept : (seen x).plan ≡ (seen x₀).plan
  place_kept : (seen x).place ≡ (seen x₀).place
  short_falls : (seen x).short ≡ false → (seen x₀).short ≡ false
  rule_kept : NamesItsOwn p → (seen x).short ≡ false → stands x₀ p₀ → Obeys (rule (seen x₀).plan) p₀ p
  stands_kept : NamesItsOwn p → (seen x).short ≡ false → stands x₀ p₀ → stands x p

kind : {K Fixed : Type 0} (seen : K → Hooked Fixed) (rule : Fixed → List Entry → Entry → Type 0) (stands : K → List Entry → Type 0) (x₀ : K) (p₀ : List Entry) (x : K) (p : List Entry) → ((y : K) → KeepsOther (stands y)) → Kept seen rule stands x₀ p₀ x p → Kind seen rule stands x₀ p₀ x p
kind seen rule stands x₀ p₀ x p keep k = elim k as (λ x p _. Kind seen rule stands x₀ p₀ x p) [
  | Still ↦ record { plan_kept = refl; place_kept = refl; short_falls = λ s. s; rule_kept = λ own s st. NoneMore; stands_kept = λ own s st. st }
  | Past y q q' (k → h) quiet ↦ record {
    plan_kept = h.plan_kept;
    place_kept = h.place_kept;
    short_falls = h.short_falls;
    rule_kept = λ own s st. quiet_obeys (rule (seen x₀).plan) p₀ q q' quiet (h.rule_kept (quiet_own q q' quiet own) s st);
    stands_kept = λ own s st. quiet_stands (stands y) q q' (keep y) quiet own (h.stands_kept (quiet_own q q' quiet own) s st);
  }
  | Roomy y y' q (k → h) only ↦ record {
    plan_kept = only.plan_kept ∙ h.plan_kept;
    place_kept = only.place_kept ∙ h.place_kept;
    short_falls = λ s. h.short_falls (sym only.short_kept ∙ s);
    rule_kept = λ own s st. h.rule_kept own (sym only.short_kept ∙ s) st;
    stands_kept = λ own s st. only.stands_kept q (h.stands_kept own (sym only.short_kept ∙ s) st);
  }
  | Called y y' e q (k → h) keeps ↦ record {
    plan_kept = keeps.plan_kept ∙ h.plan_kept;
    place_kept = keeps.place_kept ∙ h.place_kept;
    short_falls = λ s. h.short_falls (keeps.short_falls s);
    rule_kept = λ own s st. OneMore e q (h.rule_kept own.1 (keeps.short_falls s) st) (λ mine. subst (λ f. rule f q e) h.plan_kept (keeps.passes s own.1 (h.stands_kept own.1 (keeps.short_falls s) st)).0);
    stands_kept = λ own s st. (keeps.passes s own.1 (h.stands_kept own.1 (keeps.short_falls s) st)).1;
  }
]

pub promised : {K Fixed : Type 0} (seen : K → Hooked Fixed) (rule : Fixed → List Entry → Entry → Type 0) (stands : K → List Entry → Type 0) (x₀ : K) (p₀ : List Entry) (x : K) (p : List Entry) → ((y : K) → KeepsOther (stands y)) → NamesItsOwn p → Kept seen rule stands x₀ p₀ x p → Promised seen rule stands x₀ p₀ x p
promised seen rule stands x₀ p₀ x p keep own k =
    let h = kind seen rule stands x₀ p₀ x p keep k in
    record { plan_kept = h.plan_kept; place_kept = h.place_kept; short_falls = h.short_falls; rule_kept = h.rule_kept own; stands_kept = h.stands_kept own }
