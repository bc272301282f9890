-- What holds of each entry that a plan may bring, whatever is answered.
use Rattle.std.proofs.Common.{◌≡◌, Bool, true, false, cond, List, ◌∷◌, refl}
use Rattle.std.specs.Bool.{MatchBool}
use Rattle.wx_journal.specs.declared.entry.Entry.{Entry}
use Rattle.wx_machine.specs.Table.{Plan, Done, GivenUp, Owes}
use Rattle.wx_machine.specs.Case.{CallAnswer, entry, PlanAdmits, fails, next}

-- Each entry that a plan brings behind these is such, and so are those that come then. What is asked of an entry may speak
-- of the journal before it and of what is owed behind it.
abbrev pub Always : (List Entry → Entry → Plan → Type 0) → List Entry → Plan → Type 0
Always P p Done = Unit {0}
Always P p GivenUp = Unit {0}
Always P p (Owes call k f) = (a : CallAnswer call) → P p (entry p call a) (next (Owes call k f) (entry p call a)) × MatchBool (fails (entry p call a)) (Always P (entry p call a ∷ p) f) (Always P (entry p call a ∷ p) k)

-- whatever is answered
pub both : {A B : Type 0} (b : Bool) → A → B → MatchBool b A B
both true x y = x
both false x y = y

match_on : {A B C D : Type 0} (b : Bool) → (A → C) → (B → D) → MatchBool b A B → MatchBool b C D
match_on true f g h = f h
match_on false f g h = g h

rest_is : (P : List Entry → Entry → Plan → Type 0) (p : List Entry) (b : Bool) (k f : Plan) → MatchBool b (Always P p f) (Always P p k) → Always P p (cond b f k)
rest_is P p true k f h = h
rest_is P p false k f h = h

-- the entry that comes is such, and so is what is left
pub always_now : (P : List Entry → Entry → Plan → Type 0) (p : List Entry) (k : Plan) (e : Entry) → PlanAdmits p k e → Always P p k → P p e (next k e)
always_now P p Done e d h = absurd d
always_now P p GivenUp e d h = absurd d
always_now P p (Owes call k f) e d h = rw d.1 (h d.0).0

pub always_next : (P : List Entry → Entry → Plan → Type 0) (p : List Entry) (k : Plan) (e : Entry) → PlanAdmits p k e → Always P p k → Always P (e ∷ p) (next k e)
always_next P p Done e d h = absurd d
always_next P p GivenUp e d h = absurd d
always_next P p (Owes call k f) e d h = rw d.1 (rest_is P (entry p call d.0 ∷ p) (fails (entry p call d.0)) k f (h d.0).1)

-- what is such is such in another sense too, by what is known of the journal
pub always_also : (I : List Entry → Type 0) (P Q : List Entry → Entry → Plan → Type 0) → ((p : List Entry) (e : Entry) (k : Plan) → I p → P p e k → Q p e k × I (e ∷ p)) → (p : List Entry) (k : Plan) → I p → Always P p k → Always Q p k
always_also I P Q h p Done i s = tt
always_also I P Q h p GivenUp i s = tt
always_also I P Q h p (Owes call k f) i s = λ a.
    let e = entry p call a in
    let now = h p e (next (Owes call k f) e) i (s a).0 in
    (now.0, match_on (fails e) (λ x. always_also I P Q h (e ∷ p) f now.1 x) (λ x. always_also I P Q h (e ∷ p) k now.1 x) (s a).1)

-- a choice of nothing
pub always_if : (P : List Entry → Entry → Plan → Type 0) (p : List Entry) (b : Bool) (k : Plan) → (b ≡ true → Always P p k) → Always P p (cond b k Done)
always_if P p true k h = h refl
always_if P p false k h = tt
