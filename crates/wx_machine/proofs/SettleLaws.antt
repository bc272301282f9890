-- What the last pass makes of what is owed.
use Rattle.std.proofs.Common.{◌≡◌, Bool, true, false, cond, List, [], ◌∷◌, refl, ap, sym, ◌∙◌}
use Rattle.wx_journal.specs.declared.entry.Entry.{Entry}
use Rattle.wx_journal.specs.declared.entry.Entry.TheVariants.{Turn as Turned, Hand}
use Rattle.std.specs.Prelude.{◌||◌}
use Rattle.std.proofs.lemmas.Bool.{or_parts}
use Rattle.wx_machine.specs.Table.{Plan, Done}
use Rattle.wx_machine.proofs.Owners.{either}
use Rattle.wx_machine.specs.Start.{Start}
use Rattle.wx_machine.specs.Due.{Agenda, Open, Plans, Ends, plans, rest, follow, after_acts, is_through, is_quitting, settle, agenda}
use Rattle.wx_machine.specs.Quits.{is_aborting}
use Rattle.wx_machine.proofs.Orderly.{IsQuiet, IsFit, IsGoing}
use Rattle.wx_machine.proofs.Lawful.{IsOfPlan}

-- where no end was asked for it leaves what is owed
pub settle_calm : (p : List Entry) (k : Agenda) → is_quitting p ≡ false → settle p k ≡ k
settle_calm p Open e = ap (λ (b : Bool). cond b Ends Open) e
settle_calm p (k) e = refl

-- it goes by whether the end was asked for alone
pub settle_over : (p' p : List Entry) (k : Agenda) → is_quitting p' ≡ is_quitting p → settle p' k ≡ settle p k
settle_over p' p Open e = ap (λ (b : Bool). cond b Ends Open) e
settle_over p' p (k) e = refl

-- an entry of a plan leaves whether the end was asked for at once
pub aborting_over : (e : Entry) (p : List Entry) → IsOfPlan e → is_aborting (e ∷ p) ≡ is_aborting p
aborting_over (Turned t) p o = absurd o
aborting_over (Hand n names acts) p o = absurd o
aborting_over (_) p o = refl

-- where it wasn't, the end is due where it was asked for gracefully and no job lives
pub settle_through : (p : List Entry) → is_aborting p ≡ false → settle p Open ≡ after_acts (is_through p)
settle_through p e = ap (λ (b : Bool). after_acts (b || is_through p)) e

-- where nothing is owed the end isn't due
not_through : (b : Bool) → after_acts b ≡ Open → b ≡ false
not_through true e = absurd cc
not_through false e = refl

pub open_going : (p : List Entry) (k : Agenda) → settle p k ≡ Open → is_quitting p ≡ false
open_going p Open e = not_through (is_quitting p) e
open_going p (_) e = absurd cc

pub quiet_open : (s : Start) (p : List Entry) → agenda s p ≡ Open → is_quitting p ≡ false
quiet_open s [] e = refl
quiet_open s (x ∷ p) e = open_going (x ∷ p) (follow s x p (rest x (agenda s p))) e

-- what a turn owes whose plan is over, where the end wasn't asked for before
pub served_settled : (s : Start) (p p' : List Entry) → is_quitting p ≡ false → is_aborting p' ≡ is_aborting p → agenda s p' ≡ settle p' Open → agenda s p' ≡ after_acts (is_through p')
served_settled s p p' going aborts due = due ∙ settle_through p' (aborts ∙ (or_parts (is_aborting p) (is_through p) going).0)

-- so it isn't by the last pass
pub served_open : (s : Start) (p : List Entry) → agenda s p ≡ Open → agenda s p ≡ after_acts (is_through p)
served_open s p e = e ∙ sym (ap after_acts (or_parts (is_aborting p) (is_through p) (quiet_open s p e)).1)

-- it leaves what fits
pub fit_settle : (s : Start) (p : List Entry) (k : Agenda) → IsFit s p k → IsFit s p (settle p k)
fit_settle s p Open f = either (IsFit s p) (is_quitting p) Ends Open tt tt
fit_settle s p (k) f = f

-- ---- where something else than a plan or the end is owed no end was asked for

pub going_calm : (p : List Entry) (k : Agenda) → is_quitting p ≡ false → IsGoing p k
going_calm p (Plans k more) e = tt
going_calm p Ends e = tt
going_calm p (_) e = e

going_open : (p : List Entry) (b : Bool) → is_quitting p ≡ b → IsGoing p (cond b Ends Open)
going_open p true is = tt
going_open p false is = is

going_quiet : (p : List Entry) (more : Agenda) → IsQuiet more → IsGoing p (settle p more)
going_quiet p Open q = going_open p (is_quitting p) refl
going_quiet p Ends q = tt
going_quiet p (_) q = absurd q

pub going_plans : (p : List Entry) (k : Plan) (more : Agenda) → IsQuiet more → IsGoing p (settle p (plans k more))
going_plans p Done more q = going_quiet p more q
going_plans p (k) more q = tt
