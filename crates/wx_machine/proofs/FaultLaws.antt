-- What counts the faults of calls on children.
use Rattle.std.proofs.Common.{◌≡◌, ℕ, ◌+◌, ◌≤◌, Bool, true, false, cond, List, [], ◌∷◌, Option, None, Some, length, refl, arith, ap}
use Rattle.wx_journal.specs.declared.entry.Entry.{Entry}
use Rattle.wx_journal.specs.declared.entry.Entry.TheVariants.{Spawn, Dropped, Gone}
use Rattle.wx_journal.specs.Told.{tell_if, is_world}
use Rattle.wx_machine.specs.Case.{is_fault}
use Rattle.wx_machine.specs.Faults.{fault_count, Counted, CountsOn}
use Rattle.wx_machine.specs.Start.{Start}
use Rattle.wx_machine.specs.Leads.{Leads, Here, Then, FollowsHooks, FollowsAlone}
use Rattle.wx_machine.specs.Answer.{Dying, Alive, Dies}
use Rattle.wx_machine.proofs.PlanLaws.{of_end}
use Rattle.wx_machine.proofs.Lawful.{IsOfEnd}

-- a step from one count to the next
pub counts_on : (p p' : List Entry) (n n' : ℕ) → Counted p n p' n' → CountsOn p n p' n'
counts_on p p' n n' c p₀ n₀ before = record { later = omega (arith, c.later, before.later); rose = omega (arith, c.later, c.rose, before.later, before.rose) }

-- where no call failed
calm_counts : (p p' : List Entry) (n n' : ℕ) → n ≤ n' → fault_count p' ≤ fault_count p → CountsOn p n p' n'
calm_counts p p' n n' later few = counts_on p p' n n' (record { later = later; rose = omega (arith, later, few) })

-- an entry that holds no fault is no fault more
pub counts_entry : (e : Entry) (p : List Entry) (n n' : ℕ) → is_fault e ≡ false → n ≤ n' → CountsOn p n (e ∷ p) n'
counts_entry e p n n' calm later = calm_counts p (e ∷ p) n n' later (let same : fault_count (e ∷ p) ≡ fault_count p = rw calm refl in omega (arith, same))

-- each fault was told to the world
no_fault : (p : List Entry) (e : Entry) → is_world p e ≡ false → is_fault e ≡ false
no_fault p (Spawn c job tag what answer) other = cc
no_fault p (_) other = cc

-- so many faults more at most as entries were told
record IsTold (n n' : ℕ) (told : Option (List Entry)) : Type 0 where
  more : List Entry
  is_told : told ≡ Some more
  few : n' ≤ n + length more

told_more : (e : Entry) (n n' : ℕ) (told : Option (List Entry)) (mine bad : Bool) → (mine ≡ false → bad ≡ false) → IsTold n n' told → IsTold n (cond bad (n' + 1) n') (tell_if mine e told)
told_more e n n' told true true calm so_far = record { more = e ∷ so_far.more; is_told = rw so_far.is_told refl; few = omega (arith, so_far.few) }
told_more e n n' told true false calm so_far = record { more = e ∷ so_far.more; is_told = rw so_far.is_told refl; few = omega (arith, so_far.few) }
told_more e n n' told false true calm so_far = let not : true ≡ false = calm refl in absurd cc
told_more e n n' told false false calm so_far = so_far

leads_told : (s : Start) (p : List Entry) (hooks : Option (List Entry)) (p' : List Entry) (world' hooks' : Option (List Entry)) → Leads s p (Some []) hooks p' world' hooks' → IsTold (fault_count p) (fault_count p') world'
leads_told s p hooks p' world' hooks' l = elim l as (λ p' world' hooks' _. IsTold (fault_count p) (fault_count p') world') [
  | Here ↦ record { more = []; is_told = refl; few = omega arith }
  | Then e p₁ world₁ hooks₁ (l → h) d ↦ told_more e (fault_count p) (fault_count p₁) world₁ (is_world p₁ e) (is_fault e) (no_fault p₁ e) h
]

no_more : (n n' : ℕ) → IsTold n n' (Some []) → n' ≤ n
no_more n n' told = let none : told.more ≡ [] = cc told.is_told in let length_is : length told.more ≡ 0 = ap length none in omega (arith, told.few, length_is)

-- a call that the world isn't told of adds no fault
pub counts_hooks : (s : Start) (p p' : List Entry) (hooks hooks' : Option (List Entry)) (n n' : ℕ) → FollowsHooks s p hooks p' hooks' → n ≤ n' → CountsOn p n p' n'
counts_hooks s p p' hooks hooks' n n' follows later =
    let few : fault_count p' ≤ fault_count p = no_more _ _ (leads_told s p hooks p' (Some []) hooks' (follows (Some []) p (Some []) hooks Here)) in
    calm_counts p p' n n' later few

pub counts_alone : (s : Start) (p p' : List Entry) (n n' : ℕ) → FollowsAlone s p p' → n ≤ n' → CountsOn p n p' n'
counts_alone s p p' n n' follows later = counts_hooks s p p' None None n n' (λ world. follows world None) later

-- the end of jobs adds none
calm_end : (e : Entry) → IsOfEnd e → is_fault e ≡ false
calm_end (Dropped c) of_end = refl
calm_end (Gone job) of_end = refl
calm_end (_) of_end = absurd of_end

dying_calm : (q p : List Entry) → Dying q p → fault_count p ≡ fault_count q
dying_calm q _ Alive = refl
dying_calm q _ (Dies e p so_far due) = let calm = calm_end e (of_end p e due) in rw calm (dying_calm q p so_far)

pub counts_end : (p p' : List Entry) (n n' : ℕ) → Dying p p' → n ≤ n' → CountsOn p n p' n'
counts_end p p' n n' dying later = calm_counts p p' n n' later (omega (arith, dying_calm p p' dying))

-- what was counted from the first journal and count
pub counted_from : (p : List Entry) (n : ℕ) (p' : List Entry) (n' : ℕ) → CountsOn p n p' n' → Counted p n p' n'
counted_from p n p' n' on = on p n (record { later = omega arith; rose = omega arith })
