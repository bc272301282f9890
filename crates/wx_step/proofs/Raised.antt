-- The looks rise, whatever is done after a look.
use Rattle.std.proofs.Common.{◌≡◌, ℕ, ◌≤◌, false, Result, Ok, Err, List, [], ap, sym, ◌∙◌, inl, inr, subst}
use Rattle.std.specs.Prelude.{◌⊎◌, OnOk}
use Rattle.wx_scan.specs.Looked.{Looked, Rose}
use Rattle.wx_recursor.specs.Calls.{has_work}
use Rattle.wx_recursor.specs.States.{RecursorState}
use Rattle.wx_recursor.specs.Steps.{told}
use Rattle.wx_recursor.specs.declared.work.Work.{Work}
use Rattle.wx_recursor.proofs.SoundSteps.{sweep_rests}
use Rattle.wx_holding.proofs.Watching.{rose_later}
use Rattle.wx_step.specs.Stepped.{LooksOrSweeps, Steps}

-- what follows doesn't look
pub looked : {A E : Type 0} (r : Result A E) (a b : ℕ) → Rose a b → OnOk r (Rose a b)
looked (Ok x) a b h = h
looked (Err e) a b h = tt

-- what follows only looks
pub looked_then : {A E : Type 0} (r : Result A E) (a b c : ℕ) → Rose a b → b ≤ c → OnOk r (Rose a c)
looked_then r a b c h k = looked r a c (rose_later a b c h k)

pub raised_then : {A E : Type 0} (r : Result A E) (q : List Work) (a b c : ℕ) → Rose a b ⊎ (q ≡ []) → b ≤ c → OnOk r (Rose a c ⊎ (q ≡ []))
raised_then (Ok x) q a b c h k = elim h [ inl r ↦ inl (rose_later a b c r k) | inr e ↦ inr e ]
raised_then (Err e) q a b c h k = tt

-- the sweep leaves no work
pub looks_or_sweeps : (s u t : RecursorState) (a b : Looked) → Rose a.looks b.looks ⊎ (s.queue ≡ []) → Steps s u → t ≡ told u → LooksOrSweeps s t a b
looks_or_sweeps s u t a b h (e, k) f =
    elim h [
      | inl r ↦ inl r
      | inr empty ↦ inr (record { empty = empty; rests = subst (λ (x : RecursorState). has_work x.queue x.sweep_due ≡ false) (sym (f ∙ ap told k)) (sweep_rests e s empty) })
    ]
