-- One step more.
use Rattle.std.proofs.Common.{◌≡◌, ℕ, suc, zero, Bool, true, List, ◌∷◌, refl, sym, subst}
use Rattle.wx_tree.specs.Paths.{Path}
use Rattle.wx_tree.specs.Trees.{Tree}
use Rattle.wx_tree.specs.declared.root.Root.{Root}
use Rattle.wx_walk.specs.Machine.{State, is_work, reconciled, stepped}
use Rattle.wx_walk.specs.Reached.{Call, FindsFirst, Reached, Steps, one_more}
use Rattle.wx_walk.specs.declared.plain.Saw.{Saw}

pub steps_more : (t : Tree) (ok : Path → Bool) (n : ℕ) (s u : State) (f : Saw) → Steps t ok n s u → is_work u ≡ true → FindsFirst t ok u.queue f → Steps t ok (suc n) s (stepped f u)
steps_more t ok zero s u f e work h =
    let k : (is_work s ≡ true) × FindsFirst t ok s.queue f × (stepped f u ≡ stepped f s) =
    subst (λ x. (is_work x ≡ true) × FindsFirst t ok x.queue f × (stepped f u ≡ stepped f x)) e (work, h, refl) in
    (f, k.0, k.1, k.2)
steps_more t ok (suc n) s u f (g, w, k, rest) work h = (g, w, k, steps_more t ok n (stepped g s) u f rest work h)

pub reached_step : (t t' : Tree) (ok : Path → Bool) (c : Call) (cs : List Call) (s u : State) (f : Saw) → t' ≡ t → ok ≡ c.ok → is_work s ≡ true → FindsFirst t' ok s.queue f → u ≡ stepped f s → Reached t (c ∷ cs) s → Reached t (one_more c ∷ cs) u
reached_step t t' ok c cs s u f same_tree same_ok work h e (b, before, steps) =
    let h' : FindsFirst t c.ok s.queue f = rw (← same_tree, ← same_ok) h in
    (b, before, subst (λ x. Steps t c.ok (suc c.steps) (reconciled c.roots b) x) (sym e) (steps_more t c.ok c.steps (reconciled c.roots b) s f steps work h'))

pub reached_call : (t : Tree) (ok : Path → Bool) (rs : List Root) (cs : List Call) (s u : State) → u ≡ reconciled rs s → Reached t cs s → Reached t (record { roots = rs; ok = ok; steps = 0 } ∷ cs) u
reached_call t ok rs cs s u e r = (s, r, e)
