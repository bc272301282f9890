-- What is found of a job.
use Rattle.std.proofs.Common.{◌≡◌, ℕ, ◌≤◌, Bool, true, false, cond, List, [], ◌∷◌, refl, arith, ne_eqb, ap, sym, subst, ◌∙◌}
use Rattle.std.specs.Prelude.{Option, None, Some, is_some, map}
use Rattle.std.specs.List.{find, list_any, AllByRecursion}
use Rattle.wx_control.specs.declared.id.Id.{Id}
use Rattle.wx_control.specs.declared.job.Job.{Job}
use Rattle.wx_journal.specs.declared.entry.Entry.{Entry}
use Rattle.wx_machine.specs.History.{same}
use Rattle.wx_machine.specs.Jobs.{AreBelow, is_seen}
use Rattle.wx_machine.proofs.Owners.{same-is}
use Rattle.wx_hooks.specs.declared.held.Held.{Held}
use Rattle.wx_hooks.specs.HeldJobs.{IsHandle, AreShown, is_of, handles}

-- ---- the handle on a job

-- what is found is of this id, and is one of these
record IsFound (p : List Entry) (id : Id) (held : List Held) (found : Option Held) : Type 0 where
  there : is_some found ≡ list_any (λ job. same job id) (map (λ (job : Id × Job). job.0) (handles held))
  handle : (h : Held) → found ≡ Some h → IsHandle p id h.handle

found_or : (p : List Entry) (id : Id) (b : Bool) (h : Held) (held : List Held) (rest : Option Held) → is_of id h ≡ b → IsHandle p h.handle.id h.handle → IsFound p id held rest → IsFound p id (h ∷ held) (cond b (Some h) rest)
found_or p id true h held rest mine handle others = record {
  there = rw mine refl;
  handle = λ x is. let its : h ≡ x = cc in subst (λ (y : Held). IsHandle p id y.handle) its (subst (λ i. IsHandle p i h.handle) (same-is h.handle.id id mine) handle);
}
found_or p id false h held rest mine handle others = record { there = rw mine others.there; handle = others.handle }

found_held : (p : List Entry) (id : Id) (held : List Held) → AllByRecursion (λ job. IsHandle p job.0 job.1) (handles held) → IsFound p id held (find (is_of id) held)
found_held p id [] all = record { there = refl; handle = λ h is. absurd cc }
found_held p id (h ∷ held) all = found_or p id (is_of id h) h held (find (is_of id) held) refl all.0 (found_held p id held all.1)

is_there : (p : List Entry) (id : Id) (held : List Held) → AreShown p held → is_some (find (is_of id) held) ≡ is_seen id p
is_there p id held shown = (found_held p id held shown.seen.handles).there ∙ ap (λ ids. list_any (λ job. same job id) ids) shown.seen.ids

pub there_some : (p : List Entry) (id : Id) (held : List Held) (h : Held) → AreShown p held → Some h ≡ find (is_of id) held → true ≡ is_seen id p
there_some p id held h shown e = rw (← e) at (is_there p id held shown)

pub there_none : (p : List Entry) (id : Id) (held : List Held) → AreShown p held → None ≡ find (is_of id) held → false ≡ is_seen id p
there_none p id held shown e = rw (← e) at (is_there p id held shown)

pub handle_some : (p : List Entry) (id : Id) (held : List Held) (h : Held) → AreShown p held → Some h ≡ find (is_of id) held → IsHandle p id h.handle
handle_some p id held h shown e = (found_held p id held shown.seen.handles).handle h (sym e)

-- an id that was never given is that of no job that is seen
pub not_seen : (n : ℕ) (id : Id) (ids : List Id) → AreBelow n ids → n ≤ id.0 → list_any (λ job. same job id) ids ≡ false
not_seen n id [] below given = refl
not_seen n id (job ∷ ids) below given = rw (ne_eqb job.0 id.0 (λ e. absurd (omega (arith, e, below.0, given)))) (not_seen n id ids below.1 given)
