-- What contracts see of a backend that fails where a script says so.
use Rattle.std.specs.Prelude.{ℕ, ◌+◌, ◌==◌, Bool, true, false, ◌&&◌, if◌then◌else◌, Option, None, Some, List, [], ◌∷◌, Result}
use Rattle.wx_notify.specs.declared.notify.Notify.{Notify}
use Rattle.wx_watch.specs.declared.notify_fault.NotifyFault.{NotifyFault}
use Rattle.wx_scan.specs.Backings.{Backing}
use Rattle.wx_script.specs.declared.script.FailingCall.{FailingCall}

-- the code with which a call fails, by the first of these that is about it
abbrev pub code_at : List FailingCall → ℕ → Option ℕ
code_at [] call = None
code_at (f ∷ fs) call = if f.call == call then Some f.code else code_at fs call

abbrev pub is_none : List FailingCall → Bool
is_none [] = true
is_none (f ∷ fs) = false

-- a backend over another one, of which some calls fail
abbrev pub backed : Backing → List FailingCall → ℕ → List (Result Notify NotifyFault) → Backing
backed a failing faults brought = record { registrations = a.registrations; brought = brought; faults = a.faults + faults; exact = a.exact && is_none failing }
