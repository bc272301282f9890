-- A backend over another one, of which some calls fail.
use Rattle.std.proofs.Common.{ℕ, Result, List}
use Rattle.std.proofs.lemmas.Bool.{and_parts}
use Rattle.wx_notify.specs.declared.notify.Notify.{Notify}
use Rattle.wx_watch.specs.declared.notify_fault.NotifyFault.{NotifyFault}
use Rattle.wx_tree.specs.Trees.{Tree}
use Rattle.wx_scan.specs.Backings.{Backing, IsExact}
use Rattle.wx_scan.specs.Looked.{Looked}
use Rattle.wx_script.specs.declared.script.FailingCall.{FailingCall}
use Rattle.wx_follow.specs.Backed.{backed, is_none}

-- where it is exact, so is the other one
pub exact_below : (a : Backing) (failing : List FailingCall) (faults : ℕ) (brought : List (Result Notify NotifyFault)) (before after : Looked) (t : Tree) → IsExact (backed a failing faults brought) before after t → IsExact a before after t
exact_below a failing faults brought before after t x = record { exact = (and_parts a.exact (is_none failing) x.exact).0; told = x.told; no_fault = x.no_fault }
