use Rattle.std.proofs.Common.{◌≡◌, length}
use Rattle.std.specs.Prelude.{List, Option}
use Rattle.wx_watch.specs.declared.notify_fault.NotifyFault.{NotifyFault}
use Rattle.wx_scan.specs.Looked.{OnlyLooks}
use Rattle.wx_recursor.specs.Steps.{unwatch_each}
use Rattle.wx_scan.specs.Backings.{Backing}
use Rattle.wx_holding.specs.Backed.{LetsGo, paths_spelled}
use Rattle.wx_holding.specs.Calm.{IsStill}
use Rattle.wx_holding.specs.Holding.{state_of}
use Rattle.wx_holding.specs.Standing.{AreToGo, IsAtTree}
use Rattle.wx_holding.proofs.StandingBy.{IsLeaving}
use Rattle.wx_tree.specs.Trees.{Tree}
use Rattle.wx_holding.proofs.held.Held.unwatch_each.Given as goal

abbrev pub invariant-loop-rest : goal.invariant-loop-rest
invariant-loop-rest g l =
    record {
      looked : OnlyLooks (g.S.Looks.looked l.fn.scan) (g.S.Looks.looked l.scan);
      others : g.S.Looks.rest l.scan ≡ g.S.Looks.rest l.fn.scan;
      place : g.S.Looks.place l.scan ≡ g.S.Looks.place l.fn.scan;
      rest : (vs : List (Option NotifyFault)) → (us : List (Option NotifyFault)) × (unwatch_each l.rest vs (state_of l.self) ≡ unwatch_each l.fn.idle us (state_of l.fn.self));
      watches : (d : Backing) → LetsGo (paths_spelled l.rest) (g.B.Backend.backing l.back) d → LetsGo (paths_spelled l.fn.idle) (g.B.Backend.backing l.fn.back) d;
      calm : (t : Tree) → IsStill t (g.S.Looks.looked l.fn.scan) (g.S.Looks.looked l.scan) → IsAtTree t (g.B.Backend.backing l.fn.back) (g.B.Backend.fits l.fn.back t) → AreToGo (paths_spelled l.fn.idle) (g.B.Backend.backing l.fn.back).registrations
          → IsLeaving t l.fn.idle l.rest (state_of l.fn.self) (state_of l.self) (g.B.Backend.backing l.fn.back) (g.B.Backend.backing l.back) (g.B.Backend.fits l.back t);
    }

abbrev pub decreases-loop-rest : goal.decreases-loop-rest
decreases-loop-rest g l = length l.rest
