use Rattle.std.proofs.Common.{◌≡◌, length}
use Rattle.std.specs.Prelude.{List}
use Rattle.wx_scan.specs.Looked.{OnlyLooks}
use Rattle.wx_recursor.specs.Rebuilds.{replayed_all}
use Rattle.wx_recursor.specs.declared.answers.Watched.{Watched}
use Rattle.wx_holding.specs.Backed.{KeepsWatches}
use Rattle.wx_holding.specs.Holding.{state_of}
use Rattle.wx_rebuild.specs.Shown.{HaveCauses}
use Rattle.wx_rebuild.proofs.replaying.replay_all.Given as goal

abbrev pub invariant-loop-rest : goal.invariant-loop-rest
invariant-loop-rest g l =
    record {
      looked : OnlyLooks (g.S.Looks.looked l.fn.scan) (g.S.Looks.looked l.scan);
      others : g.S.Looks.rest l.scan ≡ g.S.Looks.rest l.fn.scan;
      place : g.S.Looks.place l.scan ≡ g.S.Looks.place l.fn.scan;
      rest : (vs : List Watched) → length vs ≡ length l.rest → (ws : List Watched) × (length ws ≡ length l.fn.waiting) × (replayed_all l.rest vs (state_of l.held) ≡ replayed_all l.fn.waiting ws (state_of l.fn.held));
      causes : HaveCauses (state_of l.fn.held) (state_of l.held) (g.B.Backend.backing l.fn.back).faults (g.B.Backend.backing l.back).faults;
      watches : KeepsWatches (state_of l.fn.held).registrations (state_of l.held).registrations (g.B.Backend.backing l.fn.back) (g.B.Backend.backing l.back);
    }

abbrev pub decreases-loop-rest : goal.decreases-loop-rest
decreases-loop-rest g l = length l.rest
