use Rattle.std.proofs.Math.Logic.{∥∥₁_map}
use Rattle.wx_holding.specs.Holding.{state_of}
use Rattle.wx_fs.proofs.Keeping.{deferred_kept, restless}
use Rattle.wx_fs.proofs.recursor.Recursor.defer_replay.Goals as goal

pub invariant_of-self : goal.invariant_of-self
invariant_of-self g c = record { keeps = ∥∥₁_map c.args.self.now.keeps (λ k e. deferred_kept (state_of c.args.self.now.held) (state_of c.defer.new.held) c.defer.ensures (k e)); rests = restless (state_of c.defer.new.held) c.args.self.now.spent }
