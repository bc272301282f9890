use Rattle.std.proofs.Common.{false}
use Rattle.wx_holding.specs.Holding.{state_of}
use Rattle.wx_fs.proofs.Epochs.{fresh_stands}
use Rattle.wx_fs.proofs.Keeping.{fresh_kept, restless}
use Rattle.wx_fs.proofs.recursor.Recursor.new.Goals as goal

pub invariant_of-result : goal.invariant_of-result
invariant_of-result g c = record { keeps = ∣ (λ _. fresh_kept (state_of c.new.result) c.new.ensures.state) ∣₁; rests = restless (state_of c.new.result) false }

pub returns-clause-stands : goal.returns-clause-stands
returns-clause-stands g c = λ t exact fits. fresh_stands g.B.Backend.backing g.B.Backend.fits t (state_of c.new.result) c.args.back c.new.ensures.state c.requires.empty exact fits
