use Rattle.std.proofs.Common.{◌∙◌, sym}
use Rattle.wx_holding.specs.Holding.{state_of}
use Rattle.wx_fs.proofs.Epochs.{settles}
use Rattle.wx_fs.proofs.recursor.Recursor.has_work.Goals as goal

pub returns-then-not-self-clause-settled : goal.returns-then-not-self-clause-settled
returns-then-not-self-clause-settled g c = λ unspent none. settles (state_of c.args.self.now.held) (sym c.has_work.ensures ∙ none)
