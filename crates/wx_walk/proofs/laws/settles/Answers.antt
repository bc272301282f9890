use Rattle.wx_walk.proofs.Reached.{reached_few, reached_walk, reached_guarded, reached_regs}
use Rattle.wx_walk.proofs.laws.settles.Goals as goal

pub returns-clause-few : goal.returns-clause-few
returns-clause-few c = λ t k ks o b s r h. reached_few t k ks o b s r h

pub returns-clause-walk : goal.returns-clause-walk
returns-clause-walk c = λ t k ks s r e. reached_walk t k ks s r e

pub returns-clause-guards : goal.returns-clause-guards
returns-clause-guards c = λ t k ks s r e. reached_guarded t k ks s r e

pub returns-clause-registered : goal.returns-clause-registered
returns-clause-registered c = λ t k ks s r e. reached_regs t k ks s r e
