use Rattle.std.proofs.Common.{refl}
use Rattle.wx_settle.proofs.EpochLemmas.{Goes, epoch_begins, epoch_few, epoch_more, epoch_reached, epoch_settled}
use Rattle.wx_settle.proofs.laws.epochs.Goals as goal

pub returns-clause-begins : goal.returns-clause-begins
returns-clause-begins c = λ t rs ok cs n s r. epoch_begins t (record { roots = rs; ok = ok; steps = 0 }) cs n s r refl

pub returns-clause-reached : goal.returns-clause-reached
returns-clause-reached c = λ t k ks u es x. epoch_reached t k ks u es x

pub returns-clause-more : goal.returns-clause-more
returns-clause-more c = λ t k ks u es e x work sees freed.
    let g : Goes t k ks e u x.before es = epoch_more t k ks u es e x work sees freed in
    ((g.epoch, g.same), g.calm)

pub returns-clause-few : goal.returns-clause-few
returns-clause-few c = λ t k ks u es x o. epoch_few t k ks u es x o

pub returns-clause-settled : goal.returns-clause-settled
returns-clause-settled c = λ t k ks u es x rest. epoch_settled t k ks u es x rest
