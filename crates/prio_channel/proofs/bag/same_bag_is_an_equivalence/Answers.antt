use Rattle.prio_channel.proofs.BagLaws.{same-refl, same-sym, same-trans, same-length}
use Rattle.prio_channel.proofs.bag.same_bag_is_an_equivalence.Goals as goal

pub returns : goal.returns
returns g c = record { itself = same-refl; back = same-sym; through = same-trans; length = same-length }
