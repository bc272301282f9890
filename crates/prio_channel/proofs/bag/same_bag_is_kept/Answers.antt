use Rattle.prio_channel.proofs.BagLaws.{add-bag, take-bag, all-same}
use Rattle.prio_channel.proofs.bag.same_bag_is_kept.Goals as goal

pub returns : goal.returns
returns g c = record { added = add-bag; taken = take-bag; bounded = λ priority xs ys. all-same _ xs ys }
