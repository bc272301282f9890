use Rattle.std.proofs.Common.{rules}
use Rattle.std.proofs.lemmas.List.Sorted.{IsPartitionPoint-from_clause}
use Rattle.wx_lane.proofs.KeptLemmas.{hear_absent, hear_beyond, hear_there, is_below, parted}
use Rattle.wx_lane.proofs.lane.place_risen.Goals as goal

pub returns-in-Some : goal.returns-in-Some
returns-in-Some c = (search rules, hear_there 0 c.args.name c.args.items.now.items c.partition_point-i.result c.in-Some.item.now c.requires (search rules) (search rules))

pub returns-in_default : goal.returns-in_default
returns-in_default c =
    let place = IsPartitionPoint-from_clause (is_below c.args.name) c.args.items.now.items c.partition_point-i.result c.partition_point-i.ensures.partitioned (parted c.args.name c.args.items.now.items c.requires) (λ a r q k. search rules) in
    hear_absent c.args.name c.args.items.now.items c.partition_point-i.result c.in-Some.item.now c.requires place (search rules) (search rules) (search rules)

pub returns-in_default-2 : goal.returns-in_default-2
returns-in_default-2 c =
    let place = IsPartitionPoint-from_clause (is_below c.args.name) c.args.items.now.items c.partition_point-i.result c.partition_point-i.ensures.partitioned (parted c.args.name c.args.items.now.items c.requires) (λ a r q k. search rules) in
    hear_beyond c.args.name c.args.items.now.items c.partition_point-i.result place (search rules)
