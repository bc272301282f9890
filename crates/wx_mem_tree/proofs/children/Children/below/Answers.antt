use Rattle.wx_mem_tree.proofs.Listed.{is_below}
use Rattle.wx_mem_tree.proofs.children.Children.below.Goals as goal

pub returns : goal.returns
returns c =
    is_below c.args.parent.now c.in_ok-copy.field-0 c.args.at c.args.self c.take-list.new.self (record { lists = c.insert.new.self }) c.take-list.result c.push.new.self c.in_ok-copy.ensures c.take-list.ensures.list c.in_ok-push.ensures.items c.take-list.ensures.rest c.in_ok-insert.ensures.updates
