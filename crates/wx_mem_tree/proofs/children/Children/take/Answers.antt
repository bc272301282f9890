use Rattle.wx_mem_tree.proofs.Listed.{kept_lists}
use Rattle.wx_mem_tree.proofs.children.Children.take.Goals as goal

pub returns-in-Some-clause-rest : goal.returns-in-Some-clause-rest
returns-in-Some-clause-rest c = kept_lists c.args.bytes.now c.args.self.now (record { lists = c.remove.new.self }) _ c.remove.ensures.updates
