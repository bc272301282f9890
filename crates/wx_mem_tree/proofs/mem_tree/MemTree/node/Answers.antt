use Rattle.wx_mem_tree.proofs.Once.{put_kept}
use Rattle.wx_mem_tree.proofs.mem_tree.MemTree.node.Goals as goal

pub invariant_of-self-clause-once : goal.invariant_of-self-clause-once
invariant_of-self-clause-once c = put_kept c.put_node.result _ _ c.args.self.now.entries.items c.put_node.new.entries.items c.args.self.now.once c.put_node.ensures.ok c.put_node.ensures.err
