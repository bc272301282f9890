use Rattle.std.proofs.Common.{◌∙◌, ap}
use Rattle.wx_mem_tree.specs.Entries.{are_once}
use Rattle.wx_mem_tree.proofs.Once.{kept_once}
use Rattle.wx_mem_tree.proofs.mem_tree.MemTree.gone.Goals as goal

pub invariant_of-self-clause-once : goal.invariant_of-self-clause-once
invariant_of-self-clause-once c = ap are_once c.take_path.ensures ∙ kept_once _ c.args.self.now.entries.items c.args.self.now.once
