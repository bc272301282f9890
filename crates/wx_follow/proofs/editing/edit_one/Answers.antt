use Rattle.std.proofs.Common.{◌∙◌, ap, sym}
use Rattle.wx_script.specs.declared.script.TreeEdit.{TreeEdit}
use Rattle.wx_mem_tree.specs.Entries.{tree_of}
use Rattle.wx_follow.specs.Edits.{is_new_stamp}
use Rattle.wx_follow.proofs.EditLaws.{node_still}
use Rattle.wx_follow.proofs.editing.edit_one.Goals as goal

pub returns-in-Node-clause-still : goal.returns-in-Node-clause-still
returns-in-Node-clause-still c = λ h.
    node_still c.node.result c.in-Node.path c.in-Node.node c.args.tree.now.entries.items c.node.new.self.entries.items c.node.ensures.entries c.node.ensures.err
    (ap (λ (x : TreeEdit). is_new_stamp (tree_of c.args.tree.now.entries.items) x) (sym c.in-Node.is ∙ c.in_ok-path.ensures) ∙ h)
