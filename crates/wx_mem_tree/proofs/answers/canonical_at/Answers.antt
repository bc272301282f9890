use Rattle.std.specs.Prelude.{true}
use Rattle.wx_mem_tree.specs.Entries.{tree_of}
use Rattle.wx_mem_tree.proofs.Found.{no_link_on}
use Rattle.wx_mem_tree.proofs.Answered.{is_there_found, spelled_found}
use Rattle.wx_mem_tree.proofs.answers.canonical_at.Goals as goal

pub returns-clause-told : goal.returns-clause-told
returns-clause-told c = λ p s h l.
    let t = tree_of c.args.entries.now in
    let f = c.in_ok-entry.ensures.ok p s (no_link_on t p c.args.path.now true s l) in
    (is_there_found p c.args.entries.now c.in_ok-entry.entry.now f, spelled_found p c.args.entries.now c.in_ok-entry.entry.now _ f c.in_ok-path.ensures.spelled)
