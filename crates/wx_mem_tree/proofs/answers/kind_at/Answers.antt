use Rattle.wx_mem_tree.specs.Entries.{is_link_at, tree_of}
use Rattle.wx_mem_tree.proofs.Found.{no_link_on}
use Rattle.wx_mem_tree.proofs.Answered.{kind_directory, kind_file, kind_link}
use Rattle.wx_mem_tree.proofs.answers.kind_at.Goals as goal
use Rattle.std.proofs.lemmas.Bool.{and_left}

pub returns-in_ok-path-in-Dir-clause-told : goal.returns-in_ok-path-in-Dir-clause-told
returns-in_ok-path-in-Dir-clause-told c = λ n p s h.
    let t = tree_of c.args.entries.now in
    let f = c.in_ok-entry.ensures.ok p s (no_link_on t p c.args.path.now c.args.follow s (and_left c.args.follow (is_link_at t p) n)) in
    kind_directory p c.args.entries.now c.in_ok-entry.entry.now _ f c.in-Dir.is c.in_ok-path-in-Dir.ensures.spelled

pub returns-in-File-clause-told : goal.returns-in-File-clause-told
returns-in-File-clause-told c = λ n p s h.
    let t = tree_of c.args.entries.now in
    let f = c.in_ok-entry.ensures.ok p s (no_link_on t p c.args.path.now c.args.follow s (and_left c.args.follow (is_link_at t p) n)) in
    kind_file p c.args.entries.now c.in_ok-entry.entry.now _ f c.in-File.is

pub returns-in-Link-clause-told : goal.returns-in-Link-clause-told
returns-in-Link-clause-told c = λ n p s h.
    let t = tree_of c.args.entries.now in
    let f = c.in_ok-entry.ensures.ok p s (no_link_on t p c.args.path.now c.args.follow s (and_left c.args.follow (is_link_at t p) n)) in
    kind_link p c.args.entries.now c.in_ok-entry.entry.now _ f c.in-Link.is
