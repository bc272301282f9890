use Rattle.std.specs.Prelude.{true}
use Rattle.wx_mem_tree.specs.Entries.{tree_of}
use Rattle.wx_mem_tree.proofs.Found.{no_link_on}
use Rattle.wx_mem_tree.proofs.Answered.{is_there_found, stamp_directory, stamp_file, stamp_link}
use Rattle.wx_mem_tree.proofs.answers.stamp_at.Goals as goal

pub returns-in-File-clause-told : goal.returns-in-File-clause-told
returns-in-File-clause-told c = λ p s h l.
    let t = tree_of c.args.entries.now in
    let f = c.in_ok-entry.ensures.ok p s (no_link_on t p c.args.path.now true s l) in
    (is_there_found p c.args.entries.now c.in_ok-entry.entry.now f, λ d. stamp_file p c.args.entries.now c.in_ok-entry.entry.now _ f c.in-File.is)

pub returns-in-Dir-clause-told : goal.returns-in-Dir-clause-told
returns-in-Dir-clause-told c = λ p s h l.
    let t = tree_of c.args.entries.now in
    let f = c.in_ok-entry.ensures.ok p s (no_link_on t p c.args.path.now true s l) in
    (is_there_found p c.args.entries.now c.in_ok-entry.entry.now f, λ d. stamp_directory p c.args.entries.now c.in_ok-entry.entry.now f c.in-Dir.is)

pub returns-in-Link-clause-told : goal.returns-in-Link-clause-told
returns-in-Link-clause-told c = λ p s h l.
    let t = tree_of c.args.entries.now in
    let f = c.in_ok-entry.ensures.ok p s (no_link_on t p c.args.path.now true s l) in
    (is_there_found p c.args.entries.now c.in_ok-entry.entry.now f, λ d. stamp_link p c.args.entries.now c.in_ok-entry.entry.now _ f c.in-Link.is)
