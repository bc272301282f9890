use Rattle.std.specs.Prelude.{true, ◌≡◌}
use Rattle.std.proofs.Common.{◌∙◌}
use Rattle.wx_tree.specs.Paths.{same}
use Rattle.wx_tree.proofs.PathLemmas.{same-refl}
use Rattle.wx_scan.proofs.LookLemmas.{spells_place}
use Rattle.wx_mem_tree.specs.Entries.{tree_of}
use Rattle.wx_mem_tree.proofs.Found.{found_path, no_link_on}
use Rattle.wx_mem_tree.proofs.Answered.{is_there_found, listed_found, no_directory_file, no_directory_link}
use Rattle.wx_mem_tree.proofs.answers.listed_at.Goals as goal

pub returns-in-Dir-clause-told : goal.returns-in-Dir-clause-told
returns-in-Dir-clause-told c = λ p s h l.
    let t = tree_of c.args.entries.now in
    let f = c.in_ok-entry.ensures.ok p s (no_link_on t p c.args.path.now true s l) in
    let asked = c.in_ok-asked.ensures ∙ spells_place t p c.args.path.now s in
    let there = found_path p c.args.entries.now c.in_ok-entry.entry.now f in
    let one : same c.in_ok-asked.asked c.in_ok-entry.entry.now.path ≡ true = rw (asked, there) (same-refl p) in
    (is_there_found p c.args.entries.now c.in_ok-entry.entry.now f, λ d. listed_found p c.args.entries.now c.in_ok-entry.entry.now _ c.requires f (c.in_ok-listed-in-Dir.ensures one))

pub returns-in-File-clause-told : goal.returns-in-File-clause-told
returns-in-File-clause-told c = λ p s h l.
    let t = tree_of c.args.entries.now in
    let f = c.in_ok-entry.ensures.ok p s (no_link_on t p c.args.path.now true s l) in
    (is_there_found p c.args.entries.now c.in_ok-entry.entry.now f, λ d. absurd (no_directory_file p c.args.entries.now c.in_ok-entry.entry.now _ f c.in-File.is d))

pub returns-clause-told : goal.returns-clause-told
returns-clause-told c = λ p s h l.
    let t = tree_of c.args.entries.now in
    let f = c.in_ok-entry.ensures.ok p s (no_link_on t p c.args.path.now true s l) in
    (is_there_found p c.args.entries.now c.in_ok-entry.entry.now f, λ d. absurd (no_directory_link p c.args.entries.now c.in_ok-entry.entry.now _ f c.in-Link.is d))
