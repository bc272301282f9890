use Rattle.std.proofs.Common.{◌≡◌, arith, length, ap, ◌∙◌}
use Rattle.std.specs.Prelude.{None}
use Rattle.std.specs.List.{find}
use Rattle.std.specs.Map.{lookup, values_of}
use Rattle.std.specs.BTreeMap.{insert_entry, is_at}
use Rattle.std.proofs.lemmas.Map.Entries.{length-values_of}
use Rattle.wx_control.specs.declared.id.Id.{Id}
use Rattle.wx_hooks.specs.HeldJobs.{is_of, with_held}
use Rattle.wx_hooks.proofs.ByIdLemmas.{id_cmp, found_by_id, added, under_added}
use Rattle.wx_hooks.proofs.job_list.JobList.add.Goals as goal

pub invariant_of-self-2 : goal.invariant_of-self-2
invariant_of-self-2 c =
    let es = c.self.inside.items.entries in
    let none : find (is_of c.args.held.handle.id) (values_of es) ≡ None = ap (find (is_of c.args.held.handle.id)) c.self.view_is ∙ c.requires.new in
    let is : c.insert.new.self.entries ≡ insert_entry id_cmp es c.args.held.handle.id c.args.held = c.in_ok-insert.ensures.entries ∙ ap (λ (i : Id). insert_entry id_cmp es i c.args.held) c.id-id.ensures in
    rw is (under_added c.args.held es c.self.invariant none)

pub returns-clause-added : goal.returns-clause-added
returns-clause-added c =
    let es = c.self.inside.items.entries in
    let none : find (is_of c.args.held.handle.id) (values_of es) ≡ None = ap (find (is_of c.args.held.handle.id)) c.self.view_is ∙ c.requires.new in
    let is : c.insert.new.self.entries ≡ insert_entry id_cmp es c.args.held.handle.id c.args.held = c.in_ok-insert.ensures.entries ∙ ap (λ (i : Id). insert_entry id_cmp es i c.args.held) c.id-id.ensures in
    ap values_of is ∙ added c.args.held es c.self.invariant none ∙ ap (with_held c.args.held) c.self.view_is

pub returns-clause-len : goal.returns-clause-len
returns-clause-len c =
    let es = c.self.inside.items.entries in
    let none : find (is_of c.args.held.handle.id) (values_of es) ≡ None = ap (find (is_of c.args.held.handle.id)) c.self.view_is ∙ c.requires.new in
    let gone : c.in_ok-insert.field-0 ≡ None = c.in_ok-insert.ensures.old ∙ ap (λ (i : Id). lookup (is_at (id_cmp i)) es) c.id-id.ensures ∙ found_by_id c.args.held.handle.id es c.self.invariant ∙ none in
    let grown = rw gone at c.in_ok-insert.ensures.len in
    omega (arith, grown, length-values_of c.insert.new.self.entries, length-values_of es, ap length c.self.view_is)
