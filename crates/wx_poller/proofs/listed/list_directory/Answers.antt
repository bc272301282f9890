use Rattle.std.proofs.Common.{ap, subst, sym, ◌∙◌}
use Rattle.wx_tree.specs.Trees.{is_directory_node}
use Rattle.wx_scan.specs.Backings.{AllSpellPaths}
use Rattle.wx_scan.specs.Told.{is_link_node}
use Rattle.wx_poller.proofs.Looks.{one_look, told_after, told_before}
use Rattle.wx_poller.proofs.Shown.{answers_map, directory_listed, entries_spelled, known_memory}
use Rattle.wx_poller.proofs.listed.list_directory.Goals as goal

pub returns-in-Ok-put_entries-clause-told : goal.returns-in-Ok-put_entries-clause-told
returns-in-Ok-put_entries-clause-told g c = λ t q x named s d k.
    let x1 = told_before t _ _ _ _ c.put_entries.ensures.looked x in
    let x2 = told_after t _ _ _ _ (one_look _ _ _ c.scan.ensures.looked) x in
    let l = (c.in-Ok.ensures.told t q x1.told s x1.no_fault (ap is_link_node d)).1 (ap is_directory_node d) in
    let e = c.as_slice.ensures ∙ l.1 in
    let spells = subst (AllSpellPaths t) (sym e) (entries_spelled t q c.args.path.now l.0 named s d (λ y i. (l.2.each y i, l.2.there y i))) in
    answers_map c.put_there.result _ _ (λ b h p. directory_listed t q c.args.path.now p _ c.args.seen.file_type l.0 _ _ _ named s d k e l.2 (c.in-Ok-put_entries.ensures.told t x2 spells p) (h p)) c.put_there.ensures.put

pub returns-in-Ok-put_entries-clause-there : goal.returns-in-Ok-put_entries-clause-there
returns-in-Ok-put_entries-clause-there g c = λ t q x s d. c.put_there.ensures.there

pub returns-in-Ok-clause-told : goal.returns-in-Ok-clause-told
returns-in-Ok-clause-told g c = λ t q x named s d k.
    let x1 = told_before t _ _ _ _ c.put_entries.ensures.looked x in
    let x2 = told_after t _ _ _ _ (one_look _ _ _ c.scan.ensures.looked) x in
    let l = (c.in-Ok.ensures.told t q x1.told s x1.no_fault (ap is_link_node d)).1 (ap is_directory_node d) in
    c.in-Err.ensures.told t x2 (subst (AllSpellPaths t) (sym (c.as_slice.ensures ∙ l.1)) (entries_spelled t q c.args.path.now l.0 named s d (λ y i. (l.2.each y i, l.2.there y i))))

pub returns-in-Ok-clause-there : goal.returns-in-Ok-clause-there
returns-in-Ok-clause-there g c = λ t q x s d.
    let x2 = told_after t _ _ _ _ (one_look _ _ _ c.scan.ensures.looked) x in
    known_memory c.in-Err.error _ c.in-Err.ensures.known c.in-Err.ensures.failed x2.no_fault
