use Rattle.std.proofs.Common.{◌≡◌, IfOk, IfErr, Some, ap, ◌∙◌, subst, sym}
use Rattle.wx_scan.specs.Told.{IsAbsent}
use Rattle.wx_tree.specs.Trees.{node_at}
use Rattle.wx_scan.proofs.LookLemmas.{spells_place}
use Rattle.wx_mem_tree.specs.Entries.{found_at, has_link_on, tree_of}
use Rattle.wx_mem_tree.proofs.Found.{node_there}
use Rattle.wx_mem_tree.proofs.links.found.Goals as goal

pub returns-in-Err-clause-err : goal.returns-in-Err-clause-err
returns-in-Err-clause-err c = λ p s h.
    let t = tree_of c.args.entries.now in
    let e = c.in_ok-new.ensures ∙ spells_place t p c.args.path.now s in
    subst (λ x. IsAbsent x (node_at t p)) (sym (c.in-Err.ensures.err (ap (has_link_on c.args.with_last t) e ∙ h))) tt

pub returns-in-Ok-clause-ok : goal.returns-in-Ok-clause-ok
returns-in-Ok-clause-ok c = λ p s h.
    let t = tree_of c.args.entries.now in
    let e = c.in_ok-new.ensures ∙ spells_place t p c.args.path.now s in
    let same = c.in-Ok.ensures.ok (ap (has_link_on c.args.with_last t) e ∙ h) ∙ e in
    subst (λ q. IfOk c.there.result (λ entry. found_at q c.args.entries.now ≡ Some entry.now)) same c.there.ensures.ok

pub returns-in-Ok-clause-err : goal.returns-in-Ok-clause-err
returns-in-Ok-clause-err c = λ p s h.
    let t = tree_of c.args.entries.now in
    let e = c.in_ok-new.ensures ∙ spells_place t p c.args.path.now s in
    let same = c.in-Ok.ensures.ok (ap (has_link_on c.args.with_last t) e ∙ h) ∙ e in
    subst (λ n. IfErr c.there.result (λ error. IsAbsent error n)) (node_there c.args.entries.now p c.in-Ok.place same) c.there.ensures.err
