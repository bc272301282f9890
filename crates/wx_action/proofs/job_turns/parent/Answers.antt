use Rattle.std.proofs.Common.{Bool, cond, ap, sym, ◌∙◌}
use Rattle.std.specs.Prelude.{None, Some}
use Rattle.wx_action.proofs.ParentLemmas.{by_owner, parent_found}
use Rattle.wx_action.proofs.job_turns.parent.Goals as goal

pub returns-in_default : goal.returns-in_default
returns-in_default g c =
    let t = c.requires in
    sym (ap (by_owner c.args.child c.args.worker.now.jobs) c.in_default.is) ∙ parent_found g.start c.args.worker.now t.0 c.args.child c.args.journal.now.past c.owner.result t.1 c.owner.ensures

pub returns-then-runs : goal.returns-then-runs
returns-then-runs g c =
    let t = c.requires in
    let yes = sym c.runs.ensures ∙ c.if-runs.true in
    sym (ap (by_owner c.args.child c.args.worker.now.jobs) c.in-Some.is ∙ ap (λ (b : Bool). cond b (Some c.in-Some.id) None) yes) ∙ parent_found g.start c.args.worker.now t.0 c.args.child c.args.journal.now.past c.owner.result t.1 c.owner.ensures

pub returns-else-runs : goal.returns-else-runs
returns-else-runs g c =
    let t = c.requires in
    let no = sym c.runs.ensures ∙ c.if-runs.false in
    sym (ap (by_owner c.args.child c.args.worker.now.jobs) c.in-Some.is ∙ ap (λ (b : Bool). cond b (Some c.in-Some.id) None) no) ∙ parent_found g.start c.args.worker.now t.0 c.args.child c.args.journal.now.past c.owner.result t.1 c.owner.ensures
