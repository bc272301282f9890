use Rattle.std.proofs.Common.{sym, ◌∙◌}
use Rattle.std.proofs.lemmas.Result.{IfOk-weaker}
use Rattle.wx_step.proofs.Calmed.{found_absent, found_broken, found_directory, found_linked_or_other}
use Rattle.wx_step.proofs.judging.look_at_candidate.Goals as goal

pub returns-in-Directory-clause-told : goal.returns-in-Directory-clause-told
returns-in-Directory-clause-told g c = λ t ok links still readable agreed.
    IfOk-weaker c.check_dirs.result _ _
    (λ f h. found_directory t ok c.args.root.now c.args.path.now c.in-Directory.canonical f (sym c.in-Directory.is ∙ c.in_ok-canonical.ensures.told t links still readable) h)
    (c.check_dirs.ensures.judged ok agreed)

pub returns-in-Linked-clause-told : goal.returns-in-Linked-clause-told
returns-in-Linked-clause-told g c = λ t ok links still readable agreed. found_linked_or_other t ok c.args.root.now c.args.path.now _ c.in-Linked.is (c.in_ok-canonical.ensures.told t links still readable)

pub returns-in-Absent-clause-told : goal.returns-in-Absent-clause-told
returns-in-Absent-clause-told g c = λ t ok links still readable agreed. found_absent t ok c.args.root.now c.args.path.now (sym c.in-Absent.is ∙ c.in_ok-canonical.ensures.told t links still readable)

pub returns-in_ok-copy-in-Broken-clause-told : goal.returns-in_ok-copy-in-Broken-clause-told
returns-in_ok-copy-in-Broken-clause-told g c = λ t ok links still readable agreed. found_broken t c.args.path.now c.in-Broken.code _ (sym c.in-Broken.is ∙ c.in_ok-canonical.ensures.told t links still readable)
