use Rattle.std.proofs.Common.{sym, ◌∙◌}
use Rattle.wx_file_turns.proofs.Settled.{ok_never, stepped_harmless}
use Rattle.wx_file_turns.proofs.Shown.{attended_rest, attended_step}
use Rattle.wx_file_turns.proofs.Standing.{intake_stepped}
use Rattle.wx_file_turns.proofs.stepping.attend.Goals as goal

-- ---- where nothing fails

pub returns-in_err-step-clause-settles : goal.returns-in_err-step-clause-settles
returns-in_err-step-clause-settles g c = λ t ok calm few shows h walks. let k = c.step.ensures.walks t ok calm few shows walks (sym c.has_work.ensures ∙ c.if-has_work.true) in (k.0, ok_never c.from_residual.result _ _ c.from_residual.ensures.1)

pub returns-then-has_work-clause-settles : goal.returns-then-has_work-clause-settles
returns-then-has_work-clause-settles g c = λ t ok calm few shows h walks.
    let k = c.in_ok-step.ensures.walks t ok calm few shows walks (sym c.has_work.ensures ∙ c.if-has_work.true) in
    (k.0, (stepped_harmless _ _ _ c.step-then-has_work.ensures h, k.1))

pub returns-then-has_work-clause-intake : goal.returns-then-has_work-clause-intake
returns-then-has_work-clause-intake g c = intake_stepped g.start c.args.intake.now _ c.args.journal.now.past _ _ c.requires.1.1.1.1.1.0 c.in_ok-step.ensures.brought c.items.ensures c.step-then-has_work.ensures

-- ---- what is done

pub returns-then-has_work-clause-attended : goal.returns-then-has_work-clause-attended
returns-then-has_work-clause-attended g c = attended_step g.start c.args.watching.now c.step.new.watching c.args.journal.now.past c.step.new.journal.past (sym c.has_work.ensures ∙ c.if-has_work.true) c.in_ok-step.ensures.done

pub returns-clause-attended : goal.returns-clause-attended
returns-clause-attended g c = attended_rest g.start c.args.watching.now c.rest.new.watching c.args.journal.now.past c.rest.new.journal.past c.rest.result (sym c.has_work.ensures ∙ c.if-has_work.false) c.rest.ensures.rests
