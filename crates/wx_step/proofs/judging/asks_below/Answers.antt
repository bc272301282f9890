use Rattle.std.proofs.Common.{arith, sym, ◌∙◌}
use Rattle.wx_step.proofs.Judged.{candidate_first}
use Rattle.wx_step.proofs.judging.asks_below.Goals as goal

pub returns-then-holds : goal.returns-then-holds
returns-then-holds c = λ h.
    candidate_first c.args.under.now c.args.held.now.queue.items c.in-Some-Plain-Candidate.field-0.now c.in-Some-Plain-Candidate.field-0-0 c.in-Some-Plain-Candidate.root c.in-Some-Plain-Candidate.path
    (omega (arith, c.in-Some-Plain-Candidate.ensures.item)) c.in-Some-Plain-Candidate.ensures.lookup c.in-Some-Plain-Candidate.field-0-is c.in-Some-Plain-Candidate.field-0-0-is
    (sym c.holds.ensures ∙ c.if-holds.true) (sym c.has_path.ensures ∙ h)
