use Rattle.std.proofs.Common.{◌≡◌, None, option_map, sym, ap, ◌∙◌}
use Rattle.wx_patterns.specs.declared.patterns.Patterns.{Patterns}
use Rattle.wx_live_action.specs.declared.live_action.LiveAction.{LiveAction}
use Rattle.wx_live_run.proofs.Sided.{side_of}
use Rattle.wx_live_run.proofs.sides.run_side.Goals as goal

pub returns-clause-ran : goal.returns-clause-ran
returns-clause-ran g c =
    let chosen : c.new-hooks.result.chooser.command ≡ c.args.command.now = ap (λ (a : LiveAction). a.command) c.new-hooks.ensures.chooser ∙ c.new-chooser.ensures.command ∙ c.in_ok-copy.ensures in
    let none : option_map (λ job. job.id) c.new-hooks.result.chooser.job ≡ None = ap (λ (a : LiveAction). option_map (λ job. job.id) a.job) c.new-hooks.ensures.chooser ∙ ap (option_map (λ job. job.id)) c.new-chooser.ensures.job in
    side_of c.args.folder.now c.args.ignores.now c.args.command.now c.new-hooks.result.chooser.command c.new-hooks.result.patterns c.in_ok-engine.engine c.in_ok-engine.engine.config.fs_ready _ _ c.main-answer.new.journal.past c.short-short.result c.main-answer.result c.unless_short.result
    c.in_ok-engine.ensures chosen (ap (λ (x : Patterns). x.base) c.new-hooks.ensures.patterns ∙ c.in_ok-patterns.ensures.base) (ap (λ (x : Patterns). x.patterns) c.new-hooks.ensures.patterns ∙ c.in_ok-patterns.ensures.patterns) c.main-answer.ensures.answer
    (λ whole. c.main-answer.ensures.rule (sym c.short-short.ensures ∙ whole) none)
    c.main-answer.ensures.world c.main-answer.ensures.turns c.unless_short.ensures
