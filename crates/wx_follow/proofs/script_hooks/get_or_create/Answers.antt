use Rattle.std.proofs.Common.{List, ap, ◌∙◌}
use Rattle.wx_journal.specs.Acts.{JournalAct as Act}
use Rattle.wx_follow.proofs.ActedLaws.{got, got_none}
use Rattle.wx_follow.proofs.script_hooks.get_or_create.Goals as goal

pub returns-in-Ok-clause-done : goal.returns-in-Ok-clause-done
returns-in-Ok-clause-done c =
    c.in-Ok.ensures.acts ∙ ap (λ (acts : List Act). record c.args.handler.now { acts = acts }) (got c.args.handler.now.past c.args.made.now.items c.args.handler.now.acts c.args.id c.args.command.now c.in-Ok.job c.in-Ok.ensures.id (λ none. cc (c.get_or_create_job.ensures.exactly none, c.in-Ok.is)) c.requires.made).0

pub returns-in-Ok-clause-made : goal.returns-in-Ok-clause-made
returns-in-Ok-clause-made c =
    rw (c.push_reserved.ensures.items, c.in-Ok.ensures.acts) (got c.args.handler.now.past c.reserve.new.self.items c.args.handler.now.acts c.args.id c.args.command.now c.in-Ok.job c.in-Ok.ensures.id (λ none. cc (c.get_or_create_job.ensures.exactly none, c.in-Ok.is)) (rw c.reserve.ensures.items c.requires.made)).1

pub returns-in-Err-UnknownId-clause-done : goal.returns-in-Err-UnknownId-clause-done
returns-in-Err-UnknownId-clause-done c =
    c.in-Err-UnknownId.ensures.refused ∙ ap (λ (acts : List Act). record c.args.handler.now { acts = acts }) (got_none c.args.handler.now.past c.args.handler.now.acts c.args.id c.args.command.now (c.in-Err-UnknownId.ensures.unknown c.in-Err-UnknownId.field-0-is))

pub returns-in-Err-UnknownId-clause-made : goal.returns-in-Err-UnknownId-clause-made
returns-in-Err-UnknownId-clause-made c = rw c.in-Err-UnknownId.ensures.refused (rw c.reserve.ensures.items c.requires.made)
