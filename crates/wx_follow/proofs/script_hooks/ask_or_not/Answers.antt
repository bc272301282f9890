use Rattle.std.proofs.Common.{List, ap, sym, ◌∙◌}
use Rattle.wx_journal.specs.Acts.{JournalAct as Act}
use Rattle.wx_follow.proofs.ActedLaws.{ok_then, made_ask, ask_made, ask_held, ask_none}
use Rattle.wx_follow.proofs.script_hooks.ask_or_not.Goals as goal

pub returns-in-Some-clause-done : goal.returns-in-Some-clause-done
returns-in-Some-clause-done c =
    ok_then c.ask_of.result c.ask_of.ensures.done (λ is. is ∙ ap (λ (acts : List Act). record c.args.handler.now { acts = acts }) (ask_made c.args.handler.now.past c.args.handler.now.acts c.args.made.now c.in-Some.job.now c.args.id c.args.ask.now c.requires.made c.in-Some.ensures))

pub returns-in-Some-clause-made : goal.returns-in-Some-clause-made
returns-in-Some-clause-made c =
    ok_then c.ask_of.result c.ask_of.ensures.done (λ is. rw is (made_ask c.args.handler.now.past c.args.made.now c.args.handler.now.acts c.in-Some.job.now.id c.args.ask.now c.requires.made))

pub returns-in-Some-2-clause-done : goal.returns-in-Some-2-clause-done
returns-in-Some-2-clause-done c =
    let there = sym (rw c.in-Some-2.is at c.in_ok-job.ensures.there) in
    let its = (rw c.in-Some-2.is at c.in_ok-job.ensures.handle).names in
    ok_then c.ask_of-in-Some-2.result c.ask_of-in-Some-2.ensures.done (λ is. is ∙ ap (λ (acts : List Act). record c.args.handler.now { acts = acts }) (ask_held c.args.handler.now.past c.args.handler.now.acts c.in-Some-2.job c.args.id c.args.ask.now there its))

pub returns-in-Some-2-clause-made : goal.returns-in-Some-2-clause-made
returns-in-Some-2-clause-made c =
    ok_then c.ask_of-in-Some-2.result c.ask_of-in-Some-2.ensures.done (λ is. rw is (made_ask c.args.handler.now.past c.args.made.now c.args.handler.now.acts c.in-Some-2.job.id c.args.ask.now c.requires.made))

pub returns-in-None-clause-done : goal.returns-in-None-clause-done
returns-in-None-clause-done c =
    let there = sym (rw c.in-None.is at c.in_ok-job.ensures.there) in
    ap (λ (acts : List Act). record c.args.handler.now { acts = acts }) (ask_none c.args.handler.now.past c.args.handler.now.acts c.args.made.now c.args.id c.args.ask.now c.requires.made c.in_default.ensures there)
