use Rattle.wx_machine.proofs.WordLaws.{says_alone}
use Rattle.wx_worker.proofs.ArriveLemmas.{says_due, said_rest}
use Rattle.wx_worker.proofs.worker_state.Worker.say.Goals as goal

pub say_due-requires : goal.say_due-requires
say_due-requires g c =
    let due = c.requires.1.due in
    (c.requires.1.stands, (says_due g.start c.args.journal.now.past c.args.word c.requires.0 due, says_alone g.start c.args.journal.now.past c.args.word c.requires.0 due))

pub returns-clause-done : goal.returns-clause-done
returns-clause-done g c = said_rest g.start c.args.journal.now.past c.say_due.new.journal.past c.args.word c.say_due.result c.say_due.ensures.said
