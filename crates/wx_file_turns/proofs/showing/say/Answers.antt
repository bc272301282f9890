use Rattle.wx_file_turns.proofs.Entries.{said_grows}
use Rattle.wx_file_turns.proofs.showing.say.Goals as goal

pub returns-clause-grows : goal.returns-clause-grows
returns-clause-grows g c = said_grows g.start c.args.worker.now c.args.journal.now c.say_due.new.journal c.args.word c.say_due.result c.say_due.ensures.grows c.say_due.ensures.said c.say_due.ensures.err
