use Rattle.wx_worker.proofs.CallLemmas.{owes_show, shows_rest}
use Rattle.wx_worker.proofs.worker_state.Worker.show.Goals as goal

pub call_show-requires : goal.call_show-requires
call_show-requires g c = λ κs lives. (lives, (owes_show g.start c.args.self.now c.args.error c.args.journal.now.past c.requires.1.0.0 c.requires.1.0.1.stands c.requires.1.0.1.due, c.requires.1.1))

pub returns-clause-done : goal.returns-clause-done
returns-clause-done g c = shows_rest g.start c.args.journal.now.past c.call_show.new.journal.past c.args.error c.call_show.result c.call_show.ensures.done
