use Rattle.wx_worker.proofs.ArriveLemmas.{offers_due, offered_quits, offered_rest}
use Rattle.wx_worker.proofs.worker_state.Worker.arrive.Goals as goal

pub offer-requires : goal.offer-requires
offer-requires g c = (c.requires.1.stands, (offers_due g.start c.args.journal.now.past c.args.event c.args.priority c.requires.0 c.requires.1.due, tt))

pub returns-clause-done : goal.returns-clause-done
returns-clause-done g c = offered_rest g.start c.args.journal.now.past c.offer.new.journal.past c.args.event c.args.priority c.offer.result c.offer.ensures.done

pub returns-clause-quits : goal.returns-clause-quits
returns-clause-quits g c = offered_quits g.start c.args.journal.now.past c.offer.new.journal.past c.args.event c.args.priority c.offer.result c.offer.ensures.done c.offer.ensures.err
