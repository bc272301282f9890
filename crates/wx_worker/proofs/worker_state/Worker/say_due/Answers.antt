use Rattle.std.proofs.Common.{refl, arith}
use Rattle.wx_worker.proofs.ArriveLemmas.{StepsOver, grows, said_done}
use Rattle.wx_worker.proofs.worker_state.Worker.say_due.Goals as goal

done : (g : _) (c : goal.After-push g) → StepsOver g.start c.args.self.now c.args.journal.now.past c.push.new.self.past
done g c = said_done g.start c.args.self.now c.args.journal.now.past c.push.new.self.past c.args.word c.requires.0 c.requires.1.0 c.requires.1.1 (rw c.in_ok-reserve.ensures.same at c.push.ensures.past)

pub returns-clause-grows : goal.returns-clause-grows
returns-clause-grows g c = grows _ _ _ _ _ (done g c) refl (omega (arith, c.in_ok-reserve.ensures.room, c.push.ensures.room))
