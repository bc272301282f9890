use Rattle.wx_file_turns.proofs.Onward.{alone_room, alone_then}
use Rattle.wx_file_turns.proofs.Rests.{ready_alone}
use Rattle.wx_file_turns.proofs.Steps.{rest_due}
use Rattle.wx_file_turns.proofs.resting.tell_ready.Goals as goal

pub returns-clause-alone : goal.returns-clause-alone
returns-clause-alone g c =
    let owes = c.requires.1.1.0 in
    alone_then g.start c.args.worker.now c.args.journal.now c.reserve.new.journal _ _ _ _ (alone_room g.start _ _ _ _ _ owes.stands c.reserve.ensures.same c.reserve.ensures.kept c.reserve_host.ensures.rest)
    (ready_alone g.start c.args.worker.now _ _ _ _ c.args.revision (rw c.reserve.ensures.same owes.stands) (rw c.reserve.ensures.same (rest_due g.start c.args.journal.now.past _ owes.due c.requires.1.1.1)) c.ready.ensures.tells c.ready.ensures.host_faults c.push.ensures.past c.in_ok-reserve.ensures.room c.push.ensures.room c.in_ok-reserve_host.ensures.room)
