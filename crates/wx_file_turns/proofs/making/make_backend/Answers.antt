use Rattle.std.proofs.Common.{ap}
use Rattle.std.specs.Prelude.{Ok, Err}
use Rattle.wx_hooks.specs.Given.{made}
use Rattle.wx_file_turns.proofs.Entries.{made_alone}
use Rattle.wx_file_turns.proofs.Onward.{alone_room, alone_then}
use Rattle.wx_file_turns.proofs.making.make_backend.Goals as goal

pub returns-in-Ok-clause-alone : goal.returns-in-Ok-clause-alone
returns-in-Ok-clause-alone g c =
    alone_then g.start c.args.worker.now c.args.journal.now c.reserve.new.journal _ _ _ _ (alone_room g.start _ _ _ _ _ c.requires.1.1.0 c.reserve.ensures.same c.reserve.ensures.kept c.reserve_host.ensures.rest)
    (made_alone _ _ g.start c.args.worker.now _ _ _ c.make_backend.result (Ok tt) _ _ _ _ (ap made c.in-Ok.is) c.backs-back.ensures (rw c.reserve.ensures.same c.requires.1.1.0) (rw (c.backs-back.ensures, c.reserve.ensures.same) (c.requires.1.1.1.due (Ok tt))) c.make_backend.ensures c.push.ensures.past c.in_ok-reserve.ensures.room c.push.ensures.room c.in_ok-reserve_host.ensures.room)

pub returns-in-Err-clause-alone : goal.returns-in-Err-clause-alone
returns-in-Err-clause-alone g c =
    alone_then g.start c.args.worker.now c.args.journal.now c.reserve.new.journal _ _ _ _ (alone_room g.start _ _ _ _ _ c.requires.1.1.0 c.reserve.ensures.same c.reserve.ensures.kept c.reserve_host.ensures.rest)
    (made_alone _ _ g.start c.args.worker.now _ _ _ c.make_backend.result (Err c.in-Err.fault) _ _ _ _ (ap made c.in-Err.is) c.backs-back.ensures (rw c.reserve.ensures.same c.requires.1.1.0) (rw (c.backs-back.ensures, c.reserve.ensures.same) (c.requires.1.1.1.due (Err c.in-Err.fault))) c.make_backend.ensures c.push-in-Err.ensures.past c.in_ok-reserve.ensures.room c.push-in-Err.ensures.room c.in_ok-reserve_host.ensures.room)

pub returns-in-Ok-clause-exact : goal.returns-in-Ok-clause-exact
returns-in-Ok-clause-exact g c = λ exact links. rw c.in-Ok.is at (c.make_backend.ensures.exact (c.reserve_host.ensures.rest.steady.looked_kept.exact_kept exact) links)
