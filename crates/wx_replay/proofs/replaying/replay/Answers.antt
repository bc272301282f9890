use Rattle.std.proofs.Common.{ap, Err}
use Rattle.wx_replay.specs.WriteLaws.{writes_due}
use Rattle.wx_replay.proofs.ReplayLaws.{long_due, read_due}
use Rattle.wx_replay.proofs.replaying.replay.Goals as goal

pub returns-in-Err-TooLong-clause-written : goal.returns-in-Err-TooLong-clause-written
returns-in-Err-TooLong-clause-written g c =
    let longer = c.in-Err-TooLong.ensures.longer (ap Err c.in-Err-TooLong.field-0-is) in
    writes_due _ _ _ _ _ _ _ _ (long_due _ _ longer) c.write_out.ensures.written

pub returns-in-Ok-reply-clause-written : goal.returns-in-Ok-reply-clause-written
returns-in-Ok-reply-clause-written g c =
    let due = rw c.as_slice.ensures at c.in-Ok-reply.ensures.text in
    writes_due _ _ _ _ _ _ _ _ (read_due _ _ c.in-Ok.text c.in-Ok-reply.out c.in-Ok-reply.status c.in-Ok.ensures.whole c.in-Ok.ensures.within due) (rw c.as_slice-in-Ok-reply.ensures at c.write_out-in-Ok-reply.ensures.written)
