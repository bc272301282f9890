use Rattle.std.proofs.Common.{refl}
use Rattle.wx_replay.specs.Replays.{IsReplay, ReplaysRead, OfScript, OfBadLine}
use Rattle.wx_replay.proofs.ReplayLaws.{ok_weaker}
use Rattle.wx_replay.proofs.replaying.reply.Goals as goal

pub returns-in-Ok-clause-text : goal.returns-in-Ok-clause-text
returns-in-Ok-clause-text c =
    ok_weaker (λ r. IsReplay c.in-Ok.script r.0 r.1) (λ r. ReplaysRead c.args.bytes.now r.0 r.1) (λ r is. OfScript c.in-Ok.script (rw c.in-Ok.is at c.in_ok-script.ensures.exact) is) c.play.result c.play.ensures.text

pub returns-in_ok-about_line-in-Err-clause-text : goal.returns-in_ok-about_line-in-Err-clause-text
returns-in_ok-about_line-in-Err-clause-text c = OfBadLine c.in-Err.bad.0 (rw c.in-Err.is at c.in_ok-script.ensures.exact) c.in_ok-about_line-in-Err.ensures refl
