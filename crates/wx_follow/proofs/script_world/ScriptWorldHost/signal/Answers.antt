use Rattle.wx_follow.proofs.GivenLaws.{signal_more}
use Rattle.wx_follow.proofs.script_world.ScriptWorldHost.signal.Goals as goal

pub invariant_of-self-clause-answered : goal.invariant_of-self-clause-answered
invariant_of-self-clause-answered c = rw c.push.ensures.past (signal_more c.args.self.now.is_short c.args.self.now.answers c.args.self.now.used _ c.args.self.now.told.past c.args.child c.args.number _ c.next-answer.ensures.answer c.next-answer.ensures.used c.args.self.now.answered)
