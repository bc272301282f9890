use Rattle.std.proofs.Common.{◌||◌, Ok, Err, ap, sym, ◌∙◌}
use Rattle.std.proofs.lemmas.Bool.{or_parts}
use Rattle.wx_follow.proofs.GivenLaws.{make_more, perhaps_short}
use Rattle.wx_follow.proofs.script_world.ScriptWorldWorld.make_backend.Goals as goal

pub invariant_of-self-clause-answered : goal.invariant_of-self-clause-answered
invariant_of-self-clause-answered c = rw (c.push.ensures.past, c.made_entry.ensures)
    (make_more c.args.self.now.is_short c.args.self.now.answers c.args.self.now.used _ c.args.self.now.told.past c.args.back c.args.kind c.args.follow (Ok tt)
    (λ so. sym c.in-Ok.ensures.ok ∙ c.line-due.ensures) c.passed-self.ensures c.args.self.now.answered)

pub invariant_of-self-in-Err-clause-answered : goal.invariant_of-self-in-Err-clause-answered
invariant_of-self-in-Err-clause-answered c = rw (c.push-in-Err.ensures.past, c.made_entry-in-Err.ensures, c.either-self.ensures)
    (make_more (c.args.self.now.is_short || c.in-Err.short) c.args.self.now.answers c.args.self.now.used _ c.args.self.now.told.past c.args.back c.args.kind c.args.follow (Err c.in-Err.told)
    (λ so. ap Err c.in-Err.ensures.twice ∙ sym (c.in-Err.ensures.err (or_parts c.args.self.now.is_short c.in-Err.short so).1) ∙ c.line-due.ensures) c.passed-self.ensures
    (perhaps_short c.args.self.now.is_short c.in-Err.short c.args.self.now.answers c.args.self.now.used c.args.self.now.told.past c.args.self.now.answered))
