use Rattle.std.proofs.Common.{arith}
use Rattle.wx_index.specs.Chained.{end_of}
use Rattle.wx_index.proofs.SearchLemmas.{begins_found, falls_found, goes_found, search_ends}
use Rattle.wx_index.proofs.question.first_met.Goals as goal

pub loop-left-init : goal.loop-left-init
loop-left-init g c =
    begins_found (g.Q.Question.asks c.args.question.now) g.Q.Question.key c.args.entries.now c.args.key.now (end_of c.args.chains.now) c.args.chains.now.before.items c.end-left.result
    c.requires.key c.requires.found c.end-left.ensures

pub loop-left-preserved : goal.loop-left-preserved
loop-left-preserved g c =
    goes_found (g.Q.Question.asks c.args.question.now) g.Q.Question.key c.args.entries.now c.args.key.now (end_of c.args.chains.now) c.args.chains.now.before.items c.loop-left.left c.loop-left.found c.end_before-left.result c.judged-found.result
    c.requires.key c.requires.found c.loop-left.invariant (omega (arith, c.loop-left-test.true)) c.end_before-left.ensures c.judged-found.ensures

pub loop-left-smaller : goal.loop-left-smaller
loop-left-smaller g c =
    falls_found (g.Q.Question.asks c.args.question.now) g.Q.Question.key c.args.entries.now c.args.key.now (end_of c.args.chains.now) c.args.chains.now.before.items c.loop-left.left c.loop-left.found c.end_before-left.result
    c.requires.found c.loop-left.invariant (omega (arith, c.loop-left-test.true)) c.end_before-left.ensures

pub returns : goal.returns
returns g c =
    search_ends (g.Q.Question.asks c.args.question.now) g.Q.Question.key c.args.entries.now c.args.key.now c.loop-left.left c.loop-left.found c.loop-left.invariant (omega (arith, c.loop-left-test.false))
