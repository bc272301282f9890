use Rattle.std.proofs.Common.{rules}
use Rattle.wx_top.proofs.WordLaws.{goes_on}
use Rattle.wx_top.proofs.request.live_from.Goals as goal

pub loop-word-preserved : goal.loop-word-preserved
loop-word-preserved c = record {
  same = goes_on c.loop-word.room c.loop-word.rest.now c.in-Some.behind.now c.in_ok-next.after.now c.in-Some.word.now c.in_ok-next.next.now c.args.turns c.args.from c.loop-word.before _ (search rules) (search rules) (search rules) (search rules) c.loop-word.invariant.same;
  small = search rules;
  behind = search rules;
}
