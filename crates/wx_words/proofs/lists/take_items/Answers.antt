use Rattle.wx_words.proofs.ItemLaws.{goes_on, stops, is_done}
use Rattle.wx_words.proofs.lists.take_items.Goals as goal

pub returns-in_default : goal.returns-in_default
returns-in_default g c =
    let h = rw c.in_default.is at c.in_ok-item.ensures in
    stops g.T.Spelled.spelling.read c.loop.items c.args.count c.loop.counter c.loop.line _ c.loop-test.true h c.loop.invariant

pub loop-preserved : goal.loop-preserved
loop-preserved g c =
    let h = rw c.in-Some.is at c.in_ok-item.ensures in
    rw c.in_ok-push.ensures.ok (goes_on g.T.Spelled.spelling.read c.loop.items c.args.count c.loop.counter c.loop.line c.in-Some.item c.read.new.line _ c.loop-test.true h c.loop.invariant)

pub returns : goal.returns
returns g c = is_done g.T.Spelled.spelling.read _ c.args.count c.loop.counter _ _ c.loop-test.false c.loop.invariant
