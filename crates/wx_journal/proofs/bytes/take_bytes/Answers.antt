use Rattle.wx_words.proofs.ItemLaws.{goes_on, stops, is_done}
use Rattle.wx_journal.specs.Bytes.{byte}
use Rattle.wx_journal.proofs.bytes.take_bytes.Goals as goal

pub returns-in_default : goal.returns-in_default
returns-in_default c = stops byte.read c.loop.items c.args.count c.loop.counter c.loop.line _ c.loop-test.true (rw c.in_default.is at c.take_byte.ensures) c.loop.invariant

pub loop-preserved : goal.loop-preserved
loop-preserved c =
    rw c.in_ok-push.ensures.ok (goes_on byte.read c.loop.items c.args.count c.loop.counter c.loop.line c.in-Some.item c.take_byte.new.line _ c.loop-test.true (rw c.in-Some.is at c.take_byte.ensures) c.loop.invariant)

pub returns : goal.returns
returns c = is_done byte.read _ c.args.count c.loop.counter _ _ c.loop-test.false c.loop.invariant
