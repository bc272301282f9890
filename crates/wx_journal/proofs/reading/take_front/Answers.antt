use Rattle.wx_words.proofs.ToEndLemmas.{shorter}
use Rattle.wx_journal.proofs.AtFrontLaws.{goes_on}
use Rattle.wx_journal.proofs.reading.take_front.Goals as goal

pub loop-items-preserved : goal.loop-items-preserved
loop-items-preserved g c =
    rw c.in_ok-push.ensures.ok (goes_on g.T.Spelled.spelling c.requires c.loop-items.items c.in-Some.item c.loop-items.line c.take.new.line _ (rw c.in-Some.is at c.in_ok-item.ensures.exact) c.loop-items.invariant)

pub loop-items-smaller : goal.loop-items-smaller
loop-items-smaller g c = shorter g.T.Spelled.spelling c.requires c.loop-items.line c.take.new.line c.in-Some.item (rw c.in-Some.is at c.in_ok-item.ensures.exact)
