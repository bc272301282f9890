use Rattle.wx_words.proofs.ToEndLemmas.{goes_on, shorter}
use Rattle.wx_words.proofs.lists.read_to_end.Goals as goal

pub loop-alloc-preserved : goal.loop-alloc-preserved
loop-alloc-preserved g c =
    rw c.in_ok-push.ensures.ok (goes_on g.T.Spelled.spelling c.requires c.loop-alloc.items c.in-Some.item c.loop-alloc.line c.read.new.line _ (rw c.in-Some.is at c.in_ok-item.ensures) c.loop-alloc.invariant)

pub loop-alloc-smaller : goal.loop-alloc-smaller
loop-alloc-smaller g c = shorter g.T.Spelled.spelling c.requires c.loop-alloc.line c.read.new.line c.in-Some.item (rw c.in-Some.is at c.in_ok-item.ensures)
