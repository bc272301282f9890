use Rattle.std.proofs.Common.{◌∙◌}
use Rattle.wx_words.proofs.ItemLaws.{put_more}
use Rattle.wx_words.specs.Line.{behind}
use Rattle.wx_words.specs.EachLaws.{each_more}
use Rattle.wx_words.proofs.lists.put_items.Goals as goal

pub loop-item-preserved : goal.loop-item-preserved
unfolding behind
loop-item-preserved g c = record {
  fits = each_more g.T.Spelled.spelling.fits c.args.items.now c.loop-item.item-index c.item-item.result c.loop-item-test.true c.loop-item.invariant.fits (rw c.item-item.is at c.in_ok-put_after.ensures.fits);
  text = c.in_ok-put_after.ensures.text ∙ rw c.loop-item.invariant.text (put_more g.T.Spelled.spelling.words c.args.out.now c.args.items.now c.loop-item.item-index c.item-item.result c.loop-item-test.true c.item-item.is);
}
