use Rattle.std.proofs.Common.{arith, get_or, ◌∙◌}
use Rattle.std.proofs.lemmas.List.{get_or_default}
use Rattle.wx_words.proofs.ItemLaws.{put_more}
use Rattle.wx_words.specs.Line.{behind}
use Rattle.wx_words.specs.EachLaws.{each_more}
use Rattle.wx_journal.specs.Bytes.{byte}
use Rattle.wx_journal.proofs.bytes.put_each.Goals as goal

pub loop-byte-preserved : goal.loop-byte-preserved
unfolding behind
loop-byte-preserved c =
    let bytes = c.args.bytes.now in
    let i = c.loop-byte.byte-index in
    let n = get_or bytes i 0 in
    let lt = c.loop-byte-test.true in record {
      fits = each_more byte.fits bytes i 0 lt c.loop-byte.invariant.fits (omega (arith, c.type_inv.bytes i));
      text = c.in_ok-put_after.ensures.text ∙ rw c.loop-byte.invariant.text (put_more byte.words c.args.out.now bytes i n lt (get_or_default bytes i 0 n lt));
    }
