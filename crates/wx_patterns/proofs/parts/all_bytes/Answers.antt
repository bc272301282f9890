use Rattle.std.proofs.Common.{◌<◌, length, ◌∙◌, arith}
use Rattle.wx_patterns.proofs.FrontLemmas.{bytes_step}
use Rattle.wx_patterns.proofs.parts.all_bytes.Goals as goal

pub loop-byte-preserved : goal.loop-byte-preserved
loop-byte-preserved c =
    let lt : c.loop-byte.byte-index < length c.args.part.now = omega arith in
    bytes_step c.args.part.now c.loop-byte.byte-index c.loop-byte.row c.next_byte.new.row c.args.name.now lt c.next_byte.ensures ∙ c.loop-byte.invariant
