use Rattle.std.proofs.Common.{◌<◌, arith}
use Rattle.wx_words.specs.EachLaws.{each_from}
use Rattle.wx_words.proofs.texts.put_bytes.Goals as goal

pub returns-clause-fits : goal.returns-clause-fits
returns-clause-fits c = each_from (λ b. b < 256) 0 c.args.bytes.now (λ i lt. omega (arith, c.type_inv.bytes i))
