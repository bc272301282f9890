use Rattle.std.proofs.Common.{take, ◌++◌}
use Rattle.std.proofs.KnownBytes.{Consumes-trans}
use Rattle.wx_bytes.proofs.feeding.read_all.Goals as goal

pub returns-in-Err-append-clause-front : goal.returns-in-Err-append-clause-front
returns-in-Err-append-clause-front g c = (c.loop-buf.text ++ take c.in-Ok.count c.read.new.buf, Consumes-trans _ _ _ _ _ c.loop-buf.invariant.read c.in-Ok.ensures.bytes.0)
