use Rattle.std.proofs.Common.{refl}
use Rattle.wx_reader.proofs.Pieces.{read_none}
use Rattle.wx_reader.proofs.reading.read_once.Goals as goal

pub returns-in-Err : goal.returns-in-Err
returns-in-Err g c = read_none g.S.Source.left g.S.Source.faults _ _ _ c.in-Err.ensures.bytes c.read.ensures.cause.later (c.read.ensures.cause.rose (rw c.in-Err.is refl))
