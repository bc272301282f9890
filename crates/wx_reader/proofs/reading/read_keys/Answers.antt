use Rattle.std.proofs.Common.{ap, ◌∙◌}
use Rattle.wx_reader.specs.Reads.{ends}
use Rattle.wx_reader.proofs.Pieces.{nothing_read, read_more}
use Rattle.wx_reader.proofs.reading.read_keys.Goals as goal

pub loop-init : goal.loop-init
loop-init g c = nothing_read g.S.Source.left g.S.Source.faults c.args.source.now c.args.pass.now

pub returns-in-Ok-true : goal.returns-in-Ok-true
returns-in-Ok-true g c = read_more g.S.Source.left g.S.Source.faults _ _ _ _ _ _ _ _ c.loop.invariant c.read_once.ensures (ap ends c.in-Ok-true.is ∙ c.in-Ok-true.field-0-test)

pub loop-preserved : goal.loop-preserved
loop-preserved g c = read_more g.S.Source.left g.S.Source.faults _ _ _ _ _ _ _ _ c.loop.invariant c.read_once.ensures (ap ends c.in-Ok-false.is ∙ c.in-Ok-false.field-0-test)

pub returns-in-Err : goal.returns-in-Err
returns-in-Err g c = read_more g.S.Source.left g.S.Source.faults _ _ _ _ _ _ _ _ c.loop.invariant c.read_once.ensures (ap ends c.in-Err.is)
