use Rattle.std.proofs.Common.{false}
use Rattle.wx_reader.specs.Reads.{HasRead}
use Rattle.wx_reader.proofs.reading.read_keys.Given as goal

abbrev pub invariant-loop : goal.invariant-loop
invariant-loop g l = HasRead g.S.Source.left g.S.Source.faults l.initial.source l.source l.initial.pass l.pass false
