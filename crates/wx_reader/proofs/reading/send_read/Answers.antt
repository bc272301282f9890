use Rattle.std.proofs.Common.{sym, ◌∙◌}
use Rattle.wx_reader.proofs.Pieces.{empty_stops, was_dropped, was_sent}
use Rattle.wx_reader.proofs.reading.send_read.Goals as goal

pub returns-in-Ok : goal.returns-in-Ok
returns-in-Ok g c = was_sent c.args.bytes.now _ _ c.in-Ok.ensures.ok c.in-Ok.ensures.kept.0 c.in-Ok.ensures.kept.1 _ c.is_stop.ensures

pub returns-in-Err-Full : goal.returns-in-Err-Full
returns-in-Err-Full g c = was_dropped c.args.bytes.now _ _ _ c.in-Err-Full.ensures.err c.in-Err-Full.ensures.kept.0 c.in-Err-Full.ensures.kept.1 (λ e. empty_stops c.args.bytes.now (sym c.is_empty.ensures ∙ e))

pub returns-in-Err-Memory : goal.returns-in-Err-Memory
returns-in-Err-Memory g c = was_dropped c.args.bytes.now _ _ _ c.in-Err-Memory.ensures.err c.in-Err-Memory.ensures.kept.0 c.in-Err-Memory.ensures.kept.1 (λ e. absurd cc)
