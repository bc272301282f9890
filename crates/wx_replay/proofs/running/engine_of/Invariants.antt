use Rattle.std.proofs.Common.{◌≡◌, take}
use Rattle.wx_replay.proofs.running.engine_of.Given as goal

abbrev pub invariant-loop-event : goal.invariant-loop-event
invariant-loop-event l = l.engine ≡ record l.initial.engine { events = take l.event-index l.event-items }
