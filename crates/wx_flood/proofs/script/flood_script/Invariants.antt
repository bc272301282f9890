use Rattle.std.proofs.Common.{◌≡◌, ◌≤◌}
use Rattle.wx_flood.specs.Floods.{begun, flooded}
use Rattle.wx_flood.proofs.script.flood_script.Given as goal

abbrev pub invariant-loop : goal.invariant-loop
invariant-loop l = record {
  so_far : l.flood ≡ flooded l.counter (record { state = l.seed; script = begun l.steps });
  few : l.counter ≤ l.steps;
}
