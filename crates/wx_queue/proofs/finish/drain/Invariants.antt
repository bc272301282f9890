use Rattle.std.proofs.Common.{◌≡◌, ◌≤◌, true, ◌++◌, vec_capacity}
use Rattle.crossbeam_queue.specs.Passes.{view as told, IsPassOf, ruled_capacity}
use Rattle.wx_queue.proofs.finish.drain.Given as goal

abbrev pub invariant-loop : goal.invariant-loop
invariant-loop g l =
    IsPassOf l.queue l.world × ((told l.world).takes ≡ true) × ((told l.world).given ≡ (told l.initial.world).given ++ l.left.items)
    × ((told l.world).noted ≡ (told l.initial.world).noted) × ((told l.world).made ≡ (told l.initial.world).made)
    × (ruled_capacity l.queue ≤ vec_capacity l.left)
