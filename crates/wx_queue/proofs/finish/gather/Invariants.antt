use Rattle.std.proofs.Common.{◌≡◌, ◌≤◌, true, List, ◌++◌, map, vec_len, All}
use Rattle.crossbeam_queue.specs.Passes.{view as told, IsPassOf}
use Rattle.wx_queue.specs.Rule.{IsNoted}
use Rattle.wx_queue.specs.Ends.{entry}
use Rattle.wx_queue.proofs.finish.gather.Given as goal

abbrev pub invariant-loop-holder : goal.invariant-loop-holder
invariant-loop-holder g l =
    All (λ p. (g.P.HoldsPass.pass p).queue ≡ l.world.table_id) l.passes.items
    × IsPassOf l.queue l.world × ((told l.world).takes ≡ true) × ((told l.world).given ≡ (told l.initial.world).given)
    × ((told l.world).made ≡ (told l.initial.world).made) × ((told l.world).made ≤ 16)
    × (vec_len l.rows ≡ 16) × IsNoted (told l.world).noted l.rows.items
    × ((popped : List g.row.P.Denot) × (l.initial.passes.items ≡ l.passes.items ++ popped) × ((told l.world).noted ≡ map (λ p. entry (g.P.HoldsPass.pass p)) popped))

abbrev pub decreases-loop-holder : goal.decreases-loop-holder
decreases-loop-holder g l = vec_len l.passes
