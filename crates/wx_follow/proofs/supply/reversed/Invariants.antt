use Rattle.std.proofs.Common.{◌≡◌, take}
use Rattle.wx_follow.proofs.supply.reversed.Given as goal

abbrev pub invariant-loop-turn : goal.invariant-loop-turn
invariant-loop-turn l = l.items.items ≡ take l.turn-index l.turn-items
