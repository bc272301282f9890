use Rattle.std.proofs.Common.{◌≡◌, length}
use Rattle.wx_machine.specs.Files.{are_all_in}
use Rattle.wx_file_turns.proofs.applying.are_all_in.Given as goal

abbrev pub invariant-loop-rest : goal.invariant-loop-rest
invariant-loop-rest l = are_all_in l.rest l.fn.others ≡ are_all_in l.fn.roots l.fn.others

abbrev pub decreases-loop-rest : goal.decreases-loop-rest
decreases-loop-rest l = length l.rest
