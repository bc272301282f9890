use Rattle.std.proofs.Common.{◌≡◌, drop}
use Rattle.wx_machine.specs.Quits.{quit_of, quit_after}
use Rattle.wx_action.proofs.work_turn.quit_of.Given as goal

abbrev pub invariant-loop-act : goal.invariant-loop-act
invariant-loop-act l = quit_after l.quit (drop l.act-index l.acts) ≡ quit_of l.acts
