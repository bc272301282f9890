use Rattle.wx_control.specs.Controls.{control}
use Rattle.wx_control.proofs.control.ControlSpelled.put_after.Goals as goal

pub returns-in-GracefulStop-clause-text : goal.returns-in-GracefulStop-clause-text
unfolding control
returns-in-GracefulStop-clause-text c = rw (c.in-GracefulStop.is) c.put_row.ensures.text

pub returns-in-TryGracefulRestart-clause-text : goal.returns-in-TryGracefulRestart-clause-text
unfolding control
returns-in-TryGracefulRestart-clause-text c = rw (c.in-TryGracefulRestart.is) c.put_row-in-TryGracefulRestart.ensures.text
