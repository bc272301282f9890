use Rattle.wx_control.specs.Asks.{ask}
use Rattle.wx_control.proofs.ask.AskSpelled.put_after.Goals as goal

pub returns-in-RestartWithSignal-clause-text : goal.returns-in-RestartWithSignal-clause-text
unfolding ask
returns-in-RestartWithSignal-clause-text c = rw (c.in-RestartWithSignal.is) c.put_row.ensures.text

pub returns-in-Delete-clause-text : goal.returns-in-Delete-clause-text
unfolding ask
returns-in-Delete-clause-text c = rw (c.in-Delete.is) c.put_word-in-Delete.ensures

pub returns-in-DeleteNow-clause-text : goal.returns-in-DeleteNow-clause-text
unfolding ask
returns-in-DeleteNow-clause-text c = rw (c.in-DeleteNow.is) c.put_word-in-DeleteNow.ensures

pub returns-in-ToWait-clause-text : goal.returns-in-ToWait-clause-text
unfolding ask
returns-in-ToWait-clause-text c = rw (c.in-ToWait.is) c.put_word-in-ToWait.ensures
