use Rattle.wx_error.specs.Runtime.{runtime}
use Rattle.wx_error.proofs.runtime.RuntimeErrorSpelled.put_after.Goals as goal

pub returns-in-ProcessDeadOnArrival-clause-text : goal.returns-in-ProcessDeadOnArrival-clause-text
unfolding runtime
returns-in-ProcessDeadOnArrival-clause-text c = rw c.in-ProcessDeadOnArrival.is c.put_word-in-ProcessDeadOnArrival.ensures

pub returns-in-UnsupportedSignal-clause-text : goal.returns-in-UnsupportedSignal-clause-text
unfolding runtime
returns-in-UnsupportedSignal-clause-text c = rw c.in-UnsupportedSignal.is c.put_row-in-UnsupportedSignal.ensures.text

pub returns-in-CommandShellEmptyCommand-clause-text : goal.returns-in-CommandShellEmptyCommand-clause-text
unfolding runtime
returns-in-CommandShellEmptyCommand-clause-text c = rw c.in-CommandShellEmptyCommand.is c.put_word-in-CommandShellEmptyCommand.ensures
