use Rattle.wx_watch.specs.SourceErrors.{fs_error}
use Rattle.wx_watch.proofs.source_errors.FsWatcherErrorSpelled.put_after.Goals as goal

pub returns-in-TooManyWatches-clause-text : goal.returns-in-TooManyWatches-clause-text
unfolding fs_error
returns-in-TooManyWatches-clause-text c = rw c.in-TooManyWatches.is c.put_row-in-TooManyWatches.ensures.text

pub returns-in-TooManyHandles-clause-text : goal.returns-in-TooManyHandles-clause-text
unfolding fs_error
returns-in-TooManyHandles-clause-text c = rw c.in-TooManyHandles.is c.put_row-in-TooManyHandles.ensures.text
