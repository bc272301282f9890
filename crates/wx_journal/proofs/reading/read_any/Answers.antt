use Rattle.std.proofs.Common.{rules}
use Rattle.wx_journal.specs.Entries.{entry}
use Rattle.wx_journal.proofs.reading.read_any.Goals as goal

-- no row was met: one fact for each
pub returns : goal.returns
unfolding entry
returns c = search rules depth 9 fits 1000
