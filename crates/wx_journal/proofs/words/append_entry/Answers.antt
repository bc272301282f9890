use Rattle.wx_journal.specs.Entries.{entry}
use Rattle.wx_journal.proofs.words.append_entry.Goals as goal

pub returns-in-TurnFault-clause-text : goal.returns-in-TurnFault-clause-text
unfolding entry
returns-in-TurnFault-clause-text c = rw c.in-TurnFault.is c.begin_row-in-TurnFault.ensures.text
