use Rattle.wx_file_turns.proofs.Telling.{told_ambiguous, told_create, told_remove, told_rename, told_rescan}
use Rattle.wx_file_turns.proofs.hearing.tell.Goals as goal

-- it keeps watches as it did

pub returns-in-Create-clause-stays : goal.returns-in-Create-clause-stays
returns-in-Create-clause-stays g c = told_create _ _ _ c.topology_create.result (record { others = c.topology_create.ensures.others }) c.topology_create.ensures.state

pub returns-in-Remove-clause-stays : goal.returns-in-Remove-clause-stays
returns-in-Remove-clause-stays g c = told_remove _ _ _ c.topology_remove.result (record { others = c.topology_remove.ensures.others }) c.topology_remove.ensures.state

pub returns-in-Rename-clause-stays : goal.returns-in-Rename-clause-stays
returns-in-Rename-clause-stays g c = told_rename _ _ _ _ c.topology_rename.result (record { others = c.topology_rename.ensures.others }) c.topology_rename.ensures.state

pub returns-in-Ambiguous-clause-stays : goal.returns-in-Ambiguous-clause-stays
returns-in-Ambiguous-clause-stays g c = told_ambiguous _ _ _ c.topology_ambiguous.result (record { others = c.topology_ambiguous.ensures.others }) c.topology_ambiguous.ensures.state

pub returns-in-Rescan-clause-stays : goal.returns-in-Rescan-clause-stays
returns-in-Rescan-clause-stays g c = told_rescan _ _ c.rescan.result (record { others = c.rescan.ensures.others }) c.rescan.ensures.state

-- and was told the message

pub returns-in-Create-clause-told : goal.returns-in-Create-clause-told
returns-in-Create-clause-told g c = rw c.in-Create.is c.topology_create.ensures.state

pub returns-in-Remove-clause-told : goal.returns-in-Remove-clause-told
returns-in-Remove-clause-told g c = rw c.in-Remove.is c.topology_remove.ensures.state

pub returns-in-Rename-clause-told : goal.returns-in-Rename-clause-told
returns-in-Rename-clause-told g c = rw c.in-Rename.is c.topology_rename.ensures.state

pub returns-in-Ambiguous-clause-told : goal.returns-in-Ambiguous-clause-told
returns-in-Ambiguous-clause-told g c = rw c.in-Ambiguous.is c.topology_ambiguous.ensures.state

pub returns-in-Rescan-clause-told : goal.returns-in-Rescan-clause-told
returns-in-Rescan-clause-told g c = rw c.in-Rescan.is c.rescan.ensures.state
