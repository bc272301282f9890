use Rattle.std.proofs.Common.{◌≡◌, take, reverse}
use Rattle.wx_machine.specs.Journal.{window}
use Rattle.wx_print.specs.Window.{AreNoted}
use Rattle.wx_print.proofs.printing.lost.Given as goal

abbrev pub invariant-loop-entry : goal.invariant-loop-entry
invariant-loop-entry l = AreNoted l.unseen (reverse (take l.entry-index l.entries)) × (l.names ≡ window (reverse (take l.entry-index l.entries)))
