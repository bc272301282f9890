use Rattle.std.proofs.Common.{◌≡◌, ◌++◌, take}
use Rattle.std.specs.List.{flat_map, AllByRecursion}
use Rattle.wx_journal.specs.Lines.{entry_line}
use Rattle.wx_journal.specs.Entries.{EntryFits}
use Rattle.wx_journal.proofs.lines.put_lines.Given as goal

abbrev pub invariant-loop-entry : goal.invariant-loop-entry
invariant-loop-entry l = record {
  text : l.out ≡ l.fn.out ++ flat_map entry_line (take l.entry-index l.entries);
  fits : AllByRecursion EntryFits (take l.entry-index l.entries);
}
