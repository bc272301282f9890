-- A journal as text.
use Rattle.std.specs.Prelude.{ℕ, List, ◌++◌, reverse}
use Rattle.std.specs.List.{flat_map}
use Rattle.wx_journal.specs.declared.entry.Entry.{Entry}
use Rattle.wx_journal.specs.Lines.{Answer, line_of, entry_line, end_words}
use Rattle.wx_machine.specs.Journal.{window}

-- the lines of a journal, the oldest entry first, and the end line
abbrev pub printed : List Entry → Answer → List ℕ
printed journal answer = flat_map entry_line (reverse journal) ++ line_of (end_words answer (window journal))
