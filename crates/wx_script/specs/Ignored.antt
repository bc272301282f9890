-- What a filter answers where no line of a script says it: by the patterns of the script's `ignore` lines.
use Rattle.std.specs.Prelude.{ℕ, true, not, Ok, List}
use Rattle.wx_patterns.specs.Ignoring.{ignored, lets_listed}
use Rattle.wx_patterns.specs.declared.pattern.Pattern.{Pattern}
use Rattle.wx_journal.specs.declared.entry.Entry.{Entry}
use Rattle.wx_journal.specs.declared.entry.Entry.TheVariants.{Filter, Dir}
use Rattle.wx_machine.specs.Journal.{Verdict, listed}

-- below this base, what these patterns ignore
pub record Ignores : Type 0 where
  pub base : List (List ℕ)
  pub patterns : List Pattern

-- an event passes that has no path or one that isn't ignored, and a directory that isn't ignored
abbrev pub usual_verdict : Ignores → List Entry → Entry → Verdict
usual_verdict ignores p (Filter n name answer) = Ok (lets_listed ignores.base ignores.patterns (listed name p))
usual_verdict ignores p (Dir n path answer) = Ok (not (ignored ignores.base ignores.patterns path))
usual_verdict ignores p (_) = Ok true
