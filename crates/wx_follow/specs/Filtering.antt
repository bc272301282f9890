-- What the patterns of a filter ignore.
use Rattle.wx_patterns.specs.declared.patterns.Patterns.{Patterns}
use Rattle.wx_script.specs.Ignored.{Ignores}

abbrev pub ignores_by : Patterns → Ignores
ignores_by patterns = record { base = patterns.base; patterns = patterns.patterns }
