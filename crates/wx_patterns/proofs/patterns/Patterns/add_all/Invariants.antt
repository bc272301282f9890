use Rattle.std.proofs.Common.{◌≡◌, ◌++◌, drop}
use Rattle.wx_patterns.specs.Lines.{patterns_of}
use Rattle.wx_patterns.proofs.patterns.Patterns.add_all.Given as goal

abbrev pub invariant-loop-line : goal.invariant-loop-line
invariant-loop-line l = record {
  base : l.self.base ≡ l.fn.self.base;
  added : l.self.patterns ++ patterns_of (drop l.line-index l.lines) ≡ l.fn.self.patterns ++ patterns_of l.lines;
}
