use Rattle.std.proofs.Common.{◌≡◌, Bool, true, false}
use Rattle.std.specs.Prelude.{not}
use Rattle.std.specs.List.{list_any}
use Rattle.wx_keys.specs.Tags.{paths}
use Rattle.wx_patterns.specs.Lists.{is_empty}
use Rattle.wx_patterns.specs.Ignoring.{ignored}
use Rattle.wx_patterns.proofs.patterns.PatternsFilterer.check_event.Given as goal

abbrev pub invariant-loop-path : goal.invariant-loop-path
invariant-loop-path l = record { any : list_any (λ path. not (ignored l.self.base l.self.patterns path.0)) l.path-iterator ≡ list_any (λ path. not (ignored l.self.base l.self.patterns path.0)) (paths l.event.tags); some : l.has_path ≡ true → is_empty (paths l.event.tags) ≡ false; none : l.has_path ≡ false → l.path-iterator ≡ paths l.event.tags }
