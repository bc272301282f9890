-- The path has the components that all begin with, and these are the longest.
use Rattle.std.proofs.Common.{rules, Some, None}
use Rattle.wx_paths.proofs.SharedLemmas.{shared_longest}
use Rattle.wx_paths.proofs.prefix.common_prefix.Goals as goal

pub returns-then-is_empty-clause-longest : goal.returns-then-is_empty-clause-longest
returns-then-is_empty-clause-longest c = shared_longest c.args.paths.now None (search rules)

pub returns-clause-longest : goal.returns-clause-longest
returns-clause-longest c = shared_longest c.args.paths.now (Some c.in_ok-common.common) (search rules)
