use Rattle.std.proofs.Common.{◌≡◌, ◌++◌}
use Rattle.std.specs.Prelude.{map}
use Rattle.wx_recursor.specs.Written.{handed_error}
use Rattle.wx_fs.proofs.handing.handed_errors.Given as goal

abbrev pub invariant-loop-error : goal.invariant-loop-error
invariant-loop-error l = l.handed ++ map (handed_error l.fn.kind) l.error-iterator.rest.items ≡ map (handed_error l.fn.kind) l.fn.errors.items
