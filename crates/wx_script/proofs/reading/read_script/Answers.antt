use Rattle.std.proofs.Common.{◌≡◌, ℕ, List, Result, Ok, Err, IfOk, MatchResult, ap}
use Rattle.wx_script.specs.declared.script.Script.{Script}
use Rattle.wx_script.specs.declared.reading.BadLine.{BadLine}
use Rattle.wx_script.specs.Scripts.{IsScriptOf, IsFirstBad}
use Rattle.wx_script.proofs.ReadingLaws.{one_script, one_bad, not_both}
use Rattle.wx_script.proofs.reading.read_script.Goals as goal

only : {E : Type 0} (bytes : List ℕ) (s : Script) (r : Result (Result Script BadLine) E) → IsScriptOf bytes s → IfOk r (λ r. MatchResult r (λ t. IsScriptOf bytes t) (λ bad. IsFirstBad bytes bad.0)) → IfOk r (λ r. r ≡ Ok s)
only bytes s (Ok (Ok t)) is read = ap Ok (one_script bytes t s read is)
only bytes s (Ok (Err bad)) is read = absurd (not_both bytes s bad.0 is read)
only bytes s (Err e) is read = tt

only_bad : {E : Type 0} (bytes : List ℕ) (n : ℕ) (r : Result (Result Script BadLine) E) → IsFirstBad bytes n → IfOk r (λ r. MatchResult r (λ t. IsScriptOf bytes t) (λ bad. IsFirstBad bytes bad.0)) → IfOk r (λ r. r ≡ Err (record { 0 = n }))
only_bad bytes n (Ok (Ok t)) is read = absurd (not_both bytes t n read is)
only_bad bytes n (Ok (Err bad)) is read = ap (λ (m : ℕ). Err (record { 0 = m })) (one_bad bytes bad.0 n read is)
only_bad bytes n (Err e) is read = tt

pub returns-clause-only : goal.returns-clause-only
returns-clause-only c s is = only c.args.bytes.now s c.scan.result is c.scan.ensures

pub returns-clause-only_bad : goal.returns-clause-only_bad
returns-clause-only_bad c n is = only_bad c.args.bytes.now n c.scan.result is c.scan.ensures
