use Rattle.std.proofs.Common.{rules, ◌≡◌, refl, ◌∙◌, Some, w64, FitsSigned}
use Rattle.std.proofs.lemmas.Int.{to_z-of_z}
use Rattle.wx_words.specs.Signed.{read_i64}
use Rattle.wx_words.specs.NonZero.{i64_other_than_zero}
use Rattle.wx_words.specs.NonZeroLaws.{i64_held}
use Rattle.wx_words.proofs.non_zero.NonZeroI64Spelled.read.Goals as goal

pub returns : goal.returns
returns c =
    let is : read_i64 c.args.line.now ≡ Some (c.in-Some.n, c.read.new.line) = search rules in
    let fits : FitsSigned w64 c.in-Some.n = search rules in
    let held : i64_other_than_zero c.in-Some.n ≡ Some c.in-Some-new.found = i64_held _ _ (c.in-Some-new.ensures ∙ to_z-of_z w64 _ fits) in
    rw (is, held) refl
