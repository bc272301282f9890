use Rattle.std.proofs.Common.{rules, ◌≡◌, refl, ◌∙◌, Some, w32, FitsSigned}
use Rattle.std.proofs.lemmas.Int.{to_z-of_z}
use Rattle.wx_words.specs.Signed.{read_i32}
use Rattle.wx_words.specs.NonZero.{i32_other_than_zero}
use Rattle.wx_words.specs.NonZeroLaws.{i32_held}
use Rattle.wx_words.proofs.non_zero.NonZeroI32Spelled.read.Goals as goal

pub returns : goal.returns
returns c =
    let is : read_i32 c.args.line.now ≡ Some (c.in-Some.n, c.read.new.line) = search rules in
    let fits : FitsSigned w32 c.in-Some.n = search rules in
    let held : i32_other_than_zero c.in-Some.n ≡ Some c.in-Some-new.found = i32_held _ _ (c.in-Some-new.ensures ∙ to_z-of_z w32 _ fits) in
    rw (is, held) refl
