-- The pieces of the split are those of the definition, and so is the first of them that passes.
use Rattle.std.proofs.Common.{rules, length}
use Rattle.std.specs.Prelude.{◌==◌, not}
use Rattle.std.proofs.lemmas.Iterator.Search.{find_from_yields_List}
use Rattle.std.proofs.lemmas.Iterator.Splits.{YieldsList-from_slice_split}
use Rattle.wx_command.specs.Execables.{is_space}
use Rattle.wx_command.proofs.execable.first_word.Goals as goal

pub returns : goal.returns
returns c =
    find_from_yields_List (λ piece. not (length piece == 0)) _ _ _ c.find.ensures.ran
    (YieldsList-from_slice_split _ is_space c.args.text.now c.split.ensures.rest c.split.ensures.done c.split.ensures.closure (λ x b q k. search rules))
    (λ x b q k. search rules)
