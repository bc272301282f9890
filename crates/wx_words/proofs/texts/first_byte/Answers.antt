use Rattle.std.proofs.Common.{sym, ◌∙◌}
use Rattle.wx_words.specs.TextLaws.{plain_first, escaped_first}
use Rattle.wx_words.proofs.texts.first_byte.Goals as goal

pub returns-in-Some-Some-clause-some : goal.returns-in-Some-Some-clause-some
returns-in-Some-Some-clause-some c =
    escaped_first _ _ _ c.in-37.len_at_least (search) (sym c.hex_value.ensures ∙ c.in-Some-Some.is-0) (sym c.hex_value-in-37.ensures ∙ c.in-Some-Some.is-1)

pub returns-then-is_plain-clause-some : goal.returns-then-is_plain-clause-some
returns-then-is_plain-clause-some c = plain_first _ c.requires (sym c.is_plain.ensures ∙ c.if-is_plain.true)
