-- A text that is UTF-8 is read as such.
use Rattle.std.proofs.lemmas.Str.{IsUtf8-from_is_utf8}
use Rattle.wx_command.proofs.display.write_text.Goals as goal

pub returns-in-Err : goal.returns-in-Err
returns-in-Err g c = λ good plain ok. absurd (c.in-Err.ensures.cases.0 (IsUtf8-from_is_utf8 _ (rw c.as_slice.ensures good)))
