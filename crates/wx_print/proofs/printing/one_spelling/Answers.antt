use Rattle.wx_print.proofs.OneSpelling.{one_spelling}
use Rattle.wx_print.proofs.printing.one_spelling.Goals as goal

pub returns : goal.returns
returns c = one_spelling
