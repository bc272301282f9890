use Rattle.std.proofs.Common.{◌∙◌}
use Rattle.std.proofs.lemmas.Bool.{and_parts}
use Rattle.wx_index.proofs.AskedLemmas.{same_bytes_back}
use Rattle.wx_index.proofs.owner_index.OwnerIndex.place.Goals as goal

pub first_met-requires-clause-key : goal.first_met-requires-clause-key
first_met-requires-clause-key c = λ x h. same_bytes_back x.path c.args.path.now _ (c.text.ensures ∙ c.in_ok-bytes.ensures.spelled) ((and_parts _ _ h).1)
