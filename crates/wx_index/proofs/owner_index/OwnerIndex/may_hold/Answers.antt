use Rattle.std.proofs.Common.{◌∙◌}
use Rattle.wx_index.proofs.OwnerLemmas.{none_key}
use Rattle.wx_index.proofs.owner_index.OwnerIndex.may_hold.Goals as goal

pub returns : goal.returns
returns c = λ none os is. none_key c.args.path.now os c.args.self.now.above c.text.result.now c.contains.result (c.text.ensures ∙ c.in_ok-bytes.ensures.spelled) c.contains.ensures none is.1
