use Rattle.std.proofs.Common.{◌∙◌, sym}
use Rattle.wx_index.proofs.KnownLemmas.{without_none}
use Rattle.wx_index.proofs.known_list.KnownList.without.Goals as goal

pub returns-else-has_identity : goal.returns-else-has_identity
returns-else-has_identity c = without_none c.args.identity.now c.args.self.now (sym c.has_identity.ensures ∙ c.if-has_identity.false)
