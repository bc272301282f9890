use Rattle.std.proofs.Common.{◌∙◌, sym}
use Rattle.wx_index.proofs.KnownLemmas.{only_identity}
use Rattle.wx_index.proofs.known_list.KnownList.is_identity_of.Goals as goal

pub returns : goal.returns
returns c = c.has_known.ensures ∙ only_identity c.args.path.now c.args.identity.now c.args.self.now (sym c.is_other.ensures ∙ c.if-is_other.false)
