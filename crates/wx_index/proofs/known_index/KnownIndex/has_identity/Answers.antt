use Rattle.std.proofs.Common.{◌≡◌, ◌∙◌, refl}
use Rattle.wx_recursor.specs.Identities.{has_identity}
use Rattle.wx_index.proofs.AskedLemmas.{any_at, same_identity_bytes}
use Rattle.wx_index.proofs.known_index.KnownIndex.has_identity.Goals as goal

pub first_met-at-requires-clause-key : goal.first_met-at-requires-clause-key
first_met-at-requires-clause-key c = λ x h. same_identity_bytes x.identity c.args.identity.now _ (c.text.ensures ∙ c.in_ok-bytes.ensures) h

pub returns : goal.returns
returns c = any_at (has_identity c.args.identity.now) _ c.args.known.now c.first_met-at.result refl (λ x xs. refl) c.first_met-at.ensures
