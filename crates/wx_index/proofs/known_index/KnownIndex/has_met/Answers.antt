use Rattle.std.proofs.Common.{◌≡◌, ◌∙◌, refl}
use Rattle.std.proofs.lemmas.Bool.{and_parts}
use Rattle.wx_recursor_lists.specs.Met.{has_met_one}
use Rattle.wx_index.proofs.AskedLemmas.{any_at, same_identity_bytes}
use Rattle.wx_index.proofs.known_index.KnownIndex.has_met.Goals as goal

pub first_met-at-requires-clause-key : goal.first_met-at-requires-clause-key
first_met-at-requires-clause-key c = λ x h. same_identity_bytes x.identity c.args.question.now.identity.now _ (c.text.ensures ∙ c.in_ok-bytes.ensures) ((and_parts _ _ ((and_parts _ _ h).0)).0)

pub returns : goal.returns
returns c = any_at (has_met_one c.args.question.now.root.now c.args.question.now.identity.now c.args.question.now.known.now c.args.question.now.owners.now) _ c.args.known.now c.first_met-at.result refl (λ x xs. refl) c.first_met-at.ensures
