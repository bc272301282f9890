use Rattle.std.proofs.Common.{◌≡◌, ◌∙◌, refl}
use Rattle.std.proofs.lemmas.Bool.{and_parts}
use Rattle.wx_recursor.specs.Identities.{has_known}
use Rattle.wx_index.proofs.AskedLemmas.{any_at, same_bytes}
use Rattle.wx_index.proofs.known_index.KnownIndex.has_known.Goals as goal

pub first_met-at-requires-clause-key : goal.first_met-at-requires-clause-key
first_met-at-requires-clause-key c = λ x h. same_bytes x.path c.args.path.now _ (c.text.ensures ∙ c.in_ok-bytes.ensures.spelled) ((and_parts _ _ h).0)

pub returns : goal.returns
returns c = any_at (has_known c.args.path.now c.args.identity.now) _ c.args.known.now c.first_met-at.result refl (λ x xs. refl) c.first_met-at.ensures
