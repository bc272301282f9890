use Rattle.std.proofs.Common.{◌≡◌, ◌∙◌, refl}
use Rattle.std.proofs.lemmas.Bool.{and_parts}
use Rattle.wx_recursor.specs.Owners.{has_owner}
use Rattle.wx_index.proofs.AskedLemmas.{any_at, same_bytes}
use Rattle.wx_index.proofs.owner_index.OwnerIndex.has_owner.Goals as goal

pub first_met-at-requires-clause-key : goal.first_met-at-requires-clause-key
first_met-at-requires-clause-key c = λ x h. same_bytes x.path c.args.path.now _ (c.text.ensures ∙ c.in_ok-bytes.ensures.spelled) h

pub returns : goal.returns
returns c = any_at (has_owner c.args.path.now) _ c.args.owners.now c.first_met-at.result refl (λ x xs. refl) c.first_met-at.ensures
