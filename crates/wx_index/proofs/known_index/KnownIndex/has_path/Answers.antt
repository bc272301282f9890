use Rattle.std.proofs.Common.{◌≡◌, ◌∙◌, map, refl}
use Rattle.wx_recursor.specs.Owners.{has_path}
use Rattle.wx_index.proofs.AskedLemmas.{any_at, same_bytes}
use Rattle.wx_index.proofs.known_index.KnownIndex.has_path.Goals as goal

pub first_met-at-requires-clause-key : goal.first_met-at-requires-clause-key
first_met-at-requires-clause-key c = λ x h. same_bytes x.path c.args.path.now _ (c.text.ensures ∙ c.in_ok-bytes.ensures.spelled) h

pub returns : goal.returns
returns c = any_at (λ ks. has_path c.args.path.now (map (λ k. k.path) ks)) _ c.args.known.now c.first_met-at.result refl (λ x xs. refl) c.first_met-at.ensures
