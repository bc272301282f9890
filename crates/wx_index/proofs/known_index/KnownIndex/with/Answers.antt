use Rattle.std.proofs.Common.{◌≡◌, ◌∙◌, map}
use Rattle.wx_index.specs.Keys.{identity_key, path_key}
use Rattle.wx_index.proofs.AskedLemmas.{grown_found}
use Rattle.wx_index.proofs.known_index.KnownIndex.with.Goals as goal

pub returns : goal.returns
returns c = λ ks is. (
  grown_found path_key ks c.args.known.now c.in_ok-copy.field-0 c.push.new.self (c.in_ok-copy.ensures ∙ (c.text.ensures ∙ c.in_ok-path.ensures.spelled)) (c.in_ok-push.ensures (map path_key ks) is.0),
  grown_found identity_key ks c.args.known.now c.in_ok-copy-2.field-0 c.push-2.new.self (c.in_ok-copy-2.ensures ∙ (c.text-2.ensures ∙ c.in_ok-identity.ensures)) (c.in_ok-push-2.ensures (map identity_key ks) is.1),
)
