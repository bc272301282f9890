use Rattle.std.proofs.Common.{◌≡◌, ◌∙◌, map}
use Rattle.wx_index.specs.Owned.{owner_key}
use Rattle.wx_index.proofs.AskedLemmas.{grown_found}
use Rattle.wx_index.proofs.OwnerLemmas.{owned_more}
use Rattle.wx_index.proofs.owner_index.OwnerIndex.with.Goals as goal

pub returns : goal.returns
returns c = λ os is. (
  grown_found owner_key os c.args.owner.now c.in_ok-copy.field-0 c.push.new.self (c.in_ok-copy.ensures ∙ (c.text.ensures ∙ c.in_ok-path.ensures.spelled)) (c.in_ok-push.ensures (map owner_key os) is.0),
  owned_more os c.args.owner.now c.args.self.above c.add_above.new.above c.in_ok-add_above.ensures.kept c.in_ok-add_above.ensures.added is.1,
)
