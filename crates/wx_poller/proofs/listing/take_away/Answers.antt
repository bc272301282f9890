use Rattle.std.proofs.Common.{cond, None, ap, ◌∙◌}
use Rattle.wx_scan.specs.Backings.{is_registered}
use Rattle.wx_poller.specs.Listings.{seen_at}
use Rattle.wx_poller.proofs.Sights.{rest_is, taken_more}
use Rattle.wx_poller.proofs.listing.take_away.Goals as goal

pub loop-rest-preserved : goal.loop-rest-preserved
loop-rest-preserved c = λ p.
    taken_more _ p _ _ _ (c.take.ensures p)
    ∙ (ap (λ ks. cond (is_registered p ks) None (seen_at c.loop-rest.listing.entries p)) (rest_is c.loop-rest.rest.now c.first-item.result _ c.in-len1-up.len_at_least c.first-item.is) ∙ c.loop-rest.invariant p)
