use Rattle.std.proofs.Common.{arith, sym, ◌∙◌}
use Rattle.std.proofs.lemmas.Grind.{common_steps}
use Rattle.wx_poller.specs.Listings.{seen_at}
use Rattle.wx_poller.proofs.Sights.{put_back}
use Rattle.wx_poller.proofs.listing.put_one.Goals as goal

pub returns-in_ok-push-in-None-clause-back : goal.returns-in_ok-push-in-None-clause-back
returns-in_ok-push-in-None-clause-back c = λ p.
    let e = put_back c.put.result c.args.listing.now.entries c.put.new.listing.entries c.args.added.now.items c.args.path.now p c.args.seen (sym c.seen_at.ensures ∙ c.in-None.is) c.put.ensures.ok c.put.ensures.err in
    grind (arith, common_steps, e)
