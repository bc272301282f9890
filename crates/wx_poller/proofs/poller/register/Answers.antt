use Rattle.std.proofs.Common.{ap, cond, sym, ◌∙◌}
use Rattle.std.specs.Option.{option_or}
use Rattle.std.proofs.lemmas.Result.{on_ok_weaker}
use Rattle.wx_scan.specs.Backings.{is_registered}
use Rattle.wx_poller.specs.Listings.{seen_at}
use Rattle.wx_poller.proofs.Fits.{registered_new, registered_old}
use Rattle.wx_poller.proofs.poller.register.Goals as goal

pub returns-then-is_registered-clause-registered : goal.returns-then-is_registered-clause-registered
returns-then-is_registered-clause-registered c =
    let e = ap (λ ks. is_registered c.args.path.now ks) (sym c.as_slice.ensures.value) ∙ (sym c.is_registered.ensures ∙ c.if-is_registered.true) in
    sym (registered_old c.args.path.now c.args.registered.now.items e)

pub returns-then-is_registered-clause-listing : goal.returns-then-is_registered-clause-listing
returns-then-is_registered-clause-listing c = λ p.
    let e = ap (λ ks. is_registered c.args.path.now ks) (sym c.as_slice.ensures.value) ∙ (sym c.is_registered.ensures ∙ c.if-is_registered.true) in
    sym (ap (λ b. cond b (seen_at c.args.listing.now.entries p) (option_or (seen_at c.args.listing.now.entries p) (seen_at c.args.fresh.now.entries p))) e)

pub returns-clause-registered : goal.returns-clause-registered
returns-clause-registered c =
    let e = ap (λ ks. is_registered c.args.path.now ks) (sym c.as_slice.ensures.value) ∙ (sym c.is_registered.ensures ∙ c.if-is_registered.false) in
    on_ok_weaker c.register_new.result (λ h. h ∙ sym (registered_new c.args.path.now c.args.registered.now.items e)) c.register_new.ensures.registered

pub returns-clause-listing : goal.returns-clause-listing
returns-clause-listing c =
    let e = ap (λ ks. is_registered c.args.path.now ks) (sym c.as_slice.ensures.value) ∙ (sym c.is_registered.ensures ∙ c.if-is_registered.false) in
    on_ok_weaker c.register_new.result (λ h p. h p ∙ sym (ap (λ b. cond b (seen_at c.args.listing.now.entries p) (option_or (seen_at c.args.listing.now.entries p) (seen_at c.args.fresh.now.entries p))) e)) c.register_new.ensures.listing

pub returns-clause-unregistered : goal.returns-clause-unregistered
returns-clause-unregistered c = c.register_new.ensures.unregistered

pub returns-clause-unlisted : goal.returns-clause-unlisted
returns-clause-unlisted c = c.register_new.ensures.unlisted
