use Rattle.std.proofs.Common.{None, Ok, Err, arith, cond, refl, ap, subst, sym, ◌∙◌}
use Rattle.std.specs.Prelude.{◌&&◌, is_some}
use Rattle.std.proofs.lemmas.Bool.{both_ways}
use Rattle.wx_scan.specs.Backings.{is_memory, is_registered, is_unwatch_fault, unregister}
use Rattle.wx_scan.proofs.LookLemmas.{no_looks}
use Rattle.wx_poller.specs.Covering.{is_lone}
use Rattle.wx_poller.specs.Listings.{seen_at}
use Rattle.wx_poller.specs.Polled.{IsRefused}
use Rattle.wx_poller.proofs.Fits.{gone_only, no_fault, unwatch_fits}
use Rattle.wx_poller.proofs.poller.PollerBackend.unwatch.Goals as goal

pub returns-then-not-is_registered-clause-looked : goal.returns-then-not-is_registered-clause-looked
returns-then-not-is_registered-clause-looked g c = no_looks _

pub returns-then-not-is_registered-clause-rest : goal.returns-then-not-is_registered-clause-rest
returns-then-not-is_registered-clause-rest g c = refl

pub returns-then-not-is_registered-clause-place : goal.returns-then-not-is_registered-clause-place
returns-then-not-is_registered-clause-place g c = refl

pub returns-in-Ok-clause-looked : goal.returns-in-Ok-clause-looked
returns-in-Ok-clause-looked g c = no_looks _

pub returns-in-Ok-clause-rest : goal.returns-in-Ok-clause-rest
returns-in-Ok-clause-rest g c = refl

pub returns-in-Ok-clause-place : goal.returns-in-Ok-clause-place
returns-in-Ok-clause-place g c = refl

pub returns-in-Err-clause-looked : goal.returns-in-Err-clause-looked
returns-in-Err-clause-looked g c = no_looks _

pub returns-in-Err-clause-rest : goal.returns-in-Err-clause-rest
returns-in-Err-clause-rest g c = refl

pub returns-in-Err-clause-place : goal.returns-in-Err-clause-place
returns-in-Err-clause-place g c = refl

pub returns-then-not-is_registered-clause-changes : goal.returns-then-not-is_registered-clause-changes
returns-then-not-is_registered-clause-changes g c = record { registrations = refl; brought = refl; faults = omega arith; failed = no_fault (is_unwatch_fault (is_registered c.args.path.now c.args.self.now.registered.items)) _ _ _ c.fault.ensures (ap (λ ks. is_registered c.args.path.now ks) (sym c.as_slice.ensures.value) ∙ (sym c.is_registered.ensures ∙ c.if-not-is_registered.true)); exact = refl }

pub returns-then-not-is_registered-clause-exact : goal.returns-then-not-is_registered-clause-exact
returns-then-not-is_registered-clause-exact g c = λ t x r. absurd (both_ways _ (ap (λ ks. is_registered c.args.path.now ks) (sym c.as_slice.ensures.value) ∙ (sym c.is_registered.ensures ∙ c.if-not-is_registered.true)) r)

pub returns-then-not-is_registered-clause-fits : goal.returns-then-not-is_registered-clause-fits
returns-then-not-is_registered-clause-fits g c = λ t x s n k. k

pub returns-in-Ok-clause-changes : goal.returns-in-Ok-clause-changes
returns-in-Ok-clause-changes g c = record { registrations = c.unregister.ensures; brought = refl; faults = omega arith; failed = λ e. absurd cc; exact = refl }

pub returns-in-Ok-clause-fits : goal.returns-in-Ok-clause-fits
returns-in-Ok-clause-fits g c = λ t x s n k.
    unwatch_fits t c.args.path.now c.args.self.now.registered.items _ _ c.args.self.now.listing.entries _ s.1 (ap (λ ks. is_registered c.args.path.now ks) (sym c.as_slice.ensures.value) ∙ (sym c.is_registered.ensures ∙ c.if-not-is_registered.false)) c.unregister.ensures (λ p.
    c.take_away.ensures p
    ∙ (ap (λ ks. cond (is_registered p ks) None (seen_at c.args.self.now.listing.entries p)) c.as_slice-in-Ok.ensures.value
    ∙ (ap (λ b. cond b None (seen_at c.args.self.now.listing.entries p)) (c.in-Ok.ensures p)
    ∙ ap (λ rs. cond (is_lone c.args.self.now.listing.entries c.args.path.now (unregister c.args.path.now rs) p && is_some (seen_at c.args.self.now.listing.entries p)) None (seen_at c.args.self.now.listing.entries p)) c.as_slice-2.ensures.value))) k

pub returns-in-Err-clause-changes : goal.returns-in-Err-clause-changes
returns-in-Err-clause-changes g c = record { registrations = refl; brought = refl; faults = omega arith; failed = no_fault (is_unwatch_fault (is_registered c.args.path.now c.args.self.now.registered.items)) _ _ _ c.fault-in-Err.ensures refl; exact = refl }

pub returns-in-Err-clause-exact : goal.returns-in-Err-clause-exact
returns-in-Err-clause-exact g c = λ t x r. ap is_memory c.fault-in-Err.ensures

pub returns-in-Err-clause-fits : goal.returns-in-Err-clause-fits
returns-in-Err-clause-fits g c = λ t x s n k. k

pub returns-then-not-is_registered-clause-unwatched : goal.returns-then-not-is_registered-clause-unwatched
returns-then-not-is_registered-clause-unwatched g c = (refl, λ p. refl)

pub returns-then-not-is_registered-clause-refused : goal.returns-then-not-is_registered-clause-refused
returns-then-not-is_registered-clause-refused g c = subst (λ b. IsRefused b (Err c.fault.result)) (sym (ap (λ ks. is_registered c.args.path.now ks) (sym c.as_slice.ensures.value) ∙ (sym c.is_registered.ensures ∙ c.if-not-is_registered.true))) c.fault.ensures

pub returns-in-Ok-clause-unwatched : goal.returns-in-Ok-clause-unwatched
returns-in-Ok-clause-unwatched g c = (
  refl,
  λ p. c.take_away.ensures p
      ∙ (ap (λ ks. cond (is_registered p ks) None (seen_at c.args.self.now.listing.entries p)) c.as_slice-in-Ok.ensures.value
      ∙ (ap (λ b. cond b None (seen_at c.args.self.now.listing.entries p)) (c.in-Ok.ensures p)
      ∙ (ap (λ rs. cond (is_lone c.args.self.now.listing.entries c.args.path.now (unregister c.args.path.now rs) p && is_some (seen_at c.args.self.now.listing.entries p)) None (seen_at c.args.self.now.listing.entries p)) c.as_slice-2.ensures.value
      ∙ gone_only (is_lone c.args.self.now.listing.entries c.args.path.now (unregister c.args.path.now c.args.self.now.registered.items) p) (seen_at c.args.self.now.listing.entries p)))),
)

pub returns-in-Ok-clause-refused : goal.returns-in-Ok-clause-refused
returns-in-Ok-clause-refused g c = subst (λ b. IsRefused b (Ok tt)) (sym (ap (λ ks. is_registered c.args.path.now ks) (sym c.as_slice.ensures.value) ∙ (sym c.is_registered.ensures ∙ c.if-not-is_registered.false))) tt

pub returns-in-Err-clause-unwatched : goal.returns-in-Err-clause-unwatched
returns-in-Err-clause-unwatched g c = (refl, λ p. refl)

pub returns-in-Err-clause-refused : goal.returns-in-Err-clause-refused
returns-in-Err-clause-refused g c = subst (λ b. IsRefused b (Err c.fault-in-Err.result)) (sym (ap (λ ks. is_registered c.args.path.now ks) (sym c.as_slice.ensures.value) ∙ (sym c.is_registered.ensures ∙ c.if-not-is_registered.false))) (ap is_memory c.fault-in-Err.ensures)
