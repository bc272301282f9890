use Rattle.std.proofs.Common.{arith, refl, ap, sym, ◌∙◌}
use Rattle.std.specs.Prelude.{not}
use Rattle.std.proofs.lemmas.Bool.{both_ways}
use Rattle.wx_tree.specs.Trees.{node_at}
use Rattle.wx_scan.specs.Backings.{is_memory, is_watch_fault}
use Rattle.wx_poller.specs.Listings.{seen_at}
use Rattle.wx_poller.specs.Polled.{fault_of}
use Rattle.wx_poller.proofs.Fits.{exact_told, is_lack, kept_fits, no_fault, no_node, watch_fault, watch_fits, watched_kept, watched_same}
use Rattle.wx_poller.proofs.poller.PollerBackend.watch.Goals as goal

pub returns-in-Ok-clause-looked : goal.returns-in-Ok-clause-looked
returns-in-Ok-clause-looked g c = c.list_at.ensures.looked

pub returns-in-Ok-clause-rest : goal.returns-in-Ok-clause-rest
returns-in-Ok-clause-rest g c = c.list_at.ensures.rest

pub returns-in-Ok-clause-place : goal.returns-in-Ok-clause-place
returns-in-Ok-clause-place g c = c.list_at.ensures.place

pub returns-in-Ok-true-clause-looked : goal.returns-in-Ok-true-clause-looked
returns-in-Ok-true-clause-looked g c = c.list_at.ensures.looked

pub returns-in-Ok-true-clause-rest : goal.returns-in-Ok-true-clause-rest
returns-in-Ok-true-clause-rest g c = c.list_at.ensures.rest

pub returns-in-Ok-true-clause-place : goal.returns-in-Ok-true-clause-place
returns-in-Ok-true-clause-place g c = c.list_at.ensures.place

pub returns-in-Ok-false-clause-looked : goal.returns-in-Ok-false-clause-looked
returns-in-Ok-false-clause-looked g c = c.list_at.ensures.looked

pub returns-in-Ok-false-clause-rest : goal.returns-in-Ok-false-clause-rest
returns-in-Ok-false-clause-rest g c = c.list_at.ensures.rest

pub returns-in-Ok-false-clause-place : goal.returns-in-Ok-false-clause-place
returns-in-Ok-false-clause-place g c = c.list_at.ensures.place

pub returns-clause-looked : goal.returns-clause-looked
returns-clause-looked g c = c.list_at.ensures.looked

pub returns-clause-rest : goal.returns-clause-rest
returns-clause-rest g c = c.list_at.ensures.rest

pub returns-clause-place : goal.returns-clause-place
returns-clause-place g c = c.list_at.ensures.place

pub returns-in-Ok-clause-changes : goal.returns-in-Ok-clause-changes
returns-in-Ok-clause-changes g c = record { registrations = c.in-Ok.ensures.registered; brought = refl; faults = omega arith; failed = λ e. absurd cc; exact = refl }

pub returns-in-Ok-clause-exact : goal.returns-in-Ok-clause-exact
returns-in-Ok-clause-exact g c = λ t p x s. sym (c.in-Ok-true.ensures.there t p (exact_told _ c.args.self.now.follow _ _ t refl x) s) ∙ c.in-Ok-true.field-0-test

pub returns-in-Ok-clause-fits : goal.returns-in-Ok-clause-fits
returns-in-Ok-clause-fits g c = λ t x s n k.
    kept_fits t _ _ _ _ _ _ c.in-Ok.ensures.registered refl refl (watch_fits t c.args.path.now c.args.self.now.registered.items c.args.self.now.pending c.new-fresh.result.entries c.list_at.new.listing.entries _ _ c.new-fresh.ensures.empty (c.in-Ok-true.ensures.told t s.0.0 (exact_told _ c.args.self.now.follow _ _ t refl x) k.named s.0.1) c.in-Ok.ensures.listing k)

pub returns-in-Ok-true-clause-changes : goal.returns-in-Ok-true-clause-changes
returns-in-Ok-true-clause-changes g c = record { registrations = c.in-Err-register.ensures.unregistered; brought = refl; faults = omega arith; failed = no_fault is_watch_fault _ _ _ c.fault.ensures refl; exact = refl }

pub returns-in-Ok-true-clause-exact : goal.returns-in-Ok-true-clause-exact
returns-in-Ok-true-clause-exact g c = λ t p x s m. absurd (both_ways _ m (ap is_memory c.fault.ensures))

pub returns-in-Ok-true-clause-fits : goal.returns-in-Ok-true-clause-fits
returns-in-Ok-true-clause-fits g c = λ t x s n k. absurd (n (ap is_memory c.fault.ensures))

pub returns-in-Ok-false-clause-changes : goal.returns-in-Ok-false-clause-changes
returns-in-Ok-false-clause-changes g c = record { registrations = refl; brought = refl; faults = omega arith; failed = no_fault is_watch_fault _ _ _ c.fault-in-Ok-false.ensures refl; exact = refl }

pub returns-in-Ok-false-clause-exact : goal.returns-in-Ok-false-clause-exact
returns-in-Ok-false-clause-exact g c = λ t p x s m. (no_node (node_at t p) (sym (c.in-Ok-false.ensures.there t p (exact_told _ c.args.self.now.follow _ _ t refl x) s) ∙ c.in-Ok-false.field-0-test), c.fault-in-Ok-false.ensures)

pub returns-in-Ok-false-clause-fits : goal.returns-in-Ok-false-clause-fits
returns-in-Ok-false-clause-fits g c = λ t x s n k. k

pub returns-clause-changes : goal.returns-clause-changes
returns-clause-changes g c =
    let h = c.failed.ensures.counts in
    record { registrations = h.registered; brought = h.brought; faults = h.faults; failed = λ e. c.failed.ensures.rose (watch_fault (fault_of c.in-Err.error) (sym (ap is_watch_fault c.failed.ensures.kind) ∙ e)); exact = ap not h.follow }

pub returns-clause-exact : goal.returns-clause-exact
returns-clause-exact g c = λ t p x s m. absurd (both_ways _ m (is_lack _ c.in-Err.error c.failed.ensures.kind (c.in-Err.ensures.there t p (exact_told _ c.args.self.now.follow _ _ t refl x) s)))

pub returns-clause-fits : goal.returns-clause-fits
returns-clause-fits g c = λ t x s n k. absurd (n (is_lack _ c.in-Err.error c.failed.ensures.kind (c.in-Err.ensures.there t s.0.0 (exact_told _ c.args.self.now.follow _ _ t refl x) s.0.1)))

pub returns-in-Ok-clause-watched : goal.returns-in-Ok-clause-watched
returns-in-Ok-clause-watched g c = (refl, (λ p s e. watched_kept _ _ _ _ s (c.in-Ok.ensures.listing p) e), λ r p. watched_same _ _ _ _ (c.in-Ok.ensures.listing p) r)

pub returns-in-Ok-true-clause-watched : goal.returns-in-Ok-true-clause-watched
returns-in-Ok-true-clause-watched g c = (refl, c.in-Err-register.ensures.unlisted)

pub returns-in-Ok-false-clause-watched : goal.returns-in-Ok-false-clause-watched
returns-in-Ok-false-clause-watched g c = (refl, λ p. refl)

pub returns-clause-watched : goal.returns-clause-watched
returns-clause-watched g c = (c.failed.ensures.counts.pending, λ p. ap (λ es. seen_at es p) c.failed.ensures.counts.listing)
