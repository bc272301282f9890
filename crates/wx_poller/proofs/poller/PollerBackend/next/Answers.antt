use Rattle.std.proofs.Common.{arith, refl, ap, ◌∙◌}
use Rattle.std.specs.Prelude.{not}
use Rattle.wx_poller.proofs.Fits.{brought_one, event_brought, exact_told, fault_brought, kept_fits, lack_brought, none_brought, none_lost, one_brought, quiet_brought, rose_too}
use Rattle.wx_poller.proofs.poller.PollerBackend.next.Goals as goal

pub returns-in-Ok-None-clause-looked : goal.returns-in-Ok-None-clause-looked
returns-in-Ok-None-clause-looked g c = c.find_next.ensures.looked

pub returns-in-Ok-None-clause-rest : goal.returns-in-Ok-None-clause-rest
returns-in-Ok-None-clause-rest g c = c.find_next.ensures.rest

pub returns-in-Ok-None-clause-place : goal.returns-in-Ok-None-clause-place
returns-in-Ok-None-clause-place g c = c.find_next.ensures.place

pub returns-in-Ok-Some-clause-looked : goal.returns-in-Ok-Some-clause-looked
returns-in-Ok-Some-clause-looked g c = c.find_next.ensures.looked

pub returns-in-Ok-Some-clause-rest : goal.returns-in-Ok-Some-clause-rest
returns-in-Ok-Some-clause-rest g c = c.find_next.ensures.rest

pub returns-in-Ok-Some-clause-place : goal.returns-in-Ok-Some-clause-place
returns-in-Ok-Some-clause-place g c = c.find_next.ensures.place

pub returns-in-Err-clause-looked : goal.returns-in-Err-clause-looked
returns-in-Err-clause-looked g c = c.find_next.ensures.looked

pub returns-in-Err-clause-rest : goal.returns-in-Err-clause-rest
returns-in-Err-clause-rest g c = c.find_next.ensures.rest

pub returns-in-Err-clause-place : goal.returns-in-Err-clause-place
returns-in-Err-clause-place g c = c.find_next.ensures.place

pub returns-in-Ok-None-clause-brings : goal.returns-in-Ok-None-clause-brings
returns-in-Ok-None-clause-brings g c =
    let h = c.find_next.ensures.polls in
    record { registrations = h.registered; brought = h.brought; faults = omega (arith, h.faults); failed = λ e. absurd cc; exact = ap not h.follow }

pub returns-in-Ok-None-clause-fits : goal.returns-in-Ok-None-clause-fits
returns-in-Ok-None-clause-fits g c = λ t x s k. ((c.in-Ok-None.ensures.fits t (exact_told _ c.args.self.now.follow _ _ t refl x) s k).0, tt)

pub returns-in-Ok-Some-clause-brings : goal.returns-in-Ok-Some-clause-brings
returns-in-Ok-Some-clause-brings g c =
    let h = c.find_next.ensures.polls in
    let b = c.bring.ensures in
    record {
      registrations = b.registered ∙ h.registered;
      brought = brought_one _ _ _ _ _ b.brought h.brought b.item;
      faults = omega (arith, b.faults, h.faults);
      failed = event_brought _ c.in-Ok-Some.event _ b.item;
      exact = ap not (b.follow ∙ h.follow);
    }

pub returns-in-Ok-Some-clause-fits : goal.returns-in-Ok-Some-clause-fits
returns-in-Ok-Some-clause-fits g c = λ t x s k.
    let f = c.in-Ok-Some.ensures.fits t (exact_told _ c.args.self.now.follow _ _ t refl x) s k in
    let b = c.bring.ensures in
    (kept_fits t _ _ _ _ _ _ b.registered b.pending b.listing f.0, quiet_brought _ c.in-Ok-Some.event c.in-Ok-Some.field-0 b.item c.in-Ok-Some.field-0-is f.1)

pub returns-in-Err-clause-brings : goal.returns-in-Err-clause-brings
returns-in-Err-clause-brings g c =
    let h = c.find_next.ensures.polls in
    let n = c.failed-fault.ensures.counts in
    let b = c.bring-in-Err.ensures in
    record {
      registrations = b.registered ∙ (n.registered ∙ h.registered);
      brought = brought_one _ _ _ _ _ b.brought (n.brought ∙ h.brought) b.item;
      faults = omega (arith, b.faults, n.faults, h.faults);
      failed = λ e. rose_too _ _ _ _ h.faults b.faults (c.failed-fault.ensures.rose (fault_brought _ c.failed-fault.result c.in-Err.error b.item c.failed-fault.ensures.kind e));
      exact = ap not (b.follow ∙ (n.follow ∙ h.follow));
    }

pub returns-in-Err-clause-fits : goal.returns-in-Err-clause-fits
returns-in-Err-clause-fits g c = λ t x s k.
    let h = c.find_next.ensures.polls in
    let u = c.in-Err.ensures.unpolled in
    let n = c.failed-fault.ensures.counts in
    let b = c.bring-in-Err.ensures in
    (kept_fits t _ _ _ _ _ _ (b.registered ∙ (n.registered ∙ h.registered)) (b.pending ∙ (n.pending ∙ u.0)) (b.listing ∙ (n.listing ∙ u.1)) k, lack_brought _ c.failed-fault.result c.in-Err.error b.item c.failed-fault.ensures.kind (c.in-Err.ensures.fits t (exact_told _ c.args.self.now.follow _ _ t refl x) s k))

pub returns-in-Ok-None-clause-brought : goal.returns-in-Ok-None-clause-brought
returns-in-Ok-None-clause-brought g c = none_brought _ c.args.self.now c.find_next.new.self c.in-Ok-None.field-0-is c.in-Ok-None.ensures.gives

pub returns-in-Ok-Some-clause-brought : goal.returns-in-Ok-Some-clause-brought
returns-in-Ok-Some-clause-brought g c = one_brought _ c.in-Ok-Some.event c.in-Ok-Some.field-0 c.args.self.now c.find_next.new.self c.bring.new.self c.bring.ensures.item c.in-Ok-Some.field-0-is c.in-Ok-Some.ensures.gives c.bring.ensures.pending c.bring.ensures.listing

pub returns-in-Err-clause-brought : goal.returns-in-Err-clause-brought
returns-in-Err-clause-brought g c =
    let u = c.in-Err.ensures.unpolled in
    let n = c.failed-fault.ensures.counts in
    let b = c.bring-in-Err.ensures in
    none_lost _ c.failed-fault.result c.args.self.now c.bring-in-Err.new.self b.item (b.pending ∙ (n.pending ∙ u.0)) (b.listing ∙ (n.listing ∙ u.1))
