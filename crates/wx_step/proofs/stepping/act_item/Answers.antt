use Rattle.wx_recursor.specs.declared.work.Item.TheVariants.{Candidate, Guard, Scan, Visit}
use Rattle.wx_holding.specs.Holding.{state_of}
use Rattle.wx_holding.proofs.Results.{ok_map}
use Rattle.wx_step.proofs.Acted.{acts_guard, acts_scan, acts_try, acts_visit, candidate_asks}
use Rattle.wx_step.proofs.Calmed.{calm_then, guard_calm, readable_item, scan_calm, scan_stands, still_first, try_calm, visit_calm}
use Rattle.wx_step.proofs.Raised.{looked, looked_then}
use Rattle.wx_step.proofs.stepping.act_item.Goals as goal

pub look_at_candidate-requires-clause-holds : goal.look_at_candidate-requires-clause-holds
look_at_candidate-requires-clause-holds g c = (candidate_asks (g.D.DirCheck.under c.args.dirs.now) c.args.item c.in-Candidate.root c.in-Candidate.path c.in-Candidate.is c.requires).0

pub look_at_candidate-requires-clause-under : goal.look_at_candidate-requires-clause-under
look_at_candidate-requires-clause-under g c = (candidate_asks (g.D.DirCheck.under c.args.dirs.now) c.args.item c.in-Candidate.root c.in-Candidate.path c.in-Candidate.is c.requires).1

pub returns-in-Guard-clause-state : goal.returns-in-Guard-clause-state
returns-in-Guard-clause-state g c = ok_map c.guard.result _ _ (λ h. acts_guard c.args.item c.in-Guard.root (state_of c.args.held.now) _ c.in-Guard.is h) c.guard.ensures.state

pub returns-in_ok-found-in-Visit-clause-state : goal.returns-in_ok-found-in-Visit-clause-state
returns-in_ok-found-in-Visit-clause-state g c = ok_map c.visit.result _ _ (λ h. acts_visit c.args.item c.in-Visit.root c.in_ok-found-in-Visit.found (state_of c.args.held.now) _ c.in-Visit.is h) c.visit.ensures.state

pub returns-in_ok-found-in-Scan-clause-state : goal.returns-in_ok-found-in-Scan-clause-state
returns-in_ok-found-in-Scan-clause-state g c = ok_map c.take_listing.result _ _ (λ h. acts_scan c.args.item c.in-Scan.root c.in-Scan.path c.in_ok-found-in-Scan.found (state_of c.args.held.now) _ c.in-Scan.is h) c.take_listing.ensures

pub returns-in_ok-found-in-Candidate-clause-state : goal.returns-in_ok-found-in-Candidate-clause-state
returns-in_ok-found-in-Candidate-clause-state g c = ok_map c.try_candidate.result _ _ (λ h. acts_try c.args.item c.in-Candidate.root c.in-Candidate.path c.in_ok-found-in-Candidate.found (state_of c.args.held.now) _ c.in-Candidate.is h) c.try_candidate.ensures.state

pub returns-in_ok-found-in-Visit-clause-raised : goal.returns-in_ok-found-in-Visit-clause-raised
returns-in_ok-found-in-Visit-clause-raised g c = looked_then c.visit.result _ _ _ c.in_ok-found-in-Visit.ensures.raised c.visit.ensures.looked.looks

pub returns-in_ok-found-in-Scan-clause-raised : goal.returns-in_ok-found-in-Scan-clause-raised
returns-in_ok-found-in-Scan-clause-raised g c = looked c.take_listing.result _ _ c.in_ok-found-in-Scan.ensures.raised

pub returns-in_ok-found-in-Candidate-clause-raised : goal.returns-in_ok-found-in-Candidate-clause-raised
returns-in_ok-found-in-Candidate-clause-raised g c = looked_then c.try_candidate.result _ _ _ c.in_ok-found-in-Candidate.ensures.raised c.try_candidate.ensures.looked.looks

pub returns-in-Guard-clause-calm : goal.returns-in-Guard-clause-calm
returns-in-Guard-clause-calm g c = λ t ok calm named agreed readable.
    ok_map c.guard.result _ _ (λ h. (guard_calm t ok c.args.item c.in-Guard.root (state_of c.args.held.now) (state_of c.guard.new.self) c.in-Guard.is h.0, h.1))
    (c.guard.ensures.calm t calm (readable_item t c.args.item (Guard c.in-Guard.root) c.in-Guard.is readable))

pub returns-in_ok-found-in-Visit-clause-calm : goal.returns-in_ok-found-in-Visit-clause-calm
returns-in_ok-found-in-Visit-clause-calm g c = λ t ok calm named agreed readable.
    let there = readable_item t c.args.item (Visit c.in-Visit.root) c.in-Visit.is readable in
    let still = still_first t (g.S.Looks.looked c.args.scan.now) (g.S.Looks.looked c.look_at_root.new.scan) (g.S.Looks.looked c.visit.new.scan) calm.still c.look_at_root.ensures.looked c.visit.ensures.looked in
    let then = calm_then t c.args.follow (g.S.Looks.looked c.args.scan.now) (g.S.Looks.looked c.look_at_root.new.scan) (g.S.Looks.looked c.visit.new.scan) (state_of c.args.held.now).registrations (g.B.Backend.backing c.args.back.now) (g.B.Backend.fits c.args.back.now t) calm c.look_at_root.ensures.looked c.visit.ensures.looked in
    let found = c.in_ok-found-in-Visit.ensures.told t calm.links still there in
    ok_map c.visit.result _ _
    (λ h. (visit_calm t ok c.args.item c.in-Visit.root c.in_ok-found-in-Visit.found (state_of c.args.held.now) (state_of c.visit.new.self) c.in-Visit.is found h.0, h.1))
    (c.visit.ensures.calm t then there found)

pub returns-in_ok-found-in-Scan-clause-calm : goal.returns-in_ok-found-in-Scan-clause-calm
returns-in_ok-found-in-Scan-clause-calm g c = λ t ok calm named agreed readable.
    let there = readable_item t c.args.item (Scan c.in-Scan.root c.in-Scan.path) c.in-Scan.is readable in
    ok_map c.take_listing.result _ _
    (λ h. (
      scan_calm t ok c.args.item c.in-Scan.root c.in-Scan.path c.in_ok-found-in-Scan.found (state_of c.args.held.now) (state_of c.take_listing.new.self) c.in-Scan.is (c.in_ok-found-in-Scan.ensures.told t calm.still named there) h,
      scan_stands t c.in-Scan.root c.in-Scan.path c.in_ok-found-in-Scan.found (state_of c.args.held.now) (state_of c.take_listing.new.self) (g.B.Backend.backing c.args.back.now) (g.B.Backend.fits c.args.back.now t) h calm.stands,
    ))
    c.take_listing.ensures

pub returns-in_ok-found-in-Candidate-clause-calm : goal.returns-in_ok-found-in-Candidate-clause-calm
returns-in_ok-found-in-Candidate-clause-calm g c = λ t ok calm named agreed readable.
    let there = readable_item t c.args.item (Candidate c.in-Candidate.root c.in-Candidate.path) c.in-Candidate.is readable in
    let still = still_first t (g.S.Looks.looked c.args.scan.now) (g.S.Looks.looked c.look_at_candidate.new.scan) (g.S.Looks.looked c.try_candidate.new.scan) calm.still c.look_at_candidate.ensures.looked c.try_candidate.ensures.looked in
    let then = calm_then t c.args.follow (g.S.Looks.looked c.args.scan.now) (g.S.Looks.looked c.look_at_candidate.new.scan) (g.S.Looks.looked c.try_candidate.new.scan) (state_of c.args.held.now).registrations (g.B.Backend.backing c.args.back.now) (g.B.Backend.fits c.args.back.now t) calm c.look_at_candidate.ensures.looked c.try_candidate.ensures.looked in
    let found = c.in_ok-found-in-Candidate.ensures.told t ok calm.links still there agreed in
    ok_map c.try_candidate.result _ _
    (λ h. (try_calm t ok c.args.item c.in-Candidate.root c.in-Candidate.path c.in_ok-found-in-Candidate.found (state_of c.args.held.now) (state_of c.try_candidate.new.self) c.in-Candidate.is found h.0, h.1))
    (c.try_candidate.ensures.calm t ok then there found)
