use Rattle.std.proofs.Common.{None, refl, ap, sym, subst, ◌∙◌}
use Rattle.std.specs.Option.{option_or}
use Rattle.wx_scan.specs.Backings.{AllSpellPaths}
use Rattle.wx_scan.proofs.LookLemmas.{no_looks, more_looks}
use Rattle.wx_poller.specs.Fitting.{shown}
use Rattle.wx_poller.specs.Listings.{type_at}
use Rattle.wx_poller.proofs.Looks.{told_after, told_before}
use Rattle.wx_poller.proofs.Shown.{none_seen, shown_next}
use Rattle.wx_poller.proofs.Sights.{none_left, rest_is}
use Rattle.wx_poller.proofs.listed.list_all.Goals as goal

pub loop-rest-init : goal.loop-rest-init
loop-rest-init g c = record { looked = no_looks _; rest = refl; lent = refl; spelled = λ t h. h; told = λ t x n h p. none_seen _ p _ c.new-listing.ensures.empty }

pub loop-rest-preserved : goal.loop-rest-preserved
loop-rest-preserved g c =
    let i = c.loop-rest.invariant in
    let e = rest_is c.loop-rest.rest.now c.first-item.result _ c.in-len1-up.len_at_least c.first-item.is in
    record {
      looked = more_looks _ _ _ i.looked c.list_at.ensures.looked;
      rest = c.list_at.ensures.rest ∙ i.rest;
      lent = c.list_at.ensures.place ∙ i.lent;
      spelled = λ t h. (subst (AllSpellPaths t) (sym e) (i.spelled t h)).1;
      told = λ t x n h p.
          let a = subst (AllSpellPaths t) (sym e) (i.spelled t h) in
          let m = c.in-Ok.ensures.told t a.0.0 (told_after t _ _ _ _ i.looked x) n a.0.1 p in
          shown_next t c.first-item.result _ p _ _ m
          ∙ (ap (λ ks. option_or (shown t ks p) (type_at c.loop-rest.listing.entries p)) e ∙ i.told t (told_before t _ _ _ _ c.list_at.ensures.looked x) n h p);
    }

pub returns-in-Err-clause-told : goal.returns-in-Err-clause-told
returns-in-Err-clause-told g c = λ t x n h.
    let i = c.loop-rest.invariant in
    let a = subst (AllSpellPaths t) (sym (rest_is c.loop-rest.rest.now c.first-item.result _ c.in-len1-up.len_at_least c.first-item.is)) (i.spelled t h) in
    c.in-Err.ensures.told t a.0.0 (told_after t _ _ _ _ i.looked x) n a.0.1

pub returns-clause-told : goal.returns-clause-told
returns-clause-told g c = λ t x n h p.
    ap (λ ks. option_or (shown t ks p) (type_at c.loop-rest.listing.entries p)) (sym (none_left c.loop-rest.rest.now c.in_default.len_below)) ∙ c.loop-rest.invariant.told t x n h p
