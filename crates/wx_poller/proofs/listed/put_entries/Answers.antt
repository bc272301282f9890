use Rattle.std.proofs.Common.{cond, None, refl, ap, sym, subst, ◌∙◌}
use Rattle.std.specs.Option.{option_or}
use Rattle.wx_tree.specs.Places.{place}
use Rattle.wx_tree.specs.Trees.{node_at}
use Rattle.wx_scan.specs.Backings.{AllSpellPaths, is_registered}
use Rattle.wx_scan.proofs.LookLemmas.{no_looks, more_looks}
use Rattle.wx_poller.specs.Fitting.{type_of}
use Rattle.wx_poller.specs.Listings.{type_at}
use Rattle.wx_poller.proofs.Looks.{told_after, told_before}
use Rattle.wx_poller.proofs.Shown.{entry_next}
use Rattle.wx_poller.proofs.Sights.{none_left, rest_is}
use Rattle.wx_poller.proofs.listed.put_entries.Goals as goal

pub loop-rest-init : goal.loop-rest-init
loop-rest-init g c = record { looked = no_looks _; rest = refl; lent = refl; spelled = λ t h. h; told = λ t x h p. refl }

pub loop-rest-preserved : goal.loop-rest-preserved
loop-rest-preserved g c =
    let i = c.loop-rest.invariant in
    let e = rest_is c.loop-rest.rest.now c.first-item.result _ c.in-len1-up.len_at_least c.first-item.is in
    record {
      looked = more_looks _ _ _ i.looked c.put_entry.ensures.looked;
      rest = c.put_entry.ensures.rest ∙ i.rest;
      lent = c.put_entry.ensures.place ∙ i.lent;
      spelled = λ t h. (subst (AllSpellPaths t) (sym e) (i.spelled t h)).1;
      told = λ t x h p.
          let a = subst (AllSpellPaths t) (sym e) (i.spelled t h) in
          let n = c.in-Ok.ensures.told t a.0.0 (told_after t _ _ _ _ i.looked x) a.0.1 p in
          entry_next p c.first-item.result _ (type_of (node_at t (place p))) _ _ n
          ∙ (ap (λ ks. option_or (cond (is_registered p ks) (type_of (node_at t (place p))) None) (type_at c.loop-rest.listing.entries p)) e ∙ i.told t (told_before t _ _ _ _ c.put_entry.ensures.looked x) h p);
    }

pub returns-in-Err-clause-told : goal.returns-in-Err-clause-told
returns-in-Err-clause-told g c = λ t x h.
    let i = c.loop-rest.invariant in
    let a = subst (AllSpellPaths t) (sym (rest_is c.loop-rest.rest.now c.first-item.result _ c.in-len1-up.len_at_least c.first-item.is)) (i.spelled t h) in
    c.in-Err.ensures.told t a.0.0 (told_after t _ _ _ _ i.looked x) a.0.1

pub returns-clause-told : goal.returns-clause-told
returns-clause-told g c = λ t x h p.
    ap (λ ks. option_or (cond (is_registered p ks) (type_of (node_at t (place p))) None) (type_at c.loop-rest.listing.entries p)) (sym (none_left c.loop-rest.rest.now c.in_default.len_below)) ∙ c.loop-rest.invariant.told t x h p
