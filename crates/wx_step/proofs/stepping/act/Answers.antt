use Rattle.std.proofs.Common.{ap, sym, ◌∙◌, subst}
use Rattle.wx_recursor.specs.Steps.{probed}
use Rattle.wx_holding.specs.Holding.{state_of}
use Rattle.wx_holding.proofs.Results.{ok_map}
use Rattle.wx_step.specs.Calmly.{ActsCalmly, IsReadableItem}
use Rattle.wx_step.proofs.Acted.{acts_plain, acts_probe, item_asks}
use Rattle.wx_step.proofs.Calmed.{no_probe, same_item}
use Rattle.wx_step.proofs.Raised.{looked}
use Rattle.wx_step.proofs.stepping.act.Goals as goal

pub act_item-requires : goal.act_item-requires
act_item-requires g c = item_asks (g.D.DirCheck.under c.args.dirs.now) c.args.work c.in-Plain.item c.in-Plain.is c.requires

pub returns-in-Plain-clause-state : goal.returns-in-Plain-clause-state
returns-in-Plain-clause-state g c = ok_map c.act_item.result _ _ (λ h. acts_plain c.args.work c.in-Plain.item (state_of c.args.held.now) _ c.in-Plain.is h) c.act_item.ensures.state

pub returns-in_ok-found-in-Probe-clause-state : goal.returns-in_ok-found-in-Probe-clause-state
returns-in_ok-found-in-Probe-clause-state g c =
    ok_map c.probe.result _ _
    (λ h. acts_probe c.args.work c.in-Probe.path c.in-Probe.owned c.in_ok-found-in-Probe.found (state_of c.args.held.now) _ c.in-Probe.is (h ∙ ap (λ x. probed c.in-Probe.path x c.in_ok-found-in-Probe.found (state_of c.args.held.now)) c.as_slice.ensures))
    c.probe.ensures

pub returns-in_ok-found-in-Probe-clause-raised : goal.returns-in_ok-found-in-Probe-clause-raised
returns-in_ok-found-in-Probe-clause-raised g c = looked c.probe.result _ _ c.in_ok-found-in-Probe.ensures.raised

pub returns-in-Plain-clause-calm : goal.returns-in-Plain-clause-calm
returns-in-Plain-clause-calm g c = λ t ok i is calm named agreed readable.
    let same = same_item c.args.work c.in-Plain.item i c.in-Plain.is is in
    ok_map c.act_item.result _ _ (λ h. (subst (λ x. ActsCalmly t ok x (state_of c.args.held.now) (state_of c.act_item.new.held)) same h.0, h.1))
    (c.act_item.ensures.calm t ok calm named agreed (subst (IsReadableItem t) (sym same) readable))

pub returns-in_ok-found-in-Probe-clause-calm : goal.returns-in_ok-found-in-Probe-clause-calm
returns-in_ok-found-in-Probe-clause-calm g c = λ t ok i is calm named agreed readable. no_probe c.args.work i c.in-Probe.path c.in-Probe.owned c.in-Probe.is is _
