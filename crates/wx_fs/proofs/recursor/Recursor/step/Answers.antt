use Rattle.std.proofs.Common.{false, subst}
use Rattle.wx_holding.specs.Calm.{StandsBy}
use Rattle.wx_holding.specs.Holding.{state_of}
use Rattle.wx_fs.specs.Settling.{BackendStands}
use Rattle.wx_fs.proofs.Epochs.{steps_on}
use Rattle.wx_fs.proofs.Keeping.{kept_asks, names_kept, rests_still, rests_told, step_kept, unspent_keeps}
use Rattle.wx_fs.proofs.Telling.{tells_step}
use Rattle.wx_fs.proofs.recursor.Recursor.step.Goals as goal

pub step-requires-clause-asks : goal.step-requires-clause-asks
step-requires-clause-asks g c = kept_asks (g.D.DirCheck.under c.args.dirs.now) (state_of c.args.self.now.held) c.args.self.now.spent c.if-self.false c.args.self.now.keeps c.requires.allowed

pub step-requires-clause-rests : goal.step-requires-clause-rests
step-requires-clause-rests g c = rests_still (state_of c.args.self.now.held) c.args.self.now.spent c.args.self.now.at_rest c.if-self.false c.args.self.now.rests

pub invariant_of-self-2 : goal.invariant_of-self-2
invariant_of-self-2 g c =
    let s = state_of c.args.self.now.held in
    let t = state_of c.step.new.held in
    let kind = c.args.self.now.kind in
    let shown = c.in_ok-shown-in-Some.shown in
    let errors = c.in_ok-errors.errors in
    let tells = tells_step kind s t shown.errors.items errors shown.asks_rebuild c.in_ok-shown-in-Some.ensures.state c.in_ok-errors.ensures in
    record { keeps = unspent_keeps s t c.args.self.now.spent false c.if-self.false c.args.self.now.keeps (step_kept kind s t errors shown.asks_rebuild tells); rests = rests_told t false shown.at_rest c.in_ok-shown-in-Some.ensures.rests }

pub returns-clause-state : goal.returns-clause-state
returns-clause-state g c =
    let shown = c.in_ok-shown-in-Some.shown in
    tells_step c.args.self.now.kind (state_of c.args.self.now.held) (state_of c.step.new.held) shown.errors.items c.in_ok-errors.errors shown.asks_rebuild c.in_ok-shown-in-Some.ensures.state c.in_ok-errors.ensures

pub returns-clause-settles : goal.returns-clause-settles
returns-clause-settles g c = λ t links still named stands.
    let s = state_of c.args.self.now.held in
    let u = state_of c.step.new.held in
    let shown = c.in_ok-shown-in-Some.shown in
    let errors = c.in_ok-errors.errors in
    let backed = subst (BackendStands g.B.Backend.backing g.B.Backend.fits t s.registrations) c.in-Some.is stands in
    steps_on t c.args.self.now.kind s u shown.errors.items errors shown.asks_rebuild (λ ok. g.D.DirCheck.agrees ok c.step.new.dirs) (StandsBy t u.registrations (g.B.Backend.backing c.step.new.back) (g.B.Backend.fits c.step.new.back t)) named (names_kept s c.args.self.now.spent c.if-self.false c.args.self.now.keeps) c.in_ok-errors.ensures
    (λ ok agreed readable sound. c.in_ok-shown-in-Some.ensures.calm t ok (record { links = links; still = still; stands = backed }) named agreed readable sound)
