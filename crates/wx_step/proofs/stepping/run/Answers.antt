use Rattle.std.proofs.Common.{◌≡◌, ◌≤◌, false, true, length, arith, sym, ◌∙◌}
use Rattle.std.proofs.lemmas.Bool.{leb-true}
use Rattle.wx_holding.specs.Holding.{state_of}
use Rattle.wx_holding.proofs.Results.{ok_map}
use Rattle.wx_step.proofs.Acted.{steps_from}
use Rattle.wx_step.proofs.Calmed.{calm_first, firsts_sound, steps_calm, still_then}
use Rattle.wx_step.proofs.Raised.{raised_then}
use Rattle.wx_step.proofs.Rests.{first_stays}
use Rattle.wx_step.proofs.stepping.run.Goals as goal
use Rattle.wx_step.proofs.stepping.run.Goals.{then-at_rest, else-at_rest, then-leaves, else-leaves}

pub let_go-requires : goal.let_go-requires
let_go-requires g c = λ h.
    elim c.if-leaves.branch [
      | then-leaves w ↦ elim c.if-at_rest.branch [
        | then-at_rest v ↦
            let more = leb-true c.len-owners.result w.len.result (sym w.stays-is ∙ h) in
            let le : length c.args.held.now.owners ≤ length c.first.new.held.owners = omega (arith, more, w.len.ensures, c.len-owners.ensures) in
            first_stays (state_of c.args.held.now) (state_of c.first.new.held) (c.requires.rests v.if-at_rest.true) (sym v.leaves_guards-leaves.ensures ∙ (sym v.leaves-is ∙ w.if-leaves.true)) c.in_ok-first.ensures.state le
        | else-at_rest v ↦ (let x : true ≡ false = sym w.if-leaves.true ∙ (v.leaves-is ∙ v.if-at_rest.false) in absurd cc)
      ]
      | else-leaves w ↦ (let x : true ≡ false = sym h ∙ (w.stays-is ∙ w.if-leaves.false) in absurd cc)
    ]

pub returns-clause-state : goal.returns-clause-state
returns-clause-state g c = ok_map c.let_go.result _ _ (λ h. steps_from (state_of c.args.held.now) (state_of c.first.new.held) (state_of c.let_go.new.held) c.in_ok-first.ensures.state h) c.let_go.ensures.state

pub returns-clause-raised : goal.returns-clause-raised
returns-clause-raised g c = raised_then c.let_go.result c.args.held.now.queue.items _ _ _ c.in_ok-first.ensures.raised c.let_go.ensures.looked.looks

pub returns-clause-calm : goal.returns-clause-calm
returns-clause-calm g c = λ t ok calm named agreed readable sound.
    let first = calm_first t c.args.follow (g.S.Looks.looked c.args.scan.now) (g.S.Looks.looked c.first.new.scan) (g.S.Looks.looked c.let_go.new.scan) (state_of c.args.held.now).registrations (g.B.Backend.backing c.args.back.now) (g.B.Backend.fits c.args.back.now t) calm c.first.ensures.looked c.let_go.ensures.looked in
    let still = still_then t (g.S.Looks.looked c.args.scan.now) (g.S.Looks.looked c.first.new.scan) (g.S.Looks.looked c.let_go.new.scan) calm.still c.first.ensures.looked c.let_go.ensures.looked in
    let a = c.in_ok-first.ensures.calm t ok first named agreed readable in
    ok_map c.let_go.result _ _
    (λ h. (steps_calm t ok (state_of c.args.held.now) (state_of c.first.new.held) (state_of c.let_go.new.held) a.0 h.0, h.1))
    (c.let_go.ensures.calm t still a.1 (firsts_sound t ok (state_of c.args.held.now) (state_of c.first.new.held) a.0 sound))
