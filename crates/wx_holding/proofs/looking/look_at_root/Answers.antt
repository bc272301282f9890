use Rattle.std.proofs.Common.{◌≡◌, true, false, ap, sym, ◌∙◌, subst}
use Rattle.wx_scan.specs.Looked.{Looked, OnlyLooks}
use Rattle.wx_holding.proofs.StillLooks.{root_unbroken}
use Rattle.wx_holding.proofs.looking.look_at_root.Goals.{then-not-follow+in_ok-found+in_default, else-not-follow}
use Rattle.wx_holding.proofs.looking.look_at_root.Goals as goal
use Rattle.wx_holding.proofs.StandingBy.{still_before, still_after}

pub returns-clause-told : goal.returns-clause-told
returns-clause-told g c t no_links still names =
    elim c.if-not-follow.branch [
      | then-not-follow+in_ok-found+in_default w ↦
          (let a : Looked = g.S.Looks.looked c.args.scan.now in
          let b : Looked = g.S.Looks.looked c.if-not-follow.scan in
          let m : Looked = g.S.Looks.looked w.find_break.new.scan in
          let d : Looked = g.S.Looks.looked c.look_here.new.scan in
          let same : b ≡ m = ap g.S.Looks.looked w.scan-is in
          let later : OnlyLooks m d = subst (λ x. OnlyLooks x d) same c.look_here.ensures.looked in
          let before : OnlyLooks a b = subst (λ x. OnlyLooks a x) (sym same) w.in_ok-found.ensures.looked in
          let found = w.in_ok-found.ensures.told t (still_before t a m d later still) names in
          root_unbroken t c.args.path.now c.look_here.result (sym w.in_default.is ∙ found) names (c.look_here.ensures.told t no_links (still_after t a b d before still)))
      | else-not-follow w ↦ (let z : true ≡ false = sym w.if-not-follow.false ∙ no_links in cc)
    ]
