use Rattle.std.proofs.Common.{ℕ, arith, refl, ◌-◌, ◌∙◌}
use Rattle.wx_tree.specs.Paths.{Path}
use Rattle.wx_scan.specs.Looked.{Looked}
use Rattle.wx_scan.proofs.LookLemmas.{more_looks}
use Rattle.wx_holding.proofs.StillLooks.{breaks_absent, breaks_barred, finds_above, never_broken, way_goes_on}
use Rattle.wx_holding.proofs.looking.find_break.Goals as goal
use Rattle.wx_holding.proofs.StandingBy.{still_before}

pub returns-in-Absent-clause-told : goal.returns-in-Absent-clause-told
returns-in-Absent-clause-told g c t still names =
    let p : Path = c.args.path.now in
    let n : ℕ = c.loop-level.level in
    let above : Path = c.in_ok-above.above in
    let a : Looked = g.S.Looks.looked c.args.scan.now in
    let b : Looked = g.S.Looks.looked c.loop-level.scan in
    let d : Looked = g.S.Looks.looked c.look.new.scan in
    let way = c.loop-level.invariant.told t (still_before t a b d c.in_ok-look.ensures.looked still) names in
    let looked = finds_above t n p above c.in_ok-look.field-0 a b d c.loop-level.invariant.looked c.in_ok-above.ensures way still names (c.in_ok-look.ensures.told t refl) in
    breaks_absent t n p above c.in_ok-look.field-0 (omega (arith, c.loop-level-test.true)) c.loop-level.invariant.within c.in_ok-above.ensures looked c.in-Absent.is way

pub returns-in-Linked-clause-told : goal.returns-in-Linked-clause-told
returns-in-Linked-clause-told g c t still names =
    let p : Path = c.args.path.now in
    let n : ℕ = c.loop-level.level in
    let above : Path = c.in_ok-above.above in
    let a : Looked = g.S.Looks.looked c.args.scan.now in
    let b : Looked = g.S.Looks.looked c.loop-level.scan in
    let d : Looked = g.S.Looks.looked c.look.new.scan in
    let way = c.loop-level.invariant.told t (still_before t a b d c.in_ok-look.ensures.looked still) names in
    let looked = finds_above t n p above c.in_ok-look.field-0 a b d c.loop-level.invariant.looked c.in_ok-above.ensures way still names (c.in_ok-look.ensures.told t refl) in
    breaks_barred t n p above c.in_ok-look.field-0 (omega (arith, c.loop-level-test.true)) c.loop-level.invariant.within c.in_ok-above.ensures looked c.in-Linked.is way

pub returns-in-Broken-clause-told : goal.returns-in-Broken-clause-told
returns-in-Broken-clause-told g c t still names =
    let p : Path = c.args.path.now in
    let n : ℕ = c.loop-level.level in
    let above : Path = c.in_ok-above.above in
    let a : Looked = g.S.Looks.looked c.args.scan.now in
    let b : Looked = g.S.Looks.looked c.loop-level.scan in
    let d : Looked = g.S.Looks.looked c.look.new.scan in
    let way = c.loop-level.invariant.told t (still_before t a b d c.in_ok-look.ensures.looked still) names in
    let looked = finds_above t n p above c.in_ok-look.field-0 a b d c.loop-level.invariant.looked c.in_ok-above.ensures way still names (c.in_ok-look.ensures.told t refl) in
    never_broken t above c.in-Broken.code c.in_ok-look.field-0 _ looked c.in-Broken.is

pub loop-level-preserved : goal.loop-level-preserved
loop-level-preserved g c =
    let p : Path = c.args.path.now in
    let n : ℕ = c.loop-level.level in
    let above : Path = c.in_ok-above.above in
    let a : Looked = g.S.Looks.looked c.args.scan.now in
    let b : Looked = g.S.Looks.looked c.loop-level.scan in
    let d : Looked = g.S.Looks.looked c.look.new.scan in
    record {
      looked = more_looks a b d c.loop-level.invariant.looked c.in_ok-look.ensures.looked;
      rest = c.in_ok-look.ensures.rest ∙ c.loop-level.invariant.rest;
      place = c.in_ok-look.ensures.place ∙ c.loop-level.invariant.place;
      within = omega (arith, c.loop-level.invariant.within);
      told = λ t still names.
          (let way = c.loop-level.invariant.told t (still_before t a b d c.in_ok-look.ensures.looked still) names in
          let looked = finds_above t n p above c.in_ok-look.field-0 a b d c.loop-level.invariant.looked c.in_ok-above.ensures way still names (c.in_ok-look.ensures.told t refl) in
          way_goes_on t n (n - 1) p above c.in-Directory.field-0 c.in_ok-look.field-0 (omega (arith, c.loop-level-test.true)) c.loop-level.invariant.within c.in_ok-above.ensures looked c.in-Directory.is way);
    }
