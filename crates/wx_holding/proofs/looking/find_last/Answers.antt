use Rattle.std.proofs.Common.{ℕ, arith, refl, ◌-◌, ◌∙◌}
use Rattle.wx_tree.specs.Paths.{Path}
use Rattle.wx_scan.specs.Looked.{Looked}
use Rattle.wx_scan.proofs.LookLemmas.{more_looks}
use Rattle.wx_holding.proofs.Watching.{rose_sooner}
use Rattle.wx_holding.proofs.StillLooks.{finds_above, last_ends, last_goes_on}
use Rattle.wx_holding.proofs.looking.find_last.Goals as goal
use Rattle.wx_holding.proofs.StandingBy.{still_before}

pub returns-in-Absent-clause-told : goal.returns-in-Absent-clause-told
returns-in-Absent-clause-told g c t still names =
    let p : Path = c.args.path.now in
    let n : ℕ = c.loop-level.level in
    let above : Path = c.in_ok-above.above in
    let a : Looked = g.S.Looks.looked c.args.scan.now in
    let b : Looked = g.S.Looks.looked c.loop-level.scan in
    let d : Looked = g.S.Looks.looked c.look.new.scan in
    let last = c.loop-level.invariant.told t (still_before t a b d c.in_ok-canonical.ensures.looked still) names in
    let looked = finds_above t n p above c.in_ok-canonical.field-0 a b d c.loop-level.invariant.looked c.in_ok-above.ensures last.way still names (c.in_ok-canonical.ensures.told t refl) in
    last_ends t n p above c.loop-level.found c.in_ok-canonical.field-0 (omega (arith, c.loop-level-test.true)) c.in_ok-above.ensures looked c.in-Absent.is last

pub loop-level-preserved : goal.loop-level-preserved
loop-level-preserved g c =
    let p : Path = c.args.path.now in
    let n : ℕ = c.loop-level.level in
    let above : Path = c.in_ok-above.above in
    let a : Looked = g.S.Looks.looked c.args.scan.now in
    let b : Looked = g.S.Looks.looked c.loop-level.scan in
    let d : Looked = g.S.Looks.looked c.look.new.scan in
    record {
      looked = more_looks a b d c.loop-level.invariant.looked c.in_ok-canonical.ensures.looked;
      rest = c.in_ok-canonical.ensures.rest ∙ c.loop-level.invariant.rest;
      place = c.in_ok-canonical.ensures.place ∙ c.loop-level.invariant.place;
      within = omega (arith, c.loop-level.invariant.within);
      raised = λ _. rose_sooner a.looks b.looks d.looks c.loop-level.invariant.looked.looks c.in_ok-canonical.ensures.raised;
      top = λ empty. absurd (omega (arith, empty, c.loop-level-test.true, c.loop-level.invariant.within));
      told = λ t still names.
          (let last = c.loop-level.invariant.told t (still_before t a b d c.in_ok-canonical.ensures.looked still) names in
          let looked = finds_above t n p above c.in_ok-canonical.field-0 a b d c.loop-level.invariant.looked c.in_ok-above.ensures last.way still names (c.in_ok-canonical.ensures.told t refl) in
          last_goes_on t n (n - 1) p above c.in-Directory.canonical c.loop-level.found c.in_ok-canonical.field-0 (omega (arith, c.loop-level-test.true)) c.loop-level.invariant.within c.in_ok-above.ensures looked c.in-Directory.is last);
    }
