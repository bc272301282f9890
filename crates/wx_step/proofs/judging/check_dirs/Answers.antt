use Rattle.std.proofs.Common.{arith, refl, sym, ◌∙◌, subst}
use Rattle.wx_tree.specs.Lists.{In}
use Rattle.wx_tree.proofs.PathLemmas.{holds-length}
use Rattle.wx_step.proofs.Judged.{accepted, asks_below, passes_root, rejected}
use Rattle.wx_step.proofs.judging.check_dirs.Goals as goal

pub check_dir-requires : goal.check_dir-requires
check_dir-requires g c =
    asks_below (g.D.DirCheck.under c.loop-level.dirs) c.args.root.now.path c.args.path.now c.in_ok-below.below c.in_ok-spelled.spelled _
    (subst (λ u. In c.args.root.now.path u) (sym c.loop-level.invariant.under) c.requires.under) c.requires.holds c.in_ok-below.ensures c.in_ok-spelled.ensures.back (omega (arith, c.loop-level.invariant.within))

pub loop-level-init : goal.loop-level-init
loop-level-init g c =
    let le = holds-length c.args.root.now.path c.args.path.now c.requires.holds in
    record {
      under = refl;
      place = refl;
      kept = λ b h. h;
      agrees = λ ok h. h;
      judged = λ ok h. passes_root ok c.args.root.now c.args.path.now c.saturating_sub-level.result c.requires.holds (omega (arith, le, c.saturating_sub-level.ensures, c.depth.ensures, c.depth-2.ensures));
      identity = refl;
      within = λ h. omega (arith, le, c.saturating_sub-level.ensures, c.depth.ensures, c.depth-2.ensures);
    }

pub loop-level-preserved : goal.loop-level-preserved
loop-level-preserved g c = record {
  under = c.check_dir.ensures.under ∙ c.loop-level.invariant.under;
  place = c.check_dir.ensures.place ∙ c.loop-level.invariant.place;
  kept = λ b h. c.check_dir.ensures.kept b (c.loop-level.invariant.kept b h);
  agrees = λ ok h. c.loop-level.invariant.agrees ok (c.in-Ok-true.ensures.agrees ok h).0;
  judged = λ ok h.
      let a = c.in-Ok-true.ensures.agrees ok h in
      accepted ok c.args.root.now c.args.path.now c.in_ok-below.below c.in_ok-spelled.spelled _ c.loop-level.level c.in_ok-below.ensures c.in_ok-spelled.ensures.back
      (omega (arith, c.loop-level.invariant.within)) (omega arith) (sym c.in-Ok-true.field-0-test ∙ a.1) (c.loop-level.invariant.judged ok a.0);
  identity = c.loop-level.invariant.identity;
  within = λ h. omega (arith, c.loop-level.invariant.within);
}

pub returns-in-Ok-false-clause-judged : goal.returns-in-Ok-false-clause-judged
returns-in-Ok-false-clause-judged g c = λ ok h.
    rejected ok c.args.root.now c.args.path.now c.in_ok-below.below c.args.identity c.in_ok-spelled.spelled _ c.in_ok-below.ensures c.in_ok-spelled.ensures.back
    (omega (arith, c.loop-level.invariant.within)) (sym c.in-Ok-false.field-0-test ∙ (c.in-Ok-false.ensures.agrees ok h).1)
