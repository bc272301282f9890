use Rattle.std.proofs.Common.{arith, sym, ◌∙◌}
use Rattle.std.proofs.lemmas.Bool.{eqb-true}
use Rattle.std.proofs.lemmas.Bool.Decides.{nat_tests}
use Rattle.wx_script.proofs.ScanLemmas.{begins, goes_on, stops, ends, unfinished}
use Rattle.wx_script.proofs.reading.scan_into.Goals as goal

pub loop-line-init : goal.loop-line-init
loop-line-init c = record { begun = rw c.requires (begins c.args.bytes.now); small = omega arith }

pub returns-then-not-branch : goal.returns-then-not-branch
returns-then-not-branch c = stops _ c.loop-line.rest.now c.in-Some.line.now c.in-Some.after.now c.loop-line.number c.loop-line.script c.loop-line.invariant.begun c.in-Some.ensures.parts (rw c.if-not-branch.true at c.in_ok-add_line.ensures)

pub loop-line-preserved : goal.loop-line-preserved
loop-line-preserved c = record {
  begun = goes_on _ c.loop-line.rest.now c.in-Some.line.now c.in-Some.after.now c.loop-line.number c.loop-line.script c.add_line.new.script c.loop-line.invariant.begun c.in-Some.ensures.parts (rw c.if-not-branch.false at c.in_ok-add_line.ensures);
  small = omega (arith, c.in-Some.ensures.shorter);
}

pub returns-then-is_empty : goal.returns-then-is_empty
returns-then-is_empty c = ends _ c.loop-line.rest.now c.loop-line.number c.loop-line.script c.loop-line.invariant.begun c.in_default.ensures.parts (eqb-true _ _ (sym c.is_empty.ensures ∙ c.if-is_empty.true))

pub returns-else-is_empty : goal.returns-else-is_empty
returns-else-is_empty c = unfinished _ c.loop-line.rest.now c.loop-line.number c.loop-line.script c.loop-line.invariant.begun c.in_default.ensures.parts (grind (arith, nat_tests))
