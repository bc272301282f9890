use Rattle.std.proofs.Common.{arith}
use Rattle.wx_mem_tree.proofs.Found.{no_link_there, no_link_here}
use Rattle.wx_mem_tree.proofs.links.link_level.Goals as goal

pub returns-then-branch-clause-none : goal.returns-then-branch-clause-none
returns-then-branch-clause-none c = λ h.
    absurd (no_link_there c.args.entries.now c.args.path.now c.in_ok-up.field-0 c.loop-level.level c.args.with_last c.in_ok-is_link.field-0 h (omega (arith, c.loop-level-test.true)) c.loop-level.invariant c.in_ok-up.ensures c.in_ok-is_link.ensures c.if-branch.true)

pub returns-then-branch-2-clause-none : goal.returns-then-branch-2-clause-none
returns-then-branch-2-clause-none c = λ h.
    absurd (no_link_here c.args.entries.now c.args.path.now c.args.with_last c.in_ok-is_link-2.field-0 h c.if-with_last.true c.in_ok-is_link-2.ensures c.if-branch-2.true)
