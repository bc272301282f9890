use Rattle.std.proofs.Common.{◌∙◌, sym}
use Rattle.wx_mem_tree.proofs.Placed.{placed_none, read_none, read_some}
use Rattle.wx_mem_tree.proofs.entry.found_at.Goals as goal

pub returns-in-Some-clause-none : goal.returns-in-Some-clause-none
returns-in-Some-clause-none c = read_none c.args.path.now c.args.entries.now c.in-Some.at c.get.result (sym c.in_ok-at.ensures ∙ c.in-Some.is) (rw c.entries.view_is at c.get.ensures.lookup)

pub returns-in-Some-clause-some : goal.returns-in-Some-clause-some
returns-in-Some-clause-some c = read_some c.args.path.now c.args.entries.now c.in-Some.at c.get.result (sym c.in_ok-at.ensures ∙ c.in-Some.is) (rw c.entries.view_is at c.get.ensures.lookup)

pub returns-in-None-clause-none : goal.returns-in-None-clause-none
returns-in-None-clause-none c = placed_none c.args.path.now c.args.entries.now (sym c.in_ok-at.ensures ∙ c.in-None.is)
