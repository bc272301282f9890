use Rattle.wx_follow.proofs.EditLaws.{line_behind}
use Rattle.wx_follow.proofs.script_world.ScriptWorld.new.Goals as goal

pub invariant_of-result-clause-first : goal.invariant_of-result-clause-first
invariant_of-result-clause-first c = rw c.in_ok-told.ensures c.in_ok-ahead.ensures

pub invariant_of-result-clause-some : goal.invariant_of-result-clause-some
invariant_of-result-clause-some c = rw c.in_ok-edits.ensures (line_behind c.args.script.now.edits c.args.script.now.pending)

pub invariant_of-result-clause-come : goal.invariant_of-result-clause-come
invariant_of-result-clause-come c = rw c.in_ok-left.ensures c.requires.come

pub invariant_of-result-clause-rises : goal.invariant_of-result-clause-rises
invariant_of-result-clause-rises c = rw c.in_ok-left.ensures c.requires.rises
