use Rattle.wx_mem_tree.proofs.Listed.{added_path, no_path}
use Rattle.wx_mem_tree.proofs.entry.push_path.Goals as goal

pub returns-in_ok-path-in-Some : goal.returns-in_ok-path-in-Some
returns-in_ok-path-in-Some c = added_path c.push.result c.args.entries.now c.args.at c.in-Some.entry _ c.args.out.now c.push.new.self c.in-Some.ensures.lookup c.in_ok-path-in-Some.ensures.spelled c.push.ensures.ok

pub returns-in-None : goal.returns-in-None
returns-in-None c = no_path c.args.entries.now c.args.at c.args.out.now c.in-None.ensures.lookup
