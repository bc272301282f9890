use Rattle.std.proofs.Common.{◌≡◌, ◌++◌, true, false, arith, drop}
use Rattle.std.proofs.lemmas.Grind.{common_steps}
use Rattle.wx_recursor.specs.Calls.{each_once}
use Rattle.wx_recursor.specs.Owners.{has_path}
use Rattle.wx_topology.proofs.Standing.{once_again, once_new, once_pushed}
use Rattle.wx_topology.proofs.aliases.each_once.Goals as goal

pub loop-rest-preserved-in_ok-push : goal.loop-rest-preserved-in_ok-push
loop-rest-preserved-in_ok-push c =
    let k : has_path c.first-item.result (drop 1 c.loop-rest.rest.now) ≡ false = grind (arith, common_steps) in
    let e : c.push.new.self.items ++ each_once (drop 1 c.loop-rest.rest.now) ≡ each_once c.args.paths.now =
    once_pushed c.loop-rest.out.items c.push.new.self.items c.loop-rest.rest.now (each_once (drop 1 c.loop-rest.rest.now)) (each_once c.args.paths.now) c.first-item.result c.in_ok-copy.field-0 c.loop-rest.invariant c.in_ok-push.ensures.items c.in_ok-copy.ensures
    (once_new c.first-item.result c.loop-rest.rest.now c.in-len1-up.len_at_least c.first-item.is k) in
    grind (arith, common_steps)

pub loop-rest-preserved : goal.loop-rest-preserved
loop-rest-preserved c =
    let k : has_path c.first-item.result (drop 1 c.loop-rest.rest.now) ≡ true = grind (arith, common_steps) in
    let e : each_once (drop 1 c.loop-rest.rest.now) ≡ each_once c.loop-rest.rest.now = once_again c.first-item.result c.loop-rest.rest.now c.in-len1-up.len_at_least c.first-item.is k in
    grind (arith, common_steps)
