use Rattle.wx_flood.proofs.FloodLaws.{lawful}
use Rattle.wx_flood.proofs.script.flood_script.Goals as goal

pub returns-clause-lawful : goal.returns-clause-lawful
returns-clause-lawful c = lawful c.loop.counter c.args.steps c.args.seed c.loop.flood c.loop.invariant.so_far
