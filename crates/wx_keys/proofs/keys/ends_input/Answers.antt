use Rattle.std.proofs.Common.{◌≡◌, true, false, sym, ◌∙◌, arith}
use Rattle.std.proofs.lemmas.Grind.{common_steps}
use Rattle.wx_keys.specs.Keys.{ends_input}
use Rattle.wx_keys.proofs.ReadLaws.{read_ends}
use Rattle.wx_keys.proofs.keys.ends_input.Goals as goal

pub returns-in-3-clause-keys : goal.returns-in-3-clause-keys
returns-in-3-clause-keys c = let ends : true ≡ ends_input c.args.bytes.now = grind (arith, common_steps) in ends ∙ sym (read_ends c.args.bytes.now)

pub returns-clause-keys : goal.returns-clause-keys
returns-clause-keys c = let ends : false ≡ ends_input c.args.bytes.now = grind (arith, common_steps) in ends ∙ sym (read_ends c.args.bytes.now)
