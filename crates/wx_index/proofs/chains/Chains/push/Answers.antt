use Rattle.std.proofs.Common.{arith}
use Rattle.wx_index.proofs.ChainLemmas.{pushed}
use Rattle.wx_index.proofs.chains.Chains.push.Goals as goal

pub returns : goal.returns
returns c = λ keys is. pushed keys c.args.key c.args.self.now.heads c.insert.new.self c.args.self.now.before.items c.push.new.self.items c.end-end.result c.len-len.result
    c.end-end.ensures c.in_ok-push.ensures.items (omega arith) c.in_ok-insert.ensures.updates is
