use Rattle.wx_holding.specs.Holding.{state_of}
use Rattle.wx_rebuild.proofs.Prepared.{prepared_from}
use Rattle.wx_rebuild.proofs.preparing.prepare.Goals as goal

pub returns : goal.returns
returns c =
    prepared_from (state_of c.args.held.now) (state_of c.forget_left_out.new.held) (state_of c.set_waiting.new.held) (state_of c.drop_backend.new.held) (state_of c.uphold.new.held)
    c.forget_left_out.ensures c.in_ok-set_waiting.ensures c.drop_backend.ensures c.uphold.ensures
