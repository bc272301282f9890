use Rattle.std.proofs.Common.{arith, refl, ◌∙◌}
use Rattle.std.proofs.lemmas.Grind.{common_steps}
use Rattle.wx_poller.proofs.Fits.{last_gone}
use Rattle.wx_poller.proofs.poller.register_new.Goals as goal

pub returns-in-Err-clause-unregistered : goal.returns-in-Err-clause-unregistered
returns-in-Err-clause-unregistered c = c.in-Err.ensures.err

pub returns-in-Err-clause-unlisted : goal.returns-in-Err-clause-unlisted
returns-in-Err-clause-unlisted c = λ p. refl

pub returns-in-Ok-put_new-clause-registered : goal.returns-in-Ok-put_new-clause-registered
returns-in-Ok-put_new-clause-registered c = c.in-Ok.ensures.ok

pub returns-in-Ok-put_new-clause-listing : goal.returns-in-Ok-put_new-clause-listing
returns-in-Ok-put_new-clause-listing c = c.in-Ok-put_new.ensures.ok

pub returns-in-Err-put_new-clause-unregistered : goal.returns-in-Err-put_new-clause-unregistered
returns-in-Err-put_new-clause-unregistered c = last_gone c.args.registered.now.items _ _ c.pop.result c.args.path.now _ c.in-Ok.ensures.ok c.add.new.registered.ok.0 c.pop.ensures.rest

pub returns-in-Err-put_new-clause-unlisted : goal.returns-in-Err-put_new-clause-unlisted
returns-in-Err-put_new-clause-unlisted c = c.in-Err-put_new.ensures.err
