use Rattle.std.proofs.Common.{refl}
use Rattle.wx_file_turns.proofs.Applied.{refreshed}
use Rattle.wx_file_turns.proofs.files.Files.refresh.Goals as goal

pub returns-in-Some-clause-stands : goal.returns-in-Some-clause-stands
returns-in-Some-clause-stands g c start past behind is = refreshed start c.args.self.now _ _ c.refresh.new.self past c.args.config.now c.refresh.result behind is c.requires c.in-Some.is refl c.refresh.ensures.watches

pub returns-in-Some-clause-refreshed : goal.returns-in-Some-clause-refreshed
returns-in-Some-clause-refreshed g c = rw c.in-Some.is (record { refreshes = c.refresh.ensures.refreshes; backend = c.refresh.ensures.others.0; links = c.refresh.ensures.others.1; folder = c.refresh.ensures.others.2 })

pub returns-in-None-clause-refreshed : goal.returns-in-None-clause-refreshed
returns-in-None-clause-refreshed g c = rw c.in-None.is tt
