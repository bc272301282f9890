use Rattle.std.proofs.Common.{arith}
use Rattle.std.proofs.lemmas.List.{length-reverse}
use Rattle.wx_journal.proofs.journal.Journal.spare.Goals as goal

pub returns-clause-fits : goal.returns-clause-fits
returns-clause-fits c =
    let entries = c.self.inside.entries in
    rw (← c.self.view_is) (omega (arith, entries.ok.0, entries.small, length-reverse entries.items, c.self.invariant.2))
