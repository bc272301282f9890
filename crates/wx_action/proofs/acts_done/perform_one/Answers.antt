use Rattle.std.proofs.Common.{arith}
use Rattle.wx_machine.proofs.SteadyLemmas.{only_none}
use Rattle.wx_action.proofs.PerformLemmas.{ask_first, does_ask}
use Rattle.wx_action.proofs.acts_done.perform_one.Goals as goal

pub ask_or_ignore-requires : goal.ask_or_ignore-requires
ask_or_ignore-requires g c =
    let o = c.requires.1.0 in
    (ask_first g.start c.args.journal.now.past c.in-Ask.job c.in-Ask.ask c.in-Ask.done o.0 o.1 o.2 (rw c.in-Ask.is at o.3), c.requires.1.1.stands)

pub returns-in-Ask-clause-does : goal.returns-in-Ask-clause-does
returns-in-Ask-clause-does g c = rw c.in-Ask.is (does_ask _ g.start c.in-Ask.job c.in-Ask.ask c.in-Ask.done _ _ c.ask_or_ignore.ensures.does)

pub returns-in-Ask-clause-performs : goal.returns-in-Ask-clause-performs
returns-in-Ask-clause-performs g c = let grows = c.ask_or_ignore.ensures.grows in record {
  ready = record { stands = grows.stands; room = record { in_journal = grows.room c.requires.1.1.room.in_journal; in_host = omega (arith, grows.end_kept, c.requires.1.1.room.in_host) } };
  adds = grows.adds;
  rest = only_none;
}

pub returns-in-Change-clause-performs : goal.returns-in-Change-clause-performs
returns-in-Change-clause-performs g c = let grows = c.change.ensures.grows in record {
  ready = record { stands = grows.stands; room = record { in_journal = grows.room c.requires.1.1.room.in_journal; in_host = omega (arith, grows.end_kept, c.requires.1.1.room.in_host) } };
  adds = grows.adds;
  rest = only_none;
}
