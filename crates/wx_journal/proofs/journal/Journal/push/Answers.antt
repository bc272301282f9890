use Rattle.wx_journal.proofs.CountLaws.{few_tickets, few_children, few_backs, few_items}
use Rattle.wx_journal.proofs.journal.Journal.push.Goals as goal

pub counted-self-inside-requires : goal.counted-self-inside-requires
counted-self-inside-requires c = rw c.as_slice.ensures.value (few_tickets _ _ _ _ _ _ _ c.self.invariant.0)

pub counted-self-inside-requires-2 : goal.counted-self-inside-requires-2
counted-self-inside-requires-2 c = rw c.as_slice-2.ensures.value (few_children _ _ _ _ _ _ _ c.self.invariant.0)

pub counted-self-inside-requires-3 : goal.counted-self-inside-requires-3
counted-self-inside-requires-3 c = rw c.as_slice-3.ensures.value (few_backs _ _ _ _ _ _ _ c.self.invariant.0)

pub counted-self-inside-requires-4 : goal.counted-self-inside-requires-4
counted-self-inside-requires-4 c = rw c.as_slice-4.ensures.value (few_items _ _ _ _ _ _ _ c.self.invariant.0)
