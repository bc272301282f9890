-- What contracts see of the two ends of a queue.
use Rattle.std.specs.Prelude.{ℕ, List}
use Rattle.atomic_table.specs.Seated.{TableId}
use Rattle.wx_queue.specs.declared.parcel.Sent.{Sent}

-- of the end that takes: all that it was given, how many more that has room for, how many passes it made, how many items
-- the queue holds at most, and which queue it is
pub record TakingEnd (I : Type 0) : Type 0 where
  pub given : List (Sent I)
  pub room : ℕ
  pub made : ℕ
  pub size : ℕ
  pub queue : TableId

-- of a pass: its number, all that it sent, and of which queue it is
pub record SendingEnd (I : Type 0) : Type 0 where
  pub number : ℕ
  pub sent : List (Sent I)
  pub queue : TableId

-- the item that a pass sent so far down its list
abbrev pub sent_item : {I : Type 0} → ℕ → ℕ → I → Sent I
sent_item pass seq item = record { pass = pass; seq = seq; item = item }

-- a pass's number, and what it sent
abbrev pub entry : {I : Type 0} → SendingEnd I → ℕ × List (Sent I)
entry p = (p.number, p.sent)
