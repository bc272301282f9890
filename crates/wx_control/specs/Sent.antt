-- What a sink of asks holds after a send.
use Rattle.std.specs.Prelude.{ℕ, ◌+◌, ◌-◌, ◌^◌, min, Option, None, Some, List, [], ◌∷◌, ◌++◌, Result, Ok, Err}
use Rattle.wx_control.specs.declared.id.Id.{Id}
use Rattle.wx_control.specs.declared.ask.Ask.{Ask}
use Rattle.wx_control.specs.declared.ticket.Ticket.{Ticket}
use Rattle.wx_control.specs.declared.sink.Refused.{Refused}
use Rattle.wx_control.specs.declared.sink.Refused.TheVariants.{Full, Memory}

-- what was asked, in order: a send that was taken stands at the end, a refused one nowhere
abbrev pub asked : Result Ticket Refused → Id → Ask → List (Id × Ask) → List (Id × Ask)
asked (Ok ticket) id ask before = before ++ (id, ask) ∷ []
asked (Err refusal) id ask before = before

-- one more, up to the greatest number of 64 bits
abbrev pub counted : ℕ → ℕ
counted n = min (n + 1) (2 ^ 64 - 1)

-- how often there was no room
abbrev pub refused_full : Result Ticket Refused → ℕ → ℕ
refused_full (Ok ticket) before = before
refused_full (Err Full) before = counted before
refused_full (Err Memory) before = before

-- how many sends were made, where they are counted
abbrev pub made_one : Option ℕ → Option ℕ
made_one None = None
made_one (Some before) = Some (counted before)

-- What contracts see of a sink: what was asked so far, in order; how many sends were made, where it counts them; how often
-- one was refused for want of room; what no send changes; and where the object lies that is lent to it.
pub record Sink (Rest : Type 0) : Type 0 where
  pub asks : List (Id × Ask)
  pub sends : Option ℕ
  pub fulls : ℕ
  pub rest : Rest
  pub place : List ℕ

-- a sink after one send that was answered so
abbrev pub sent : {Rest : Type 0} → Result Ticket Refused → Id → Ask → Sink Rest → Sink Rest
sent result id ask before = record { asks = asked result id ask before.asks; sends = made_one before.sends; fulls = refused_full result before.fulls; rest = before.rest; place = before.place }
