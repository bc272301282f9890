-- What handles send.
use Rattle.std.specs.Prelude.{ℕ, Result, Ok, Err, None, List, [], ◌∷◌}
use Rattle.atomic_table.specs.Seated.{TableId}
use Rattle.wx_control.specs.declared.id.Id.{Id}
use Rattle.wx_control.specs.declared.ask.Ask.{Ask}
use Rattle.wx_control.specs.declared.sink.Refused.{Refused}
use Rattle.wx_control.specs.declared.sink.Refused.TheVariants.{Full, Memory}
use Rattle.wx_control.specs.Sent.{Sink, counted}
use Rattle.wx_queue.specs.Ends.{SendingEnd}
use Rattle.wx_queue.specs.declared.parcel.Sent.{Sent}
use Rattle.wx_pass.specs.declared.item.Item.{Item}
use Rattle.wx_pass.specs.declared.item.Item.TheVariants.{Ask as AnAsk, Keys}

-- the number of a handle and what it sent, and how often the queue was full
pub record Handle : Type 0 where
  pub pass : SendingEnd Item
  pub fulls : ℕ

-- what no send changes of a handle
pub record HandleRest : Type 0 where
  pub number : ℕ
  pub queue : TableId

abbrev pub with_ask : Item → List (Id × Ask) → List (Id × Ask)
with_ask (AnAsk id ask) asks = (id, ask) ∷ asks
with_ask (Keys bytes) asks = asks

-- the asks among these
abbrev pub asks_of : List (Sent Item) → List (Id × Ask)
asks_of [] = []
asks_of (s ∷ sent) = with_ask s.item (asks_of sent)

abbrev pub sink_of : Handle → Sink HandleRest
sink_of h = record { asks = asks_of h.pass.sent; sends = None; fulls = h.fulls; rest = record { number = h.pass.number; queue = h.pass.queue }; place = [] }

-- how often the queue was full, after a send that was answered so
abbrev pub fulls_after : {X : Type 0} → Result X Refused → ℕ → ℕ
fulls_after (Ok x) n = n
fulls_after (Err Full) n = counted n
fulls_after (Err Memory) n = n
