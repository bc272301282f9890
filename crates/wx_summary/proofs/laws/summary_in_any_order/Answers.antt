-- The events are the same in each order.
use Rattle.wx_summary.proofs.OrderLemmas.{order_is_open}
use Rattle.wx_summary.proofs.laws.summary_in_any_order.Goals as goal

pub returns : goal.returns
returns c = order_is_open
