-- Why a queue refuses a pair.
use Rattle.std.specs.Prelude.{◌≡◌, true}
use Rattle.wx_events.specs.declared.priority.Priority.{Priority}
use Rattle.prio_channel.specs.declared.queue.TrySendError.{TrySendError}
use Rattle.prio_channel.specs.declared.queue.TrySendError.TheVariants.{Closed, Full}
use Rattle.prio_channel.specs.Channel.{Channel, IsFull}

-- the error hands this pair back, and says why the queue refused it
abbrev pub Refuses : {T : Type 0} → Channel T → T → Priority → TrySendError T → Type 0
Refuses channel value priority (Closed v p) = (channel.closed ≡ true) × (v ≡ value) × (p ≡ priority)
Refuses channel value priority (Full v p) = IsFull channel × (v ≡ value) × (p ≡ priority)
