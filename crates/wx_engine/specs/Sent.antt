-- Why an engine refuses an event.
use Rattle.std.specs.Prelude.{◌≡◌, length}
use Rattle.wx_events.specs.declared.event.Event.{Event}
use Rattle.wx_events.specs.declared.priority.Priority.{Priority}
use Rattle.wx_machine.specs.Start.{Start}
use Rattle.wx_engine.specs.declared.watchexec.SendRefused.{SendRefused}
use Rattle.wx_engine.specs.declared.watchexec.SendRefused.TheVariants.{Full, Memory}

-- the queue has as many events as its size, and this one is handed back; or there was no memory
abbrev pub Refuses : Start → Event → Priority → SendRefused → Type 0
Refuses s event priority (Full e p) = (length s.events ≡ s.config.event_channel_size) × (e ≡ event) × (p ≡ priority)
Refuses s event priority Memory = Unit {0}
