-- What a backend does that is asked in a turn.
use Rattle.std.specs.Prelude.{◌≡◌, ◌≤◌, ◌<◌, ℕ, true, false, Option, None, Result, length}
use Rattle.wx_notify.specs.declared.notify.Notify.{Notify}
use Rattle.wx_watch.specs.declared.notify_fault.NotifyFault.{NotifyFault}
use Rattle.wx_poller.specs.Polled.{Brought}
use Rattle.wx_poller.specs.declared.poller.Poller.{Poller}
use Rattle.wx_paced.specs.Pace.{due_after, pends}
use Rattle.wx_paced.specs.declared.paced.PacedPoller.{PacedPoller}
use Rattle.wx_hooks.specs.Given.{IsAnswered}

-- this was brought, and answered, or want of memory in its place
abbrev pub BringsTo : Option (Result Notify NotifyFault) → Poller → Poller → Type 0
BringsTo result a b = (next : Option (Result Notify NotifyFault)) × IsAnswered next result × Brought next a b

-- A backend was asked at this moment what it brings next. What pends is brought at once. Where nothing pends and it isn't due yet, nothing
-- happens. Where it is due it lists anew, and is due again when its pace, by what it listed, says so.
pub record IsAsked (at : ℕ) (result : Option (Result Notify NotifyFault)) (a b : PacedPoller) : Type 0 where
  pub moment : b.moment ≡ at
  pub gives : pends a.poller ≡ true → BringsTo result a.poller b.poller × (b.due ≡ a.due)
  pub waits : pends a.poller ≡ false → at < a.due → (result ≡ None) × (b.poller ≡ a.poller) × (b.due ≡ a.due)
  pub lists : pends a.poller ≡ false → a.due ≤ at → BringsTo result a.poller b.poller × (b.due ≡ due_after at (length b.poller.listing.entries))
