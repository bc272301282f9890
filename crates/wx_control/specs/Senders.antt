-- What the senders of a job leave of a sink of asks, and what they answer.
use Rattle.std.specs.Prelude.{◌≡◌, true, if◌then◌else◌, Result, Ok, Err}
use Rattle.wx_control.specs.Flags.{Flag}
use Rattle.wx_control.specs.Tickets.{twice}
use Rattle.wx_control.specs.Sent.{Sink, sent}
use Rattle.wx_control.specs.declared.ask.Ask.{Ask}
use Rattle.wx_control.specs.declared.job.Job.{Job}
use Rattle.wx_control.specs.declared.sink.Refused.{Refused}
use Rattle.wx_control.specs.declared.sink.Refused.TheVariants.{Memory}
use Rattle.wx_control.specs.declared.ticket.Ticket.{Ticket}

-- what a sink holds then: what it held, where the handle saw its job gone, and else that with one send more
abbrev pub sent_by : {Rest : Type 0} → Job → Result Ticket Refused → Ask → Sink Rest → Sink Rest
sent_by job result ask before = if job.gone.seen then before else sent result job.id ask before

-- the ticket whose flags are both this one, or want of memory
abbrev pub IsOver : Flag → Result Ticket Refused → Type 0
IsOver gone (Ok ticket) = ticket ≡ twice gone
IsOver gone (Err refusal) = refusal ≡ Memory

-- A sender of this job was called to ask this, and answered so. A handle that saw its job gone sends nothing, and answers the
-- ticket of a gone job, but for want of memory. Every other makes one send of the sink, which answered so.
pub record Asks {Rest : Type 0} (job : Job) (ask : Ask) (result : Result Ticket Refused) (before after : Sink Rest) : Type 0 where
  pub sink : after ≡ sent_by job result ask before
  pub resolved : job.gone.seen ≡ true → IsOver job.gone result
