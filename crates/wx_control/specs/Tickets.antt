-- Tickets.
use Rattle.std.specs.Prelude.{Bool, ◌||◌}
use Rattle.wx_control.specs.Flags.{Flag}
use Rattle.wx_control.specs.declared.ticket.Ticket.{Ticket}

-- one of its flags was seen raised
abbrev pub is_seen : Ticket → Bool
is_seen t = t.gone.seen || t.done.seen

-- the ticket whose flags are both this one
abbrev pub twice : Flag → Ticket
twice flag = record { gone = flag; done = flag }
