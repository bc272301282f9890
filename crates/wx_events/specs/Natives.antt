-- The numbers of signals on the system.
use Rattle.std.specs.Prelude.{Bool, ◌&&◌, if◌then◌else◌, ℤ, pos, int_le, Option, None, Some}
use Rattle.wx_events.specs.declared.process.Signal.{Signal}
use Rattle.wx_events.specs.declared.process.Signal.TheVariants.{Hangup, ForceStop, Interrupt, Quit, Terminate, User1, User2, Continue, TerminalSuspend, Custom}

-- from 1 to 31
abbrev pub is_native : ℤ → Bool
is_native n = int_le (pos 1) n && int_le n (pos 31)

-- the number of a signal; one by its number has none where that is not from 1 to 31
abbrev pub native : Signal → Option ℤ
native Hangup = Some (pos 1)
native Interrupt = Some (pos 2)
native Quit = Some (pos 3)
native ForceStop = Some (pos 9)
native User1 = Some (pos 10)
native User2 = Some (pos 12)
native Terminate = Some (pos 15)
native Continue = Some (pos 18)
native TerminalSuspend = Some (pos 20)
native (Custom n) = if is_native n then Some n else None
