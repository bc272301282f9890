-- How far a command is.
use Rattle.std.specs.Prelude.{ℕ, Bool, true, false, Option, None, Some}
use Rattle.wx_machine.specs.declared.state.CommandState.{CommandState}
use Rattle.wx_machine.specs.declared.state.CommandState.TheVariants.{Pending, Running, Finished}

abbrev pub is_pending : CommandState → Bool
is_pending Pending = true
is_pending (Running child started) = false
is_pending (Finished status started finished) = false

abbrev pub is_running : CommandState → Bool
is_running Pending = false
is_running (Running child started) = true
is_running (Finished status started finished) = false

abbrev pub is_finished : CommandState → Bool
is_finished Pending = false
is_finished (Running child started) = false
is_finished (Finished status started finished) = true

-- the child of a state
abbrev pub child_of : CommandState → Option ℕ
child_of Pending = None
child_of (Running c started) = Some c
child_of (Finished status started finished) = None
