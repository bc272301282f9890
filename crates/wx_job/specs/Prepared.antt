-- What is made ready before a case.
use Rattle.std.specs.Prelude.{ℕ, Bool, true, false, if◌then◌else◌, Option, None, Some}
use Rattle.wx_command.specs.declared.command.Command.{Command}
use Rattle.wx_command.specs.declared.spawnable.Spawnable.{Spawnable}
use Rattle.wx_command.specs.Spawnables.{spawnable_of}
use Rattle.wx_control.specs.declared.control.Control.{Control}
use Rattle.wx_control.specs.declared.id.Id.{Id}
use Rattle.wx_machine.specs.Table.{Plan, Kit, spawns, reap, waiters, fresh, raises}

-- what a case spawns, twice, for the call and for its entry, where it spawns
abbrev pub twice : Command → Bool → Option (Spawnable × Spawnable)
twice command spawning = if spawning then Some (spawnable_of command, spawnable_of command) else None

abbrev pub prepared : Command → Control → Option ℕ → Option (Spawnable × Spawnable)
prepared command control running = twice command (spawns control running)

-- a fresh child is spawned where that is so, and the ticket is raised
abbrev pub fresh_or : Bool → Id → Kit → ℕ → Plan
fresh_or true id by ticket = fresh id by (raises ticket)
fresh_or false id by ticket = raises ticket

-- a child that runs is reaped, and a fresh one is spawned where that is so
abbrev pub fresh_in : Id → Kit → ℕ → Bool → Option ℕ → Plan
fresh_in id by ticket spawning None = fresh_or spawning id by ticket
fresh_in id by ticket spawning (Some c) = reap id by.handler c ticket (waiters by.parked (fresh_or spawning id by ticket))
