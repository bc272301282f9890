-- What a command spawns.
use Rattle.std.specs.Prelude.{ℕ, if◌then◌else◌, Option, None, Some, List, [], ◌∷◌, ◌++◌, codes}
use Rattle.wx_command.specs.Execables.{execable}
use Rattle.wx_command.specs.declared.command.Command.{Command}
use Rattle.wx_command.specs.declared.program.Program.{Program}
use Rattle.wx_command.specs.declared.program.Program.TheVariants.{Exec, Shell as InShell}
use Rattle.wx_command.specs.declared.shell.Shell.{Shell}
use Rattle.wx_command.specs.declared.spawnable.Spawnable.{Spawnable}

-- the text that a shell runs: behind `exec ` where the shell can give its place to the program that it names
abbrev pub shell_text : List ℕ → List ℕ
shell_text command = if execable command then codes "exec " ++ command else command

-- one text, or none
abbrev pub texts_of : Option (List ℕ) → List (List ℕ)
texts_of None = []
texts_of (Some text) = text ∷ []

-- how a shell is called: its program, its options, and the option before its text where there is one
abbrev pub shell_call : Shell → List (List ℕ)
shell_call shell = shell.prog ∷ (shell.options ++ texts_of shell.program_option)

-- what is run, word by word
abbrev pub program_texts : Program → List (List ℕ)
program_texts (Exec prog args) = prog ∷ args
program_texts (InShell shell command args) = shell_call shell ++ shell_text command ∷ args

abbrev pub spawnable_of : Command → Spawnable
spawnable_of c = record { words = program_texts c.program; options = c.options }
