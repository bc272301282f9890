-- Commands, and what they spawn, as words.
use Rattle.std.proofs.Common.{refl}
use Rattle.std.specs.Prelude.{ℕ, List, [], ◌∷◌, codes}
use Rattle.wx_words.specs.Spellings.{Spelling}
use Rattle.wx_words.specs.Choices.{Row, row, Behind, fields}
use Rattle.wx_words.specs.ChoiceLaws.{Makes, MadeAgain, SpeltSo, choice}
use Rattle.wx_words.specs.Parts.{line, both, renamed, list_of, text}
use Rattle.wx_command.specs.Argvs.{argv}
use Rattle.wx_command.specs.OptionsLaws.{options}
use Rattle.wx_command.specs.Shells.{shell}
use Rattle.wx_command.specs.declared.argv.Argv.{Argv}
use Rattle.wx_command.specs.declared.command.SpawnOptions.{SpawnOptions}
use Rattle.wx_command.specs.declared.program.Program.{Program}
use Rattle.wx_command.specs.declared.program.Program.TheVariants.{Exec, Shell as InShell}
use Rattle.wx_command.specs.declared.command.Command.{Command}
use Rattle.wx_command.specs.declared.shell.Shell.{Shell}
use Rattle.wx_command.specs.declared.spawnable.Spawnable.{Spawnable}

abbrev pub make_exec : SpawnOptions × Argv → Command
make_exec p = record { program = Exec p.1.prog p.1.args; options = p.0 }

-- a shell, the text that it runs, and the arguments
abbrev pub in_shell : Spelling line (Shell × (List ℕ × List (List ℕ)))
in_shell = both shell (both text (list_of text))

abbrev pub make_in_shell : SpawnOptions × (Shell × (List ℕ × List (List ℕ))) → Command
make_in_shell p = record { program = InShell p.1.0 p.1.1.0 p.1.1.1; options = p.0 }

-- each first word of a command, and what stands behind it
abbrev pub command_rows : List (Row line Command)
command_rows = row (codes "exec") (both options argv) make_exec ∷ row (codes "shell") (both options in_shell) make_in_shell ∷ []

abbrev pub program_word : Program → List ℕ
program_word (Exec prog args) = codes "exec"
program_word (InShell shell command args) = codes "shell"

abbrev pub program_behind : SpawnOptions → Program → Behind line
program_behind o (Exec prog args) = fields (both options argv) (o, record { prog = prog; args = args })
program_behind o (InShell shell command args) = fields (both options in_shell) (o, (shell, (command, args)))

abbrev pub command_word : Command → List ℕ
command_word c = program_word c.program

abbrev pub command_behind : Command → Behind line
command_behind c = program_behind c.options c.program

pub command_made : (o : SpawnOptions) (program : Program) → Makes command_rows (program_word program) (program_behind o program) (record { program = program; options = o })
command_made o (Exec prog args) = (_, refl, refl)
command_made o (InShell shell command args) = (_, refl, refl)

pub command_again : MadeAgain command_rows command_word command_behind
command_again c = command_made c.options c.program

pub command_so : SpeltSo command_rows command_word command_behind
command_so = search

unfoldable pub command : Spelling line Command
command = choice command_rows command_word command_behind command_again command_so refl

-- the options, then the list of texts
abbrev pub make_spawnable : SpawnOptions × List (List ℕ) → Spawnable
make_spawnable p = record { words = p.1; options = p.0 }

unfoldable pub spawnable : Spelling line Spawnable
spawnable = renamed (both options (list_of text)) make_spawnable (λ s. (s.options, s.words)) (λ s. refl) (λ p. refl)
