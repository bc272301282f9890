-- What is shown of a program.
use Rattle.std.specs.Prelude.{ℕ, if◌then◌else◌, Option, None, Some, List, [], ◌∷◌}
use Rattle.std.specs.List.{list_all}
use Rattle.std.specs.Str.{is_utf8}
use Rattle.wx_words.specs.Line.{joined}
use Rattle.wx_command.specs.declared.program.Program.{Program}
use Rattle.wx_command.specs.declared.program.Program.TheVariants.{Exec, Shell as InShell}

-- texts with one space between them: nothing is said where one isn't UTF-8
abbrev pub shown_texts : List (List ℕ) → Option (List ℕ)
shown_texts texts = if list_all is_utf8 texts then Some (joined texts) else None

-- a program and its arguments, or the text of a shell's command
abbrev pub shown : Program → Option (List ℕ)
shown (Exec prog args) = shown_texts (prog ∷ args)
shown (InShell shell command args) = shown_texts (command ∷ [])
