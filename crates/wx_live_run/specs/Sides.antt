-- What the side of the engine comes to.
use Rattle.std.specs.Prelude.{◌≡◌, ℕ, List}
use Rattle.wx_command.specs.declared.command.Command.{Command}
use Rattle.wx_control.specs.Flags.{Flag}
use Rattle.wx_journal.specs.declared.entry.Entry.{Entry}
use Rattle.wx_journal.specs.Lines.{Answer}
use Rattle.wx_journal.specs.Told.{anywhere, is_turn, is_world, tells}
use Rattle.wx_paths.specs.Paths.{components}
use Rattle.wx_patterns.specs.Lines.{patterns_of}
use Rattle.wx_machine.specs.Answer.{Answers}
use Rattle.wx_machine.specs.Seen.{Seen}
use Rattle.wx_plain.specs.Plain.{ArePlain}
use Rattle.wx_live_action.specs.LiveActs.{AsksAsLive}
use Rattle.wx_live_run.specs.LiveRuns.{live_start}

-- The journal is that of a run over this folder, with its answer, of which the world was told its calls and gave the turns. Each batch was
-- handed as the rule says, and the filter answered by what these lines ignore.
pub record IsRunSide {Plan : Type 0} (folder : List ℕ) (ignores : List (List ℕ)) (command : Command) (a b : Seen Plan) (journal : List Entry) (answer : Answer) : Type 0 where
  pub ready : Flag
  pub answers : Answers (live_start ready folder) journal answer
  pub acts : ArePlain (components folder) (patterns_of ignores) (AsksAsLive command) journal
  pub told : b.shown.told ≡ tells is_world journal a.shown.told
  pub turns : b.progress.turns ≡ tells (anywhere is_turn) journal a.progress.turns
