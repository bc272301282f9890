-- What a run of a script comes to.
use Rattle.std.specs.Prelude.{◌≡◌, Bool, true, false, List, []}
use Rattle.std.specs.List.{list_any}
use Rattle.wx_control.specs.Flags.{Flag}
use Rattle.wx_journal.specs.declared.entry.Entry.{Entry}
use Rattle.wx_journal.specs.Lines.{Answer}
use Rattle.wx_machine.specs.Answer.{Answers}
use Rattle.wx_script.specs.declared.script.Script.{Script}
use Rattle.wx_script.specs.declared.script.ScriptTurn.{ScriptTurn}
use Rattle.wx_script.specs.declared.script.ScriptTurn.TheVariants.{Turn, Fault}
use Rattle.wx_script.specs.Follows.{start_of, FollowsScript}
use Rattle.wx_file_turns.specs.FewSteps.{FewSteps}
use Rattle.wx_replay.specs.Still.{IsStill, first_tree}

-- The journal is that of a run that follows the script, with its answer. Where the script is still the run takes few steps.
pub record IsRunOf (s : Script) (journal : List Entry) (answer : Answer) : Type 0 where
  pub ready : Flag
  pub answers : Answers (start_of ready s) journal answer
  pub follows : FollowsScript s journal
  pub few : IsStill s → FewSteps (start_of ready s) (first_tree s) journal

-- No line of the script fails a turn or a maker of backends, or says what is wished of an error.
abbrev pub fails_turn : ScriptTurn → Bool
fails_turn (Turn t) = false
fails_turn (Fault code) = true

pub record IsSmooth (s : Script) : Type 0 where
  pub turns : list_any fails_turn s.turns ≡ false
  pub errors : s.errors ≡ []
  pub makes : s.answers.makes ≡ []
