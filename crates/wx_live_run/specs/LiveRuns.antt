-- What a run comes to that runs a command at each change of its folder.
use Rattle.std.specs.Prelude.{◌≡◌, ℕ, Bool, true, false, Option, Some, List, [], ◌∷◌, ◌++◌}
use Rattle.std.specs.List.{list_all}
use Rattle.std.specs.Io.KnownBytes.{Consumes}
use Rattle.wx_command.specs.declared.command.Command.{Command}
use Rattle.wx_config.specs.Defaults.{default_config}
use Rattle.wx_config.specs.declared.config.Config.{Config}
use Rattle.wx_control.specs.Flags.{Flag}
use Rattle.wx_events.specs.declared.priority.Priority.TheVariants.{Urgent}
use Rattle.wx_journal.specs.declared.entry.Entry.{Entry}
use Rattle.wx_journal.specs.declared.entry.Entry.TheVariants.{Turn as Turned, TurnFault}
use Rattle.wx_journal.specs.declared.entry.TurnKind.{TurnKind}
use Rattle.wx_journal.specs.declared.entry.TurnKind.TheVariants.{Ask, Keys}
use Rattle.wx_journal.specs.Lines.{Answer}
use Rattle.wx_journal.specs.Told.{is_world, tells}
use Rattle.wx_paths.specs.Paths.{components}
use Rattle.wx_patterns.specs.Lines.{patterns_of}
use Rattle.wx_machine.specs.Answer.{Answers}
use Rattle.wx_machine.specs.Start.{Start}
use Rattle.wx_handles.specs.Rounds.{are_rounds}
use Rattle.wx_handles.specs.Turns.{are_behind, drawn_by, is_own_kind}
use Rattle.wx_live.specs.Drawn.{Drawn}
use Rattle.wx_plain.specs.Plain.{ArePlain}
use Rattle.wx_live_action.specs.LiveActs.{AsksAsLive}
use Rattle.wx_reader.specs.Reads.{IsOver}
use Rattle.wx_replay.specs.Replays.{IsShown}
use Rattle.wx_replay.specs.declared.status.Status.{Status}
use Rattle.wx_live_run.specs.Subsequences.{IsSubsequence}

-- ---- what it starts from

-- the folder is watched with all below it, links aren't followed, and keys are heard
abbrev pub live_config : Flag → List ℕ → Config
live_config ready folder = record (default_config ready) {
  pathset = record { path = folder; recursive = true } ∷ [];
  follow_symlinks = false;
  keyboard_events = true;
}

-- one urgent event without tags was sent
abbrev pub live_start : Flag → List ℕ → Start
live_start ready folder = record {
  config = live_config ready folder;
  folder = folder;
  events = (record { tags = [] }, Urgent) ∷ [];
}

-- ---- its turns

-- such a turn brings keys, the end of a child, one of the round, or that no turn is left
abbrev pub is_live_kind : TurnKind → Bool
is_live_kind (Ask id ask) = false
is_live_kind kind = is_own_kind kind

-- no other turn comes, and none fails
abbrev pub fits_live : Entry → Bool
fits_live (Turned t) = is_live_kind t.kind
fits_live (TurnFault code) = false
fits_live (_) = true

-- the bytes of the keyboard in these turns, joined
abbrev pub kind_keys : TurnKind → List ℕ
kind_keys (Keys bytes) = bytes
kind_keys (_) = []

abbrev pub entry_keys : Entry → List ℕ
entry_keys (Turned t) = kind_keys t.kind
entry_keys (_) = []

abbrev pub keys_of : List Entry → List ℕ
keys_of [] = []
keys_of (e ∷ p) = keys_of p ++ entry_keys e

-- Bytes were read of the source, and the keys are a subsequence of them. Reading ended at the end of the source, where that tells its bytes,
-- or at a fault, or behind a late q.
pub record HearsKeys {S : Type 0} (left : S → Option (List ℕ)) (faults : S → ℕ) (a b : S) (keys : List ℕ) : Type 0 where
  pub read : List ℕ
  pub consumed : Consumes (left a) (left b) read
  pub heard : IsSubsequence keys read
  pub over : IsOver left faults a b read

-- ---- the whole run

-- The journal is that of a run over the folder of the live outside, with its answer. Each batch was handed as the rule says, the filter
-- answered by what these lines ignore below the folder, and all other calls on the hooks came to their defaults. The outside was told just its calls, and gave the ends and moments of the turns. The turns bring
-- keys that were read, ends, and the round of one job; and a last turn comes behind so many others.
pub record IsLiveRun {S : Type 0} (turns : ℕ) (ignores : List (List ℕ)) (command : Command) (left : S → Option (List ℕ)) (faults : S → ℕ) (a b : S) (told told' : Option (List Entry)) (drawn drawn' : Drawn) (journal : List Entry) (answer : Answer) : Type 0 where
  pub folder : List ℕ
  pub folder_is : (path : List ℕ) → drawn.folder ≡ Some path → folder ≡ path
  pub ready : Flag
  pub answers : Answers (live_start ready folder) journal answer
  pub acts : ArePlain (components folder) (patterns_of ignores) (AsksAsLive command) journal
  pub told_is : told' ≡ tells is_world journal told
  pub drawn_is : drawn' ≡ drawn_by journal drawn
  pub kinds : list_all fits_live journal ≡ true
  pub rounds : are_rounds 1 journal ≡ true
  pub last : are_behind turns journal ≡ true
  pub keys : HearsKeys left faults a b (keys_of journal)

-- the text is the journal of such a run, with its answer, and the status is that of this answer
pub record IsLive {S : Type 0} (turns : ℕ) (ignores : List (List ℕ)) (command : Command) (left : S → Option (List ℕ)) (faults : S → ℕ) (a b : S) (told told' : Option (List Entry)) (drawn drawn' : Drawn) (text : List ℕ) (status : Status) : Type 0 where
  pub journal : List Entry
  pub answer : Answer
  pub run : IsLiveRun turns ignores command left faults a b told told' drawn drawn' journal answer
  pub shown : IsShown journal answer text status
