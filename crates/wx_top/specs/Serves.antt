-- What is done for a request: a row for each in what is due for it, in what becomes of the source, and in what becomes of the live outside.
use Rattle.std.specs.Prelude.{ℕ, ◌≡◌, ◌≢◌, ⊤, false, Option, List, [], drop, get_or}
use Rattle.wx_command.specs.declared.command.Command.{Command}
use Rattle.wx_command.specs.declared.program.Program.TheVariants.{Exec}
use Rattle.wx_machine.specs.Seen.{Seen}
use Rattle.wx_live.specs.Drawn.{Drawn}
use Rattle.wx_live_run.specs.LiveRuns.{IsLive}
use Rattle.wx_replay.specs.Replays.{ReplaysKnown, HasRead}
use Rattle.wx_replay.specs.Writes.{Writes}
use Rattle.wx_replay.specs.declared.status.Status.{Status}
use Rattle.wx_replay.specs.declared.status.Status.TheVariants.{ReadFault}
use Rattle.wx_top.specs.declared.request.Request.{Request}
use Rattle.wx_top.specs.declared.request.Request.TheVariants.{Replay, Flood, Live}
use Rattle.wx_top.specs.Floods.{IsFlood}
use Rattle.wx_top.specs.Requests.{ignores_in}

-- the command of these words: a program with the others as its arguments, and no option
abbrev pub command_of : List (List ℕ) → Command
command_of words = record {
  program = Exec (get_or words 0 []) (drop 1 words);
  options = record { grouped = false; session = false; reset_sigmask = false; grant_foreground = false };
}

-- the texts that are due, each with a status, where source and outside were so, and then so
abbrev pub due : {S L Fixed : Type 0} → ℕ → (S → Option (List ℕ)) → (S → ℕ) → (L → Seen Fixed) → (L → Drawn) → List (List ℕ) → S → S → L → L → Request → List ℕ → Status → Type 0
due limit left reads seen drawn words a b u v Replay = ReplaysKnown limit (left a)
due limit left reads seen drawn words a b u v (Flood steps seed) = IsFlood steps seed
due limit left reads seen drawn words a b u v (Live turns from before) = IsLive turns (ignores_in (drop from words)) (command_of (drop before words)) left reads a b (seen u).shown.told (seen v).shown.told (drawn u) (drawn v)

-- nothing was read
abbrev pub IsUnread : {S : Type 0} → S → S → Status → Type 0
IsUnread old new status = (new ≡ old) × (status ≢ ReadFault)

-- what was read, by the status; what a run of a command reads is said with its journal
abbrev pub Reads : {S : Type 0} → ℕ → (S → Option (List ℕ)) → (S → ℕ) → S → S → Request → Status → Type 0
Reads limit left faults old new Replay status = HasRead limit left faults old new status
Reads limit left faults old new (Flood steps seed) status = IsUnread old new status
Reads limit left faults old new (Live turns from before) status = status ≢ ReadFault

-- the outside is left alone, but where a command is run
abbrev pub LeavesOutside : {L : Type 0} → L → L → Request → Type 0
LeavesOutside old new Replay = new ≡ old
LeavesOutside old new (Flood steps seed) = new ≡ old
LeavesOutside old new (Live turns from before) = ⊤

-- A request was served: of the source was read what it asks for, and what is due for it was written, as the status says.
pub record Serves {S K L Fixed : Type 0} (limit : ℕ) (left : S → Option (List ℕ)) (reads : S → ℕ) (held : K → Option (List ℕ)) (writes : K → ℕ) (seen : L → Seen Fixed) (drawn : L → Drawn) (words : List (List ℕ)) (a b : S) (x y : K) (u v : L) (status : Status) (r : Request) : Type 0 where
  pub read : Reads limit left reads a b r status
  pub written : Writes (due limit left reads seen drawn words a b u v r) held writes x y status
  pub outside : LeavesOutside u v r
