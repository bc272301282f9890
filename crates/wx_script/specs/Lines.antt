-- What one line of a script says.
use Rattle.std.specs.Prelude.{ℕ, Bool, true, false, ◌==◌, if◌then◌else◌, Option, None, Some, List, [], ◌∷◌, codes}
use Rattle.wx_words.specs.Line.{words_of, ◌>>=◌}
use Rattle.wx_words.specs.Combine.{Reader, read_as, read_rows, whole}
use Rattle.wx_words.specs.Parts.{number, u32, as_line, both, list_of, text}
use Rattle.wx_words.specs.Switches.{switch}
use Rattle.wx_words.specs.ToEnd.{read_to_end}
use Rattle.wx_watch.specs.Watched.{watcher, watched}
use Rattle.wx_keys.specs.Keys.{fits_read}
use Rattle.wx_tree.specs.declared.node.Node.TheVariants as node
use Rattle.wx_patterns.specs.Lines.{is_pattern}
use Rattle.wx_journal.specs.Answers.{done, waited, verdict, backed, readied}
use Rattle.wx_journal.specs.Wishes.{wish}
use Rattle.wx_journal.specs.Kinds.{ranked, turn}
use Rattle.wx_journal.specs.declared.entry.TurnKind.{TurnKind}
use Rattle.wx_journal.specs.declared.entry.TurnKind.TheVariants.{Keys, Last}
use Rattle.wx_script.specs.Wishes.{script_act}
use Rattle.wx_script.specs.declared.script.FailingCall.{FailingCall}
use Rattle.wx_script.specs.declared.script.TreeEdit.TheVariants.{Node, Gone}
use Rattle.wx_script.specs.declared.lines.Line.{Line}
use Rattle.wx_script.specs.declared.lines.Line.TheVariants.{Nothing, Throttle, Size, ErrorSize, Keyboard, Follow, JobSignals, Watcher, Folder, Path, Send, Turn as Turned, Fault, Acts, Filter, Dir, Ignore, Wishes, Poll, Hook, Spawn, Signal, Kill, Wait, Edit, Make, FailScan, FailWatch}

-- what a script can say that a turn brings: all but a last turn, and but more bytes than a read from the keyboard takes
abbrev pub can_bring : TurnKind → Bool
can_bring Last = false
can_bring (Keys bytes) = fits_read bytes
can_bring (_) = true

-- what a script can say
abbrev pub is_scripted : Line → Bool
is_scripted (Turned turn) = can_bring turn.kind
is_scripted (Ignore pattern) = is_pattern pattern
is_scripted (_) = true

abbrev pub if_scripted : Line → Option Line
if_scripted said = if is_scripted said then Some said else None

-- each setting, and how the rest is read
abbrev pub set_rows : List (List ℕ × Reader Line)
set_rows =
    (codes "throttle", read_as Throttle number.read)
    ∷ (codes "size", read_as Size u32.read)
    ∷ (codes "errors", read_as ErrorSize u32.read)
    ∷ (codes "keyboard", read_as Keyboard switch.read)
    ∷ (codes "follow", read_as Follow switch.read)
    ∷ (codes "jobsignals", read_as JobSignals switch.read)
    ∷ (codes "watcher", read_as Watcher watcher.read)
    ∷ (codes "cwd", read_as Folder text.read)
    ∷ (codes "path", read_as Path watched.read)
    ∷ []

unfoldable pub read_set : Reader Line
read_set ws = read_rows set_rows ws

-- what stands at a path, and how the rest is read
abbrev pub node_rows : List (List ℕ × Reader Line)
node_rows =
    (codes "dir", read_as (λ path. Edit (Node path node.Dir)) text.read)
    ∷ (codes "file", read_as (λ p. Edit (Node p.0 (node.File p.1))) (both text (as_line number)).read)
    ∷ (codes "link", read_as (λ p. Edit (Node p.0 (node.Link p.1))) (both text text).read)
    ∷ []

unfoldable pub read_node : Reader Line
read_node ws = read_rows node_rows ws

-- a call, counted from 0, and the code with which it fails
abbrev pub failing : ℕ × ℕ → FailingCall
failing p = record { call = p.0; code = p.1 }

-- whose call fails, and how the rest is read
abbrev pub fail_rows : List (List ℕ × Reader Line)
fail_rows =
    (codes "scan", read_as (λ p. FailScan (failing p)) (both (as_line number) u32).read)
    ∷ (codes "watch", read_as (λ p. FailWatch (failing p)) (both (as_line number) u32).read)
    ∷ []

unfoldable pub read_fail : Reader Line
read_fail ws = read_rows fail_rows ws

-- each first word of a line, and how the rest is read
abbrev pub form_rows : List (List ℕ × Reader Line)
form_rows =
    (codes "action", read_as Acts (read_to_end script_act.read))
    ∷ (codes "set", read_set)
    ∷ (codes "send", read_as (λ p. Send p.1 p.0) ranked.read)
    ∷ (codes "turn", read_as Turned turn.read)
    ∷ (codes "turnfault", read_as Fault u32.read)
    ∷ (codes "filter", read_as Filter verdict.read)
    ∷ (codes "dir", read_as Dir verdict.read)
    ∷ (codes "ignore", read_as Ignore text.read)
    ∷ (codes "error", read_as Wishes wish.read)
    ∷ (codes "poll", read_as Poll readied.read)
    ∷ (codes "hook", read_as Hook (list_of text).read)
    ∷ (codes "spawn", read_as Spawn done.read)
    ∷ (codes "signal", read_as Signal done.read)
    ∷ (codes "kill", read_as Kill done.read)
    ∷ (codes "wait", read_as Wait waited.read)
    ∷ (codes "node", read_node)
    ∷ (codes "gone", read_as (λ path. Edit (Gone path)) text.read)
    ∷ (codes "make", read_as Make backed.read)
    ∷ (codes "fail", read_fail)
    ∷ []

unfoldable pub read_form : Reader Line
read_form ws = read_rows form_rows ws

-- what the words of a line say, to their end
abbrev pub said_in : List (List ℕ) → Option Line
said_in ws = whole (read_form ws) >>= if_scripted

-- an empty line and one that begins with # say nothing
abbrev pub line_in : List ℕ → Option Line
line_in [] = Some Nothing
line_in (b ∷ bs) = if b == 35 then Some Nothing else said_in (words_of (b ∷ bs))
