-- What a replay reads, and what is due for it.
use Rattle.std.specs.Prelude.{ℕ, ◌≡◌, ◌<◌, ◌≤◌, Option, IfSome, Ok, Err, List, [], ◌∷◌, ◌++◌, length, codes, decimal}
use Rattle.std.specs.Io.KnownBytes.{Consumes, IsAtEnd}
use Rattle.wx_journal.specs.declared.entry.Entry.{Entry}
use Rattle.wx_journal.specs.Told.{Rose}
use Rattle.wx_journal.specs.Lines.{Answer, JournalFits, AnswerFits}
use Rattle.wx_error.specs.declared.error.CriticalError.TheVariants.{IoError, Memory as NoMemory}
use Rattle.wx_print.specs.Printed.{printed}
use Rattle.wx_script.specs.declared.script.Script.{Script}
use Rattle.wx_script.specs.Scripts.{IsScriptOf, IsFirstBad}
use Rattle.wx_replay.specs.Runs.{IsRunOf}
use Rattle.wx_replay.specs.Writes.{IsWritten}
use Rattle.wx_replay.specs.declared.status.Status.{Status}
use Rattle.wx_replay.specs.declared.status.Status.TheVariants.{Done, Critical, NoScript, ReadFault, Memory}

-- the status for what a run answered
abbrev pub status_of : Answer → Status
status_of (Ok u) = Done
status_of (Err (IoError about err)) = Critical
status_of (Err NoMemory) = Memory
status_of (Err (_)) = Critical

-- the text is this journal with this answer, which fit, and the status is that of the answer
pub record IsShown (journal : List Entry) (answer : Answer) (text : List ℕ) (status : Status) : Type 0 where
  pub fits : JournalFits journal × AnswerFits answer
  pub text_is : text ≡ printed journal answer
  pub status_is : status ≡ status_of answer
  pub written : IsWritten status

-- The text is the journal of a run of the script, with its answer, and the status is that of this answer. It is the text of no other
-- journal and answer.
pub record IsReplay (s : Script) (text : List ℕ) (status : Status) : Type 0 where
  pub journal : List Entry
  pub answer : Answer
  pub run : IsRunOf s journal answer
  pub fits : JournalFits journal × AnswerFits answer
  pub text_is : text ≡ printed journal answer
  pub only : (other : List Entry) (said : Answer) → JournalFits other → AnswerFits said → text ≡ printed other said → (other ≡ journal) × (said ≡ answer)
  pub status_is : status ≡ status_of answer

-- a replay of the script that the bytes are, or the number of their first bad line
pub data ReplaysRead (bytes text : List ℕ) (status : Status) : Type 0 where
  OfScript : (s : Script) → IsScriptOf bytes s → IsReplay s text status → ReplaysRead bytes text status
  OfBadLine : (n : ℕ) → IsFirstBad bytes n → text ≡ codes "bad line " ++ decimal n ++ 10 ∷ [] → status ≡ NoScript → ReplaysRead bytes text status

-- the text and the status that are due for these bytes
pub record Replays (limit : ℕ) (bytes : List ℕ) (text : List ℕ) (status : Status) : Type 0 where
  pub too_long : limit < length bytes → (text ≡ codes "too long\n") × (status ≡ NoScript)
  pub script : length bytes ≤ limit → ReplaysRead bytes text status

-- those that are due for a source, where its bytes are known
abbrev pub ReplaysKnown : ℕ → Option (List ℕ) → List ℕ → Status → Type 0
ReplaysKnown limit known text status = IfSome known (λ bytes. Replays limit bytes text status)

-- What a replay did with its source, by its status. Where it wrote a text whole it read these bytes, to their end if they
-- are within the limit.
pub record HasRead {S : Type 0} (limit : ℕ) (left : S → Option (List ℕ)) (faults : S → ℕ) (old new : S) (status : Status) : Type 0 where
  pub read : IsWritten status → (bytes : List ℕ) × Consumes (left old) (left new) bytes × (length bytes ≤ limit → IsAtEnd (left new))
  pub fault : status ≡ ReadFault → Rose (faults old) (faults new)
