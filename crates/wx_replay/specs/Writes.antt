-- What a call of the program writes, and how it ends.
use Rattle.std.specs.Prelude.{ℕ, ◌≡◌, ⊤, Option, List}
use Rattle.std.specs.Io.KnownBytes.{Appends}
use Rattle.wx_journal.specs.Told.{Rose}
use Rattle.wx_bytes.specs.Causes.{AddsFront}
use Rattle.wx_replay.specs.declared.status.Status.{Status}
use Rattle.wx_replay.specs.declared.status.Status.TheVariants.{Done, Critical, Usage, NoScript, ReadFault, WriteFault, Memory}

-- a text was written whole
abbrev pub IsWritten : Status → Type 0
IsWritten Done = ⊤
IsWritten Critical = ⊤
IsWritten NoScript = ⊤
IsWritten Usage = ⊥
IsWritten ReadFault = ⊥
IsWritten WriteFault = ⊥
IsWritten Memory = ⊥

-- nothing was written
abbrev pub IsUnwritten : Status → Type 0
IsUnwritten Done = ⊥
IsUnwritten Critical = ⊥
IsUnwritten NoScript = ⊥
IsUnwritten Usage = ⊤
IsUnwritten ReadFault = ⊤
IsUnwritten WriteFault = ⊥
IsUnwritten Memory = ⊤

-- this text with this status alone
abbrev pub IsJust : List ℕ → Status → List ℕ → Status → Type 0
IsJust text status other ended = (other ≡ text) × (ended ≡ status)

-- What a call did with its sink, by its status, where these texts are due, each with a status. It wrote one that is due: whole, or where
-- a write failed a part, from its front, and not all of it. Else it wrote nothing.
pub record Writes {K : Type 0} (due : List ℕ → Status → Type 0) (held : K → Option (List ℕ)) (faults : K → ℕ) (old new : K) (status : Status) : Type 0 where
  pub whole : IsWritten status → (text : List ℕ) × due text status × Appends (held old) (held new) text
  pub part : status ≡ WriteFault → (text : List ℕ) × (ended : Status) × IsWritten ended × due text ended × AddsFront (held old) (held new) text
  pub fault : status ≡ WriteFault → Rose (faults old) (faults new)
  pub nothing : IsUnwritten status → new ≡ old

-- the number by which a program ends
abbrev pub code_of : Status → ℕ
code_of Done = 0
code_of Critical = 1
code_of Usage = 2
code_of NoScript = 3
code_of ReadFault = 4
code_of WriteFault = 5
code_of Memory = 6
