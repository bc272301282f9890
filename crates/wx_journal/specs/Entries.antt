-- Entries as words.
use Rattle.std.proofs.Common.{refl}
use Rattle.std.specs.Prelude.{ℕ, ℤ, Bool, Result, Option, Some, List, [], ◌∷◌, ◌++◌, codes}
use Rattle.std.specs.List.{flat_map, AllByRecursion}
use Rattle.std.specs.Option.{option_or}
use Rattle.wx_words.specs.Line.{◌>>=◌}
use Rattle.wx_words.specs.Combine.{Reader}
use Rattle.wx_words.specs.Spellings.{Spelling}
use Rattle.wx_words.specs.Choices.{Row, row, Behind, fields}
use Rattle.wx_words.specs.ChoiceLaws.{MadeAgain, SpeltSo, choice}
use Rattle.wx_words.specs.Parts.{line, never, both, named, list_of, as_line, number, i32, u32, optional, text}
use Rattle.wx_words.specs.Switches.{switch}
use Rattle.wx_text.specs.declared.list.Memory.{Memory}
use Rattle.wx_events.specs.declared.priority.Priority.{Priority}
use Rattle.wx_events.specs.declared.event.Event.{Event}
use Rattle.wx_events.specs.declared.process.ProcessEnd.{ProcessEnd}
use Rattle.wx_command.specs.Commands.{spawnable}
use Rattle.wx_command.specs.declared.spawnable.Spawnable.{Spawnable}
use Rattle.wx_watch.specs.Watched.{watcher}
use Rattle.wx_watch.specs.declared.watched.Watcher.{Watcher}
use Rattle.wx_error.specs.Runtime.{runtime}
use Rattle.wx_error.specs.declared.runtime.RuntimeError.{RuntimeError}
use Rattle.wx_control.specs.Ids.{id}
use Rattle.wx_control.specs.Levels.{level}
use Rattle.wx_control.specs.Controls.{control}
use Rattle.wx_control.specs.declared.id.Id.{Id}
use Rattle.wx_control.specs.declared.level.Level.{Level}
use Rattle.wx_control.specs.declared.control.Control.{Control}
use Rattle.wx_journal.specs.Acts.{JournalAct, act}
use Rattle.wx_journal.specs.AtFront.{read_front}
use Rattle.wx_journal.specs.Beginnings.{beginning}
use Rattle.wx_journal.specs.Answers.{done, waited, verdict, readied, hooked, Backed, backed, News, news}
use Rattle.wx_journal.specs.Kinds.{ranked, turn}
use Rattle.wx_journal.specs.Wishes.{wish}
use Rattle.wx_journal.specs.Tags.{tag}
use Rattle.wx_journal.specs.Words.{offered, said, cause}
use Rattle.wx_journal.specs.declared.child.SpawnTag.{SpawnTag}
use Rattle.wx_journal.specs.declared.child.HostFault.{HostFault}
use Rattle.wx_journal.specs.declared.wish.Wish.{Wish}
use Rattle.wx_journal.specs.declared.entry.Offered.{Offered}
use Rattle.wx_journal.specs.declared.entry.LetGoCause.{LetGoCause}
use Rattle.wx_journal.specs.declared.entry.Entry.{Entry}
use Rattle.wx_journal.specs.declared.entry.Entry.TheVariants.{Begin, Sent, Turn as Turned, TurnFault, Offer, Word as Said, Take, Filter, Show, Hand, Made, Asked, Changed, Pick, GraceOver, Spawn, Signal, Kill, Wait, Dropped, Raise, Gone, Run, Begun, Poll, Hook, JobError, Dir, Make, Applied, Heard, Brought, LetGo, Ready}

-- ---- what stands behind the first word of an entry

abbrev pub sent : Spelling line (ℕ × (Priority × Event))
sent = both (as_line number) ranked

abbrev pub offer : Spelling line (ℕ × (Option ℕ × (Offered × (Priority × Event))))
offer = both (as_line number) (both optional (both offered ranked))

abbrev pub filtered : Spelling line (ℕ × (ℕ × Result Bool RuntimeError))
filtered = both u32 (both (as_line number) verdict)

abbrev pub shown : Spelling line (ℕ × (RuntimeError × Wish))
shown = both u32 (both runtime wish)

abbrev pub asked : Spelling line (ℕ × (Id × (Level × Control)))
asked = both (as_line number) (both id (both level control))

abbrev pub pick : Spelling line (Id × ℕ)
pick = both id (as_line number)

abbrev pub spawn : Spelling line (ℕ × (Id × (SpawnTag × (Spawnable × Result (Unit {0}) HostFault))))
spawn = both (as_line number) (both id (both tag (both spawnable done)))

abbrev pub signal : Spelling line (ℕ × (ℤ × Result (Unit {0}) HostFault))
signal = both (as_line number) (both (as_line i32) done)

abbrev pub kill : Spelling line (ℕ × Result (Unit {0}) HostFault)
kill = both (as_line number) done

abbrev pub wait : Spelling line (ℕ × Result ProcessEnd HostFault)
wait = both (as_line number) waited

abbrev pub hook : Spelling line (Id × (ℕ × Result Spawnable Memory))
hook = both id (both u32 hooked)

abbrev pub run : Spelling line (Id × ℕ)
run = both id u32

abbrev pub poll : Spelling line (Id × (ℕ × Bool))
poll = both id (both u32 readied)

abbrev pub job_error : Spelling line (Id × (ℕ × ℕ))
job_error = both id (both u32 u32)

abbrev pub dir : Spelling line (ℕ × (List ℕ × Result Bool RuntimeError))
dir = both u32 (both text verdict)

abbrev pub make : Spelling line (ℕ × (Watcher × (Bool × Backed)))
make = both (as_line number) (both watcher (both switch backed))

abbrev pub brought : Spelling line (ℕ × (ℕ × News))
brought = both (as_line number) (both (as_line number) news)

abbrev pub let_go : Spelling line (ℕ × LetGoCause)
let_go = both (as_line number) cause

abbrev pub unread : Spelling line (ℕ × (List ℕ × List JournalAct))
unread = never

abbrev pub make_hand : ℕ × (List ℕ × List JournalAct) → Entry
make_hand p = Hand p.0 p.1.0 p.1.1

-- ---- each first word of an entry, and what stands behind it: of a Hand, whose acts run to the end of the line, nothing is
-- read here

-- those of jobs
abbrev pub job_rows : List (Row line Entry)
job_rows =
    row (codes "made") id Made
    ∷ row (codes "asked") asked (λ p. Asked p.0 p.1.0 p.1.1.0 p.1.1.1)
    ∷ row (codes "pick") pick (λ p. Pick p.0 p.1)
    ∷ row (codes "grace") id GraceOver
    ∷ row (codes "spawn") spawn (λ p. Spawn p.0 p.1.0 p.1.1.0 p.1.1.1.0 p.1.1.1.1)
    ∷ row (codes "signal") signal (λ p. Signal p.0 p.1.0 p.1.1)
    ∷ row (codes "kill") kill (λ p. Kill p.0 p.1)
    ∷ row (codes "wait") wait (λ p. Wait p.0 p.1)
    ∷ row (codes "drop") (as_line number) Dropped
    ∷ row (codes "raise") (as_line number) Raise
    ∷ row (codes "gone") id Gone
    ∷ row (codes "run") run (λ p. Run p.0 p.1)
    ∷ row (codes "begun") run (λ p. Begun p.0 p.1)
    ∷ row (codes "poll") poll (λ p. Poll p.0 p.1.0 p.1.1)
    ∷ row (codes "hook") hook (λ p. Hook p.0 p.1.0 p.1.1)
    ∷ row (codes "joberror") job_error (λ p. JobError p.0 p.1.0 p.1.1)
    ∷ []

-- those of files, and of jobs
abbrev pub file_rows : List (Row line Entry)
file_rows =
    row (codes "dir") dir (λ p. Dir p.0 p.1.0 p.1.1)
    ∷ row (codes "make") make (λ p. Make p.0 p.1.0 p.1.1.0 p.1.1.1)
    ∷ row (codes "applied") (as_line number) Applied
    ∷ row (codes "heard") (as_line number) Heard
    ∷ row (codes "brought") brought (λ p. Brought p.0 p.1.0 p.1.1)
    ∷ row (codes "letgo") let_go (λ p. LetGo p.0 p.1)
    ∷ row (codes "ready") (as_line number) Ready
    ∷ job_rows

-- all
abbrev pub entry_rows : List (Row line Entry)
entry_rows =
    row (codes "begin") beginning Begin
    ∷ row (codes "sent") sent (λ p. Sent p.0 p.1.1 p.1.0)
    ∷ row (codes "turn") turn Turned
    ∷ row (codes "turnfault") u32 TurnFault
    ∷ row (codes "offer") offer (λ p. Offer p.0 p.1.0 p.1.1.0 p.1.1.1.1 p.1.1.1.0)
    ∷ row (codes "word") said Said
    ∷ row (codes "take") (as_line number) Take
    ∷ row (codes "filter") filtered (λ p. Filter p.0 p.1.0 p.1.1)
    ∷ row (codes "show") shown (λ p. Show p.0 p.1.0 p.1.1)
    ∷ row (codes "hand") unread make_hand
    ∷ row (codes "changed") (as_line number) Changed
    ∷ file_rows

abbrev pub entry_word : Entry → List ℕ
entry_word (Begin _) = codes "begin"
entry_word (Sent _ _ _) = codes "sent"
entry_word (Turned _) = codes "turn"
entry_word (TurnFault _) = codes "turnfault"
entry_word (Offer _ _ _ _ _) = codes "offer"
entry_word (Said _) = codes "word"
entry_word (Take _) = codes "take"
entry_word (Filter _ _ _) = codes "filter"
entry_word (Show _ _ _) = codes "show"
entry_word (Hand _ _ _) = codes "hand"
entry_word (Made _) = codes "made"
entry_word (Asked _ _ _ _) = codes "asked"
entry_word (Changed _) = codes "changed"
entry_word (Pick _ _) = codes "pick"
entry_word (GraceOver _) = codes "grace"
entry_word (Spawn _ _ _ _ _) = codes "spawn"
entry_word (Signal _ _ _) = codes "signal"
entry_word (Kill _ _) = codes "kill"
entry_word (Wait _ _) = codes "wait"
entry_word (Dropped _) = codes "drop"
entry_word (Raise _) = codes "raise"
entry_word (Gone _) = codes "gone"
entry_word (Run _ _) = codes "run"
entry_word (Begun _ _) = codes "begun"
entry_word (Poll _ _ _) = codes "poll"
entry_word (Hook _ _ _) = codes "hook"
entry_word (JobError _ _ _) = codes "joberror"
entry_word (Dir _ _ _) = codes "dir"
entry_word (Make _ _ _ _) = codes "make"
entry_word (Applied _) = codes "applied"
entry_word (Heard _) = codes "heard"
entry_word (Brought _ _ _) = codes "brought"
entry_word (LetGo _ _) = codes "letgo"
entry_word (Ready _) = codes "ready"

abbrev pub entry_behind : Entry → Behind line
entry_behind (Begin b) = fields beginning b
entry_behind (Sent name event priority) = fields sent (name, (priority, event))
entry_behind (Turned t) = fields turn t
entry_behind (TurnFault code) = fields u32 code
entry_behind (Offer name item result event priority) = fields offer (name, (item, (result, (priority, event))))
entry_behind (Said word) = fields said word
entry_behind (Take name) = fields (as_line number) name
entry_behind (Filter n name answer) = fields filtered (n, (name, answer))
entry_behind (Show n error wish) = fields shown (n, (error, wish))
entry_behind (Hand n names acts) = fields unread (n, (names, acts))
entry_behind (Made job) = fields id job
entry_behind (Asked ticket job l c) = fields asked (ticket, (job, (l, c)))
entry_behind (Changed revision) = fields (as_line number) revision
entry_behind (Pick job ticket) = fields pick (job, ticket)
entry_behind (GraceOver job) = fields id job
entry_behind (Spawn child job by what answer) = fields spawn (child, (job, (by, (what, answer))))
entry_behind (Signal child n answer) = fields signal (child, (n, answer))
entry_behind (Kill child answer) = fields kill (child, answer)
entry_behind (Wait child answer) = fields wait (child, answer)
entry_behind (Dropped child) = fields (as_line number) child
entry_behind (Raise ticket) = fields (as_line number) ticket
entry_behind (Gone job) = fields id job
entry_behind (Run job n) = fields run (job, n)
entry_behind (Begun job n) = fields run (job, n)
entry_behind (Poll job n ready) = fields poll (job, (n, ready))
entry_behind (Hook job n answer) = fields hook (job, (n, answer))
entry_behind (JobError job n code) = fields job_error (job, (n, code))
entry_behind (Dir n path answer) = fields dir (n, (path, answer))
entry_behind (Make back by follow answer) = fields make (back, (by, (follow, answer)))
entry_behind (Applied revision) = fields (as_line number) revision
entry_behind (Heard item) = fields (as_line number) item
entry_behind (Brought item back answer) = fields brought (item, (back, answer))
entry_behind (LetGo item why) = fields let_go (item, why)
entry_behind (Ready revision) = fields (as_line number) revision

pub entry_made : MadeAgain entry_rows entry_word entry_behind
entry_made (Begin b) = (_, refl, refl)
entry_made e = (_, refl, refl)

pub entry_so : SpeltSo entry_rows entry_word entry_behind
entry_so = search

unfoldable pub entry : Spelling line Entry
entry = choice entry_rows entry_word entry_behind entry_made entry_so refl

-- ---- a Hand: the number of the handler and the names of the batch, and then the acts, which have no count: as many as stand
-- there

abbrev pub hand : Spelling line (ℕ × List ℕ)
hand = named (codes "hand") refl (both u32 (list_of (as_line number)))

abbrev pub with_acts : ℕ × List ℕ → List JournalAct × List (List ℕ) → Entry × List (List ℕ)
with_acts batch acts = (Hand batch.0 batch.1 acts.0, acts.1)

abbrev pub read_hand : Reader Entry
read_hand ws = do
  batch ← hand.read ws
  Some (with_acts batch.0 (read_front act.read batch.1))

-- ---- every entry

abbrev pub entry_words : Entry → List (List ℕ)
entry_words (Hand n names acts) = hand.words (n, names) ++ flat_map act.words acts
entry_words e = entry.words e

-- the entry at the front
abbrev pub read_entry : Reader Entry
read_entry ws = option_or (entry.read ws) (read_hand ws)

-- the numbers and texts of an entry are those of the code
abbrev pub EntryFits : Entry → Type 0
EntryFits (Hand n names acts) = hand.fits (n, names) × AllByRecursion act.fits acts
EntryFits e = entry.fits e
