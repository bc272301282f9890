-- What a journal says of the jobs of an engine.
use Rattle.std.specs.Prelude.{◌≡◌, ℕ, ◌+◌, ◌<◌, Bool, false, ◌||◌, ◌&&◌, not, true, ◌⊎◌, ◌==◌, nat_lt, if◌then◌else◌, Option, None, Some, List, [], ◌∷◌, ◌++◌}
use Rattle.std.specs.List.{filter, list_any, AllByRecursion}
use Rattle.wx_command.specs.declared.command.Command.{Command}
use Rattle.wx_control.specs.declared.id.Id.{Id}
use Rattle.wx_control.specs.Asks.{sends_of}
use Rattle.wx_journal.specs.Acts.{JournalAct as Act}
use Rattle.wx_journal.specs.declared.entry.Act.TheVariants.{Create, Ask, Change, Quit, QuitGracefully}
use Rattle.wx_journal.specs.declared.entry.Entry.{Entry}
use Rattle.wx_journal.specs.declared.entry.Entry.TheVariants.{Word as Said, Hand, Made, Changed}
use Rattle.wx_journal.specs.declared.entry.Word.TheVariants.{Ignored}
use Rattle.wx_journal.specs.Names.{above, next_job, creates, IsNextJob, was_made}
use Rattle.wx_machine.specs.History.{same, lives, child, is_child, command}
use Rattle.wx_machine.specs.Table.{Plan, Done, adds, ask_plan, end_plan}
use Rattle.wx_machine.specs.Quits.{quit_of, quit_asks}

-- an id at its place among rising ones, where it stands once
abbrev pub with_id : Id → List Id → List Id
with_id id [] = id ∷ []
with_id id (job ∷ ids) = if nat_lt job.0 id.0 then job ∷ with_id id ids else (if job.0 == id.0 then job ∷ ids else id ∷ job ∷ ids)

-- the jobs that a handler sees, by rising id: those that were made, without those that were gone before a batch was handed
abbrev pub set : List Entry → List Id
set [] = []
set (Made id ∷ p) = with_id id (set p)
set (Hand n names acts ∷ p) = filter (λ id. lives id p) (set p)
set (_ ∷ p) = set p

-- a handler sees the job of this name
abbrev pub is_seen : Id → List Entry → Bool
is_seen id p = list_any (λ job. same job id) (set p)

-- no child runs of a job that a handler doesn't see
abbrev pub UnseenRunNone : List Entry → Type 0
UnseenRunNone p = (id : Id) → is_seen id p ≡ false → child id p ≡ None

-- the jobs that live, in the same order
abbrev pub jobs : List Entry → List Id
jobs p = filter (λ id. lives id p) (set p)

-- what a job that lives runs
abbrev pub living : Id → List Entry → Option Command
living id p = if lives id p then command id p else None

-- the job whose child this is, where it runs
abbrev pub parent_among : List Id → ℕ → List Entry → Option Id
parent_among [] c p = None
parent_among (id ∷ ids) c p = if is_child c (child id p) then Some id else parent_among ids c p

abbrev pub parent : ℕ → List Entry → Option Id
parent c p = parent_among (set p) c p

-- a job may be made again under this id: one was made, and a handler sees it no longer
abbrev pub is_free : List Entry → Id → Bool
is_free p id = was_made id p && not (is_seen id p)

-- A job is created under the next id, or again under one that is free.
abbrev pub MayCreate : (Id → Bool) → ℕ → Id → Type 0
MayCreate free next id = IsNextJob next id ⊎ (free id ≡ true)

-- of these ids, those but this one
abbrev pub but : Id → (Id → Bool) → Id → Bool
but id free job = not (same id job) && free job

-- acts are lawful where each job that they create may be, by the ids that are free and the next one: none creates two jobs of one id
abbrev pub AreLawfulBy : (Id → Bool) → ℕ → List Act → Type 0
AreLawfulBy free next [] = Unit {0}
AreLawfulBy free next (Create id command ∷ acts) = MayCreate free next id × AreLawfulBy (but id free) (above next id) acts
AreLawfulBy free next (Ask id ask ∷ acts) = AreLawfulBy free next acts
AreLawfulBy free next (Change change ∷ acts) = AreLawfulBy free next acts
AreLawfulBy free next (Quit ∷ acts) = AreLawfulBy free next acts
AreLawfulBy free next (QuitGracefully signal grace ∷ acts) = AreLawfulBy free next acts

-- acts that are asked for behind these entries
abbrev pub AreLawful : List Entry → List Act → Type 0
AreLawful p acts = AreLawfulBy (is_free p) (next_job p) acts

-- the ids that are still free behind these acts
abbrev pub free_behind : (Id → Bool) → List Act → Id → Bool
free_behind free [] = free
free_behind free (Create id command ∷ acts) = free_behind (but id free) acts
free_behind free (Ask id ask ∷ acts) = free_behind free acts
free_behind free (Change change ∷ acts) = free_behind free acts
free_behind free (Quit ∷ acts) = free_behind free acts
free_behind free (QuitGracefully signal grace ∷ acts) = free_behind free acts

-- a job of this id was made, or one of these acts creates one
abbrev pub is_given : List Entry → List Act → Id → Bool
is_given p acts id = creates id acts || was_made id p

-- the job of this id is there: one of these acts creates it, or a handler sees it
abbrev pub is_there : List Entry → List Act → Id → Bool
is_there p acts id = creates id acts || is_seen id p

-- the id of the next new job, behind these acts
abbrev pub next_created : ℕ → List Act → ℕ
next_created next [] = next
next_created next (Create id command ∷ acts) = next_created (above next id) acts
next_created next (Ask id ask ∷ acts) = next_created next acts
next_created next (Change change ∷ acts) = next_created next acts
next_created next (Quit ∷ acts) = next_created next acts
next_created next (QuitGracefully signal grace ∷ acts) = next_created next acts

-- a change of the settings from this revision on, and then what stands behind it
abbrev pub change_plan : ℕ → Plan → Plan
change_plan revision more = adds (Changed (revision + 1)) more

-- What acts ask for from this revision on, in order: each job that they create is made, each ask is asked of a job that lives
-- or was created by an act before it, and else is ignored, and each change is made.
abbrev pub act_plan : (Id → Bool) → ℕ → List Act → Plan
act_plan there revision [] = Done
act_plan there revision (Create id command ∷ acts) = adds (Made id) (act_plan (λ job. same id job || there job) revision acts)
act_plan there revision (Ask id ask ∷ acts) = if there id then ask_plan id (sends_of ask) (act_plan there revision acts) else adds (Said Ignored) (act_plan there revision acts)
act_plan there revision (Change change ∷ acts) = change_plan revision (act_plan there (revision + 1) acts)
act_plan there revision (Quit ∷ acts) = act_plan there revision acts
act_plan there revision (QuitGracefully signal grace ∷ acts) = act_plan there revision acts

-- these ids with those of the jobs that acts create
abbrev pub with_created : List Act → List Id → List Id
with_created [] ids = ids
with_created (Create id command ∷ acts) ids = with_created acts (with_id id ids)
with_created (Ask id ask ∷ acts) ids = with_created acts ids
with_created (Change change ∷ acts) ids = with_created acts ids
with_created (Quit ∷ acts) ids = with_created acts ids
with_created (QuitGracefully signal grace ∷ acts) ids = with_created acts ids

-- What the acts of a batch that is handed behind these entries ask for: they themselves, and behind them what their quit, where it is
-- a graceful one, asks of each job that lives then, by rising id.
abbrev pub with_quit_asks : List Entry → List Act → List Act
with_quit_asks p acts = acts ++ quit_asks (quit_of acts) (with_created acts (jobs p))

-- the end: each job that lives ends, in this order
abbrev pub first_end : List Id → List Entry → Plan
first_end [] p = Done
first_end (id ∷ ids) p = end_plan id p

abbrev pub end : List Entry → Plan
end p = first_end (jobs p) p

-- ids that rise, and ids below a number
abbrev pub AreRising : List Id → Type 0
AreRising [] = Unit {0}
AreRising (id ∷ ids) = AllByRecursion (λ job. id.0 < job.0) ids × AreRising ids

abbrev pub AreBelow : ℕ → List Id → Type 0
AreBelow n ids = AllByRecursion (λ id. id.0 < n) ids
