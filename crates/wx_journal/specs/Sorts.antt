-- What each entry is, in one row: whom it is a call on, to what it gives a name, what it is about, and whether it holds the
-- fault of a call on a child.
use Rattle.std.specs.Prelude.{ℕ, Bool, true, false, is_err}
use Rattle.wx_control.specs.declared.id.Id.{Id}
use Rattle.wx_journal.specs.declared.entry.Entry.{Entry}
use Rattle.wx_journal.specs.declared.entry.Entry.TheVariants.{Begin, Sent, Turn as Turned, TurnFault, Offer, Word as Said, Take, Filter, Show, Hand, Made, Asked, Changed, Pick, GraceOver, Spawn, Signal, Kill, Wait, Dropped, Raise, Gone, Run, Begun, Poll, Hook, JobError, Dir, Make, Applied, Heard, Brought, LetGo, Ready}

-- whom an entry is a call on. One word is a call on the world in some turns: `is_world` in Told says in which
pub data Callee : Type 0 where
  OnNobody : Callee
  OnWorld : Callee
  OnHooks : Callee

-- to what it gives a name, with the name
pub data Naming : Type 0 where
  NoName : Naming
  NewEvent : ℕ → Naming
  NewTicket : ℕ → Naming
  NewChild : ℕ → Naming
  NewBack : ℕ → Naming
  NewItem : ℕ → Naming

-- What it is about. One that names a job and a child or a ticket of it is about the job.
pub data Subject : Type 0 where
  OfRun : Subject
  OfTurn : Subject
  OfEvents : Subject
  OfWord : Subject
  OfSettings : Subject
  OfFiles : Subject
  OfJob : Id → Subject
  OfChild : ℕ → Subject
  OfTicket : ℕ → Subject

pub record Sort : Type 0 where
  pub callee : Callee
  pub naming : Naming
  pub subject : Subject
  pub fault : Bool

abbrev pub columns : Callee → Naming → Subject → Bool → Sort
columns callee naming subject fault = record { callee = callee; naming = naming; subject = subject; fault = fault }

abbrev pub sort : Entry → Sort
sort (Begin beginning) = columns OnNobody NoName OfRun false
sort (Sent name event priority) = columns OnNobody (NewEvent name) OfEvents false
sort (Turned t) = columns OnWorld NoName OfTurn false
sort (TurnFault code) = columns OnWorld NoName OfTurn false
sort (Offer name item result event priority) = columns OnNobody (NewEvent name) OfEvents false
sort (Said word) = columns OnNobody NoName OfWord false
sort (Take name) = columns OnNobody NoName OfEvents false
sort (Filter n name answer) = columns OnHooks NoName OfEvents false
sort (Show n error wish) = columns OnHooks NoName OfRun false
sort (Hand n names acts) = columns OnHooks NoName OfEvents false
sort (Made job) = columns OnNobody NoName (OfJob job) false
sort (Asked ticket job level control) = columns OnNobody (NewTicket ticket) (OfJob job) false
sort (Changed revision) = columns OnNobody NoName OfSettings false
sort (Pick job ticket) = columns OnNobody NoName (OfJob job) false
sort (GraceOver job) = columns OnNobody NoName (OfJob job) false
sort (Spawn child job tag what answer) = columns OnWorld (NewChild child) (OfJob job) (is_err answer)
sort (Signal child number answer) = columns OnWorld NoName (OfChild child) (is_err answer)
sort (Kill child answer) = columns OnWorld NoName (OfChild child) (is_err answer)
sort (Wait child answer) = columns OnWorld NoName (OfChild child) (is_err answer)
sort (Dropped child) = columns OnWorld NoName (OfChild child) false
sort (Raise ticket) = columns OnWorld NoName (OfTicket ticket) false
sort (Gone job) = columns OnWorld NoName (OfJob job) false
sort (Run job n) = columns OnHooks NoName (OfJob job) false
sort (Begun job n) = columns OnHooks NoName (OfJob job) false
sort (Poll job n ready) = columns OnHooks NoName (OfJob job) false
sort (Hook job n answer) = columns OnHooks NoName (OfJob job) false
sort (JobError job n code) = columns OnHooks NoName (OfJob job) false
sort (Dir n path answer) = columns OnHooks NoName OfFiles false
sort (Make back watcher follow answer) = columns OnWorld (NewBack back) OfFiles false
sort (Applied revision) = columns OnNobody NoName OfFiles false
sort (Heard item) = columns OnNobody NoName OfFiles false
sort (Brought item back answer) = columns OnWorld (NewItem item) OfFiles false
sort (LetGo item cause) = columns OnNobody NoName OfFiles false
sort (Ready revision) = columns OnWorld NoName OfFiles false

-- what is watched
abbrev pub is_files : Subject → Bool
is_files OfFiles = true
is_files (_) = false

-- the entries of what is watched
abbrev pub is_of_files : Entry → Bool
is_of_files e = is_files (sort e).subject

-- a job, or a child or a ticket of one
abbrev pub is_job : Subject → Bool
is_job (OfJob job) = true
is_job (OfChild child) = true
is_job (OfTicket ticket) = true
is_job (_) = false

-- the entries of jobs and of their children
abbrev pub is_of_job : Entry → Bool
is_of_job e = is_job (sort e).subject
