-- What is kept of what backends brought, as entries come.
use Rattle.std.specs.Prelude.{ℕ, Bool, true, false, nat_le, ◌==◌, ◌||◌, if◌then◌else◌, None, Result, List, [], ◌∷◌, drop}
use Rattle.wx_scan.specs.declared.backend.Backend.{Ghosts}
use Rattle.wx_notify.specs.declared.notify.Notify.{Notify}
use Rattle.wx_watch.specs.declared.notify_fault.NotifyFault.{NotifyFault}
use Rattle.wx_lane.specs.Lanes.{hear, put_item}
use Rattle.wx_journal.specs.declared.entry.Entry.{Entry}
use Rattle.wx_journal.specs.declared.entry.Entry.TheVariants.{Brought, LetGo}
use Rattle.wx_journal.specs.declared.entry.LetGoCause.TheVariants.{Full}
use Rattle.wx_machine.specs.Files.{asked}
use Rattle.wx_file_turns.specs.declared.files.Watching.{Watching}
use Rattle.wx_file_turns.specs.declared.intake.Intake.{Intake}

-- nothing was brought
abbrev pub nothing_brought : ℕ → Intake
nothing_brought size = record { lane = record { items = []; size = size }; asks = None; since = 0; fence = 0; fenced = false }

-- Settings of this revision were applied, where so many backends and items have a name. Where the same is watched in the same way,
-- the backends that are live still are.
abbrev pub begun : ℕ → Bool → ℕ → ℕ → Intake → Intake
begun revision same backs items i = record i { asks = asked revision; since = if same then i.since else backs; fence = items; fenced = false }

-- a backend brought this, under this name
abbrev pub brought : ℕ → ℕ → Result Notify NotifyFault → Intake → Intake
brought item back answer i = record i { lane = put_item item back answer i.lane }

-- This is listed, and let go where as many wait as may.
abbrev pub listed : Bool → ℕ → ℕ → Result Notify NotifyFault → List Entry → List Entry
listed full item back answer p = if full then LetGo item Full ∷ Brought item back answer ∷ p else Brought item back answer ∷ p

-- a step was done, where so many items have a name
abbrev pub stepped : ℕ → Intake → Intake
stepped items i = if i.fenced then i else record i { fence = items }

-- the item of this name was heard
abbrev pub heard : ℕ → Intake → Intake
heard item i = record i { lane = record i.lane { items = hear item i.lane.items }; fenced = true }

-- the first item left
abbrev pub left : Intake → Intake
left i = record i { lane = record i.lane { items = drop 1 i.lane.items } }

-- it was told that all is watched
abbrev pub told : Intake → Intake
told i = record i { asks = None }

-- a backend is live where it is the one that stands, or none before this name
abbrev pub is_live_by : {B : Type 0} {G : Ghosts B} → Watching B G → ℕ → ℕ → Bool
is_live_by w since back = w.back == back || nat_le since back
