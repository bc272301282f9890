-- What a turn leaves of what keeps watches.
use Rattle.wx_scan.specs.declared.backend.Backend.{Ghosts}
use Rattle.std.specs.Prelude.{◌≡◌, Bool, true, false, Option, None, Some, List, ◌∷◌}
use Rattle.wx_holding.specs.Holding.{state_of}
use Rattle.wx_journal.specs.declared.entry.Entry.{Entry}
use Rattle.wx_machine.specs.Start.{Start}
use Rattle.wx_machine.specs.Due.{rest_entry}
use Rattle.wx_worker.specs.Stands.{MayShow}
use Rattle.wx_file_turns.specs.declared.files.Watching.{Watching}
use Rattle.wx_file_turns.specs.Hearing.{messages_by, told_all}
use Rattle.wx_file_turns.specs.Showing.{DoesStep}
use Rattle.wx_file_turns.specs.Standing.{works}

-- There was no step to take: what comes then came, and maybe a fault was shown; what keeps watches was told what that entry tells.
pub record Rests {B : Type 0} {G : Ghosts B} (s : Start) (w v : Watching B G) (p p' : List Entry) : Type 0 where
  pub comes : MayShow (rest_entry s p ∷ p) p'
  pub told : state_of v.recursor.held ≡ told_all s.folder (messages_by s p (rest_entry s p)) (state_of w.recursor.held)

-- It did a step where it had work, and else rested.
abbrev pub AttendedBy : {B : Type 0} {G : Ghosts B} → Bool → Start → Watching B G → Watching B G → List Entry → List Entry → Type 0
AttendedBy true s w v p p' = DoesStep s w v p p'
AttendedBy false s w v p p' = Rests s w v p p'

-- the same where anything keeps watches
abbrev pub Attended : {B : Type 0} {G : Ghosts B} → Start → Option (Watching B G) → Option (Watching B G) → List Entry → List Entry → Type 0
Attended s None None p p' = Unit {0}
Attended s None (Some v) p p' = ⊥
Attended s (Some w) None p p' = ⊥
Attended s (Some w) (Some v) p p' = AttendedBy (works w) s w v p p'
