-- What a call did: there is evidence by which the state changed so.
use Rattle.std.specs.Prelude.{◌≡◌, Bool, Option, List}
use Rattle.wx_watch.specs.declared.notify_fault.NotifyFault.{NotifyFault}
use Rattle.wx_tree.specs.Paths.{Path}
use Rattle.wx_tree.specs.declared.root.Root.{Root}
use Rattle.wx_recursor.specs.States.{Evidence, RecursorState}
use Rattle.wx_recursor.specs.Guarding.{guarded, guarded_at, looked_again}
use Rattle.wx_recursor.specs.Owning.{added, added_result, answered, answered_result, owned, unwatched}
use Rattle.wx_recursor.specs.Identities.{refusal}
use Rattle.wx_recursor.specs.Steps.{released, tried, unwatch_each, visited}
use Rattle.wx_recursor.specs.declared.answers.AddResult.{AddResult}
use Rattle.wx_recursor.specs.declared.answers.Found.{Found}
use Rattle.wx_recursor.specs.declared.answers.GuardFound.{GuardFound}
use Rattle.wx_recursor.specs.declared.answers.Look.{Look}
use Rattle.wx_recursor.specs.declared.answers.Watched.{Watched}
use Rattle.wx_recursor.specs.declared.answers.Watched.TheVariants.{Kept}
use Rattle.wx_recursor.specs.declared.known.Identity.{Identity}
use Rattle.wx_recursor.specs.declared.known.Known.{Known}
use Rattle.wx_recursor.specs.declared.work.Work.{Work}

-- a path was unwatched
abbrev pub Unwatches : Path → RecursorState → RecursorState → Type 0
Unwatches p s t = (u : Option NotifyFault) × (t ≡ unwatched p (refusal u) s)

-- a path that was watched was looked at a second time
abbrev pub Confirms : Path → Identity → RecursorState → RecursorState → AddResult → Type 0
Confirms p i s t end = (look : Look) × (u : Option NotifyFault) × (t ≡ answered p i (Kept look) u s) × (end ≡ answered_result p i (Kept look) s)

-- a path was to be registered
abbrev pub Adds : Path → Identity → RecursorState → RecursorState → AddResult → Type 0
Adds p i s t end = (w : Watched) × (u : Option NotifyFault) × (t ≡ added p i w u s) × (end ≡ added_result p i w s)

-- a path was to be owned
abbrev pub Owns : Root → Path → Identity → Bool → Work → RecursorState → RecursorState → Type 0
Owns r p i scans item s t = (w : Watched) × (u : Option NotifyFault) × (t ≡ owned r p i scans item w u s)

-- these were unwatched, in order
abbrev pub UnwatchesEach : List Known → RecursorState → RecursorState → Type 0
UnwatchesEach ks s t = (us : List (Option NotifyFault)) × (t ≡ unwatch_each ks us s)

-- what serves nothing was let go
abbrev pub Releases : RecursorState → RecursorState → Type 0
Releases s t = (us : List (Option NotifyFault)) × (t ≡ released us s)

-- the last look at a root
abbrev pub LooksAgain : Root → RecursorState → RecursorState → Type 0
LooksAgain r s t = (safe : Bool) × (t ≡ looked_again r safe s)

-- the guard of a root was set to what was found
abbrev pub GuardsAt : Root → GuardFound → RecursorState → RecursorState → Type 0
GuardsAt r found s t = (e : Evidence) × (t ≡ guarded_at r found e s)

-- the guard of a root was searched and set
abbrev pub Guards : Root → RecursorState → RecursorState → Type 0
Guards r s t = (e : Evidence) × (t ≡ guarded r e s)

-- what was found at a root was taken in
abbrev pub Visits : Root → Found → RecursorState → RecursorState → Type 0
Visits r found s t = (e : Evidence) × (t ≡ visited r found e s)

-- what was found at a candidate was taken in
abbrev pub Tries : Root → Path → Found → RecursorState → RecursorState → Type 0
Tries r p found s t = (e : Evidence) × (t ≡ tried r p found e s)
