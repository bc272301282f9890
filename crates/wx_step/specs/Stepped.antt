-- What a step did: there is evidence by which the state changed so.
use Rattle.std.specs.Prelude.{◌≡◌, ◌⊎◌, Bool, false, List, []}
use Rattle.wx_scan.specs.Looked.{Looked, Rose}
use Rattle.wx_recursor.specs.Calls.{has_work}
use Rattle.wx_recursor.specs.States.{Evidence, RecursorState}
use Rattle.wx_recursor.specs.Steps.{acted, acted_item, stepped, stepped_at, told}
use Rattle.wx_recursor.specs.declared.errors.ShownError.{ShownError}
use Rattle.wx_recursor.specs.declared.work.Item.{Item}
use Rattle.wx_recursor.specs.declared.work.Work.{Work}

-- an item was done
abbrev pub ActsItem : Item → RecursorState → RecursorState → Type 0
ActsItem i s t = (e : Evidence) × (t ≡ acted_item i e s)

-- what is queued was done
abbrev pub Acts : Work → RecursorState → RecursorState → Type 0
Acts w s t = (e : Evidence) × (t ≡ acted w e s)

-- the first of the queue was done, or the sweep
abbrev pub Firsts : RecursorState → RecursorState → Type 0
Firsts s t = (e : Evidence) × (t ≡ stepped_at s.queue e s)

-- a step was done
abbrev pub Steps : RecursorState → RecursorState → Type 0
Steps s t = (e : Evidence) × (t ≡ stepped e s)

-- What a step hands out is what it showed, and whether it asks for a rebuild. It keeps neither.
pub record Hands (s t : RecursorState) (errors : List ShownError) (asks_rebuild : Bool) : Type 0 where
  pub evidence : Evidence
  pub state : t ≡ told (stepped evidence s)
  pub shown : errors ≡ (stepped evidence s).shown
  pub rebuild : asks_rebuild ≡ (stepped evidence s).asks_rebuild

-- The sweep: nothing was queued, and no work is left.
pub record Sweeps (s t : RecursorState) : Type 0 where
  pub empty : s.queue ≡ []
  pub rests : has_work t.queue t.sweep_due ≡ false

-- a step looked at files, or it was the sweep
abbrev pub LooksOrSweeps : RecursorState → RecursorState → Looked → Looked → Type 0
LooksOrSweeps s t a b = Rose a.looks b.looks ⊎ Sweeps s t
