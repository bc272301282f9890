-- What a call makes of a state, before the state is changed.
use Rattle.std.specs.Prelude.{Bool, false, not, ◌||◌, List, [], ◌∷◌, ◌++◌, filter}
use Rattle.wx_tree.specs.Paths.{Path, holds}
use Rattle.wx_recursor.specs.Rebuilds.{is_under_any}
use Rattle.wx_recursor.specs.States.{RecursorState}
use Rattle.wx_recursor.specs.declared.owner.Owner.{Owner}
use Rattle.wx_topology.specs.declared.drafts.Draft.{Draft}

-- what is owned at or below none of the paths
abbrev pub spared : List Path → List Owner → List Owner
spared ps os = filter (λ o. not (is_under_any o.path ps)) os

-- it lies at, above or below one of the paths
abbrev pub is_lifted : Path → List Path → Bool
is_lifted q [] = false
is_lifted q (p ∷ ps) = (holds p q || holds q p) || is_lifted q ps

-- the tombstones that lie at, above or below none of the paths
abbrev pub unlifted : List Path → List Path → List Path
unlifted ps qs = filter (λ q. not (is_lifted q ps)) qs

-- the state that the draft makes
abbrev pub drafted : RecursorState → Draft → RecursorState
drafted s d = record s {
  queue = s.queue ++ d.queued.items;
  sweep_due = d.sweep_due;
  owners = spared d.cleared.items s.owners;
  tombstones = unlifted d.lifted.items s.tombstones ++ d.tombstones.items;
}

-- the path is a tombstone
abbrev pub buried : Path → RecursorState → RecursorState
buried p s = record s { tombstones = s.tombstones ++ p ∷ [] }
