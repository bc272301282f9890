-- The jobs for which children were spawned.
use Rattle.std.specs.Prelude.{List, [], ◌∷◌, ◌++◌}
use Rattle.wx_control.specs.declared.id.Id.{Id}
use Rattle.wx_journal.specs.declared.entry.Entry.{Entry}
use Rattle.wx_journal.specs.declared.entry.Entry.TheVariants.{Spawn}

-- the job of each spawn, in their order, which is that of the names of children
abbrev pub owners : List Entry → List Id
owners [] = []
owners (Spawn child job tag what answer ∷ p) = owners p ++ job ∷ []
owners (_ ∷ p) = owners p
