-- Below which paths a step asks what judges directories.
use Rattle.std.specs.Prelude.{◌≡◌, true, List, [], ◌∷◌}
use Rattle.wx_tree.specs.Lists.{In}
use Rattle.wx_tree.specs.Paths.{Path, holds}
use Rattle.wx_tree.specs.declared.root.Root.{Root}
use Rattle.wx_recursor.specs.declared.work.Item.{Item}
use Rattle.wx_recursor.specs.declared.work.Item.TheVariants.{Candidate, Guard, Scan, Visit}
use Rattle.wx_recursor.specs.declared.work.Work.{Work}
use Rattle.wx_recursor.specs.declared.work.Work.TheVariants.{Plain, Probe}

-- a candidate lies at or below its root, which is one of these
abbrev pub ItemAsksBelow : List Path → Item → Type 0
ItemAsksBelow under (Guard r) = Unit {0}
ItemAsksBelow under (Visit r) = Unit {0}
ItemAsksBelow under (Scan r p) = Unit {0}
ItemAsksBelow under (Candidate r p) = (holds r.path p ≡ true) × In r.path under

abbrev pub WorkAsksBelow : List Path → Work → Type 0
WorkAsksBelow under (Plain i) = ItemAsksBelow under i
WorkAsksBelow under (Probe p owners) = Unit {0}

-- where the first of the queue is a candidate, it lies at or below its root, which is one of these
abbrev pub FirstAsksBelow : List Path → List Work → Type 0
FirstAsksBelow under [] = Unit {0}
FirstAsksBelow under (w ∷ q) = WorkAsksBelow under w

-- each recursive root is one of these
abbrev pub AreAllowed : List Path → List Root → Type 0
AreAllowed under roots = (r : Root) → In r roots → r.recursive ≡ true → In r.path under
