-- The trees and calls of the worked runs.
use Rattle.std.specs.Prelude.{Bool, true, false, not, List, [], ◌∷◌, codes}
use Rattle.wx_tree.specs.declared.node.Node.TheVariants.{Dir, File}
use Rattle.wx_tree.specs.declared.root.Root.{Root}
use Rattle.wx_tree.specs.Paths.{Path, same}
use Rattle.wx_tree.specs.Places.{place}
use Rattle.wx_tree.specs.Trees.{Tree, TreeEntry}
use Rattle.wx_recursor.specs.Calls.{fresh, reconciled, rescanned, created, removed, renamed, unsure}
use Rattle.wx_recursor_tests.specs.Worked.{Run, begin, run}

abbrev pub directory : Path → TreeEntry
directory p = record { path = p; node = Dir }

abbrev pub accepts_all : Path → Bool
accepts_all p = true

abbrev pub w : Path
w = place (codes "/w")

abbrev pub wa : Path
wa = place (codes "/w/a")

abbrev pub wab : Path
wab = place (codes "/w/a/b")

abbrev pub wb : Path
wb = place (codes "/w/b")

-- Levels. The directories /, /w, /w/a and /w/a/b; the root /w is recursive. Then the root is /w/a alone, not recursive.

abbrev pub levels : Tree
levels = directory [] ∷ directory w ∷ directory wa ∷ directory wab ∷ []

abbrev pub whole_root : List Root
whole_root = record { path = w; recursive = true } ∷ []

abbrev pub inner_root : List Root
inner_root = record { path = wa; recursive = false } ∷ []

abbrev pub all_levels : Run
all_levels = run levels accepts_all w 30 (begin (reconciled whole_root 0 fresh) 0)

abbrev pub one_level : Run
one_level = run levels accepts_all w 30 (begin (reconciled inner_root 0 all_levels.state) 0)

-- Failures. The same tree and the first root; the watch of /w/a fails twice.

abbrev pub failing : Run
failing = run levels accepts_all wa 30 (begin (reconciled whole_root 0 fresh) 2)

-- Roots. The directories /, /w, /w/d, /w/d/e and the file /w/f. The filter refuses /w/d. The root /w is recursive; the roots
-- /w/d/e and /w/no aren't, and /w/no is absent.

abbrev pub wd : Path
wd = place (codes "/w/d")

abbrev pub wde : Path
wde = place (codes "/w/d/e")

abbrev pub wno : Path
wno = place (codes "/w/no")

abbrev pub refusing_tree : Tree
refusing_tree = directory [] ∷ directory w ∷ directory wd ∷ directory wde ∷ record { path = place (codes "/w/f"); node = File 1 } ∷ []

abbrev pub refuses_d : Path → Bool
refuses_d p = not (same wd p)

abbrev pub three_roots : List Root
three_roots = record { path = w; recursive = true } ∷ record { path = wde; recursive = false } ∷ record { path = wno; recursive = false } ∷ []

abbrev pub of_three_roots : Run
of_three_roots = run refusing_tree refuses_d [] 30 (begin (reconciled three_roots 0 fresh) 0)

-- Changes. The root /w is recursive. /w/a is made, and goes; /w/b is made. Each change is told, and settles.

abbrev pub with_w : Tree
with_w = directory [] ∷ directory w ∷ []

abbrev pub with_a : Tree
with_a = directory [] ∷ directory w ∷ directory wa ∷ []

abbrev pub with_b : Tree
with_b = directory [] ∷ directory w ∷ directory wb ∷ []

abbrev pub before_changes : Run
before_changes = run with_w accepts_all w 30 (begin (reconciled whole_root 0 fresh) 0)

abbrev pub a_made : Run
a_made = run with_a accepts_all w 30 (begin (created wa before_changes.state) 0)

abbrev pub a_gone : Run
a_gone = run with_w accepts_all w 30 (begin (removed wa a_made.state) 0)

abbrev pub b_made : Run
b_made = run with_b accepts_all w 30 (begin (renamed wa wb a_gone.state) 0)

abbrev pub b_changed : Run
b_changed = run with_b accepts_all w 30 (begin (unsure wb b_made.state) 0)

abbrev pub scanned_anew : Run
scanned_anew = run with_b accepts_all w 30 (begin (rescanned b_changed.state) 0)
