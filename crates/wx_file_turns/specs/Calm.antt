-- Runs in which nothing fails, on a tree that stays still.
use Rattle.std.specs.Prelude.{◌≡◌, ℕ, Bool, true, false, Some, Ok, List}
use Rattle.wx_tree.specs.Paths.{Path}
use Rattle.wx_tree.specs.Places.{place}
use Rattle.wx_tree.specs.Trees.{Tree}
use Rattle.wx_scan.specs.Looked.{Looked, Rose}
use Rattle.wx_scan.specs.Told.{IsNamed}
use Rattle.wx_journal.specs.declared.entry.Entry.{Entry}
use Rattle.wx_journal.specs.declared.entry.Entry.TheVariants.{Applied, Dir}
use Rattle.wx_machine.specs.Start.{Start}
use Rattle.wx_machine.specs.Settings.{settings}
use Rattle.wx_machine.specs.Added.{Each}

-- links aren't followed by the settings that are applied, and a directory is judged as the test of this filter says
abbrev pub IsCalmEntry : (ℕ → Path → Bool) → Start → List Entry → Entry → Type 0
IsCalmEntry ok s p (Applied revision) = (settings s p).follow_symlinks ≡ false
IsCalmEntry ok s p (Dir n path answer) = answer ≡ Ok (ok n (place path))
IsCalmEntry ok s p (_) = Unit {0}

abbrev pub AreCalm : (ℕ → Path → Bool) → Start → List Entry → Type 0
AreCalm ok s p = Each (IsCalmEntry ok s) p

-- The tree will be this one from the next turn on, and backends that are made are exact where links aren't followed.
pub record Foresees (t : Tree) (a : Looked) : Type 0 where
  pub shape : a.shape ≡ Some t
  pub exact : a.exact ≡ true

-- From this moment, before a turn, to that one, which has this journal, nothing failed.
pub record StaysCalm (t : Tree) (ok : ℕ → Path → Bool) (s : Start) (p : List Entry) (a b : Looked) : Type 0 where
  pub named : IsNamed t
  pub foresees : Foresees t a
  pub no_fault : Rose a.faults b.faults → ⊥
  pub calm : AreCalm ok s p

-- The same within a turn, on this tree.
pub record IsCalmTurn (t : Tree) (ok : ℕ → Path → Bool) (s : Start) (p : List Entry) (a b : Looked) : Type 0 where
  pub tree : a.tree ≡ Some t
  pub stays : StaysCalm t ok s p a b
