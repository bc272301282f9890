-- What contracts see of the outside.
use Rattle.std.specs.Prelude.{ℕ, Bool, Option, List}
use Rattle.wx_journal.specs.declared.entry.Entry.{Entry}
use Rattle.wx_scan.specs.Looked.{Looked}
use Rattle.wx_machine.specs.Progress.{Progress}

-- the entries that were told so far, the newest first, where it tells, and how often a call on a child failed
pub record Shown : Type 0 where
  pub told : Option (List Entry)
  pub faults : ℕ

-- What no call changes; what was told; how many entries there is room to tell; where it is in its turns; where the object lies
-- that is lent to it; and what was seen of the tree of files.
pub record Seen (Fixed : Type 0) : Type 0 where
  pub plan : Fixed
  pub shown : Shown
  pub spare : ℕ
  pub progress : Progress
  pub place : List ℕ
  pub looked : Looked

-- the same of hooks: what no call changes, what was told, how many entries there is room to tell, whether something was
-- refused for want of memory, and where the object lies that is lent to them
pub record Hooked (Fixed : Type 0) : Type 0 where
  pub plan : Fixed
  pub told : Option (List Entry)
  pub spare : ℕ
  pub short : Bool
  pub place : List ℕ
