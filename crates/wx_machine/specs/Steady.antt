-- What calls on children leave of the outside.
use Rattle.std.specs.Prelude.{◌≡◌, ◌≤◌, ◌+◌, ℕ, Bool, true, Some}
use Rattle.wx_tree.specs.Trees.{Tree}
use Rattle.wx_scan.specs.Looked.{Looked}
use Rattle.wx_journal.specs.declared.entry.Entry.{Entry}
use Rattle.wx_journal.specs.Names.{moment}
use Rattle.wx_journal.specs.Told.{tell, Counts}
use Rattle.wx_journal.specs.Written.{Written}
use Rattle.wx_machine.specs.Seen.{Seen, Hooked}

-- What a call that is no look leaves of what was seen of files: counts never fall, backends stay exact, and where it is known what the
-- tree is from the next turn on this stays so, and so does the tree.
pub record StaysLooked (a b : Looked) : Type 0 where
  pub looks_kept : a.looks ≤ b.looks
  pub faults_kept : a.faults ≤ b.faults
  pub exact_kept : a.exact ≡ true → b.exact ≡ true
  pub shape_kept : (t : Tree) → a.shape ≡ Some t → b.shape ≡ Some t
  pub tree_kept : (t : Tree) → a.shape ≡ Some t → b.tree ≡ a.tree

-- its plan, where it is in its turns, where the object lies that is lent to it, and what was seen of files
pub record IsSteady {Fixed : Type 0} (a b : Seen Fixed) : Type 0 where
  pub plan_kept : b.plan ≡ a.plan
  pub progress_kept : b.progress ≡ a.progress
  pub place_kept : b.place ≡ a.place
  pub looked_kept : StaysLooked a.looked b.looked

-- all but the room, of which there is no less
pub record OnlyRoom {Fixed : Type 0} (a b : Seen Fixed) : Type 0 where
  pub steady : IsSteady a b
  pub shown : b.shown ≡ a.shown
  pub kept : a.spare ≤ b.spare

-- a call was told as this entry, in room that was taken before; where it failed the count rose
pub record Tells {Fixed : Type 0} (e : Entry) (failed : Bool) (a b : Seen Fixed) : Type 0 where
  pub steady : IsSteady a b
  pub told : b.shown.told ≡ tell e a.shown.told
  pub counts : Counts failed a.shown.faults b.shown.faults
  pub room : a.spare ≤ b.spare + 1

-- so much room is there, in the journal and in the host
pub record AreSpare {Fixed : Type 0} (n : ℕ) (j : Written) (a : Seen Fixed) : Type 0 where
  pub in_journal : n ≤ j.spare
  pub in_host : n ≤ a.spare

-- what calls leave that use this much room at most, in no new turn
pub record Spends {Fixed : Type 0} (n : ℕ) (j : Written) (a : Seen Fixed) (j' : Written) (b : Seen Fixed) : Type 0 where
  pub steady : IsSteady a b
  pub now : moment j'.past ≡ moment j.past
  pub in_journal : j.spare ≤ j'.spare + n
  pub in_host : a.spare ≤ b.spare + n

-- so much room is there, in the journal and in the host, and so much in the hooks
pub record HaveRoom {Fixed Fixed' : Type 0} (n m : ℕ) (j : Written) (a : Seen Fixed) (x : Hooked Fixed') : Type 0 where
  pub in_journal : n ≤ j.spare
  pub in_host : n ≤ a.spare
  pub in_hooks : m ≤ x.spare

-- what calls leave that use this much room at most, and so much of the hooks', in no new turn
pub record UseRoom {Fixed Fixed' : Type 0} (n m : ℕ) (j : Written) (a : Seen Fixed) (x : Hooked Fixed') (j' : Written) (b : Seen Fixed) (x' : Hooked Fixed') : Type 0 where
  pub steady : IsSteady a b
  pub now : moment j'.past ≡ moment j.past
  pub in_journal : j.spare ≤ j'.spare + n
  pub in_host : a.spare ≤ b.spare + n
  pub in_hooks : x.spare ≤ x'.spare + m
