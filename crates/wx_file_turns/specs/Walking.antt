-- What a recursor reached, as the settings were applied, where nothing failed.
use Rattle.std.specs.Prelude.{◌≡◌, ◌≤◌, ◌*◌, ℕ, suc, Bool, false, Result, Ok, Err, List, [], ◌∷◌, length}
use Rattle.wx_notify.specs.declared.notify.Notify.{Notify}
use Rattle.wx_watch.specs.declared.notify_fault.NotifyFault.{NotifyFault}
use Rattle.wx_error.specs.declared.runtime.RuntimeError.{RuntimeError}
use Rattle.wx_tree.specs.Lists.{AllOnce, In}
use Rattle.wx_tree.specs.Paths.{Path}
use Rattle.wx_tree.specs.Trees.{Tree, settle}
use Rattle.wx_tree.specs.declared.root.Root.{Root}
use Rattle.wx_lane.specs.declared.lane.LaneItem.{LaneItem}
use Rattle.wx_lane.specs.Messages.{topology_messages}
use Rattle.wx_recursor.specs.States.{RecursorState}
use Rattle.wx_recursor.specs.declared.errors.ShownError.{ShownError}
use Rattle.wx_walk.specs.Reached.{Call}
use Rattle.wx_walk.specs.Wanted.{last_roots}
use Rattle.wx_settle.specs.Runs.{IsEpoch}
use Rattle.wx_journal.specs.declared.entry.Entry.{Entry}
use Rattle.wx_journal.specs.declared.entry.Entry.TheVariants.{Word as Said}
use Rattle.wx_journal.specs.declared.entry.Word.TheVariants.{Stepped}
use Rattle.wx_machine.specs.Start.{Start}
use Rattle.wx_file_turns.specs.FewSteps.{SaysAbsent, earlier_roots, newest_roots, steps_since}

-- An epoch goes on, whose filter is the test of the one that stands.
pub record InEpoch (t : Tree) (ok : ℕ → Path → Bool) (u : RecursorState) : Type 0 where
  pub call : Call
  pub calls : List Call
  pub errors : List ShownError
  pub epoch : IsEpoch t call calls u errors
  pub filter : call.ok ≡ ok u.filter
  pub once : AllOnce call.roots

-- The roots of its call are among those that were applied last, the call before it had no more roots than were applied before, and it had a
-- step for each that was done since.
pub record IsWalking (t : Tree) (ok : ℕ → Path → Bool) (s : Start) (p : List Entry) (u : RecursorState) : Type 0 where
  pub inside : InEpoch t ok u
  pub given : (r : Root) → In r inside.call.roots → In r (newest_roots s p)
  pub before : length (last_roots inside.calls) ≤ earlier_roots s p
  pub steps : steps_since p ≤ inside.call.steps

-- neither its call nor the one before had more roots than this
pub record WasWalking (t : Tree) (ok : ℕ → Path → Bool) (most : ℕ) (u : RecursorState) : Type 0 where
  pub inside : InEpoch t ok u
  pub roots : length inside.call.roots ≤ most
  pub before : length (last_roots inside.calls) ≤ most

-- What a step leaves, of which the word is said behind these entries: it goes on, what it shows is of absent roots, and it asks for no
-- rebuild. It is one of few.
pub record WalksStep (t : Tree) (ok : ℕ → Path → Bool) (s : Start) (p : List Entry) (v : RecursorState) (errors : List RuntimeError) (asks : Bool) : Type 0 where
  pub walking : IsWalking t ok s (Said Stepped ∷ p) v
  pub few : suc (steps_since p) ≤ settle (earlier_roots s p) (length (newest_roots s p)) (length t) (earlier_roots s p * length t)
  pub shown : (error : RuntimeError) → In error errors → SaysAbsent t (newest_roots s p) error
  pub rebuild : asks ≡ false

-- what was brought says nothing of the tree
abbrev pub IsHarmless : Result Notify NotifyFault → Type 0
IsHarmless (Ok n) = topology_messages n ≡ []
IsHarmless (Err fault) = Unit {0}

abbrev pub AreHarmless : List LaneItem → Type 0
AreHarmless [] = Unit {0}
AreHarmless (i ∷ items) = IsHarmless i.item × AreHarmless items
