-- Why a replay shows an error, and why it asks for a rebuild, by what its backend counts.
use Rattle.std.specs.Prelude.{◌≡◌, ◌⊎◌, ◌≤◌, ℕ, true}
use Rattle.wx_scan.specs.Looked.{Rose}
use Rattle.wx_tree.specs.Lists.{In}
use Rattle.wx_recursor.specs.Identities.{is_path_gone}
use Rattle.wx_recursor.specs.States.{RecursorState}
use Rattle.wx_recursor.specs.declared.errors.ShownError.{ShownError}
use Rattle.wx_recursor.specs.declared.errors.ShownError.TheVariants.{PathAdd}

-- it says that nothing was there to be watched
abbrev pub SaysGone : ShownError → Type 0
SaysGone (PathAdd p f) = is_path_gone f ≡ true
SaysGone (_) = ⊥

-- What has a cause, where the count of faults was this before and is that now: each error that was shown since says that nothing
-- was there, or the count rose. A rebuild is asked for only where it was before, or the count rose.
pub record HaveCauses (s t : RecursorState) (before now : ℕ) : Type 0 where
  pub shown : (e : ShownError) → In e t.shown → In e s.shown ⊎ (SaysGone e ⊎ Rose before now)
  pub asks : t.asks_rebuild ≡ true → (s.asks_rebuild ≡ true) ⊎ Rose before now
  pub faults : before ≤ now
