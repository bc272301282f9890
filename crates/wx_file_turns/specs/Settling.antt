-- What turns leave of what keeps watches, on a tree that stays still, where nothing fails.
use Rattle.wx_scan.specs.declared.backend.Backend.{Ghosts}
use Rattle.std.specs.Prelude.{◌≡◌, ℕ, Bool, false, Option, None, Some, Result, OnOk, List}
use Rattle.wx_config.specs.declared.config.Config.{Config}
use Rattle.wx_error.specs.declared.runtime.RuntimeError.{RuntimeError}
use Rattle.wx_tree.specs.Lists.{In}
use Rattle.wx_tree.specs.Paths.{Path}
use Rattle.wx_tree.specs.Trees.{Tree}
use Rattle.wx_scan.specs.Backings.{Backing}
use Rattle.wx_scan.specs.Looked.{Looked}
use Rattle.wx_holding.specs.Holding.{state_of}
use Rattle.wx_fs.specs.Kept.{kept_roots}
use Rattle.wx_fs.specs.Settling.{BackendStands}
use Rattle.wx_fs.specs.declared.recursor.Recursor.{Recursor}
use Rattle.wx_journal.specs.declared.entry.Entry.{Entry}
use Rattle.wx_journal.specs.declared.entry.Entry.TheVariants.{Show}
use Rattle.wx_machine.specs.Start.{Start}
use Rattle.wx_file_turns.specs.Calm.{IsCalmTurn}
use Rattle.wx_file_turns.specs.FewSteps.{FewSteps, TurnShowsAbsent, newest_roots, steps_since}
use Rattle.wx_file_turns.specs.Walking.{AreHarmless, IsWalking, WasWalking}
use Rattle.wx_file_turns.specs.declared.files.Files.{Files}
use Rattle.wx_file_turns.specs.declared.files.Watching.{Watching}
use Rattle.wx_file_turns.specs.declared.intake.Intake.{Intake}
use Rattle.wx_file_turns.specs.Applying.{Refreshes, is_settled}

-- It follows no links, takes paths from the folder of the run, and its backend stands by what is registered.
pub record IsSound {B : Type 0} {G : Ghosts B} (backing : B → Backing) (fits : B → Tree → Type 0) (t : Tree) (s : Start) (r : Recursor B G) : Type 0 where
  pub links : r.follow ≡ false
  pub folder : r.cwd ≡ s.folder
  pub stands : BackendStands backing fits t (state_of r.held).registrations r.back

-- with it, its recursor goes on by the settings that were applied
pub record Walks {B : Type 0} {G : Ghosts B} (backing : B → Backing) (fits : B → Tree → Type 0) (t : Tree) (ok : ℕ → Path → Bool) (s : Start) (p : List Entry) (w : Watching B G) : Type 0 where
  pub sound : IsSound backing fits t s w.recursor
  pub walking : IsWalking t ok s p (state_of w.recursor.held)

-- the same before others were applied, where none had more roots than this
pub record Walked {B : Type 0} {G : Ghosts B} (backing : B → Backing) (fits : B → Tree → Type 0) (t : Tree) (ok : ℕ → Path → Bool) (s : Start) (most : ℕ) (w : Watching B G) : Type 0 where
  pub sound : IsSound backing fits t s w.recursor
  pub walked : WasWalking t ok most (state_of w.recursor.held)

abbrev pub AnyOf : {X : Type 0} → (X → Type 0) → Option X → Type 0
AnyOf P None = Unit {0}
AnyOf P (Some x) = P x

-- There were few steps, what waits says nothing of the tree, and what keeps watches goes on, where anything does.
pub record AreSettling {B : Type 0} {G : Ghosts B} (backing : B → Backing) (fits : B → Tree → Type 0) (t : Tree) (ok : ℕ → Path → Bool) (s : Start) (p : List Entry) (f : Files B G) : Type 0 where
  pub few : FewSteps s t p
  pub harmless : AreHarmless f.intake.lane.items
  pub walks : AnyOf (λ w. Walks backing fits t ok s p w) f.source

-- ---- what functions leave of it

-- these settings were applied just now
pub record IsJustApplied (s : Start) (c : Config) (p : List Entry) : Type 0 where
  pub links : c.follow_symlinks ≡ false
  pub newest : newest_roots s p ≡ kept_roots s.folder c.pathset
  pub none_yet : steps_since p ≡ 0

-- its backend, links and folder stay, and it stays as it is where it is settled, and else begins an epoch
pub record IsRefreshed {B X E : Type 0} {G : Ghosts B} (result : Result X E) (c : Config) (w v : Watching B G) : Type 0 where
  pub refreshes : OnOk result (Refreshes (is_settled c w) c w v)
  pub backend : v.recursor.back ≡ w.recursor.back
  pub links : v.recursor.follow ≡ w.recursor.follow
  pub folder : v.recursor.cwd ≡ w.recursor.cwd

abbrev pub AreRefreshed : {B X E : Type 0} {G : Ghosts B} → Result X E → Config → Option (Watching B G) → Option (Watching B G) → Type 0
AreRefreshed result c None None = Unit {0}
AreRefreshed result c None (Some v) = ⊥
AreRefreshed result c (Some w) None = ⊥
AreRefreshed result c (Some w) (Some v) = IsRefreshed result c w v

-- the entry shows one of these errors
abbrev pub ShowsOneOf : List RuntimeError → Entry → Type 0
ShowsOneOf errors (Show n error wish) = In error errors
ShowsOneOf errors (_) = ⊥

-- A turn goes on where nothing failed in it: there were few steps, and where it went well what keeps watches goes on too, and what waits
-- says nothing of the tree.
abbrev pub GoesOnWalking : {B X E : Type 0} {G : Ghosts B} → (B → Backing) → (B → Tree → Type 0) → Result X E → Start → Watching B G → Intake → List Entry → Looked → Watching B G → Intake → List Entry → Looked → Type 0
GoesOnWalking backing fits result s w i p a w' i' p' b =
    (t : Tree) (ok : ℕ → Path → Bool) → IsCalmTurn t ok s p' a b → FewSteps s t p → TurnShowsAbsent s t p → AreHarmless i.lane.items → Walks backing fits t ok s p w
    → FewSteps s t p' × OnOk result (AreHarmless i'.lane.items × Walks backing fits t ok s p' w')

-- the same of all that an engine keeps of what is watched
abbrev pub GoesOnSettling : {B X E : Type 0} {G : Ghosts B} → (B → Backing) → (B → Tree → Type 0) → Result X E → Start → Files B G → List Entry → Looked → Files B G → List Entry → Looked → Type 0
GoesOnSettling backing fits result s f p a f' p' b =
    (t : Tree) (ok : ℕ → Path → Bool) → IsCalmTurn t ok s p' a b → AreSettling backing fits t ok s p f
    → FewSteps s t p' × OnOk result (AreSettling backing fits t ok s p' f')
