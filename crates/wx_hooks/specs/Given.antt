-- What the world answers that is asked for a turn, for a backend, or for what a backend brings.
use Rattle.std.specs.Prelude.{◌≡◌, ◌≤◌, ◌+◌, ◌⊎◌, ℕ, Bool, true, false, not, is_err, Option, None, Some, Result, Ok, Err, IfOk, []}
use Rattle.wx_notify.specs.declared.notify.Notify.{Notify}
use Rattle.wx_watch.specs.declared.notify_fault.NotifyFault.{NotifyFault}
use Rattle.wx_watch.specs.declared.notify_fault.NotifyFaultKind.TheVariants.{Memory as NoMemory}
use Rattle.wx_watch.specs.declared.watched.Watcher.{Watcher}
use Rattle.wx_tree.specs.Trees.{Tree}
use Rattle.wx_scan.specs.Backings.{AllSpellPaths, Backing, Brings, BringsNoChange, IsExact, failed_by, is_memory}
use Rattle.wx_scan.specs.Looked.{Looked, OnlyLooks}
use Rattle.wx_scan.specs.Told.{IsNamed}
use Rattle.wx_journal.specs.declared.entry.Entry.{Entry}
use Rattle.wx_journal.specs.declared.entry.Entry.TheVariants.{Turn as Turned, TurnFault, Make}
use Rattle.wx_journal.specs.Told.{tell, Counts}
use Rattle.wx_machine.specs.Seen.{Seen}
use Rattle.wx_machine.specs.Due.{listened}
use Rattle.wx_machine.specs.Steady.{StaysLooked}
use Rattle.wx_machine.specs.Told.{is_last}
use Rattle.wx_hooks.specs.declared.outside.Turned.{Turned as Given}
use Rattle.wx_hooks.specs.declared.outside.TurnFault.{TurnFault as Fault}

-- the entry of a turn that was asked for
abbrev pub turned : Result Given Fault → Entry
turned (Ok t) = Turned t.turn
turned (Err fault) = TurnFault fault.0

abbrev pub gives_last : Result Given Fault → Bool
gives_last (Ok t) = is_last t.turn.kind
gives_last (Err fault) = false

-- the last moment after a turn that was asked for
abbrev pub moment_after : ℕ → Result Given Fault → ℕ
moment_after before (Ok t) = t.turn.at
moment_after before (Err fault) = before

-- What a turn leaves of what was seen of files: counts never fall, backends stay exact, and where it was known what the tree is from the
-- next turn on, the tree is that now, and so it stays.
pub record TurnsTree (a b : Looked) : Type 0 where
  pub looks_kept : a.looks ≤ b.looks
  pub faults_kept : a.faults ≤ b.faults
  pub exact_kept : a.exact ≡ true → b.exact ≡ true
  pub shape_kept : (t : Tree) → a.shape ≡ Some t → b.shape ≡ Some t
  pub tree_now : (t : Tree) → a.shape ≡ Some t → b.tree ≡ Some t

-- A turn that was asked for was told as its entry, in room that was taken before. Where it failed the count rose, and no
-- count of faults fell.
pub record GivesTurn {Plan : Type 0} (result : Result Given Fault) (a b : Seen Plan) : Type 0 where
  pub told : b.shown.told ≡ tell (turned result) a.shown.told
  pub turns : b.progress.turns ≡ tell (turned result) a.progress.turns
  pub moment : b.progress.moment ≡ moment_after a.progress.moment result
  pub faults : Counts (is_err result) a.progress.turn_faults b.progress.turn_faults
  pub maker_faults : a.progress.maker_faults ≤ b.progress.maker_faults
  pub host_faults : a.shown.faults ≤ b.shown.faults
  pub room : a.spare ≤ b.spare + 1
  pub plan_kept : b.plan ≡ a.plan
  pub place_kept : b.place ≡ a.place
  pub looked : TurnsTree a.looked b.looked

-- what the maker of backends answered, without the backend
abbrev pub made : {B : Type 0} → Result B NotifyFault → Result (Unit {0}) NotifyFault
made (Ok back) = Ok tt
made (Err fault) = Err fault

-- A backend that was asked for was told as its entry, in room that was taken before. It watches nothing yet. Where it couldn't be made,
-- but for want of memory, the count of that rose. Where backends are exact and links aren't followed it is exact, and has seen each tree
-- in which parts are names.
pub record GivesBackend {Plan B : Type 0} (backing : B → Backing) (fits : B → Tree → Type 0) (back : ℕ) (kind : Watcher) (follow : Bool) (result : Result B NotifyFault) (a b : Seen Plan) : Type 0 where
  pub told : b.shown.told ≡ tell (Make back kind follow (made result)) a.shown.told
  pub maker_faults : Counts (failed_by (λ k. not (is_memory k)) result) a.progress.maker_faults b.progress.maker_faults
  pub progress_kept : b.progress ≡ record a.progress { maker_faults = b.progress.maker_faults }
  pub host_faults : b.shown.faults ≡ a.shown.faults
  pub room : a.spare ≤ b.spare + 1
  pub plan_kept : b.plan ≡ a.plan
  pub place_kept : b.place ≡ a.place
  pub looked : StaysLooked a.looked b.looked
  pub empty : IfOk result (λ x. (backing x).registrations ≡ [])
  pub exact : a.looked.exact ≡ true → follow ≡ false → IfOk result (λ x. ((backing x).exact ≡ true) × ((t : Tree) → IsNamed t → fits x t))

-- want of memory, in place of what was brought
abbrev pub unheard : Result Notify NotifyFault
unheard = Err (record { kind = NoMemory; paths = [] })

-- What a backend brought is answered, or want of memory in its place. That it brought nothing is answered always.
abbrev pub IsAnswered : Option (Result Notify NotifyFault) → Option (Result Notify NotifyFault) → Type 0
IsAnswered None result = result ≡ None
IsAnswered (Some next) result = (result ≡ Some next) ⊎ (result ≡ Some unheard)

-- A backend was asked what it brings next, and may have looked at files for it. This was told as its entry, in room that was taken before.
-- What is registered stays. Where the backend is exact, and over a tree that it has seen, it still has, and brings no changes.
pub record GivesNext {Plan B : Type 0} (backing : B → Backing) (fits : B → Tree → Type 0) (item back : ℕ) (result : Option (Result Notify NotifyFault)) (old new : B) (a b : Seen Plan) : Type 0 where
  pub next : Option (Result Notify NotifyFault)
  pub answered : IsAnswered next result
  pub brings : Brings next (backing old) (backing new)
  pub told : b.shown.told ≡ tell (listened item back result) a.shown.told
  pub host_faults : b.shown.faults ≡ a.shown.faults
  pub progress_kept : b.progress ≡ a.progress
  pub room : a.spare ≤ b.spare + 1
  pub plan_kept : b.plan ≡ a.plan
  pub place_kept : b.place ≡ a.place
  pub looked : OnlyLooks a.looked b.looked
  pub fits_still : (t : Tree) → IsExact (backing old) a.looked b.looked t → AllSpellPaths t (backing old).registrations → fits old t → fits new t × BringsNoChange next
