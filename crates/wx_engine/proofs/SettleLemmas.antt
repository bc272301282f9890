-- What turns leave of how few steps there are, where nothing fails.
use Rattle.wx_scan.specs.declared.backend.Backend.{Ghosts}
use Rattle.std.proofs.Common.{◌≡◌, ◌≤◌, ℕ, Bool, false, List, [], ◌∷◌, arith, refl}
use Rattle.std.specs.Prelude.{None, Some, Result, Ok, OnOk}
use Rattle.wx_tree.specs.Paths.{Path}
use Rattle.wx_tree.specs.Trees.{Tree}
use Rattle.wx_scan.specs.Backings.{Backing}
use Rattle.wx_scan.specs.Looked.{Looked, Rose}
use Rattle.wx_scan.specs.Told.{IsNamed}
use Rattle.wx_journal.specs.declared.entry.Entry.{Entry}
use Rattle.wx_journal.specs.declared.entry.Entry.TheVariants.{Turn as Turned, TurnFault}
use Rattle.wx_journal.specs.declared.entry.Turn.{Turn}
use Rattle.wx_journal.specs.Names.{count}
use Rattle.wx_machine.specs.Start.{Start}
use Rattle.wx_machine.specs.Steady.{StaysLooked}
use Rattle.wx_machine.specs.Files.{AddsNoFiles, is_about_files}
use Rattle.wx_machine.specs.Added.{Added, Same, More}
use Rattle.wx_hooks.specs.Given.{TurnsTree}
use Rattle.wx_file_turns.specs.Calm.{AreCalm, Foresees, StaysCalm}
use Rattle.wx_file_turns.specs.FewSteps.{AddsBeside, FewSteps, IsBeside}
use Rattle.wx_file_turns.proofs.Journals.{Adds, adds_any, beside, beside_no_step, calm_before, few_first, few_over, no_rise_first, no_rise_then, none_of}
use Rattle.wx_file_turns.specs.declared.files.Files.{Files}
use Rattle.wx_file_turns.specs.Intake.{nothing_brought}
use Rattle.wx_file_turns.specs.Settling.{AreSettling, GoesOnSettling}
use Rattle.wx_file_turns.proofs.Settled.{settling_over}
use Rattle.wx_engine.proofs.WatchLemmas.{Aside}

-- ---- entries about nothing that is watched

count_over : (kind : Entry → Bool) (p q : List Entry) → Added (λ r e. kind e ≡ false) p q → count kind q ≡ count kind p
count_over kind p _ Same = refl
count_over kind p _ (More e q a none) = rw none (count_over kind p q a)

-- a turn that isn't about what is watched adds no entry that is
pub aside_beside : (s : Start) (p p' : List Entry) → Aside s p p' → Adds p p' → AddsBeside p p'
aside_beside s p p' h adds =
    let same : count is_about_files p' ≡ count is_about_files p = rw h.last (count_over is_about_files h.before p' h.adds) in
    beside p p' (none_of is_about_files p p' adds same)

pub begun_few : (s : Start) (t : Tree) (p : List Entry) → AddsNoFiles [] p → FewSteps s t p
begun_few s t p adds = few_over s t [] p (beside_no_step [] p (beside [] p adds)) (few_first s t)

pub ended_few : (s : Start) (t : Tree) (p p' : List Entry) → AddsNoFiles p p' → FewSteps s t p → FewSteps s t p'
ended_few s t p p' adds few = few_over s t p p' (beside_no_step p p' (beside p p' adds)) few

-- before the end of all jobs
pub ended_calm : (t : Tree) (ok : ℕ → Path → Bool) (s : Start) (p p' : List Entry) (a b c : Looked) → AddsNoFiles p p' → StaysLooked b c → StaysCalm t ok s p' a c → StaysCalm t ok s p a b
ended_calm t ok s p p' a b c adds kept calm = record {
  named = calm.named;
  foresees = calm.foresees;
  no_fault = no_rise_first a.faults b.faults c.faults kept.faults_kept calm.no_fault;
  calm = calm_before ok s p p' (adds_any p p' adds) calm.calm;
}

turn_beside : (t : Turn) → IsBeside (Turned t)
turn_beside t = record { none_applied = refl; none_done = refl }

pub fault_beside : (code : ℕ) (p p' : List Entry) → p' ≡ TurnFault code ∷ p → AddsBeside p p'
fault_beside code p p' grown = rw grown (More (TurnFault code) p Same (record { none_applied = refl; none_done = refl }))

-- ---- what is known of the tree

foresees_on : (t : Tree) (a b : Looked) → StaysLooked a b → Foresees t a → Foresees t b
foresees_on t a b stays h = record { shape = stays.shape_kept t h.shape; exact = stays.exact_kept h.exact }

on_ok : {X E : Type 0} (result : Result X E) (x : X) (P : Type 0) → result ≡ Ok x → OnOk result P → P
on_ok result x P is h = rw is at h

module _ {B : Type 0} {G : Ghosts B} (backing : B → Backing) (fits : B → Tree → Type 0) (s : Start) where
  -- Since then nothing that failed is known, so that what was known of what is watched then is known still.
  abbrev pub SettlesSince : List Entry → Files B G → Looked → List Entry → Files B G → Looked → Type 0
  SettlesSince p₀ f₀ a₀ p f a = (t : Tree) (ok : ℕ → Path → Bool) → IsNamed t → Foresees t a₀ → Foresees t a × (AreCalm ok s p → (Rose a₀.faults a.faults → ⊥) → AreSettling backing fits t ok s p₀ f₀ → AreSettling backing fits t ok s p f)

  -- the same within a turn
  abbrev pub SettlesInTurn : List Entry → Files B G → Looked → List Entry → Files B G → Looked → Type 0
  SettlesInTurn p₀ f₀ a₀ p f a = (t : Tree) (ok : ℕ → Path → Bool) → IsNamed t → Foresees t a₀ → (a.tree ≡ Some t) × Foresees t a × (AreCalm ok s p → (Rose a₀.faults a.faults → ⊥) → AreSettling backing fits t ok s p₀ f₀ → AreSettling backing fits t ok s p f)

  pub since_none : (p : List Entry) (f : Files B G) (a : Looked) → SettlesSince p f a p f a
  since_none p f a = λ t ok named foresees. (foresees, λ calm none h. h)

  -- a turn was drawn, behind room that was taken
  pub since_turn : (p₀ : List Entry) (f₀ : Files B G) (a₀ : Looked) (p p' : List Entry) (f : Files B G) (a m b : Looked) (turn : Turn) → SettlesSince p₀ f₀ a₀ p f a → p' ≡ Turned turn ∷ p → StaysLooked a m → TurnsTree m b → SettlesInTurn p₀ f₀ a₀ p' f b
  since_turn p₀ f₀ a₀ p p' f a m b turn since grown room drawn = λ t ok named foresees.
      let h = since t ok named foresees in
      let mid = foresees_on t a m room h.0 in (
        drawn.tree_now t mid.shape,
        record { shape = drawn.shape_kept t mid.shape; exact = drawn.exact_kept mid.exact },
        λ calm none before.
            let quiet = no_rise_first a₀.faults a.faults b.faults (omega (arith, room.faults_kept, drawn.faults_kept)) none in
            rw grown (settling_over backing fits s t ok f p (Turned turn ∷ p) (More (Turned turn) p Same (turn_beside turn)) (h.1 ((rw grown at calm).1) quiet before)),
      )

  -- and served
  pub turn_settles : {X E : Type 0} (result : Result X E) (p₀ : List Entry) (f₀ : Files B G) (a₀ : Looked) (p p' : List Entry) (f f' : Files B G) (a b : Looked) (t : Tree) (ok : ℕ → Path → Bool) → SettlesInTurn p₀ f₀ a₀ p f a → GoesOnSettling backing fits result s f p a f' p' b → Adds p p' → a₀.faults ≤ a.faults → StaysLooked a b → StaysCalm t ok s p' a₀ b → AreSettling backing fits t ok s p₀ f₀ → FewSteps s t p' × OnOk result (AreSettling backing fits t ok s p' f')
  turn_settles result p₀ f₀ a₀ p p' f f' a b t ok since on adds later stays calm before =
      let h = since t ok calm.named calm.foresees in
      let now = h.2 (calm_before ok s p p' adds calm.calm) (no_rise_first a₀.faults a.faults b.faults stays.faults_kept calm.no_fault) before in
      on t ok (record { tree = h.0; stays = record { named = calm.named; foresees = h.1; no_fault = no_rise_then a₀.faults a.faults b.faults later calm.no_fault; calm = calm.calm } }) now

  pub since_served : {X E : Type 0} (result : Result X E) (x : X) (p₀ : List Entry) (f₀ : Files B G) (a₀ : Looked) (p p' : List Entry) (f f' : Files B G) (a b : Looked) → result ≡ Ok x → SettlesInTurn p₀ f₀ a₀ p f a → GoesOnSettling backing fits result s f p a f' p' b → Adds p p' → a₀.faults ≤ a.faults → StaysLooked a b → SettlesSince p₀ f₀ a₀ p' f' b
  since_served result x p₀ f₀ a₀ p p' f f' a b is since on adds later stays = λ t ok named foresees. (
    foresees_on t a b stays (since t ok named foresees).1,
    λ calm none before. on_ok result x (AreSettling backing fits t ok s p' f') is (turn_settles result p₀ f₀ a₀ p p' f f' a b t ok since on adds later stays (record { named = named; foresees = foresees; no_fault = none; calm = calm }) before).1,
  )

  -- where turns end: behind a turn that was drawn
  pub few_turned : (p₀ : List Entry) (f₀ : Files B G) (a₀ : Looked) (p : List Entry) (f : Files B G) (a : Looked) → SettlesInTurn p₀ f₀ a₀ p f a → (t : Tree) (ok : ℕ → Path → Bool) → StaysCalm t ok s p a₀ a → AreSettling backing fits t ok s p₀ f₀ → FewSteps s t p
  few_turned p₀ f₀ a₀ p f a since t ok calm before = ((since t ok calm.named calm.foresees).2 calm.calm calm.no_fault before).few

  -- behind room that was taken, or the fault of a turn
  pub few_between : (p₀ : List Entry) (f₀ : Files B G) (a₀ : Looked) (p p' : List Entry) (f : Files B G) (a b : Looked) → SettlesSince p₀ f₀ a₀ p f a → AddsBeside p p' → a.faults ≤ b.faults → (t : Tree) (ok : ℕ → Path → Bool) → StaysCalm t ok s p' a₀ b → AreSettling backing fits t ok s p₀ f₀ → FewSteps s t p'
  few_between p₀ f₀ a₀ p p' f a b since more then t ok calm before =
      let h = (since t ok calm.named calm.foresees).1 (calm_before ok s p p' (adds_any p p' more) calm.calm) (no_rise_first a₀.faults a.faults b.faults then calm.no_fault) before in
      few_over s t p p' (beside_no_step p p' more) h.few

  -- at the beginning nothing is watched
  pub first_settles : (t : Tree) (ok : ℕ → Path → Bool) (p : List Entry) (f : Files B G) (size : ℕ) → FewSteps s t p → f.source ≡ None → f.intake ≡ nothing_brought size → AreSettling backing fits t ok s p f
  first_settles t ok p f size few none nothing = record { few = few; harmless = rw nothing tt; walks = rw none tt }
