-- What comes after a failed call on a child, said of entries alone.
use Rattle.std.specs.Prelude.{◌≡◌, ℕ, ◌==◌, Bool, true, false, not, ◌&&◌, ◌||◌, if◌then◌else◌, Some, Ok, Err, List, [], ◌∷◌}
use Rattle.wx_control.specs.declared.id.Id.{Id}
use Rattle.wx_control.specs.declared.control.Control.{Control}
use Rattle.wx_control.specs.declared.control.Control.TheVariants.{GracefulStop, TryGracefulRestart, Signal as Signalled}
use Rattle.wx_control.specs.declared.level.Level.{Level}
use Rattle.wx_control.specs.declared.level.Level.TheVariants.{Normal, High, Urgent}
use Rattle.wx_journal.specs.declared.entry.Entry.{Entry}
use Rattle.wx_journal.specs.declared.entry.Entry.TheVariants.{Made, Asked, Pick, GraceOver, Spawn, Signal}
use Rattle.wx_journal.specs.Sorts.{Subject, OfChild, sort}
use Rattle.wx_machine.specs.declared.grace.Grace.{Grace}
use Rattle.wx_machine.specs.History.{same, grace, owner}
use Rattle.wx_machine.specs.JobLaws.{is_owner, NamesChildren, NamesTickets}

-- the spawn of this child failed
abbrev pub is_unborn : ℕ → List Entry → Bool
is_unborn c [] = false
is_unborn c (Spawn d job tag what (Err fault) ∷ p) = d == c || is_unborn c p
is_unborn c (_ ∷ p) = is_unborn c p

-- an entry that is about a child is about one whose spawn didn't fail
abbrev pub IsBorn : Subject → List Entry → Type 0
IsBorn (OfChild c) p = is_unborn c p ≡ false
IsBorn (_) p = Unit {0}

-- after a failed spawn no signal, kill, wait or letting go names its child
abbrev pub AreBorn : List Entry → Type 0
AreBorn [] = Unit {0}
AreBorn (e ∷ p) = IsBorn (sort e).subject p × AreBorn p

-- a control that gives the child a grace
abbrev pub is_graceful : Control → Bool
is_graceful (GracefulStop signal grace) = true
is_graceful (TryGracefulRestart signal grace) = true
is_graceful _ = false

-- a control that sends the child a signal
abbrev pub is_signalling : Control → Bool
is_signalling (Signalled signal) = true
is_signalling control = is_graceful control

-- such a control is asked at the level Normal alone, at which nothing is picked while a grace stands
abbrev pub IsAtLevel : Level → Control → Type 0
IsAtLevel Normal control = Unit {0}
IsAtLevel High control = is_signalling control ≡ false
IsAtLevel Urgent control = is_signalling control ≡ false

abbrev pub AreAtTheirLevels : List Entry → Type 0
AreAtTheirLevels [] = Unit {0}
AreAtTheirLevels (Asked ticket job level control ∷ p) = IsAtLevel level control × AreAtTheirLevels p
AreAtTheirLevels (_ ∷ p) = AreAtTheirLevels p

-- a control that gives a grace was asked under this ticket
abbrev pub asks_grace : ℕ → List Entry → Bool
asks_grace ticket [] = false
asks_grace ticket (Asked t job level control ∷ p) = if t == ticket then is_graceful control else asks_grace ticket p
asks_grace ticket (_ ∷ p) = asks_grace ticket p

-- the control that was picked last for the job, since it was made, is such a one
abbrev pub picks_grace : Id → List Entry → Bool
picks_grace id [] = false
picks_grace id (Made job ∷ p) = not (same job id) && picks_grace id p
picks_grace id (Pick job ticket ∷ p) = if same job id then asks_grace ticket p else picks_grace id p
picks_grace id (_ ∷ p) = picks_grace id p

-- a signal that answered ok was sent to a child of the job in the case of such a control, and since then no grace of it was over, and
-- no signal failed
abbrev pub may_be_over : Id → List Entry → Bool
may_be_over id [] = false
may_be_over id (Made job ∷ p) = not (same job id) && may_be_over id p
may_be_over id (Signal c number (Ok done) ∷ p) = is_owner id (owner c p) && picks_grace id p || may_be_over id p
may_be_over id (Signal c number (Err fault) ∷ p) = not (is_owner id (owner c p)) && may_be_over id p
may_be_over id (GraceOver job ∷ p) = not (same job id) && may_be_over id p
may_be_over id (_ ∷ p) = may_be_over id p

-- A grace is over only where one was begun by a signal that answered ok, and each only once: not after a signal that failed, and not
-- again after the kill or the wait at its end failed.
abbrev pub AreOverOnce : List Entry → Type 0
AreOverOnce [] = Unit {0}
AreOverOnce (GraceOver id ∷ p) = (may_be_over id p ≡ true) × AreOverOnce p
AreOverOnce (_ ∷ p) = AreOverOnce p

-- a grace that stands may be over
abbrev pub MayBeOver : List Entry → Type 0
MayBeOver p = (id : Id) (g : Grace) → grace id p ≡ Some g → may_be_over id p ≡ true

-- all of this, of a journal that gives children and tickets the next names
pub record GoesOnAfterFaults (p : List Entry) : Type 0 where
  pub children : NamesChildren p
  pub tickets : NamesTickets p
  pub levels : AreAtTheirLevels p
  pub standing : MayBeOver p
  pub born : AreBorn p
  pub over : AreOverOnce p
