-- What holds of every run.
use Rattle.std.specs.Prelude.{◌≡◌, ℕ, ◌+◌, ◌<◌, ◌≤◌, Bool, true, false, None, ◌⊎◌, List, [], ◌∷◌, ◌++◌, length}
use Rattle.std.specs.List.{AllByRecursion, flat_map}
use Rattle.wx_journal.specs.declared.entry.Entry.{Entry}
use Rattle.wx_journal.specs.declared.entry.Entry.TheVariants.{Turn as Turned, TurnFault, Filter, Show, Hand, Made, Changed}
use Rattle.wx_control.specs.declared.id.Id.{Id}
use Rattle.wx_journal.specs.Names.{moment, was_made}
use Rattle.wx_machine.specs.History.{lives, child}
use Rattle.wx_machine.specs.Jobs.{is_seen}
use Rattle.wx_machine.specs.Start.{Start}
use Rattle.wx_machine.specs.Settings.{pending, revision, change_count}
use Rattle.wx_machine.specs.Journal.{is_urgent_named, passes_unseen, closed, passed, batches, window, is_over}
use Rattle.wx_machine.specs.Due.{Open, agenda}
use Rattle.wx_machine.specs.Last.{last_is}

-- batches, one behind the other
abbrev pub joined : List (List ℕ) → List ℕ
joined batches = flat_map (λ batch. batch) batches

-- the passed events are the batches, joined, and then the window
abbrev pub IsBatched : List Entry → Type 0
IsBatched p = passed p ≡ joined (batches p) ++ window p

-- none of these events is urgent
abbrev pub NoneUrgent : (ℕ → Bool) → List ℕ → Type 0
NoneUrgent urgent names = AllByRecursion (λ name. urgent name ≡ false) names

-- none but the last is urgent
abbrev pub UrgentLast : (ℕ → Bool) → List ℕ → Type 0
UrgentLast urgent [] = Unit {0}
UrgentLast urgent (name ∷ []) = Unit {0}
UrgentLast urgent (name ∷ next ∷ names) = (urgent name ≡ false) × UrgentLast urgent (next ∷ names)

-- which events are urgent, by a journal
abbrev pub urgent_in : List Entry → ℕ → Bool
urgent_in p name = is_urgent_named name p

-- A batch isn't empty, none but its last event is urgent, and where that isn't either, the throttle is over.
pub record IsBatch (s : Start) (p : List Entry) (names : List ℕ) : Type 0 where
  pub some : 0 < length names
  pub urgent_last : UrgentLast (urgent_in p) names
  pub in_time : last_is (urgent_in p) names ≡ false → is_over s p (moment p) ≡ true

-- each batch is one
abbrev pub AreBatches : Start → List Entry → Type 0
AreBatches s [] = Unit {0}
AreBatches s (Hand n names acts ∷ p) = IsBatch s p names × AreBatches s p
AreBatches s (_ ∷ p) = AreBatches s p

-- no urgent event waits in the window
abbrev pub NoneUrgentWaits : List Entry → Type 0
NoneUrgentWaits p = NoneUrgent (urgent_in p) (window p)

-- no urgent event and none without tags was shown to a filter
abbrev pub NoneUnseenIsShown : List Entry → Type 0
NoneUnseenIsShown [] = Unit {0}
NoneUnseenIsShown (Filter n name answer ∷ p) = (passes_unseen name p ≡ false) × NoneUnseenIsShown p
NoneUnseenIsShown (_ ∷ p) = NoneUnseenIsShown p

-- nothing was shown, no event and no error, once the queue was closed
abbrev pub NoneIsShownClosed : List Entry → Type 0
NoneIsShownClosed [] = Unit {0}
NoneIsShownClosed (Filter n name answer ∷ p) = (closed p ≡ false) × NoneIsShownClosed p
NoneIsShownClosed (Show n error wish ∷ p) = (closed p ≡ false) × NoneIsShownClosed p
NoneIsShownClosed (_ ∷ p) = NoneIsShownClosed p

-- a job is made under a new id: the least one under which none was made
pub record IsNewId (p : List Entry) (id : Id) : Type 0 where
  pub new : was_made id p ≡ false
  pub least : (other : Id) → other.0 < id.0 → was_made other p ≡ true

-- or again, under the id of a job that was made before and is gone, which no handler sees, and of which no child runs
pub record IsMadeAgain (p : List Entry) (id : Id) : Type 0 where
  pub before : was_made id p ≡ true
  pub unseen : is_seen id p ≡ false
  pub gone : lives id p ≡ false
  pub idle : child id p ≡ None

-- so it was with each job that was made: new ids are distinct
abbrev pub AreMadeByRule : List Entry → Type 0
AreMadeByRule [] = Unit {0}
AreMadeByRule (Made id ∷ p) = (IsNewId p id ⊎ IsMadeAgain p id) × AreMadeByRule p
AreMadeByRule (_ ∷ p) = AreMadeByRule p

-- Each entry that tells a change answers one that waits. It names the revision of the settings that stand then, which is that of the
-- start with one more for each change so far.
pub record IsRevised (s : Start) (p : List Entry) (named : ℕ) : Type 0 where
  pub waits : 0 < length (pending p)
  pub stands : revision s (Changed named ∷ p) ≡ named
  pub counted : named ≡ s.config.change_signal + change_count (Changed named ∷ p)

abbrev pub AreRevised : Start → List Entry → Type 0
AreRevised s [] = Unit {0}
AreRevised s (Changed named ∷ p) = IsRevised s p named × AreRevised s p
AreRevised s (_ ∷ p) = AreRevised s p

-- Each turn, and the fault of one, came where nothing was owed: all that was due in a turn is done before the next.
abbrev pub AreServed : Start → List Entry → Type 0
AreServed s [] = Unit {0}
AreServed s (Turned t ∷ p) = (agenda s p ≡ Open) × AreServed s p
AreServed s (TurnFault code ∷ p) = (agenda s p ≡ Open) × AreServed s p
AreServed s (_ ∷ p) = AreServed s p

-- the moments of the turns never fall
abbrev pub MomentsRise : List Entry → Type 0
MomentsRise [] = Unit {0}
MomentsRise (Turned t ∷ p) = (moment p ≤ t.at) × MomentsRise p
MomentsRise (_ ∷ p) = MomentsRise p
