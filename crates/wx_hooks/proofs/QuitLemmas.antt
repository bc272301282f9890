-- The last act.
use Rattle.std.proofs.Common.{◌≡◌, ℕ, suc, ◌+◌, ◌-◌, Bool, true, false, cond, List, [], ◌∷◌, ◌++◌, length, slice_get, refl, ap, ◌∙◌, arith}
use Rattle.std.specs.Prelude.{Option, None, Some, MatchOption}
use Rattle.std.specs.Option.{option_to_list}
use Rattle.wx_journal.specs.Acts.{JournalAct as Act}
use Rattle.wx_machine.specs.Quits.{is_quit, ends_with_quit}
use Rattle.wx_hooks.specs.KeptHandler.{quit_room}
use Rattle.wx_machine.specs.Last.{without_last}

is_quit_at : Option Act → Bool
is_quit_at None = false
is_quit_at (Some act) = is_quit act

quit_at_end : (acts : List Act) → is_quit_at (slice_get acts (length acts - 1)) ≡ ends_with_quit acts
unfolding is_quit_at
quit_at_end [] = refl
quit_at_end (act ∷ []) = refl
quit_at_end (act ∷ next ∷ acts) = let e : length (act ∷ next ∷ acts) - 1 ≡ suc (length (next ∷ acts) - 1) = omega arith in rw e (quit_at_end (next ∷ acts))

-- the act at the last place
pub at_end : (acts : List Act) (act : Act) → Some act ≡ slice_get acts (length acts - 1) → is_quit act ≡ ends_with_quit acts
unfolding is_quit_at
at_end acts act is = ap is_quit_at is ∙ quit_at_end acts

-- ---- the acts without a quit that stands last

-- one fewer
shorter_by_one : (act : Act) (acts : List Act) → length (without_last is_quit (act ∷ acts)) + 1 ≡ length (act ∷ acts) + quit_room (act ∷ acts)
shorter_by_one act [] = elim (is_quit act) as (λ b. length (cond b [] (act ∷ [])) + 1 ≡ 1 + cond b 0 1) [ true ↦ refl | false ↦ refl ]
shorter_by_one act (next ∷ acts) = let more = shorter_by_one next acts in omega (arith, more)

pub room_for_quit : (acts : List Act) → length (without_last is_quit acts) + 1 ≡ length acts + quit_room acts
room_for_quit [] = refl
room_for_quit (act ∷ acts) = shorter_by_one act acts

-- where none stands last they are the same
left_by : (b : Bool) (act : Act) → b ≡ false → act ∷ [] ≡ cond b [] (act ∷ [])
left_by b act none = rw none refl

pub left_as_is : (acts : List Act) → ends_with_quit acts ≡ false → acts ≡ without_last is_quit acts
left_as_is [] none = refl
left_as_is (act ∷ []) none = left_by (is_quit act) act none
left_as_is (act ∷ next ∷ acts) none = ap (λ (rest : List Act). act ∷ rest) (left_as_is (next ∷ acts) none)

-- where one does the last one is gone
last_gone : (b : Bool) (act : Act) → b ≡ true → [] ≡ cond b [] (act ∷ [])
last_gone b act quits = rw quits refl

pub left_some : (front : List Act) (act : Act) → ends_with_quit (front ++ act ∷ []) ≡ true → front ≡ without_last is_quit (front ++ act ∷ [])
left_some [] act quits = last_gone (is_quit act) act quits
left_some (first ∷ []) act quits = ap (λ (rest : List Act). first ∷ rest) (left_some [] act quits)
left_some (first ∷ next ∷ front) act quits = ap (λ (rest : List Act). first ∷ rest) (left_some (next ∷ front) act quits)

pub left_pop : (old new : List Act) (popped : Option Act) (n m : ℕ) → n ≡ length old → old ≡ new ++ option_to_list popped → ends_with_quit old ≡ true → MatchOption popped ((n ≡ 0) × (m ≡ 0)) (λ _. m + 1 ≡ n) → new ≡ without_last is_quit old
left_pop old new (Some act) n m len is quits some = rw is (left_some new act (rw is at quits))
left_pop [] new None n m len is quits none = absurd cc
left_pop (act ∷ acts) new None n m len is quits none = absurd (omega (arith, len, none.0))
