-- What hooks keep over the calls on them.
use Rattle.std.specs.Prelude.{◌≡◌, ◌≤◌, ◌+◌, false, Result, Ok, Err, List, ◌∷◌}
use Rattle.wx_text.specs.declared.list.Memory.{Memory}
use Rattle.wx_command.specs.declared.spawnable.Spawnable.{Spawnable}
use Rattle.wx_journal.specs.declared.entry.Entry.{Entry}
use Rattle.wx_journal.specs.Names.{NamesItsOwn}
use Rattle.wx_journal.specs.Told.{tell, is_hooks, Obeys}
use Rattle.wx_machine.specs.Seen.{Hooked}

-- what a spawn hook that answered this left to be spawned
abbrev pub left_by : Result (Unit {0}) Memory → Spawnable → Result Spawnable Memory
left_by (Ok u) what = Ok what
left_by (Err memory) what = Err memory

-- a call was told as this entry, in room that was taken before
pub record TellsHooks {Fixed : Type 0} (e : Entry) (x x' : Hooked Fixed) : Type 0 where
  pub told : x'.told ≡ tell e x.told
  pub room : x.spare ≤ x'.spare + 1

-- What each call on hooks promises, told as this entry behind these: plan and place stay; and where they are not short
-- afterwards they were not before, and, where the entries name their own and they stood for them, this one passes the rule,
-- and they stand for it with the others.
pub record Keeps {K Fixed : Type 0} (seen : K → Hooked Fixed) (rule : Fixed → List Entry → Entry → Type 0) (stands : K → List Entry → Type 0) (x : K) (p : List Entry) (e : Entry) (x' : K) : Type 0 where
  pub plan_kept : (seen x').plan ≡ (seen x).plan
  pub place_kept : (seen x').place ≡ (seen x).place
  pub short_falls : (seen x').short ≡ false → (seen x).short ≡ false
  pub passes : (seen x').short ≡ false → NamesItsOwn p → stands x p → rule (seen x).plan p e × stands x' (e ∷ p)

-- the promise of a call that adds no entry: all but the room stays, of which there is no less, and they stand for what they
-- stood for
pub record OnlyHooksRoom {K Fixed : Type 0} (seen : K → Hooked Fixed) (stands : K → List Entry → Type 0) (x x' : K) : Type 0 where
  pub plan_kept : (seen x').plan ≡ (seen x).plan
  pub told_kept : (seen x').told ≡ (seen x).told
  pub short_kept : (seen x').short ≡ (seen x).short
  pub place_kept : (seen x').place ≡ (seen x).place
  pub spare_kept : (seen x).spare ≤ (seen x').spare
  pub stands_kept : (p : List Entry) → stands x p → stands x' p

-- the new journal is the old one with entries on top that are no calls on the hooks
pub data Quiet (old : List Entry) : List Entry → Type 0 where
  Same : Quiet old old
  More : (e : Entry) (p : List Entry) → Quiet old p → is_hooks e ≡ false → Quiet old (e ∷ p)

-- whatever was quiet up to the one is quiet up to the other
abbrev pub StaysQuiet : List Entry → List Entry → Type 0
StaysQuiet p p' = (p₀ : List Entry) → Quiet p₀ p → Quiet p₀ p'

-- From hooks at a journal to these at a longer one: each entry on top that is a call on them was made on them and kept what
-- each call promises, and nothing else was done to them but that room was taken.
pub data Kept {K Fixed : Type 0} (seen : K → Hooked Fixed) (rule : Fixed → List Entry → Entry → Type 0) (stands : K → List Entry → Type 0) (x₀ : K) (p₀ : List Entry) : K → List Entry → Type 0 where
  Still : Kept seen rule stands x₀ p₀ x₀ p₀
  Past : (x : K) (p p' : List Entry) → Kept seen rule stands x₀ p₀ x p → Quiet p p' → Kept seen rule stands x₀ p₀ x p'
  Roomy : (x x' : K) (p : List Entry) → Kept seen rule stands x₀ p₀ x p → OnlyHooksRoom seen stands x x' → Kept seen rule stands x₀ p₀ x' p
  Called : (x x' : K) (e : Entry) (p : List Entry) → Kept seen rule stands x₀ p₀ x p → Keeps seen rule stands x p e x' → Kept seen rule stands x₀ p₀ x' (e ∷ p)

-- whatever kept it up to the one keeps it up to the other
abbrev pub KeepsOn : {K Fixed : Type 0} → (K → Hooked Fixed) → (Fixed → List Entry → Entry → Type 0) → (K → List Entry → Type 0) → K → List Entry → K → List Entry → Type 0
KeepsOn {K} {Fixed} seen rule stands x p x' p' = (x₀ : K) (p₀ : List Entry) → Kept seen rule stands x₀ p₀ x p → Kept seen rule stands x₀ p₀ x' p'

-- What hooks promise over the entries on top: plan and place stay; and where they are not short afterwards they were not
-- before, and, where they stood for the journal before, each of these entries that is a call on them passes the rule, and
-- they stand for the longer journal.
pub record Promised {K Fixed : Type 0} (seen : K → Hooked Fixed) (rule : Fixed → List Entry → Entry → Type 0) (stands : K → List Entry → Type 0) (x : K) (p : List Entry) (x' : K) (p' : List Entry) : Type 0 where
  pub plan_kept : (seen x').plan ≡ (seen x).plan
  pub place_kept : (seen x').place ≡ (seen x).place
  pub short_falls : (seen x').short ≡ false → (seen x).short ≡ false
  pub rule_kept : (seen x').short ≡ false → stands x p → Obeys (rule (seen x).plan) p p'
  pub stands_kept : (seen x').short ≡ false → stands x p → stands x' p'
