-- What is held in a list of jobs.
use Rattle.std.proofs.Common.{◌≡◌, ◌≢◌, ℕ, zero, suc, ◌+◌, ◌<◌, Bool, true, false, cond, List, [], ◌∷◌, ◌++◌, length, get_or, set as put, arith, refl, ap, sym, ◌∙◌}
use Rattle.std.specs.Prelude.{Option, None, Some, is_some, option_map, map, not, nat_lt, nat_le, ◌==◌}
use Rattle.std.specs.List.{AllByRecursion, find, insert, position_or_len}
use Rattle.std.proofs.lemmas.List.{append-nil}
use Rattle.std.proofs.lemmas.Bool.{le-ltb, lt-ltb, leb-true, leb-false}
use Rattle.wx_words.specs.OptionLaws.{neither}
use Rattle.wx_control.specs.declared.id.Id.{Id}
use Rattle.wx_job.specs.declared.task.JobTask.{JobTask}
use Rattle.wx_hooks.specs.declared.held.Held.{Held}
use Rattle.wx_hooks.specs.HeldJobs.{is_of, is_here, living_ids, is_alive, handle_id, task_of, with_task, with_held}
use Rattle.wx_hooks.specs.JobsStand.{HeldStands, held_id}
use Rattle.wx_journal.specs.declared.entry.Entry.{Entry}
use Rattle.wx_machine.proofs.Owners.{other-is}
use Rattle.wx_machine.specs.Jobs.{with_id}

-- ---- the place of a job

-- the job at the first place at which the test passes
pub record Placed (t : Held → Bool) (hs : List Held) (n : ℕ) (h : Held) : Type 0 where
  pub within : n < length hs
  pub held : h ≡ get_or hs n h
  pub mine : t h ≡ true
  pub before : (i : ℕ) → i < n → t (get_or hs i h) ≡ false

pub with_put : (id : Id) (hs : List Held) (n : ℕ) (h : Held) (k : JobTask) → Placed (is_of id) hs n h → put hs n (record h { task = k }) ≡ with_task id hs k
with_put id [] n h k p = absurd (omega (arith, p.within))
with_put id (x ∷ hs) zero h k p = let mine : is_of id x ≡ true = rw p.held at p.mine in rw (mine, p.held) refl
with_put id (x ∷ hs) (suc n) h k p =
    let other : is_of id x ≡ false = p.before 0 (omega arith) in
    rw other (ap (λ xs. x ∷ xs) (with_put id hs n h k (record { within = omega (arith, p.within); held = p.held; mine = p.mine; before = λ i lt. p.before (suc i) (omega (arith, lt)) })))

placed_or : (t : Held → Bool) (x : Held) (hs : List Held) (h : Held) (b : Bool) → t x ≡ b → cond b (Some x) (find t hs) ≡ Some h → (find t hs ≡ Some h → (n : ℕ) × Placed t hs n h) → (n : ℕ) × Placed t (x ∷ hs) n h
placed_or t x hs h true mine e later = let its : h ≡ x = cc in (0, record { within = omega arith; held = its; mine = rw its mine; before = λ i lt. absurd (omega (arith, lt)) })
placed_or t x hs h false other e later = let p = later e in (suc p.0, record { within = omega (arith, p.1.within); held = p.1.held; mine = p.1.mine; before = earlier p.0 p.1.before })
  where
    earlier : (n : ℕ) → ((i : ℕ) → i < n → t (get_or hs i h) ≡ false) → (i : ℕ) → i < suc n → t (get_or (x ∷ hs) i h) ≡ false
    earlier n before zero lt = other
    earlier n before (suc i) lt = before i (omega (arith, lt))

pub placed : (t : Held → Bool) (hs : List Held) (h : Held) → find t hs ≡ Some h → (n : ℕ) × Placed t hs n h
placed t [] h e = absurd cc
placed t (x ∷ hs) h e = placed_or t x hs h (t x) refl e (λ f. placed t hs h f)

-- ---- what isn't there

-- where none is found the test passes at none
pub none_at : (t : Held → Bool) (hs : List Held) → find t hs ≡ None → AllByRecursion (λ h. t h ≡ false) hs
none_at t [] e = tt
none_at t (h ∷ hs) e = let g = neither (t h) h (find t hs) e in (g.0, none_at t hs g.1)

-- ---- what is found

also_or : (t u : Held → Bool) (x : Held) (hs : List Held) (h : Held) (b d : Bool) → u x ≡ d → cond b (Some x) (find t hs) ≡ Some h → u h ≡ true → (find t hs ≡ Some h → is_some (find u hs) ≡ true) → is_some (cond d (Some x) (find u hs)) ≡ true
also_or t u x hs h b true is e mine later = refl
also_or t u x hs h true false is e mine later =
    let its : x ≡ h = cc in
    let both : true ≡ false = sym mine ∙ ap u (sym its) ∙ is in absurd cc
also_or t u x hs h false false is e mine later = later e

-- where another test passes at what is found, that finds something too
pub also : (t u : Held → Bool) (hs : List Held) (h : Held) → find t hs ≡ Some h → u h ≡ true → is_some (find u hs) ≡ true
also t u [] h e mine = absurd cc
also t u (x ∷ hs) h e mine = also_or t u x hs h (t x) (u x) refl e mine (λ f. also t u hs h f mine)

pub some_alive : (o : Option Held) → is_alive o ≡ true → is_some o ≡ true
some_alive None alive = alive
some_alive (Some h) alive = refl

pub held_some : (o : Option Held) → is_some o ≡ true → (h : Held) × (o ≡ Some h)
held_some None there = absurd cc
held_some (Some h) there = (h, refl)

pub task_held : (o : Option Held) (task : JobTask) → option_map task_of o ≡ Some task → (h : Held) × (o ≡ Some h) × (h.task ≡ task)
task_held None task is = absurd cc
task_held (Some h) task is = let same : h.task ≡ task = cc in (h, refl, same)

pub id_held : (o : Option Held) (id : Id) → option_map handle_id o ≡ Some id → (h : Held) × (o ≡ Some h) × (h.handle.id ≡ id)
id_held None id is = absurd cc
id_held (Some h) id is = let same : h.handle.id ≡ id = cc in (h, refl, same)

pub none_held : (o : Option Held) → option_map handle_id o ≡ None → o ≡ None
none_held None is = refl
none_held (Some h) is = absurd cc

-- ---- as many as before

length_or : (b : Bool) (x y : Held) (hs hs' : List Held) → length hs' ≡ length hs → length (cond b (y ∷ hs) (x ∷ hs')) ≡ suc (length hs)
length_or true x y hs hs' same = refl
length_or false x y hs hs' same = ap suc same

pub length_with : (id : Id) (hs : List Held) (task : JobTask) → length (with_task id hs task) ≡ length hs
length_with id [] task = refl
length_with id (h ∷ hs) task = length_or (is_of id h) h (record h { task = task }) hs (with_task id hs task) (length_with id hs task)

-- ---- a job is added at its place

-- what is known of each and of the new one is known of all
all_inserted : (P : Held → Type 0) (hs : List Held) (n : ℕ) (h : Held) → AllByRecursion P hs → P h → AllByRecursion P (insert hs n h)
all_inserted P hs zero h all new = (new, all)
all_inserted P [] (suc n) h all new = (new, tt)
all_inserted P (x ∷ hs) (suc n) h all new = (all.0, all_inserted P hs n h all.1 new)

pub all_with : (P : Held → Type 0) (hs : List Held) (h : Held) → AllByRecursion P hs → P h → AllByRecursion P (with_held h hs)
all_with P hs h all new = all_inserted P hs (position_or_len (λ other. nat_le h.handle.id.0 other.handle.id.0) hs) h all new

-- the ids have the new one at its place
pub insert_later : (x h : Held) (hs : List Held) (n : ℕ) → insert (x ∷ hs) (1 + n) h ≡ x ∷ insert hs n h
insert_later x h hs n = let more : 1 + n ≡ suc n = omega arith in ap (λ (m : ℕ). insert (x ∷ hs) m h) more

ids_at : (x h : Held) (hs : List Held) (b : Bool) → nat_le h.handle.id.0 x.handle.id.0 ≡ b → x.handle.id ≡ held_id x → h.handle.id ≡ held_id h → held_id x ≢ held_id h → map held_id (with_held h hs) ≡ with_id (held_id h) (map held_id hs)
    → map held_id (insert (x ∷ hs) (cond (not b) (1 + position_or_len (λ other. nat_le h.handle.id.0 other.handle.id.0) hs) 0) h) ≡ with_id (held_id h) (held_id x ∷ map held_id hs)
ids_at x h hs true le its mine ne more =
    let most = leb-true h.handle.id.0 x.handle.id.0 le in
    let later : nat_lt (held_id x).0 (held_id h).0 ≡ false = rw (← its, ← mine) (le-ltb x.handle.id.0 h.handle.id.0 most) in
    let apart : ((held_id x).0 == (held_id h).0) ≡ false = other-is (held_id h) (held_id x) (λ e. ne (sym e)) in
    rw (later, apart) refl
ids_at x h hs false le its mine ne more =
    let less = leb-false h.handle.id.0 x.handle.id.0 le in
    let before : nat_lt (held_id x).0 (held_id h).0 ≡ true = rw (← its, ← mine) (lt-ltb x.handle.id.0 h.handle.id.0 less) in
    ap (λ (xs : List Held). map held_id xs) (insert_later x h hs _) ∙ rw before (ap (λ ids. held_id x ∷ ids) more)

pub ids_with : (p : List Entry) (hs : List Held) (h : Held) → AllByRecursion (HeldStands p) hs → h.handle.id ≡ held_id h → AllByRecursion (λ id. id ≢ held_id h) (map held_id hs) → map held_id (with_held h hs) ≡ with_id (held_id h) (map held_id hs)
ids_with p [] h stand mine ne = refl
ids_with p (x ∷ hs) h stand mine ne = ids_at x h hs (nat_le h.handle.id.0 x.handle.id.0) refl stand.0.handle_is mine ne.0 (ids_with p hs h stand.1 mine ne.1)

-- ---- the ids of those whose job isn't gone

pub living_gone : (h : Held) (ids : List Id) → is_here h ≡ false → ids ≡ ids ++ living_ids (h ∷ [])
living_gone h ids is = rw is (sym (append-nil ids))

pub living_here : (h : Held) (id : Id) (ids : List Id) → is_here h ≡ true → id ≡ h.handle.id → ids ++ id ∷ [] ≡ ids ++ living_ids (h ∷ [])
living_here h id ids is same = rw (is, same) refl
