-- What is held under the ids of jobs.
use Rattle.std.proofs.Common.{◌≡◌, ℕ, ◌<◌, Bool, true, false, cond, List, [], ◌∷◌, length, arith, refl, ap, sym, ◌∙◌}
use Rattle.std.specs.Prelude.{Option, None, Some, nat_le, ◌==◌, ◌||◌}
use Rattle.std.specs.declared.cmp.Ordering.{Ordering}
use Rattle.std.specs.declared.cmp.Ordering.TheVariants.{Less, Equal, Greater}
use Rattle.std.specs.Ordering.{nat_cmp, is_eq, match_ordering}
use Rattle.std.specs.List.{filter, find, list_any, position_or_len}
use Rattle.std.specs.Map.{lookup, set_value, values_of}
use Rattle.std.specs.BTreeMap.{insert_entry, is_at}
use Rattle.std.proofs.lemmas.Bool.Decides.{nat_tests}
use Rattle.wx_control.specs.declared.id.Id.{Id}
use Rattle.wx_job.specs.declared.task.JobTask.{JobTask}
use Rattle.wx_hooks.specs.declared.held.Held.{Held}
use Rattle.wx_hooks.specs.HeldJobs.{is_of, is_here, is_alive, with_task, with_held, AreUnderIds}
use Rattle.wx_hooks.proofs.JobListLemmas.{insert_later}

-- how ids compare
abbrev pub id_cmp : Id → Id → Ordering
id_cmp x y = nat_cmp x.0 y.0

same_test : (m n : ℕ) → is_eq (nat_cmp m n) ≡ (n == m)
same_test m n = grind (arith, nat_tests)

-- the entry of an id is that of its job
at_job : (id k : Id) (h : Held) → k ≡ h.handle.id → is_at (id_cmp id) k ≡ is_of id h
at_job id k h is = same_test id.0 k.0 ∙ ap (λ (i : Id). i.0 == id.0) is

-- what is found by id is what is found among all
pub found_by_id : (id : Id) (es : List (Id × Held)) → AreUnderIds es → lookup (is_at (id_cmp id)) es ≡ find (is_of id) (values_of es)
found_by_id id [] all = refl
found_by_id id (e ∷ es) all = rw (at_job id e.0 e.1 all.0, found_by_id id es all.1) refl

-- ---- a task is written

abbrev Writes : Id → Held → JobTask → List (Id × Held) → Type 0
Writes id h task es = (values_of (set_value (is_at (id_cmp id)) es (record h { task = task })) ≡ with_task id (values_of es) task) × AreUnderIds (set_value (is_at (id_cmp id)) es (record h { task = task }))

written_or : (b : Bool) (id : Id) (e : Id × Held) (es : List (Id × Held)) (h : Held) (task : JobTask) → AreUnderIds (e ∷ es) → cond b (Some e.1) (find (is_of id) (values_of es)) ≡ Some h → (find (is_of id) (values_of es) ≡ Some h → Writes id h task es)
    → (values_of (cond b ((e.0, record h { task = task }) ∷ es) (e ∷ set_value (is_at (id_cmp id)) es (record h { task = task }))) ≡ cond b (record e.1 { task = task } ∷ values_of es) (e.1 ∷ with_task id (values_of es) task)) × AreUnderIds (cond b ((e.0, record h { task = task }) ∷ es) (e ∷ set_value (is_at (id_cmp id)) es (record h { task = task })))
written_or true id e es h task all found more = let same : e.1 ≡ h = cc in (ap (λ (x : Held). record x { task = task } ∷ values_of es) (sym same), (all.0 ∙ ap (λ (x : Held). x.handle.id) same, all.1))
written_or false id e es h task all found more = let m = more found in (ap (λ hs. e.1 ∷ hs) m.0, (all.0, m.1))

pub written : (id : Id) (es : List (Id × Held)) (h : Held) (task : JobTask) → AreUnderIds es → find (is_of id) (values_of es) ≡ Some h → Writes id h task es
written id [] h task all found = (refl, tt)
written id (e ∷ es) h task all found = rw (at_job id e.0 e.1 all.0) (written_or (is_of id e.1) id e es h task all found (λ f. written id es h task all.1 f))

-- ---- one more

none_of : (b : Bool) (x : Held) (o : Option Held) → cond b (Some x) o ≡ None → (b ≡ false) × (o ≡ None)
none_of true x o e = absurd cc
none_of false x o e = (refl, e)

clash_of : (m n : ℕ) → nat_cmp m n ≡ Equal → (n == m) ≡ false → ⊥
clash_of m n e other = let same : (n == m) ≡ true = sym (same_test m n) ∙ ap is_eq e in let both : true ≡ false = sym same ∙ other in cc

-- what isn't of the id doesn't stand under it
clash : (h : Held) (e : Id × Held) → e.0 ≡ e.1.handle.id → is_of h.handle.id e.1 ≡ false → id_cmp h.handle.id e.0 ≡ Equal → ⊥
clash h e is other equal = clash_of h.handle.id.0 e.0.0 equal (ap (λ (i : Id). i.0 == h.handle.id.0) is ∙ other)

le_of : (m n : ℕ) → nat_cmp m n ≡ Less → nat_le m n ≡ true
le_of m n e = grind (arith, nat_tests, e)

gt_of : (m n : ℕ) → nat_cmp m n ≡ Greater → nat_le m n ≡ false
gt_of m n e = grind (arith, nat_tests, e)

added_or : (o : Ordering) (h : Held) (e : Id × Held) (es : List (Id × Held)) → e.0 ≡ e.1.handle.id → id_cmp h.handle.id e.0 ≡ o → is_of h.handle.id e.1 ≡ false → values_of (insert_entry id_cmp es h.handle.id h) ≡ with_held h (values_of es)
    → values_of (match_ordering o ((h.handle.id, h) ∷ e ∷ es) ((e.0, h) ∷ es) (e ∷ insert_entry id_cmp es h.handle.id h)) ≡ with_held h (e.1 ∷ values_of es)
added_or Less h e es is order other more =
    let le : nat_le h.handle.id.0 e.1.handle.id.0 ≡ true = ap (λ (i : Id). nat_le h.handle.id.0 i.0) (sym is) ∙ le_of h.handle.id.0 e.0.0 order in
    rw le refl
added_or Equal h e es is order other more = absurd (clash h e is other order)
added_or Greater h e es is order other more =
    let gt : nat_le h.handle.id.0 e.1.handle.id.0 ≡ false = ap (λ (i : Id). nat_le h.handle.id.0 i.0) (sym is) ∙ gt_of h.handle.id.0 e.0.0 order in
    rw gt (ap (λ hs. e.1 ∷ hs) more ∙ sym (insert_later e.1 h (values_of es) (position_or_len (λ other. nat_le h.handle.id.0 other.handle.id.0) (values_of es))))

pub added : (h : Held) (es : List (Id × Held)) → AreUnderIds es → find (is_of h.handle.id) (values_of es) ≡ None → values_of (insert_entry id_cmp es h.handle.id h) ≡ with_held h (values_of es)
added h [] all none = refl
added h (e ∷ es) all none =
    let apart = none_of (is_of h.handle.id e.1) e.1 (find (is_of h.handle.id) (values_of es)) none in
    added_or (id_cmp h.handle.id e.0) h e es all.0 refl apart.0 (added h es all.1 apart.1)

under_or : (o : Ordering) (h : Held) (e : Id × Held) (es : List (Id × Held)) → AreUnderIds (e ∷ es) → (o ≡ Equal → ⊥) → AreUnderIds (insert_entry id_cmp es h.handle.id h) → AreUnderIds (match_ordering o ((h.handle.id, h) ∷ e ∷ es) ((e.0, h) ∷ es) (e ∷ insert_entry id_cmp es h.handle.id h))
under_or Less h e es all never more = (refl, all)
under_or Equal h e es all never more = absurd (never refl)
under_or Greater h e es all never more = (all.0, more)

pub under_added : (h : Held) (es : List (Id × Held)) → AreUnderIds es → find (is_of h.handle.id) (values_of es) ≡ None → AreUnderIds (insert_entry id_cmp es h.handle.id h)
under_added h [] all none = (refl, tt)
under_added h (e ∷ es) all none =
    let apart = none_of (is_of h.handle.id e.1) e.1 (find (is_of h.handle.id) (values_of es)) none in
    under_or (id_cmp h.handle.id e.0) h e es all (clash h e all.0 apart.0) (under_added h es all.1 apart.1)

-- ---- those that are here

filtered_or : (b : Bool) (e : Id × Held) (es : List (Id × Held)) (p : Id × Held → Bool) → values_of (filter p es) ≡ filter is_here (values_of es) → values_of (cond b (e ∷ filter p es) (filter p es)) ≡ cond b (e.1 ∷ filter is_here (values_of es)) (filter is_here (values_of es))
filtered_or true e es p more = ap (λ hs. e.1 ∷ hs) more
filtered_or false e es p more = more

pub filtered_values : (es : List (Id × Held)) → values_of (filter (λ e. is_here e.1) es) ≡ filter is_here (values_of es)
filtered_values [] = refl
filtered_values (e ∷ es) = filtered_or (is_here e.1) e es (λ x. is_here x.1) (filtered_values es)

under_filtered_or : (b : Bool) (e : Id × Held) (es kept : List (Id × Held)) → AreUnderIds (e ∷ es) → AreUnderIds kept → AreUnderIds (cond b (e ∷ kept) kept)
under_filtered_or true e es kept all more = (all.0, more)
under_filtered_or false e es kept all more = more

pub under_filtered : (p : Id × Held → Bool) (es : List (Id × Held)) → AreUnderIds es → AreUnderIds (filter p es)
under_filtered p [] all = tt
under_filtered p (e ∷ es) all = under_filtered_or (p e) e es (filter p es) all (under_filtered p es all.1)

-- ---- one that lives

alive_or : (id : Id) (h : Held) (hs : List Held) (b d : Bool) → is_here h ≡ d → is_alive (cond b (Some h) (find (is_of id) hs)) ≡ true → (is_alive (find (is_of id) hs) ≡ true → list_any is_here hs ≡ true) → (d || list_any is_here hs) ≡ true
alive_or id h hs b true is lives later = refl
alive_or id h hs true false is lives later = let both : false ≡ true = sym is ∙ lives in absurd cc
alive_or id h hs false false is lives later = later lives

-- where the job of an id lives, one does
pub alive_any : (id : Id) (hs : List Held) → is_alive (find (is_of id) hs) ≡ true → list_any is_here hs ≡ true
alive_any id [] lives = absurd cc
alive_any id (h ∷ hs) lives = alive_or id h hs (is_of id h) (is_here h) refl lives (λ l. alive_any id hs l)

-- ---- none is there

empty : (es : List (Id × Held)) → (0 < length es → false ≡ true) → es ≡ []
empty [] some = refl
empty (e ∷ es) some = let both : false ≡ true = some (omega arith) in absurd cc

-- where the first one couldn't be taken there was none, and there is none
pub emptied : (es es' : List (Id × Held)) → es' ≡ es → (0 < length es → false ≡ true) → (es ≡ []) × (es' ≡ [])
emptied es es' same some = let none = empty es some in (none, same ∙ none)
