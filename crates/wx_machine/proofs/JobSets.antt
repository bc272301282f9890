-- Which jobs a handler sees, and under which ids one may be created.
use Rattle.std.proofs.Common.{◌≡◌, ℕ, ◌<◌, Bool, true, false, cond, List, [], ◌∷◌, inl, inr, arith, refl, ap, sym, subst, ◌∙◌}
use Rattle.std.specs.Prelude.{◌||◌, not, nat_lt, ◌⊎◌}
use Rattle.std.specs.List.{AllByRecursion, filter, list_any}
use Rattle.std.proofs.Math.Arith.{lt_of_le-ne}
use Rattle.std.proofs.lemmas.Bool.{eqb-false, ltb-true, ltb-false, and_parts, or_right, not-true, and_from}
use Rattle.wx_words.specs.EachLaws.{each_weaker, each_filter}
use Rattle.wx_control.specs.declared.id.Id.{Id}
use Rattle.wx_journal.specs.Acts.{JournalAct as Act}
use Rattle.wx_journal.specs.declared.entry.Act.TheVariants.{Create}
use Rattle.wx_journal.specs.declared.entry.Entry.{Entry}
use Rattle.wx_journal.specs.declared.entry.Entry.TheVariants.{Hand, Made, Gone}
use Rattle.wx_journal.specs.Names.{above, next_job, was_made}
use Rattle.wx_journal.specs.Counted.{AreAllMade}
use Rattle.wx_journal.proofs.CountLaws.{unmade, made_all}
use Rattle.wx_machine.specs.History.{same, lives}
use Rattle.wx_machine.specs.Jobs.{with_id, set, is_seen, jobs, is_free, MayCreate, but, AreLawfulBy, AreLawful, AreRising, AreBelow}
use Rattle.wx_machine.proofs.Owners.{either, self, same-is}
use Rattle.wx_machine.proofs.Lawful.{MadeInOrder}

-- ---- names in lists

abbrev pub IsIn : Id → List Id → Type 0
IsIn id [] = ⊥
IsIn id (job ∷ ids) = (job ≡ id) ⊎ IsIn id ids

-- where a job has its place, it and the others are there
new_at : (id x : Id) (xs : List Id) (job : Id) (b c : Bool) → same x job ≡ c → job ≡ id → IsIn id (with_id job xs) → IsIn id (cond b (x ∷ with_id job xs) (cond c (x ∷ xs) (job ∷ x ∷ xs)))
new_at id x xs job true c is e h = inr h
new_at id x xs job false true is e h = inl (same-is x job is ∙ e)
new_at id x xs job false false is e h = inl e

in_new : (id : Id) (xs : List Id) (job : Id) → job ≡ id → IsIn id (with_id job xs)
in_new id [] job e = inl e
in_new id (x ∷ xs) job e = new_at id x xs job (nat_lt x.0 job.0) (same x job) refl e (in_new id xs job e)

others_at : (id x : Id) (xs ys : List Id) (job : Id) (b c : Bool) → (IsIn id xs → IsIn id ys) → IsIn id (x ∷ xs) → IsIn id (cond b (x ∷ ys) (cond c (x ∷ xs) (job ∷ x ∷ xs)))
others_at id x xs ys job true c more (inl e) = inl e
others_at id x xs ys job true c more (inr h) = inr (more h)
others_at id x xs ys job false true more h = h
others_at id x xs ys job false false more h = inr h

pub in_others : (id : Id) (xs : List Id) (job : Id) → IsIn id xs → IsIn id (with_id job xs)
in_others id [] job h = absurd h
in_others id (x ∷ xs) job h = others_at id x xs (with_id job xs) job (nat_lt x.0 job.0) (same x job) (λ g. in_others id xs job g) h

of_two : (id job : Id) (b c : Bool) (x : Id) (xs ys : List Id) → (IsIn id ys → IsIn id xs ⊎ (job ≡ id)) → IsIn id (cond b (x ∷ ys) (cond c (x ∷ xs) (job ∷ x ∷ xs))) → IsIn id (x ∷ xs) ⊎ (job ≡ id)
of_two id job true c x xs ys more (inl e) = inl (inl e)
of_two id job true c x xs ys more (inr h) = elim (more h) [ inl g ↦ inl (inr g) | inr e ↦ inr e ]
of_two id job false true x xs ys more h = inl h
of_two id job false false x xs ys more (inl e) = inr e
of_two id job false false x xs ys more (inr h) = inl h

pub of_with : (id : Id) (xs : List Id) (job : Id) → IsIn id (with_id job xs) → IsIn id xs ⊎ (job ≡ id)
of_with id [] job (inl e) = inr e
of_with id [] job (inr h) = absurd h
of_with id (x ∷ xs) job h = of_two id job (nat_lt x.0 job.0) (same x job) x xs (with_id job xs) (λ g. of_with id xs job g) h

-- what is known of each and of the new one is known of all
pub each_with : (P : Id → Type 0) (job : Id) (xs : List Id) → P job → AllByRecursion P xs → AllByRecursion P (with_id job xs)
each_with P job [] h all = (h, tt)
each_with P job (x ∷ xs) h all = either (AllByRecursion P) (nat_lt x.0 job.0) (x ∷ with_id job xs) _ (all.0, each_with P job xs h all.1) (either (AllByRecursion P) (same x job) (x ∷ xs) (job ∷ x ∷ xs) all (h, all))

-- a job that is in the set is seen
pub any_in : (id : Id) (ids : List Id) → IsIn id ids → list_any (λ job. same job id) ids ≡ true
any_in id [] none = absurd none
any_in id (job ∷ ids) (inl is) = rw (is, self id) refl
any_in id (job ∷ ids) (inr later) = ap (λ b. same job id || b) (any_in id ids later) ∙ or_right (same job id) true refl

-- one that is seen is in it
first_or : (job id : Id) (ids : List Id) (b t : Bool) → same job id ≡ b → (t ≡ true → IsIn id ids) → (b || t) ≡ true → IsIn id (job ∷ ids)
first_or job id ids true t is more e = inl (same-is job id is)
first_or job id ids false t is more e = inr (more e)

pub seen_in : (id : Id) (ids : List Id) → list_any (λ job. same job id) ids ≡ true → IsIn id ids
seen_in id [] e = absurd cc
seen_in id (job ∷ ids) e = first_or job id ids (same job id) (list_any (λ other. same other id) ids) refl (λ g. seen_in id ids g) e

in_kept : (id : Id) (b : Bool) (x : Id) (xs : List Id) → IsIn id xs → IsIn id (cond b (x ∷ xs) xs)
in_kept id true x xs h = inr h
in_kept id false x xs h = h

pub in_filter : (test : Id → Bool) (id : Id) (xs : List Id) → IsIn id xs → test id ≡ true → IsIn id (filter test xs)
in_filter test id [] h t = absurd h
in_filter test id (x ∷ xs) (inl e) t = let is : test x ≡ true = ap test e ∙ t in rw is (inl e)
in_filter test id (x ∷ xs) (inr h) t = in_kept id (test x) x (filter test xs) (in_filter test id xs h t)

of_kept : (test : Id → Bool) (id : Id) (b : Bool) (x : Id) (xs ys : List Id) → test x ≡ b → (IsIn id xs → IsIn id ys × (test id ≡ true)) → IsIn id (cond b (x ∷ xs) xs) → ((x ≡ id) ⊎ IsIn id ys) × (test id ≡ true)
of_kept test id true x xs ys is more (inl e) = (inl e, ap test (sym e) ∙ is)
of_kept test id true x xs ys is more (inr h) = let g = more h in (inr g.0, g.1)
of_kept test id false x xs ys is more h = let g = more h in (inr g.0, g.1)

pub of_filter : (test : Id → Bool) (id : Id) (xs : List Id) → IsIn id (filter test xs) → IsIn id xs × (test id ≡ true)
of_filter test id [] h = absurd h
of_filter test id (x ∷ xs) h = of_kept test id (test x) x (filter test xs) xs refl (λ g. of_filter test id xs g) h

-- what holds of each holds of one
pub all_in : (P : Id → Type 0) (id : Id) (xs : List Id) → AllByRecursion P xs → IsIn id xs → P id
all_in P id [] all h = absurd h
all_in P id (x ∷ xs) all (inl e) = subst P e all.0
all_in P id (x ∷ xs) all (inr h) = all_in P id xs all.1 h

-- ---- a job that lives is in the set

in_made : (id job : Id) (b : Bool) (p : List Entry) → same job id ≡ b → (lives id p ≡ true → IsIn id (set p)) → (b || lives id p) ≡ true → IsIn id (with_id job (set p))
in_made id job true p is more e = in_new id (set p) job (same-is job id is)
in_made id job false p is more e = in_others id (set p) job (more e)

pub in_set : (id : Id) (p : List Entry) → lives id p ≡ true → IsIn id (set p)
in_set id [] e = absurd cc
in_set id (Made job ∷ p) e = in_made id job (same job id) p refl (λ g. in_set id p g) e
in_set id (Gone job ∷ p) e = in_set id p (and_parts (not (same job id)) (lives id p) e).1
in_set id (Hand n names acts ∷ p) e = in_filter (λ job. lives job p) id (set p) (in_set id p e) e
in_set id (_ ∷ p) e = in_set id p e

pub in_jobs : (id : Id) (p : List Entry) → lives id p ≡ true → IsIn id (jobs p)
in_jobs id p e = in_filter (λ job. lives job p) id (set p) (in_set id p e) e

-- ---- the names of the set rise, and are those of jobs that were made

pub above_one : (n : ℕ) (id : Id) → id.0 < above n id
above_one n id = omega arith

pub above_others : (n m : ℕ) (id : Id) → m < n → m < above n id
above_others n m id lt = omega arith

below_rise : (n : ℕ) (job : Id) (ids : List Id) → AreBelow n ids → AreBelow (above n job) ids
below_rise n job ids h = each_weaker (λ id. id.0 < n) (λ id. id.0 < above n job) (λ id lt. above_others n id.0 job lt) ids h

rising_at : (x : Id) (xs : List Id) (job : Id) (b c : Bool) → nat_lt x.0 job.0 ≡ b → same x job ≡ c → AreRising (x ∷ xs) → AreRising (with_id job xs) → AreRising (cond b (x ∷ with_id job xs) (cond c (x ∷ xs) (job ∷ x ∷ xs)))
rising_at x xs job true c lt is r h = (each_with (λ j. x.0 < j.0) job xs (ltb-true x.0 job.0 lt) r.0, h)
rising_at x xs job false true lt is r h = r
rising_at x xs job false false lt is r h =
    let below : job.0 < x.0 = lt_of_le-ne (ltb-false x.0 job.0 lt) (λ e. eqb-false x.0 job.0 is (sym e)) in
    ((below, each_weaker (λ j. x.0 < j.0) (λ j. job.0 < j.0) (λ j more. omega (arith, below, more)) xs r.0), r)

rising_with : (job : Id) (xs : List Id) → AreRising xs → AreRising (with_id job xs)
rising_with job [] r = (tt, tt)
rising_with job (x ∷ xs) r = rising_at x xs job (nat_lt x.0 job.0) (same x job) refl refl r (rising_with job xs r.1)

rising_kept : (b : Bool) (x : Id) (xs : List Id) → AllByRecursion (λ job. x.0 < job.0) xs → AreRising xs → AreRising (cond b (x ∷ xs) xs)
rising_kept true x xs h r = (h, r)
rising_kept false x xs h r = r

rising_filter : (test : Id → Bool) (xs : List Id) → AreRising xs → AreRising (filter test xs)
rising_filter test [] r = tt
rising_filter test (x ∷ xs) r = rising_kept (test x) x (filter test xs) (each_filter (λ job. x.0 < job.0) test xs r.0) (rising_filter test xs r.1)

pub record IsRising (p : List Entry) : Type 0 where
  pub rising : AreRising (set p)
  pub below : AreBelow (next_job p) (set p)

-- so it is of each journal, whatever it names
pub set_rising : (p : List Entry) → IsRising p
set_rising [] = record { rising = tt; below = tt }
set_rising (Made id ∷ p) =
    let h = set_rising p in record {
      rising = rising_with id (set p) h.rising;
      below = each_with (λ job. job.0 < above (next_job p) id) id (set p) (above_one (next_job p) id) (below_rise (next_job p) id (set p) h.below);
    }
set_rising (Hand n names acts ∷ p) =
    let h = set_rising p in record {
      rising = rising_filter (λ id. lives id p) (set p) h.rising;
      below = each_filter (λ id. id.0 < next_job p) (λ id. lives id p) (set p) h.below;
    }
set_rising (_ ∷ p) = let h = set_rising p in record { rising = h.rising; below = h.below }

-- ---- which ids were made

-- one that was made is below the next one
pub made_below : (id : Id) (p : List Entry) → was_made id p ≡ true → id.0 < next_job p
made_below id p made = by_order (nat_lt id.0 (next_job p)) refl
  where
    by_order : (b : Bool) → nat_lt id.0 (next_job p) ≡ b → id.0 < next_job p
    by_order true lt = ltb-true id.0 (next_job p) lt
    by_order false lt = let both : true ≡ false = sym made ∙ unmade id p (ltb-false id.0 (next_job p) lt) in absurd cc

-- where jobs are made by the rule, all below it were
pub all_made : (p : List Entry) → MadeInOrder p → AreAllMade p
all_made [] made = λ other lt. absurd (omega (arith, lt))
all_made (Made id ∷ p) made = made_all p id (elim (made.0) [ inl is ↦ omega (arith, is) | inr free ↦ (let lt = made_below id p (and_parts (was_made id p) (not (is_seen id p)) free).0 in omega (arith, lt)) ]) (all_made p made.1)
all_made (_ ∷ p) made = all_made p made.1

-- a job that is seen was made
made_in : (id : Id) (p : List Entry) → IsIn id (set p) → was_made id p ≡ true
made_in id [] h = absurd h
made_in id (Made job ∷ p) h = elim (of_with id (set p) job h) [ inl g ↦ or_right (same job id) (was_made id p) (made_in id p g) | inr is ↦ rw (is, self id) refl ]
made_in id (Hand n names acts ∷ p) h = made_in id p (of_filter (λ job. lives job p) id (set p) h).0
made_in id (_ ∷ p) h = made_in id p h

pub seen_made : (p : List Entry) (id : Id) → is_seen id p ≡ true → was_made id p ≡ true
seen_made p id seen = made_in id p (seen_in id (set p) seen)

-- ---- which ids are free

pub free_unseen : (p : List Entry) (id : Id) → is_free p id ≡ true → is_seen id p ≡ false
free_unseen p id free = not-true (is_seen id p) (and_parts (was_made id p) (not (is_seen id p)) free).1

pub free_made : (p : List Entry) (id : Id) → is_free p id ≡ true → was_made id p ≡ true
free_made p id free = (and_parts (was_made id p) (not (is_seen id p)) free).0

-- a job that is seen is one of the set, and one of the set is seen
unseen_if : (p : List Entry) (id : Id) → (IsIn id (set p) → ⊥) → is_seen id p ≡ false
unseen_if p id other = by_seen (is_seen id p) refl
  where
    by_seen : (b : Bool) → is_seen id p ≡ b → b ≡ false
    by_seen true is = absurd (other (seen_in id (set p) is))
    by_seen false is = refl

unseen_out : (p : List Entry) (id : Id) → is_seen id p ≡ false → IsIn id (set p) → ⊥
unseen_out p id unseen here = let both : true ≡ false = sym (any_in id (set p) here) ∙ unseen in absurd cc

next_unseen : (p : List Entry) (id : Id) → id.0 ≡ next_job p → is_seen id p ≡ false
next_unseen p id is = unseen_if p id (λ here. (let lt : id.0 < next_job p = all_in (λ job. job.0 < next_job p) id (set p) (set_rising p).below here in absurd (omega (arith, lt, is))))

-- under an id that may be given no job is seen, and none lives
pub may_unseen : (p : List Entry) (id : Id) → MayCreate (is_free p) (next_job p) id → is_seen id p ≡ false
may_unseen p id (inl is) = next_unseen p id is
may_unseen p id (inr free) = free_unseen p id free

pub unseen_dead : (p : List Entry) (id : Id) → is_seen id p ≡ false → lives id p ≡ false
unseen_dead p id unseen = by_life (lives id p) refl
  where
    by_life : (b : Bool) → lives id p ≡ b → b ≡ false
    by_life true is = absurd (unseen_out p id unseen (in_set id p is))
    by_life false is = refl

pub may_dead : (p : List Entry) (id : Id) → MayCreate (is_free p) (next_job p) id → lives id p ≡ false
may_dead p id may = unseen_dead p id (may_unseen p id may)

-- ---- lawful acts stay lawful

may_wider : (free more : Id → Bool) (next : ℕ) (id : Id) → (free id ≡ true → more id ≡ true) → MayCreate free next id → MayCreate more next id
may_wider free more next id wider (inl is) = inl is
may_wider free more next id wider (inr e) = inr (wider e)

-- where more ids are free
pub lawful_wider : (free more : Id → Bool) (next : ℕ) (acts : List Act) → ((id : Id) → free id ≡ true → more id ≡ true) → AreLawfulBy free next acts → AreLawfulBy more next acts
lawful_wider free more next [] wider l = tt
lawful_wider free more next (Create id command ∷ acts) wider l = (
  may_wider free more next id (wider id) l.0,
  lawful_wider (but id free) (but id more) (above next id) acts (λ job e. (let parts = and_parts (not (same id job)) (free job) e in and_from (not (same id job)) (more job) parts.0 (wider job parts.1))) l.1,
)
lawful_wider free more next (_ ∷ acts) wider l = lawful_wider free more next acts wider l

-- behind a batch, where those that are gone leave the set
hand_free : (p : List Entry) (n : ℕ) (names : List ℕ) (asked : List Act) (id : Id) → is_free p id ≡ true → is_free (Hand n names asked ∷ p) id ≡ true
hand_free p n names asked id free =
    let unseen = unseen_if (Hand n names asked ∷ p) id (λ here. unseen_out p id (free_unseen p id free) (of_filter (λ job. lives job p) id (set p) here).0) in
    and_from (was_made id p) (not (is_seen id (Hand n names asked ∷ p))) (free_made p id free) (ap not unseen)

pub lawful_hand : (p : List Entry) (n : ℕ) (names : List ℕ) (asked acts : List Act) → AreLawful p acts → AreLawful (Hand n names asked ∷ p) acts
lawful_hand p n names asked acts l = lawful_wider (is_free p) (is_free (Hand n names asked ∷ p)) (next_job p) acts (hand_free p n names asked) l

-- behind a job that was made
made_free : (p : List Entry) (id job : Id) → but id (is_free p) job ≡ true → is_free (Made id ∷ p) job ≡ true
made_free p id job e =
    let parts = and_parts (not (same id job)) (is_free p job) e in
    let apart : same id job ≡ false = not-true (same id job) parts.0 in
    let unseen = unseen_if (Made id ∷ p) job (λ here. elim (of_with job (set p) id here) [ inl g ↦ unseen_out p job (free_unseen p job parts.1) g | inr is ↦ (let mine : same id job ≡ true = rw is (self job) in let both : true ≡ false = sym mine ∙ apart in absurd cc) ]) in
    and_from (same id job || was_made job p) (not (is_seen job (Made id ∷ p))) (or_right (same id job) (was_made job p) (free_made p job parts.1)) (ap not unseen)

pub lawful_made : (p : List Entry) (id : Id) (acts : List Act) → AreLawfulBy (but id (is_free p)) (above (next_job p) id) acts → AreLawful (Made id ∷ p) acts
lawful_made p id acts l = lawful_wider (but id (is_free p)) (is_free (Made id ∷ p)) (above (next_job p) id) acts (made_free p id) l
