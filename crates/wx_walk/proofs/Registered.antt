-- What is known of registered paths at every step.
use Rattle.std.proofs.Common.{◌≡◌, Bool, true, false, cond, List, [], ◌∷◌, ◌++◌, refl, sym, ◌∙◌, inl, inr, subst}
use Rattle.std.specs.Prelude.{◌&&◌, ◌||◌, ◌⊎◌, not, Option, Some, None, filter}
use Rattle.std.proofs.lemmas.Bool.{cases_Bool, both_ways, or_cases, or_left, or_right}
use Rattle.wx_tree.specs.Lists.{AllOnce, In}
use Rattle.wx_tree.specs.Paths.{Path, holds, same}
use Rattle.wx_tree.specs.Roots.{same_root}
use Rattle.wx_tree.specs.declared.root.Root.{Root}
use Rattle.wx_tree.proofs.ListLemmas.{In-cases, In-filter, In-kept, In-left, In-right}
use Rattle.wx_tree.proofs.PathLemmas.{same-refl, same-true}
use Rattle.wx_recursor.specs.Owners.{disown, has_owner, has_path, has_root, own, sweep, unseen}
use Rattle.wx_recursor.specs.declared.owner.Owner.{Owner}
use Rattle.wx_recursor.specs.declared.work.Item.{Item}
use Rattle.wx_recursor.specs.declared.work.Item.TheVariants.{Candidate, Guard, Scan, Visit}
use Rattle.wx_recursor.proofs.OwnerLemmas.{has_path_in, filter_has, own_has}
use Rattle.wx_recursor.proofs.SoundLemmas.{unseen_has}
use Rattle.wx_walk.specs.Machine.{State, did, has_guard, kept_guards, reconciled, release, rest_of, set_guard, stepped_at, unguard, watch, watch_guard}
use Rattle.wx_walk.specs.declared.plain.Guarded.{Guarded}
use Rattle.wx_walk.specs.declared.plain.Saw.{Saw}
use Rattle.wx_walk.specs.declared.plain.Saw.TheVariants.{Held, Leaf, Listed, Lost, Reset, Unsafe}

pub has_path-false : (p : Path) (qs : List Path) → has_path p qs ≡ false → In p qs → ⊥
has_path-false p [] e h = h
has_path-false p (q ∷ qs) e (inl f) = both_ways (same q p || has_path p qs) e (or_left (same q p) (has_path p qs) (rw f (same-refl p)))
has_path-false p (q ∷ qs) e (inr h) =
    elim (cases_Bool (has_path p qs)) [
      | inl a ↦ both_ways (same q p || has_path p qs) e (or_right (same q p) (has_path p qs) a)
      | inr a ↦ has_path-false p qs a h
    ]

once-push : (xs : List Path) (x : Path) → AllOnce xs → (In x xs → ⊥) → AllOnce (xs ++ x ∷ [])
once-push [] x o n = (λ h. h, tt)
once-push (y ∷ xs) x o n = (
  (λ h. elim (In-cases y xs (x ∷ []) h) [ inl a ↦ o.0 a | inr b ↦ elim b [ inl e ↦ n (inl (sym e)) | inr c ↦ c ] ]),
  once-push xs x o.1 (λ h. n (inr h)),
)

pub once-filter : (p : Path → Bool) (xs : List Path) → AllOnce xs → AllOnce (filter p xs)
once-filter p [] o = tt
once-filter p (x ∷ xs) o =
    let k = once-filter p xs o.1 in
    elim (p x) as (λ b. AllOnce (cond b (x ∷ filter p xs) (filter p xs))) [ true ↦ ((λ h. let a = In-filter p x xs h in o.0 a.0), k) | false ↦ k ]

pub once-watch : (p : Path) (registrations : List Path) → AllOnce registrations → AllOnce (watch p registrations)
once-watch p registrations o = elim (cases_Bool (has_path p registrations)) [ inl a ↦ rw a o | inr a ↦ rw a (once-push registrations p o (has_path-false p registrations a)) ]

watch-kept : (p q : Path) (registrations : List Path) → In q registrations → In q (watch p registrations)
watch-kept p q registrations h = elim (has_path p registrations) as (λ b. In q (cond b registrations (registrations ++ p ∷ []))) [ true ↦ h | false ↦ In-left q registrations (p ∷ []) h ]

watch-there : (p : Path) (registrations : List Path) → In p (watch p registrations)
watch-there p registrations = elim (cases_Bool (has_path p registrations)) [ inl a ↦ rw a (has_path_in p registrations a) | inr a ↦ rw a (In-right p registrations (p ∷ []) (inl refl)) ]

-- registrations without repeats, one for each owned path and each guard
pub record Regs (os : List Owner) (gs : List Guarded) (registrations : List Path) : Type 0 where
  pub once : AllOnce registrations
  pub owned : (p : Path) → has_owner p os ≡ true → In p registrations
  pub guarded : (p : Path) → has_guard p gs ≡ true → In p registrations

-- what serves nothing is let go
regs_release : (os : List Owner) (gs : List Guarded) (registrations : List Path) → Regs os gs registrations → Regs os gs (release os gs registrations)
regs_release os gs registrations k = record {
  once = once-filter (λ p. has_owner p os || has_guard p gs) registrations k.once;
  owned = λ p h. In-kept (λ p. has_owner p os || has_guard p gs) p registrations (or_left (has_owner p os) (has_guard p gs) h) (k.owned p h);
  guarded = λ p h. In-kept (λ p. has_owner p os || has_guard p gs) p registrations (or_right (has_owner p os) (has_guard p gs) h) (k.guarded p h);
}

guards-has : (f : Guarded → Bool) (q : Path) (gs : List Guarded) → has_guard q (filter f gs) ≡ true → has_guard q gs ≡ true
guards-has f q [] h = h
guards-has f q (g ∷ gs) h =
    elim (cases_Bool (f g)) [
      | inl a ↦ elim (or_cases (same g.path q) (has_guard q (filter f gs)) (rw a at h)) [
        | inl b ↦ or_left (same g.path q) (has_guard q gs) b
        | inr b ↦ or_right (same g.path q) (has_guard q gs) (guards-has f q gs b)
      ]
      | inr a ↦ or_right (same g.path q) (has_guard q gs) (guards-has f q gs (rw a at h))
    ]

append-has : (q p : Path) (r : Root) (gs : List Guarded) → has_guard q (gs ++ record { root = r; path = p } ∷ []) ≡ true → (has_guard q gs ≡ true) ⊎ (p ≡ q)
append-has q p r [] h = elim (or_cases (same p q) false h) [ inl a ↦ inr (same-true p q a) | inr b ↦ cc ]
append-has q p r (g ∷ gs) h =
    elim (or_cases (same g.path q) (has_guard q (gs ++ record { root = r; path = p } ∷ [])) h) [
      | inl a ↦ inl (or_left (same g.path q) (has_guard q gs) a)
      | inr b ↦ elim (append-has q p r gs b) [ inl c ↦ inl (or_right (same g.path q) (has_guard q gs) c) | inr c ↦ inr c ]
    ]

-- owners, guards and registrations change together
regs_own : (r : Root) (p : Path) (os : List Owner) (gs hs : List Guarded) (registrations : List Path) → ((q : Path) → has_guard q hs ≡ true → has_guard q gs ≡ true) → Regs os gs registrations → Regs (own r p os) hs (watch p registrations)
regs_own r p os gs hs registrations less k = record {
  once = once-watch p registrations k.once;
  owned = λ q h. elim (own_has r p q os h) [ inl a ↦ watch-kept p q registrations (k.owned q a) | inr e ↦ subst (λ x. In x (watch p registrations)) e (watch-there p registrations) ];
  guarded = λ q h. watch-kept p q registrations (k.guarded q (less q h));
}

regs_set : (r : Root) (o : Option (Path)) (os us : List Owner) (gs : List Guarded) (registrations : List Path) → ((q : Path) → has_owner q us ≡ true → has_owner q os ≡ true) → Regs os gs registrations → Regs us (set_guard r o gs) (watch_guard o registrations)
regs_set r None os us gs registrations less k = record {
  once = k.once;
  owned = λ q h. k.owned q (less q h);
  guarded = λ q h. k.guarded q (guards-has (λ g. not (same_root r g.root)) q gs h);
}
regs_set r (Some p) os us gs registrations less k = record {
  once = once-watch p registrations k.once;
  owned = λ q h. watch-kept p q registrations (k.owned q (less q h));
  guarded = λ q h. elim (append-has q p r (unguard r gs) h) [
    | inl a ↦ watch-kept p q registrations (k.guarded q (guards-has (λ g. not (same_root r g.root)) q gs a))
    | inr e ↦ subst (λ x. In x (watch p registrations)) e (watch-there p registrations)
  ];
}

regs_less : (os us : List Owner) (gs hs : List Guarded) (registrations : List Path) → ((q : Path) → has_owner q us ≡ true → has_owner q os ≡ true) → ((q : Path) → has_guard q hs ≡ true → has_guard q gs ≡ true) → Regs os gs registrations → Regs us hs registrations
regs_less os us gs hs registrations a b k = record { once = k.once; owned = λ q h. k.owned q (a q h); guarded = λ q h. k.guarded q (b q h) }

abbrev pub RegsOf : State → Type 0
RegsOf s = Regs s.owners s.guards s.registrations

-- a step keeps this, whatever it found
pub regs_did : (i : Item) (f : Saw) (s : State) → RegsOf s → RegsOf (did i f s)
regs_did (Guard r) Lost s k = k
regs_did (Guard r) (Unsafe g) s k = k
regs_did (Guard r) (Reset g root_is_safe) s k = regs_release _ _ _ (regs_set r g s.owners s.owners s.guards s.registrations (λ q h. h) k)
regs_did (Guard r) Leaf s k = k
regs_did (Guard r) Held s k = k
regs_did (Guard r) (Listed cs) s k = k
regs_did (Visit r) Lost s k = k
regs_did (Visit r) (Unsafe g) s k = regs_release _ _ _ (regs_set r g s.owners (disown r r.path s.owners) s.guards s.registrations (λ q h. filter_has (λ o. not (same_root r o.root && holds r.path o.path)) q s.owners h) k)
regs_did (Visit r) (Reset g root_is_safe) s k = k
regs_did (Visit r) Leaf s k = regs_release _ _ _ (regs_own r r.path s.owners s.guards (unguard r s.guards) s.registrations (λ q h. guards-has (λ g. not (same_root r g.root)) q s.guards h) k)
regs_did (Visit r) Held s k = regs_release _ _ _ (regs_own r r.path s.owners s.guards (unguard r s.guards) s.registrations (λ q h. guards-has (λ g. not (same_root r g.root)) q s.guards h) k)
regs_did (Visit r) (Listed cs) s k = k
regs_did (Scan r p) Lost s k = k
regs_did (Scan r p) (Unsafe g) s k = k
regs_did (Scan r p) (Reset g root_is_safe) s k = k
regs_did (Scan r p) Leaf s k = k
regs_did (Scan r p) Held s k = k
regs_did (Scan r p) (Listed cs) s k = regs_release _ _ _ k
regs_did (Candidate r p) Lost s k = regs_release _ _ _ (regs_less s.owners (disown r p s.owners) s.guards s.guards s.registrations (λ q h. filter_has (λ o. not (same_root r o.root && holds p o.path)) q s.owners h) (λ q h. h) k)
regs_did (Candidate r p) (Unsafe g) s k = k
regs_did (Candidate r p) (Reset g root_is_safe) s k = k
regs_did (Candidate r p) Leaf s k = k
regs_did (Candidate r p) Held s k = regs_release _ _ _ (regs_own r p s.owners s.guards s.guards s.registrations (λ q h. h) k)
regs_did (Candidate r p) (Listed cs) s k = k

pub regs_at : (q : List Item) (f : Saw) (s : State) → RegsOf s → RegsOf (stepped_at q f s)
regs_at [] f s k = regs_release _ _ _ (regs_less s.owners (sweep s.owners) s.guards s.guards s.registrations (λ q h. filter_has (λ o. o.seen) q s.owners h) (λ q h. h) k)
regs_at (i ∷ q) f s k = regs_did i f (rest_of s q) k

pub regs_reconciled : (rs : List Root) (s : State) → RegsOf s → RegsOf (reconciled rs s)
regs_reconciled rs s k = regs_less s.owners (unseen s.owners) s.guards (kept_guards rs s.guards) s.registrations (λ q h. sym (unseen_has q s.owners) ∙ h) (λ q h. guards-has (λ g. has_root g.root rs) q s.guards h) k
