-- Each change of who owns what keeps what is to be kept.
use Rattle.std.proofs.Common.{◌≡◌, Bool, true, false, cond, List, [], ◌∷◌, ◌++◌, refl, ap, sym, ◌∙◌, inl, inr, subst}
use Rattle.std.specs.Prelude.{◌&&◌, ◌||◌, ◌⊎◌, not, filter, map}
use Rattle.std.proofs.lemmas.Bool.{cases_Bool, and_parts, or_cases, both_ways, or_parts, or_left, or_right}
use Rattle.wx_tree.specs.Lists.{In}
use Rattle.wx_tree.specs.Paths.{Path, same}
use Rattle.wx_tree.specs.Roots.{same_root}
use Rattle.wx_tree.specs.declared.root.Root.{Root}
use Rattle.wx_tree.proofs.ListLemmas.{In-cases, In-filter, In-kept, In-left, In-right}
use Rattle.wx_tree.proofs.PathLemmas.{same-refl, same-true}
use Rattle.wx_recursor.specs.Guarding.{guards_of_others}
use Rattle.wx_recursor.specs.Holding.{serves, still_known}
use Rattle.wx_recursor.specs.Identities.{guard_known, has_identity, has_known, is_other, know, named, same_identity, without}
use Rattle.wx_recursor.specs.Owners.{has_owner, own, unseen}
use Rattle.wx_recursor.specs.Owning.{is_known_otherwise}
use Rattle.wx_recursor.specs.Sound.{Among, AreSound, IdentitiesOnce, Serves, Things, things}
use Rattle.wx_recursor.specs.States.{RecursorState}
use Rattle.wx_recursor.specs.Steps.{serving_registrations}
use Rattle.wx_recursor.specs.declared.known.Identity.{Identity}
use Rattle.wx_recursor.specs.declared.known.Identity.TheVariants.{Canonical, Lexical}
use Rattle.wx_recursor.specs.declared.known.Known.{Known}
use Rattle.wx_recursor.specs.declared.owner.GuardWatch.{GuardWatch}
use Rattle.wx_recursor.specs.declared.owner.Owner.{Owner}
use Rattle.wx_recursor.proofs.OwnerLemmas.{filter_has, own_has}

-- identities

pub identity_true : (i j : Identity) → same_identity i j ≡ true → i ≡ j
identity_true (Canonical p) (Canonical q) h = ap Canonical (same-true p q h)
identity_true (Canonical p) (Lexical q) h = cc
identity_true (Lexical p) (Canonical q) h = cc
identity_true (Lexical p) (Lexical q) h = ap Lexical (same-true p q h)

pub identity_refl : (i : Identity) → same_identity i i ≡ true
identity_refl (Canonical p) = same-refl p
identity_refl (Lexical p) = same-refl p

pub has_there : (k : Known) (ks : List Known) → In k ks → has_identity k.identity ks ≡ true
has_there k [] h = absurd h
has_there k (l ∷ ks) (inl e) = or_left (same_identity l.identity k.identity) (has_identity k.identity ks) (rw e (identity_refl k.identity))
has_there k (l ∷ ks) (inr h) = or_right (same_identity l.identity k.identity) (has_identity k.identity ks) (has_there k ks h)

pub has_left : (i : Identity) (ks ls : List Known) → has_identity i ks ≡ true → has_identity i (ks ++ ls) ≡ true
has_left i [] ls h = cc
has_left i (k ∷ ks) ls h = elim (or_cases (same_identity k.identity i) (has_identity i ks) h) [
  | inl a ↦ or_left (same_identity k.identity i) (has_identity i (ks ++ ls)) a
  | inr b ↦ or_right (same_identity k.identity i) (has_identity i (ks ++ ls)) (has_left i ks ls b)
]

pub has_right : (i : Identity) (ks ls : List Known) → has_identity i ls ≡ true → has_identity i (ks ++ ls) ≡ true
has_right i [] ls h = h
has_right i (k ∷ ks) ls h = or_right (same_identity k.identity i) (has_identity i (ks ++ ls)) (has_right i ks ls h)

-- what a filter on identities leaves
pub has_filter : (f : Identity → Bool) (i : Identity) (ks : List Known) → f i ≡ true → has_identity i ks ≡ true → has_identity i (filter (λ k. f k.identity) ks) ≡ true
has_filter f i [] e h = h
has_filter f i (k ∷ ks) e h =
    elim (or_cases (same_identity k.identity i) (has_identity i ks) h) [
      | inl a ↦
          let same : k.identity ≡ i = identity_true k.identity i a in
          let g : f k.identity ≡ true = rw same e in
          rw g (or_left (same_identity k.identity i) (has_identity i (filter (λ k. f k.identity) ks)) a)
      | inr b ↦
          let c = has_filter f i ks e b in
          elim (cases_Bool (f k.identity)) [
            | inl g ↦ rw g (or_right (same_identity k.identity i) (has_identity i (filter (λ k. f k.identity) ks)) c)
            | inr g ↦ rw g c
          ]
    ]

pub none_filter : (f : Known → Bool) (i : Identity) (ks : List Known) → has_identity i ks ≡ false → has_identity i (filter f ks) ≡ false
none_filter f i [] h = h
none_filter f i (k ∷ ks) h =
    elim (cases_Bool (same_identity k.identity i)) [
      | inl a ↦ (let x : true ≡ false = rw a at h in cc)
      | inr a ↦
          let b = none_filter f i ks (rw a at h) in
          elim (cases_Bool (f k)) [ inl g ↦ rw (g, a) b | inr g ↦ rw g b ]
    ]

pub once_filter : (f : Known → Bool) (ks : List Known) → IdentitiesOnce ks → IdentitiesOnce (filter f ks)
once_filter f [] o = tt
once_filter f (k ∷ ks) o =
    let a = once_filter f ks o.1 in
    elim (cases_Bool (f k)) [
      | inl g ↦ rw g (none_filter f k.identity ks o.0, a)
      | inr g ↦ rw g a
    ]

not_without : (i : Identity) (ks : List Known) → has_identity i (without i ks) ≡ false
not_without i [] = refl
not_without i (k ∷ ks) =
    elim (cases_Bool (same_identity k.identity i)) [
      | inl a ↦ rw a (not_without i ks)
      | inr a ↦ rw (a, a) (not_without i ks)
    ]

pub none_push : (i : Identity) (p : Path) (j : Identity) (ks : List Known) → has_identity i ks ≡ false → same_identity j i ≡ false → has_identity i (ks ++ named p j ∷ []) ≡ false
none_push i p j [] h e = rw e refl
none_push i p j (k ∷ ks) h e =
    elim (cases_Bool (same_identity k.identity i)) [
      | inl a ↦ (let x : true ≡ false = rw a at h in cc)
      | inr a ↦ rw a (none_push i p j ks (rw a at h) e)
    ]

flip : (i j : Identity) → same_identity i j ≡ false → same_identity j i ≡ false
flip i j h = elim (cases_Bool (same_identity j i)) [
  | inl a ↦ absurd (both_ways (same_identity i j) h (rw (identity_true j i a) (identity_refl i)))
  | inr a ↦ a
]

pub once_push : (p : Path) (i : Identity) (ks : List Known) → IdentitiesOnce ks → has_identity i ks ≡ false → IdentitiesOnce (ks ++ named p i ∷ [])
once_push p i [] o h = (refl, tt)
once_push p i (k ∷ ks) o h =
    elim (cases_Bool (same_identity k.identity i)) [
      | inl a ↦ (let x : true ≡ false = rw a at h in cc)
      | inr a ↦ (none_push k.identity p i ks o.0 (flip k.identity i a), once_push p i ks o.1 (rw a at h))
    ]

-- the path fits this identity
abbrev pub Suits : Path → Identity → Things → Type 0
Suits p i h = (l : Known) → Among h l → l.path ≡ p → l.identity ≡ i

other_none : (p : Path) (i : Identity) (ks : List Known) → is_other p i ks ≡ false → (l : Known) → In l ks → l.path ≡ p → l.identity ≡ i
other_none p i [] h l m e = absurd m
other_none p i (k ∷ ks) h l (inl s) e =
    let a : same k.path p ≡ true = rw (s, e) (same-refl p) in
    elim (cases_Bool (same_identity k.identity i)) [
      | inl b ↦ subst (λ x. x.identity ≡ i) s (identity_true k.identity i b)
      | inr b ↦ (let x : true ≡ false = rw (a, b) at h in cc)
    ]
other_none p i (k ∷ ks) h l (inr m) e =
    elim (cases_Bool (same k.path p && not (same_identity k.identity i))) [
      | inl a ↦ (let x : true ≡ false = rw a at h in cc)
      | inr a ↦ other_none p i ks (rw a at h) l m e
    ]

pub suits : (p : Path) (i : Identity) (s : RecursorState) → is_known_otherwise p i s ≡ false → Suits p i (things s)
suits p i s h l m e =
    let a = or_parts (is_other p i s.known) (is_other p i (map guard_known s.guards) || (is_other p i s.registrations || is_other p i s.waiting)) h in
    let b = or_parts (is_other p i (map guard_known s.guards)) (is_other p i s.registrations || is_other p i s.waiting) a.1 in
    let c = or_parts (is_other p i s.registrations) (is_other p i s.waiting) b.1 in
    elim m [
      | inl x ↦ other_none p i s.known a.0 l x e
      | inr x ↦ elim x [
        | inl y ↦ other_none p i (map guard_known s.guards) b.0 l y e
        | inr y ↦ elim y [
          | inl z ↦ other_none p i s.registrations c.0 l z e
          | inr z ↦ other_none p i s.waiting c.1 l z e
        ]
      ]
    ]

-- nothing is among the new things but what was there and perhaps one path more
abbrev pub Grows : Things → Things → Path → Identity → Type 0
Grows h g p i = (k : Known) → Among g k → Among h k ⊎ (named p i ≡ k)

uniform_grows : (h g : Things) (p : Path) (i : Identity) → AreSound h → Suits p i h → Grows h g p i → (k l : Known) → Among g k → Among g l → k.path ≡ l.path → k.identity ≡ l.identity
uniform_grows h g p i sound fit grows k l a b e =
    elim (grows k a) [
      | inl x ↦ elim (grows l b) [
        | inl y ↦ sound.uniform k l x y e
        | inr y ↦ fit k x (e ∙ sym (ap (λ z. z.path) y)) ∙ ap (λ z. z.identity) y
      ]
      | inr x ↦ elim (grows l b) [
        | inl y ↦ sym (fit l y (sym e ∙ sym (ap (λ z. z.path) x)) ∙ ap (λ z. z.identity) x)
        | inr y ↦ sym (ap (λ z. z.identity) x) ∙ ap (λ z. z.identity) y
      ]
    ]

-- a registration more
abbrev pub more_regs : Path → Identity → Things → Things
more_regs p i h = record h { registrations = h.registrations ++ named p i ∷ []; waiting = without i h.waiting }

pub regs_grow : (h : Things) (p : Path) (i : Identity) → Grows h (more_regs p i h) p i
regs_grow h p i k (inl a) = inl (inl a)
regs_grow h p i k (inr (inl a)) = inl (inr (inl a))
regs_grow h p i k (inr (inr (inl a))) = elim (In-cases k h.registrations (named p i ∷ []) a) [
  | inl x ↦ inl (inr (inr (inl x)))
  | inr x ↦ elim x [ inl e ↦ inr e | inr y ↦ absurd y ]
]
regs_grow h p i k (inr (inr (inr a))) = let b = In-filter (λ k. not (same_identity k.identity i)) k h.waiting a in inl (inr (inr (inr b.0)))

backs_more : (p : Path) (i j : Identity) (registrations waiting : List Known) → (has_identity j registrations || has_identity j waiting) ≡ true → (has_identity j (registrations ++ named p i ∷ []) || has_identity j (without i waiting)) ≡ true
backs_more p i j registrations waiting h =
    elim (cases_Bool (same_identity j i)) [
      | inl a ↦
          let e : i ≡ j = sym (identity_true j i a) in
          or_left (has_identity j (registrations ++ named p i ∷ [])) (has_identity j (without i waiting)) (has_right j registrations (named p i ∷ []) (rw e (or_left (same_identity j j) false (identity_refl j))))
      | inr a ↦ elim (or_cases (has_identity j registrations) (has_identity j waiting) h) [
        | inl b ↦ or_left (has_identity j (registrations ++ named p i ∷ [])) (has_identity j (without i waiting)) (has_left j registrations (named p i ∷ []) b)
        | inr b ↦ or_right (has_identity j (registrations ++ named p i ∷ [])) (has_identity j (without i waiting)) (has_filter (λ x. not (same_identity x i)) j waiting (rw a refl) b)
      ]
    ]

pub sound_more : (h : Things) (p : Path) (i : Identity) → AreSound h → Suits p i h → has_identity i h.registrations ≡ false → AreSound (more_regs p i h)
sound_more h p i sound fit new = record {
  uniform = uniform_grows h (more_regs p i h) p i sound fit (regs_grow h p i);
  once = once_push p i h.registrations sound.once new;
  wait = once_filter (λ k. not (same_identity k.identity i)) h.waiting sound.wait;
  apart = λ k m. elim (In-cases k h.registrations (named p i ∷ []) m) [
    | inl a ↦ none_filter (λ k. not (same_identity k.identity i)) k.identity h.waiting (sound.apart k a)
    | inr a ↦ elim a [
      | inl e ↦ subst (λ x. has_identity x.identity (without i h.waiting) ≡ false) e (not_without i h.waiting)
      | inr b ↦ absurd b
    ]
  ];
  backed = λ k m. backs_more p i k.identity h.registrations h.waiting (sound.backed k m);
  owned = sound.owned;
}

-- an owned path more
abbrev pub more_owns : Root → Path → Identity → Things → Things
more_owns r p i h = record h { owners = own r p h.owners; known = know p i h.known }

know_cases : (p : Path) (i : Identity) (ks : List Known) (k : Known) → In k (know p i ks) → In k ks ⊎ (named p i ≡ k)
know_cases p i ks k m = go (has_known p i ks) m
  where
    go : (b : Bool) → In k (cond b ks (ks ++ named p i ∷ [])) → In k ks ⊎ (named p i ≡ k)
    go true m = inl m
    go false m = elim (In-cases k ks (named p i ∷ []) m) [ inl a ↦ inl a | inr a ↦ elim a [ inl e ↦ inr e | inr b ↦ absurd b ] ]

know_old : (p : Path) (i : Identity) (ks : List Known) (k : Known) → In k ks → In k (know p i ks)
know_old p i ks k m = elim (has_known p i ks) as (λ b. In k (cond b ks (ks ++ named p i ∷ []))) [ true ↦ m | false ↦ In-left k ks (named p i ∷ []) m ]

known_is : (p : Path) (i : Identity) (ks : List Known) → has_known p i ks ≡ true → (k : Known) × In k ks × (k.path ≡ p)
known_is p i [] h = cc
known_is p i (k ∷ ks) h =
    elim (or_cases (same k.path p && same_identity k.identity i) (has_known p i ks) h) [
      | inl a ↦ (let b = and_parts (same k.path p) (same_identity k.identity i) a in (k, inl refl, same-true k.path p b.0))
      | inr a ↦ let c = known_is p i ks a in (c.0, inr c.1, c.2)
    ]

know_new : (p : Path) (i : Identity) (ks : List Known) → (k : Known) × In k (know p i ks) × (k.path ≡ p)
know_new p i ks =
    elim (cases_Bool (has_known p i ks)) [
      | inl h ↦ (let a = known_is p i ks h in (a.0, know_old p i ks a.0 a.1, a.2))
      | inr h ↦ (named p i, rw h (In-right (named p i) ks (named p i ∷ []) (inl refl)), refl)
    ]

owns_grow : (h : Things) (r : Root) (p : Path) (i : Identity) → Grows h (more_owns r p i h) p i
owns_grow h r p i k (inl a) = elim (know_cases p i h.known k a) [ inl x ↦ inl (inl x) | inr e ↦ inr e ]
owns_grow h r p i k (inr a) = inl (inr a)

pub sound_take : (h : Things) (r : Root) (p : Path) (i : Identity) → AreSound h → Suits p i h → has_identity i h.registrations ≡ true → AreSound (more_owns r p i h)
sound_take h r p i sound fit there = record {
  uniform = uniform_grows h (more_owns r p i h) p i sound fit (owns_grow h r p i);
  once = sound.once;
  wait = sound.wait;
  apart = sound.apart;
  backed = λ k m. elim m [
    | inl a ↦ elim (know_cases p i h.known k a) [
      | inl x ↦ sound.backed k (inl x)
      | inr e ↦ subst (λ x. (has_identity x.identity h.registrations || has_identity x.identity h.waiting) ≡ true) e (or_left (has_identity i h.registrations) (has_identity i h.waiting) there)
    ]
    | inr a ↦ sound.backed k (inr a)
  ];
  owned = λ q m. elim (own_has r p q h.owners m) [
    | inl a ↦ (let b = sound.owned q a in (b.0, know_old p i h.known b.0 b.1, b.2))
    | inr e ↦ (let b = know_new p i h.known in (b.0, b.1, b.2 ∙ e))
  ];
}

-- a guard more, and fewer guards and owners

pub in_map_filter : (f : GuardWatch → Bool) (k : Known) (gs : List GuardWatch) → In k (map guard_known (filter f gs)) → In k (map guard_known gs)
in_map_filter f k [] m = m
in_map_filter f k (g ∷ gs) m =
    elim (cases_Bool (f g)) [
      | inl a ↦ elim (let x : In k (guard_known g ∷ map guard_known (filter f gs)) = rw a at m in x) [ inl e ↦ inl e | inr y ↦ inr (in_map_filter f k gs y) ]
      | inr a ↦ inr (in_map_filter f k gs (rw a at m))
    ]

map_push : (k : Known) (gs : List GuardWatch) (g : GuardWatch) → In k (map guard_known (gs ++ g ∷ [])) → In k (map guard_known gs) ⊎ (guard_known g ≡ k)
map_push k [] g (inl e) = inr e
map_push k [] g (inr m) = absurd m
map_push k (x ∷ gs) g (inl e) = inl (inl e)
map_push k (x ∷ gs) g (inr m) = elim (map_push k gs g m) [ inl a ↦ inl (inr a) | inr e ↦ inr e ]

abbrev a_guard : Root → Path → Identity → GuardWatch
a_guard r p i = record { root = r; path = p; identity = i }

abbrev pub more_guards : Root → Path → Identity → Things → Things
more_guards r p i h = record h { guards = guards_of_others r h.guards ++ a_guard r p i ∷ [] }

guards_cases : (h : Things) (r : Root) (p : Path) (i : Identity) (k : Known) → In k (map guard_known (guards_of_others r h.guards ++ a_guard r p i ∷ [])) → In k (map guard_known h.guards) ⊎ (named p i ≡ k)
guards_cases h r p i k m = elim (map_push k (guards_of_others r h.guards) (a_guard r p i) m) [ inl a ↦ inl (in_map_filter (λ g. not (same_root r g.root)) k h.guards a) | inr e ↦ inr e ]

guards_grow : (h : Things) (r : Root) (p : Path) (i : Identity) → Grows h (more_guards r p i h) p i
guards_grow h r p i k (inl a) = inl (inl a)
guards_grow h r p i k (inr (inl a)) = elim (guards_cases h r p i k a) [ inl x ↦ inl (inr (inl x)) | inr e ↦ inr e ]
guards_grow h r p i k (inr (inr a)) = inl (inr (inr a))

pub sound_guard : (h : Things) (r : Root) (p : Path) (i : Identity) → AreSound h → Suits p i h → has_identity i h.registrations ≡ true → AreSound (more_guards r p i h)
sound_guard h r p i sound fit there = record {
  uniform = uniform_grows h (more_guards r p i h) p i sound fit (guards_grow h r p i);
  once = sound.once;
  wait = sound.wait;
  apart = sound.apart;
  backed = λ k m. elim m [
    | inl a ↦ sound.backed k (inl a)
    | inr a ↦ elim (guards_cases h r p i k a) [
      | inl x ↦ sound.backed k (inr x)
      | inr e ↦ subst (λ x. (has_identity x.identity h.registrations || has_identity x.identity h.waiting) ≡ true) e (or_left (has_identity i h.registrations) (has_identity i h.waiting) there)
    ]
  ];
  owned = sound.owned;
}

abbrev pub fewer_guards : (GuardWatch → Bool) → Things → Things
fewer_guards f h = record h { guards = filter f h.guards }

fewer_among : (f : GuardWatch → Bool) (h : Things) (k : Known) → Among (fewer_guards f h) k → Among h k
fewer_among f h k (inl a) = inl a
fewer_among f h k (inr (inl a)) = inr (inl (in_map_filter f k h.guards a))
fewer_among f h k (inr (inr a)) = inr (inr a)

pub sound_fewer_guards : (f : GuardWatch → Bool) (h : Things) → AreSound h → AreSound (fewer_guards f h)
sound_fewer_guards f h sound = record {
  uniform = λ k l a b e. sound.uniform k l (fewer_among f h k a) (fewer_among f h l b) e;
  once = sound.once;
  wait = sound.wait;
  apart = sound.apart;
  backed = λ k m. elim m [ inl a ↦ sound.backed k (inl a) | inr a ↦ sound.backed k (inr (in_map_filter f k h.guards a)) ];
  owned = sound.owned;
}

pub sound_fewer_owns : (f : Owner → Bool) (h : Things) → AreSound h → AreSound (record h { owners = filter f h.owners })
sound_fewer_owns f h sound = record {
  uniform = sound.uniform;
  once = sound.once;
  wait = sound.wait;
  apart = sound.apart;
  backed = sound.backed;
  owned = λ p m. sound.owned p (filter_has f p h.owners m);
}

pub unseen_has : (q : Path) (os : List Owner) → has_owner q (unseen os) ≡ has_owner q os
unseen_has q [] = refl
unseen_has q (o ∷ os) = ap (λ b. same o.path q || b) (unseen_has q os)

pub sound_unseen : (h : Things) → AreSound h → AreSound (record h { owners = unseen h.owners })
sound_unseen h sound = record {
  uniform = sound.uniform;
  once = sound.once;
  wait = sound.wait;
  apart = sound.apart;
  backed = sound.backed;
  owned = λ p m. sound.owned p (sym (unseen_has p h.owners) ∙ m);
}

-- what serves nothing goes
abbrev pub trim : Things → Things
trim h =
    let ks : List Known = still_known h.owners h.known in
    record h { known = ks; registrations = serving_registrations ks h.guards h.registrations; waiting = serving_registrations ks h.guards h.waiting }

trim_among : (h : Things) (k : Known) → Among (trim h) k → Among h k
trim_among h k (inl a) = let b = In-filter (λ k. has_owner k.path h.owners) k h.known a in inl b.0
trim_among h k (inr (inl a)) = inr (inl a)
trim_among h k (inr (inr (inl a))) = let b = In-filter _ k h.registrations a in inr (inr (inl b.0))
trim_among h k (inr (inr (inr a))) = let b = In-filter _ k h.waiting a in inr (inr (inr b.0))

serves_there : (ks : List Known) (gs : List GuardWatch) (k : Known) → In k ks ⊎ In k (map guard_known gs) → serves ks gs k.identity ≡ true
serves_there ks gs k (inl a) = or_left (has_identity k.identity ks) (has_identity k.identity (map guard_known gs)) (has_there k ks a)
serves_there ks gs k (inr a) = or_right (has_identity k.identity ks) (has_identity k.identity (map guard_known gs)) (has_there k (map guard_known gs) a)

pub or_both : (a b c d : Bool) → (a ≡ true → c ≡ true) → (b ≡ true → d ≡ true) → (a || b) ≡ true → (c || d) ≡ true
or_both a b c d f g h = elim (or_cases a b h) [ inl x ↦ or_left c d (f x) | inr y ↦ or_right c d (g y) ]

pub sound_trim : (h : Things) → AreSound h → AreSound (trim h)
sound_trim h sound =
    let ks : List Known = still_known h.owners h.known in
    let old : (k : Known) → Serves (trim h) k → Serves h k = λ k m. elim m [ inl a ↦ (let b = In-filter (λ k. has_owner k.path h.owners) k h.known a in inl b.0) | inr a ↦ inr a ] in
    record {
      uniform = λ k l a b e. sound.uniform k l (trim_among h k a) (trim_among h l b) e;
      once = once_filter (λ g. serves ks h.guards g.identity) h.registrations sound.once;
      wait = once_filter (λ g. serves ks h.guards g.identity) h.waiting sound.wait;
      apart = λ k m. let b = In-filter (λ g. serves ks h.guards g.identity) k h.registrations m in none_filter (λ g. serves ks h.guards g.identity) k.identity h.waiting (sound.apart k b.0);
      backed = λ k m.
          let s : serves ks h.guards k.identity ≡ true = serves_there ks h.guards k m in
          or_both (has_identity k.identity h.registrations) (has_identity k.identity h.waiting) _ _
          (has_filter (λ i. serves ks h.guards i) k.identity h.registrations s)
          (has_filter (λ i. serves ks h.guards i) k.identity h.waiting s)
          (sound.backed k (old k m));
      owned = λ p m.
          let b = sound.owned p m in
          (b.0, In-kept (λ k. has_owner k.path h.owners) b.0 h.known (rw b.2 m) b.1, b.2);
    }
