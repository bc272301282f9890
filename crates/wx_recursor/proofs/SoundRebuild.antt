-- A rebuild keeps it.
use Rattle.std.proofs.Common.{◌≡◌, Bool, true, false, cond, List, [], ◌∷◌, ◌++◌, refl, ap, sym, ◌∙◌, inl, inr, subst}
use Rattle.std.specs.Prelude.{◌||◌, ◌⊎◌, not, filter, map}
use Rattle.std.proofs.lemmas.Bool.{cases_Bool, or_cases, both_ways, or_left, or_right, or_parts}
use Rattle.std.proofs.lemmas.List.{append-nil, append_assoc}
use Rattle.wx_tree.specs.Lists.{In}
use Rattle.wx_tree.specs.Paths.{Path, same}
use Rattle.wx_tree.proofs.ListLemmas.{In-cases, In-filter, In-left, In-right}
use Rattle.wx_tree.proofs.PathLemmas.{same-true}
use Rattle.wx_recursor.specs.Holding.{show, still_known}
use Rattle.wx_recursor.specs.Identities.{guard_known, has_identity, has_known, is_path_gone, named, same_identity}
use Rattle.wx_recursor.specs.Owners.{has_owner, has_path}
use Rattle.wx_recursor.specs.Owning.{failed_watch, is_resource_fault, stop}
use Rattle.wx_recursor.specs.Rebuilds.{first_of, guards_to_replay, is_left_out, is_replay_over, keep_waiting, known_to_replay, path_gone, prepared, replayed, replayed_all, replayed_one, replays, representative, representatives, upheld, waits, waits_by_alias}
use Rattle.wx_recursor.specs.Sound.{Among, AreSound, IdentitiesOnce, Things, things}
use Rattle.wx_recursor.specs.States.{RecursorState}
use Rattle.wx_recursor.specs.declared.answers.Watched.{Watched}
use Rattle.wx_recursor.specs.declared.answers.Watched.TheVariants.{Failed, Kept}
use Rattle.wx_recursor.specs.declared.errors.ShownError.TheVariants.{PathAdd}
use Rattle.wx_recursor.specs.declared.known.Identity.{Identity}
use Rattle.wx_recursor.specs.declared.known.Known.{Known}
use Rattle.wx_recursor.specs.declared.owner.GuardWatch.{GuardWatch}
use Rattle.wx_recursor.specs.declared.owner.Owner.{Owner}
use Rattle.wx_recursor.proofs.SoundLemmas.{has_there, identity_true, in_map_filter, once_filter, once_push}
use Rattle.wx_recursor.proofs.SoundSteps.{cond_things}

-- what holds while a rebuild is under way: no path and no identity twice
pub record Tidy (h : Things) : Type 0 where
  pub uniform : (k l : Known) → Among h k → Among h l → k.path ≡ l.path → k.identity ≡ l.identity
  pub once : IdentitiesOnce h.registrations
  pub wait : IdentitiesOnce h.waiting
  pub apart : (k : Known) → In k h.registrations → has_identity k.identity h.waiting ≡ false

sound_tidy : (h : Things) → AreSound h → Tidy h
sound_tidy h k = record { uniform = k.uniform; once = k.once; wait = k.wait; apart = k.apart }

-- less is tidy too
less_uniform : (h g : Things) → ((k : Known) → Among g k → Among h k) → Tidy h → (k l : Known) → Among g k → Among g l → k.path ≡ l.path → k.identity ≡ l.identity
less_uniform h g less t k l a b e = t.uniform k l (less k a) (less l b) e

-- an owned path or a guard stays while its registration is there or waits

paths_in : (p : Path) (ks : List Known) → has_path p (map (λ k. k.path) ks) ≡ true → (k : Known) × In k ks × (k.path ≡ p)
paths_in p [] h = cc
paths_in p (k ∷ ks) h = elim (or_cases (same k.path p) (has_path p (map (λ k. k.path) ks)) h) [
  | inl a ↦ (k, inl refl, same-true k.path p a)
  | inr b ↦ let c = paths_in p ks b in (c.0, inr c.1, c.2)
]

own_filter : (f : Path → Bool) (p : Path) (os : List Owner) → has_owner p (filter (λ o. f o.path) os) ≡ true → f p ≡ true
own_filter f p [] h = cc
own_filter f p (o ∷ os) h =
    elim (cases_Bool (f o.path)) [
      | inl a ↦ elim (or_cases (same o.path p) (has_owner p (filter (λ o. f o.path) os)) (rw a at h)) [
        | inl b ↦ subst (λ q. f q ≡ true) (same-true o.path p b) a
        | inr b ↦ own_filter f p os b
      ]
      | inr a ↦ own_filter f p os (rw a at h)
    ]

split_has : (i : Identity) (ks ls : List Known) → has_identity i (ks ++ ls) ≡ true → (has_identity i ks || has_identity i ls) ≡ true
split_has i [] ls h = h
split_has i (k ∷ ks) ls h =
    elim (or_cases (same_identity k.identity i) (has_identity i (ks ++ ls)) h) [
      | inl a ↦ or_left (same_identity k.identity i || has_identity i ks) (has_identity i ls) (or_left (same_identity k.identity i) (has_identity i ks) a)
      | inr b ↦ elim (or_cases (has_identity i ks) (has_identity i ls) (split_has i ks ls b)) [
        | inl c ↦ or_left (same_identity k.identity i || has_identity i ks) (has_identity i ls) (or_right (same_identity k.identity i) (has_identity i ks) c)
        | inr c ↦ or_right (same_identity k.identity i || has_identity i ks) (has_identity i ls) c
      ]
    ]

guard_in : (f : Identity → Bool) (k : Known) (gs : List GuardWatch) → In k (map guard_known (filter (λ g. f g.identity) gs)) → f k.identity ≡ true
guard_in f k [] m = absurd m
guard_in f k (g ∷ gs) m =
    elim (cases_Bool (f g.identity)) [
      | inl a ↦ elim (let x : In k (guard_known g ∷ map guard_known (filter (λ g. f g.identity) gs)) = rw a at m in x) [
        | inl e ↦ subst (λ x. f x.identity ≡ true) e a
        | inr b ↦ guard_in f k gs b
      ]
      | inr a ↦ guard_in f k gs (rw a at m)
    ]

pub upheld_sound : (s : RecursorState) → Tidy (things s) → AreSound (things (upheld s))
upheld_sound s t =
    let all : List Known = s.registrations ++ s.waiting in
    let less : (k : Known) → Among (things (upheld s)) k → Among (things s) k = λ k m. elim m [
      | inl a ↦ (let b = In-filter (λ k. has_identity k.identity all) k s.known a in inl b.0)
      | inr a ↦ elim a [
        | inl b ↦ inr (inl (in_map_filter (λ g. has_identity g.identity all) k s.guards b))
        | inr b ↦ inr (inr b)
      ]
    ] in
    record {
      uniform = less_uniform (things s) (things (upheld s)) less t;
      once = t.once;
      wait = t.wait;
      apart = t.apart;
      backed = λ k m. elim m [
        | inl a ↦ (let b = In-filter (λ k. has_identity k.identity all) k s.known a in split_has k.identity s.registrations s.waiting b.1)
        | inr a ↦ split_has k.identity s.registrations s.waiting (guard_in (λ i. has_identity i all) k s.guards a)
      ];
      owned = λ p h. paths_in p (filter (λ k. has_identity k.identity all) s.known) (own_filter (λ q. has_path q (map (λ k. k.path) (filter (λ k. has_identity k.identity all) s.known))) p s.owners h);
    }

-- what is to be watched again

first_in : (i : Identity) (ks : List Known) (x : Known) → In x (first_of i ks) → In x ks × (x.identity ≡ i)
first_in i [] x m = absurd m
first_in i (k ∷ ks) x m =
    elim (cases_Bool (same_identity k.identity i)) [
      | inl a ↦
          let e : k.identity ≡ i = identity_true k.identity i a in
          elim (let y : In x (named k.path i ∷ []) = rw a at m in y) [
            | inl f ↦ (inl (subst (λ j. named k.path j ≡ x) (sym e) f), sym (ap (λ z. z.identity) f))
            | inr b ↦ absurd b
          ]
      | inr a ↦ let b = first_in i ks x (rw a at m) in (inr b.0, b.1)
    ]

again_in : (g : Known) (ks : List Known) (x : Known) → In x (representative g ks) → (In x ks ⊎ (g ≡ x)) × (x.identity ≡ g.identity)
again_in g ks x m =
    elim (cases_Bool (has_known g.path g.identity ks)) [
      | inl a ↦ elim (let y : In x (g ∷ []) = rw a at m in y) [ inl e ↦ (inr e, sym (ap (λ z. z.identity) e)) | inr b ↦ absurd b ]
      | inr a ↦ let b = first_in g.identity ks x (rw a at m) in (inl b.0, b.1)
    ]

all_in : (gs ks : List Known) (x : Known) → In x (representatives gs ks) → (In x ks ⊎ In x gs) × ((g : Known) × In g gs × (x.identity ≡ g.identity))
all_in [] ks x m = absurd m
all_in (g ∷ gs) ks x m =
    elim (In-cases x (representative g ks) (representatives gs ks) m) [
      | inl a ↦ (let b = again_in g ks x a in (elim b.0 [ inl c ↦ inl c | inr c ↦ inr (inl c) ], (g, inl refl, b.1)))
      | inr a ↦ (let b = all_in gs ks x a in (elim b.0 [ inl c ↦ inl c | inr c ↦ inr (inr c) ], (let c = b.1 in (c.0, inr c.1, c.2))))
    ]

-- an identity that is not there
none_in : (i : Identity) (ks : List Known) → ((k : Known) → In k ks → k.identity ≡ i → ⊥) → has_identity i ks ≡ false
none_in i [] none = refl
none_in i (k ∷ ks) none =
    elim (cases_Bool (same_identity k.identity i)) [
      | inl a ↦ absurd (none k (inl refl) (identity_true k.identity i a))
      | inr a ↦ rw a (none_in i ks (λ l m. none l (inr m)))
    ]

in_none : (k : Known) (ks : List Known) (i : Identity) → has_identity i ks ≡ false → In k ks → k.identity ≡ i → ⊥
in_none k ks i h m e = both_ways (has_identity i ks) h (subst (λ j. has_identity j ks ≡ true) e (has_there k ks m))

once_join : (xs ys : List Known) → IdentitiesOnce xs → IdentitiesOnce ys → ((x y : Known) → In x xs → In y ys → y.identity ≡ x.identity → ⊥) → IdentitiesOnce (xs ++ ys)
once_join [] ys o p d = p
once_join (x ∷ xs) ys o p d = (
  none_in x.identity (xs ++ ys) (λ k m e. elim (In-cases k xs ys m) [
    | inl a ↦ in_none k xs x.identity o.0 a e
    | inr b ↦ d x k (inl refl) b e
  ]),
  once_join xs ys o.1 p (λ a b m n e. d a b (inr m) n e),
)

first_once : (i : Identity) (ks : List Known) → IdentitiesOnce (first_of i ks)
first_once i [] = tt
first_once i (k ∷ ks) = elim (same_identity k.identity i) as (λ b. IdentitiesOnce (cond b (named k.path i ∷ []) (first_of i ks))) [ true ↦ (refl, tt) | false ↦ first_once i ks ]

again_once : (g : Known) (ks : List Known) → IdentitiesOnce (representative g ks)
again_once g ks = go (has_known g.path g.identity ks)
  where
    go : (b : Bool) → IdentitiesOnce (cond b (g ∷ []) (first_of g.identity ks))
    go true = (refl, tt)
    go false = first_once g.identity ks

all_once : (gs ks : List Known) → IdentitiesOnce gs → IdentitiesOnce (representatives gs ks)
all_once [] ks o = tt
all_once (g ∷ gs) ks o =
    once_join (representative g ks) (representatives gs ks) (again_once g ks) (all_once gs ks o.1)
    (λ x y m n e.
    let a = again_in g ks x m in
    let b = all_in gs ks y n in
    let c = b.1 in
    in_none c.0 gs g.identity o.0 c.1 (sym c.2 ∙ e ∙ a.1))

split_once : (xs ys : List Known) → IdentitiesOnce (xs ++ ys) → ((x : Known) → In x xs → has_identity x.identity ys ≡ false)
split_once [] ys o x m = absurd m
split_once (z ∷ xs) ys o x (inl e) = none_in x.identity ys (λ k n f. in_none k (xs ++ ys) z.identity o.0 (In-right k xs ys n) (f ∙ sym (ap (λ a. a.identity) e)))
split_once (z ∷ xs) ys o x (inr m) = split_once xs ys o.1 x m

whole_once : (h : Things) → Tidy h → IdentitiesOnce (h.registrations ++ h.waiting)
whole_once h t = once_join h.registrations h.waiting t.once t.wait (λ x y m n e. in_none y h.waiting x.identity (t.apart x m) n e)

replays_in : (s : RecursorState) (ks : List Known) (gs : List GuardWatch) (x : Known) → In x (replays s ks gs) → In x ks ⊎ (In x (map guard_known gs) ⊎ In x (s.registrations ++ s.waiting))
replays_in s ks gs x m =
    let all : List Known = s.registrations ++ s.waiting in
    elim (In-cases x (representatives (filter (λ g. has_identity g.identity ks) all) ks) (representatives (filter (λ g. not (has_identity g.identity ks)) all) (map guard_known gs)) m) [
      | inl a ↦ (let b = all_in (filter (λ g. has_identity g.identity ks) all) ks x a in elim b.0 [ inl c ↦ inl c | inr c ↦ (let d = In-filter (λ g. has_identity g.identity ks) x all c in inr (inr d.0)) ])
      | inr a ↦ (let b = all_in (filter (λ g. not (has_identity g.identity ks)) all) (map guard_known gs) x a in elim b.0 [ inl c ↦ inr (inl c) | inr c ↦ (let d = In-filter (λ g. not (has_identity g.identity ks)) x all c in inr (inr d.0)) ])
    ]

replays_once : (s : RecursorState) (ks : List Known) (gs : List GuardWatch) → Tidy (things s) → IdentitiesOnce (replays s ks gs)
replays_once s ks gs t =
    let all : List Known = s.registrations ++ s.waiting in
    let o : IdentitiesOnce all = whole_once (things s) t in
    once_join _ _ (all_once _ ks (once_filter (λ g. has_identity g.identity ks) all o)) (all_once _ (map guard_known gs) (once_filter (λ g. not (has_identity g.identity ks)) all o))
    (λ x y m n e.
    let a = all_in (filter (λ g. has_identity g.identity ks) all) ks x m in
    let b = all_in (filter (λ g. not (has_identity g.identity ks)) all) (map guard_known gs) y n in
    let c = a.1 in
    let d = b.1 in
    let f = In-filter (λ g. has_identity g.identity ks) c.0 all c.1 in
    let g = In-filter (λ g. not (has_identity g.identity ks)) d.0 all d.1 in
    let same : d.0.identity ≡ c.0.identity = sym d.2 ∙ e ∙ c.2 in
    let yes : has_identity d.0.identity ks ≡ true = subst (λ i. has_identity i ks ≡ true) (sym same) f.1 in
    both_ways (not (has_identity d.0.identity ks)) (rw yes refl) g.1)

still_in : (os : List Owner) (ks : List Known) (k : Known) → In k (still_known os ks) → In k ks
still_in os ks k m = let a = In-filter (λ k. has_owner k.path os) k ks m in a.0

pub prepared_sound : (s : RecursorState) → AreSound (things s) → AreSound (things (prepared s))
prepared_sound s sound =
    let t : Tidy (things s) = sound_tidy (things s) sound in
    let ks : List Known = known_to_replay s in
    let gs : List GuardWatch = guards_to_replay s in
    let u : RecursorState = record s { backend = Rattle.wx_recursor.specs.declared.answers.BackendPlace.TheVariants.Dropped; registrations = []; known = ks; guards = gs; waiting = replays s ks gs; excluded = [] } in
    let known_old : (k : Known) → In k ks → In k s.known = λ k m. (let a = In-filter (λ k. not (is_left_out s k.path)) k (still_known s.owners s.known) m in still_in s.owners s.known k a.0) in
    let guards_old : (k : Known) → In k (map guard_known gs) → In k (map guard_known s.guards) = λ k m. in_map_filter (λ g. not (is_left_out s g.path)) k s.guards m in
    let less : (k : Known) → Among (things u) k → Among (things s) k = λ k m. elim m [
      | inl a ↦ inl (known_old k a)
      | inr a ↦ elim a [
        | inl b ↦ inr (inl (guards_old k b))
        | inr b ↦ elim b [
          | inl c ↦ absurd c
          | inr c ↦ elim (replays_in s ks gs k c) [
            | inl d ↦ inl (known_old k d)
            | inr d ↦ elim d [
              | inl e ↦ inr (inl (guards_old k e))
              | inr e ↦ elim (In-cases k s.registrations s.waiting e) [ inl f ↦ inr (inr (inl f)) | inr f ↦ inr (inr (inr f)) ]
            ]
          ]
        ]
      ]
    ] in
    upheld_sound u (record {
      uniform = less_uniform (things s) (things u) less t;
      once = tt;
      wait = replays_once s ks gs t;
      apart = λ k m. absurd m;
    })

-- while the rest is still to be watched again
abbrev pub with_rest : List Known → RecursorState → Things
with_rest gs s = record (things s) { waiting = gs ++ s.waiting }

-- the first that waits goes, and others of its identity come to the end
moves : (h n : Things) (g : Known) (rest xs : List Known) → h.waiting ≡ g ∷ rest → n.registrations ≡ h.registrations → n.waiting ≡ rest ++ xs → IdentitiesOnce xs → ((x : Known) → In x xs → x.identity ≡ g.identity) → ((k : Known) → Among n k → Among h k) → Tidy h → Tidy n
moves h n g rest xs w r v once own less t =
    let o : IdentitiesOnce (g ∷ rest) = subst (λ y. IdentitiesOnce y) w t.wait in
    let joined : IdentitiesOnce (rest ++ xs) = once_join rest xs o.1 once (λ x y m q e. in_none x rest g.identity o.0 m (sym e ∙ own y q)) in
    record {
      uniform = less_uniform h n less t;
      once = subst (λ y. IdentitiesOnce y) (sym r) t.once;
      wait = subst (λ y. IdentitiesOnce y) (sym v) joined;
      apart = λ k m.
          let a : has_identity k.identity (g ∷ rest) ≡ false = subst (λ y. has_identity k.identity y ≡ false) w (t.apart k (subst (λ y. In k y) r m)) in
          subst (λ y. has_identity k.identity y ≡ false) (sym v)
          (none_in k.identity (rest ++ xs) (λ x q e. elim (In-cases x rest xs q) [
            | inl b ↦ in_none x (g ∷ rest) k.identity a (inr b) e
            | inr b ↦ in_none g (g ∷ rest) k.identity a (inl refl) (sym (own x b) ∙ e)
          ]));
    }

-- it is registered
lands : (s : RecursorState) (g : Known) (gs : List Known) → Tidy (with_rest (g ∷ gs) s) → Tidy (with_rest gs (record s { registrations = s.registrations ++ g ∷ [] }))
lands s g gs t =
    let h : Things = with_rest (g ∷ gs) s in
    let n : Things = with_rest gs (record s { registrations = s.registrations ++ g ∷ [] }) in
    let less : (k : Known) → Among n k → Among h k = λ k m. elim m [
      | inl a ↦ inl a
      | inr a ↦ elim a [
        | inl b ↦ inr (inl b)
        | inr b ↦ elim b [
          | inl c ↦ elim (In-cases k s.registrations (g ∷ []) c) [
            | inl d ↦ inr (inr (inl d))
            | inr d ↦ elim d [ inl e ↦ inr (inr (inr (inl e))) | inr e ↦ absurd e ]
          ]
          | inr c ↦ inr (inr (inr (inr c)))
        ]
      ]
    ] in
    record {
      uniform = less_uniform h n less t;
      once = once_push g.path g.identity s.registrations t.once (none_in g.identity s.registrations (λ k m e. in_none g (g ∷ (gs ++ s.waiting)) k.identity (t.apart k m) (inl refl) (sym e)));
      wait = (let o = t.wait in o.1);
      apart = λ k m. elim (In-cases k s.registrations (g ∷ []) m) [
        | inl a ↦ (or_parts (same_identity g.identity k.identity) (has_identity k.identity (gs ++ s.waiting)) (t.apart k a)).1
        | inr a ↦ elim a [
          | inl e ↦ subst (λ x. has_identity x.identity (gs ++ s.waiting) ≡ false) e (let o = t.wait in o.0)
          | inr b ↦ absurd b
        ]
      ];
    }

-- its place among what was there
waits_less : (s u : RecursorState) (g : Known) (gs xs : List Known) → ((k : Known) → In k u.known → In k s.known) → ((k : Known) → In k (map guard_known u.guards) → In k (map guard_known s.guards)) → u.registrations ≡ s.registrations → u.waiting ≡ s.waiting ++ xs
    → ((k : Known) → In k xs → Among (with_rest (g ∷ gs) s) k) → (k : Known) → Among (with_rest gs u) k → Among (with_rest (g ∷ gs) s) k
waits_less s u g gs xs known guards registrations waiting more k (inl a) = inl (known k a)
waits_less s u g gs xs known guards registrations waiting more k (inr (inl a)) = inr (inl (guards k a))
waits_less s u g gs xs known guards registrations waiting more k (inr (inr (inl a))) = inr (inr (inl (subst (λ y. In k y) registrations a)))
waits_less s u g gs xs known guards registrations waiting more k (inr (inr (inr a))) = elim (In-cases k gs u.waiting a) [
  | inl b ↦ inr (inr (inr (inr (In-left k gs s.waiting b))))
  | inr b ↦ elim (In-cases k s.waiting xs (subst (λ y. In k y) waiting b)) [
    | inl c ↦ inr (inr (inr (inr (In-right k gs s.waiting c))))
    | inr c ↦ more k c
  ]
]

stays : (s u : RecursorState) (g : Known) (gs xs : List Known) → ((k : Known) → In k u.known → In k s.known) → ((k : Known) → In k (map guard_known u.guards) → In k (map guard_known s.guards)) → u.registrations ≡ s.registrations → u.waiting ≡ s.waiting ++ xs
    → IdentitiesOnce xs → ((x : Known) → In x xs → x.identity ≡ g.identity) → ((k : Known) → In k xs → Among (with_rest (g ∷ gs) s) k) → Tidy (with_rest (g ∷ gs) s) → Tidy (with_rest gs u)
stays s u g gs xs known guards registrations waiting once own more t =
    moves (with_rest (g ∷ gs) s) (with_rest gs u) g (gs ++ s.waiting) xs refl registrations (ap (λ y. gs ++ y) waiting ∙ sym (append_assoc gs s.waiting xs)) once own (waits_less s u g gs xs known guards registrations waiting more) t

tidy_cond : (b : Bool) (x y : RecursorState) (gs : List Known) → Tidy (with_rest gs x) → Tidy (with_rest gs y) → Tidy (with_rest gs (cond b x y))
tidy_cond true x y gs a c = a
tidy_cond false x y gs a c = c

tidy_waits : (g : Known) (gs : List Known) (s u : RecursorState) → things u ≡ things s → Tidy (with_rest (g ∷ gs) s) → Tidy (with_rest gs (waits g u))
tidy_waits g gs s u e t =
    stays s (waits g u) g gs (g ∷ []) (λ k m. subst (λ h. In k h.known) e m) (λ k m. subst (λ h. In k (map guard_known h.guards)) e m) (ap (λ h. h.registrations) e) (ap (λ h. h.waiting ++ g ∷ []) e) (refl, tt)
    (λ x m. elim m [ inl f ↦ sym (ap (λ z. z.identity) f) | inr b ↦ absurd b ])
    (λ k m. elim m [ inl f ↦ inr (inr (inr (inl f))) | inr b ↦ absurd b ]) t

tidy_drops : (g : Known) (gs : List Known) (s u : RecursorState) → things u ≡ things s → Tidy (with_rest (g ∷ gs) s) → Tidy (with_rest gs u)
tidy_drops g gs s u e t =
    stays s u g gs [] (λ k m. subst (λ h. In k h.known) e m) (λ k m. subst (λ h. In k (map guard_known h.guards)) e m) (ap (λ h. h.registrations) e) (ap (λ h. h.waiting) e ∙ sym (append-nil s.waiting)) tt (λ x m. absurd m) (λ k m. absurd m) t

one_tidy : (g : Known) (w : Watched) (gs : List Known) (s : RecursorState) → Tidy (with_rest (g ∷ gs) s) → Tidy (with_rest gs (replayed_one g w s))
one_tidy g (Kept look) gs s t = lands s g gs t
one_tidy g (Failed f) gs s t =
    let u : RecursorState = path_gone g.path (show (PathAdd g.path f) s) in
    let ks : List Known = still_known u.owners u.known in
    let xs : List Known = first_of g.identity (ks ++ map guard_known u.guards) in
    let guards : (k : Known) → In k (map guard_known u.guards) → In k (map guard_known s.guards) = λ k m. in_map_filter (λ x. not (same x.path g.path)) k s.guards m in
    tidy_cond (is_path_gone f) _ _ gs
    (stays s (waits_by_alias g u) g gs xs (λ k m. still_in u.owners s.known k m) guards refl refl (first_once g.identity (ks ++ map guard_known u.guards))
    (λ x m. let a = first_in g.identity (ks ++ map guard_known u.guards) x m in a.1)
    (λ k m. let a = first_in g.identity (ks ++ map guard_known u.guards) k m in elim (In-cases k ks (map guard_known u.guards) a.0) [ inl b ↦ inl (still_in u.owners s.known k b) | inr b ↦ inr (inl (guards k b)) ])
    t)
    (tidy_cond (is_resource_fault f) _ _ gs
    (tidy_waits g gs s (stop f s) (cond_things s.stopped _ _ s refl refl) t)
    (tidy_cond (has_path g.path s.failed) _ _ gs
    (tidy_drops g gs s (failed_watch g.path f s) (cond_things (has_path g.path s.failed) _ _ s refl refl) t)
    (tidy_waits g gs s (failed_watch g.path f s) (cond_things (has_path g.path s.failed) _ _ s refl refl) t)))

all_tidy : (gs : List Known) (ws : List Watched) (s : RecursorState) → Tidy (with_rest gs s) → Tidy (things (replayed_all gs ws s))
all_tidy [] ws s t = t
all_tidy (g ∷ gs) [] s t = t
all_tidy (g ∷ gs) (w ∷ ws) s t =
    elim (is_replay_over s) as (λ b. Tidy (things (cond b (keep_waiting (g ∷ gs) s) (replayed_all gs ws (replayed_one g w s))))) [ true ↦ t | false ↦ all_tidy gs ws (replayed_one g w s) (one_tidy g w gs s t) ]

pub replayed_sound : (ws : List Watched) (s : RecursorState) → AreSound (things s) → AreSound (things (replayed ws s))
replayed_sound ws s sound =
    let t : Tidy (with_rest s.waiting (record s { waiting = [] })) = subst (λ y. Tidy (record (things s) { waiting = y })) (sym (append-nil s.waiting)) (sound_tidy (things s) sound) in
    upheld_sound (replayed_all s.waiting ws (record s { waiting = [] })) (all_tidy s.waiting ws (record s { waiting = [] }) t)
