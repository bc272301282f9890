-- Where nothing can be let go, a release changes nothing, and what leaves the guards and all owners leaves that so.
use Rattle.std.proofs.Common.{◌≡◌, ◌≤◌, Bool, true, false, cond, List, [], ◌∷◌, ◌++◌, length, arith, refl, ap, sym, ◌∙◌, inl, inr, subst}
use Rattle.std.specs.Prelude.{◌&&◌, ◌||◌, not, filter, map, Option, Some, None}
use Rattle.std.specs.Coded.{Coded-set, coded_bool}
use Rattle.std.proofs.Math.Logic.{∥∥₁_elim, ∥∥₁_map}
use Rattle.std.proofs.lemmas.Bool.{and_from, and_parts, cases_Bool, or_cases, or_left, or_right}
use Rattle.wx_watch.specs.declared.notify_fault.NotifyFault.{NotifyFault}
use Rattle.wx_tree.specs.Paths.{Path, holds, holds_below, same}
use Rattle.wx_tree.specs.Roots.{same_root}
use Rattle.wx_tree.specs.declared.root.Root.{Root}
use Rattle.wx_tree.proofs.PathLemmas.{same-refl, same-true}
use Rattle.wx_recursor.specs.Holding.{ask_rebuild, deepest_first, has_retry, is_held, keep_retry, serves, show, still_known}
use Rattle.wx_recursor.specs.Identities.{guard_known, has_identity, has_known, is_path_gone, know, named, refusal, same_identity, without}
use Rattle.wx_recursor.specs.Owners.{disown, has_owner, has_path, is_owner, own}
use Rattle.wx_recursor.specs.Owning.{added, added_result, answered, answered_result, changed, exclude, is_held_back, is_known_otherwise, is_resource_fault, is_still, owned, refused, refused_result, registered, resource_error, taken, unwatched}
use Rattle.wx_recursor.specs.States.{Evidence, RecursorState}
use Rattle.wx_recursor.specs.Steps.{asked_for_lost, has_new, idle_registrations, lost_paths, probed, released, retry_all, scanned, seekers, serving_registrations, stepped_at, told, tried, trimmed, unwatch_each}
use Rattle.wx_recursor.specs.declared.answers.AddResult.{AddResult}
use Rattle.wx_recursor.specs.declared.answers.AddResult.TheVariants.{LeftOut, Stands, TryAgain, Vanished}
use Rattle.wx_recursor.specs.declared.answers.Found.{Found}
use Rattle.wx_recursor.specs.declared.answers.Found.TheVariants.{Barred, Entries, Fault, Here, Missing, Refused, Rejected}
use Rattle.wx_recursor.specs.declared.answers.Watched.{Watched}
use Rattle.wx_recursor.specs.declared.answers.Watched.TheVariants.{Failed, Kept}
use Rattle.wx_recursor.specs.declared.errors.ScanFault.TheVariants.{Io}
use Rattle.wx_recursor.specs.declared.errors.ShownError.TheVariants.{Filter, PathAdd, PathScan}
use Rattle.wx_recursor.specs.declared.known.Identity.{Identity}
use Rattle.wx_recursor.specs.declared.known.Known.{Known}
use Rattle.wx_recursor.specs.declared.owner.GuardWatch.{GuardWatch}
use Rattle.wx_recursor.specs.declared.owner.Owner.{Owner}
use Rattle.wx_recursor.specs.declared.work.Item.TheVariants.{Candidate, Guard, Scan, Visit}
use Rattle.wx_recursor.specs.declared.work.Work.{Work}
use Rattle.wx_recursor.specs.declared.work.Work.TheVariants.{Plain, Probe}
use Rattle.wx_recursor.proofs.SoundLemmas.{identity_refl, or_both}
use Rattle.wx_step.specs.Rests.{IsAtRest, all_held, all_owned, leaves_guards}
use Rattle.wx_step.specs.Stepped.{Firsts}

-- the same, as what each field says
abbrev Rests : RecursorState → Type 0
Rests s = (all_owned s.owners s.known ≡ true) × (all_held s.known s.guards s.registrations ≡ true) × (s.waiting ≡ []) × (s.lost ≡ [])

rests_of : (s : RecursorState) → IsAtRest s → Rests s
rests_of s h = (h.known, h.registrations, h.waiting, h.lost)

is_at_rest : (s : RecursorState) → Rests s → IsAtRest s
is_at_rest s k = record { known = k.0; registrations = k.1; waiting = k.2; lost = k.3 }

-- what is known and held

known_identity : (p : Path) (i : Identity) (ks : List Known) → has_known p i ks ≡ true → has_identity i ks ≡ true
known_identity p i [] h = h
known_identity p i (k ∷ ks) h =
    elim (or_cases (same k.path p && same_identity k.identity i) (has_known p i ks) h) [
      | inl a ↦ or_left (same_identity k.identity i) (has_identity i ks) (and_parts (same k.path p) (same_identity k.identity i) a).1
      | inr b ↦ or_right (same_identity k.identity i) (has_identity i ks) (known_identity p i ks b)
    ]

held_serves : (ks : List Known) (gs : List GuardWatch) (g : Known) → is_held ks gs g ≡ true → serves ks gs g.identity ≡ true
held_serves ks gs g h =
    or_both (has_known g.path g.identity ks) (has_known g.path g.identity (map guard_known gs)) (has_identity g.identity ks) (has_identity g.identity (map guard_known gs))
    (known_identity g.path g.identity ks) (known_identity g.path g.identity (map guard_known gs)) h

-- a release where nothing can be let go

all_known : (os : List Owner) (ks : List Known) → all_owned os ks ≡ true → still_known os ks ≡ ks
all_known os [] h = refl
all_known os (k ∷ ks) h =
    let a = and_parts (has_owner k.path os) (all_owned os ks) h in
    rw a.0 (ap (λ xs. k ∷ xs) (all_known os ks a.1))

all_serve : (ks : List Known) (gs : List GuardWatch) (rs : List Known) → all_held ks gs rs ≡ true → serving_registrations ks gs rs ≡ rs
all_serve ks gs [] h = refl
all_serve ks gs (g ∷ rs) h =
    let a = and_parts (is_held ks gs g) (all_held ks gs rs) h in
    rw (held_serves ks gs g a.0) (ap (λ xs. g ∷ xs) (all_serve ks gs rs a.1))

none_idle : (ks : List Known) (gs : List GuardWatch) (rs : List Known) → all_held ks gs rs ≡ true → filter (λ (g : Known). not (serves ks gs g.identity)) rs ≡ []
none_idle ks gs [] h = refl
none_idle ks gs (g ∷ rs) h =
    let a = and_parts (is_held ks gs g) (all_held ks gs rs) h in
    rw (held_serves ks gs g a.0) (none_idle ks gs rs a.1)

none_lost : (ks : List Known) (gs : List GuardWatch) (rs : List Known) → all_held ks gs rs ≡ true → lost_paths ks gs rs ≡ []
none_lost ks gs [] h = refl
none_lost ks gs (g ∷ rs) h =
    let a = and_parts (is_held ks gs g) (all_held ks gs rs) h in
    rw (held_serves ks gs g a.0, a.0) (none_lost ks gs rs a.1)

released_same : (s : RecursorState) → Rests s → released [] s ≡ s
released_same s k =
    let idle : idle_registrations s.known s.guards s.registrations ≡ [] = ap (λ xs. deepest_first xs []) (none_idle s.known s.guards s.registrations k.1) in
    let waits : serving_registrations s.known s.guards s.waiting ≡ s.waiting = ap (serving_registrations s.known s.guards) k.2 ∙ sym k.2 in
    ap (λ ks. asked_for_lost (trimmed ks (unwatch_each (idle_registrations ks s.guards s.registrations) [] s))) (all_known s.owners s.known k.0)
    ∙ ap (λ gs. asked_for_lost (trimmed s.known (unwatch_each gs [] s))) idle
    ∙ ap (λ rs. asked_for_lost (record s { registrations = rs; waiting = serving_registrations s.known s.guards s.waiting })) (all_serve s.known s.guards s.registrations k.1)
    ∙ ap (λ ws. asked_for_lost (record s { waiting = ws })) waits
    ∙ ap (λ ls. record s { lost = ls; asks_rebuild = has_new ls s.lost || s.asks_rebuild }) (none_lost s.known s.guards s.registrations k.1)
    ∙ ap (λ ls. record s { lost = ls }) (sym k.3)

pub rests_released : (s : RecursorState) → IsAtRest s → released [] s ≡ s
rests_released s h = released_same s (rests_of s h)

-- after a release

kept_owned : (os : List Owner) (ks : List Known) → all_owned os (still_known os ks) ≡ true
kept_owned os [] = refl
kept_owned os (k ∷ ks) =
    elim (cases_Bool (has_owner k.path os)) [
      | inl a ↦ rw a (and_from (has_owner k.path os) (all_owned os (still_known os ks)) a (kept_owned os ks))
      | inr a ↦ rw a (kept_owned os ks)
    ]

serving_held : (ks : List Known) (gs : List GuardWatch) (rs : List Known) → lost_paths ks gs (serving_registrations ks gs rs) ≡ [] → all_held ks gs (serving_registrations ks gs rs) ≡ true
serving_held ks gs [] h = refl
serving_held ks gs (g ∷ rs) h =
    elim (cases_Bool (serves ks gs g.identity)) [
      | inl a ↦ elim (cases_Bool (is_held ks gs g)) [
        | inl b ↦ rw a (and_from (is_held ks gs g) (all_held ks gs (serving_registrations ks gs rs)) b (serving_held ks gs rs (rw (a, a, b) at h)))
        | inr b ↦ (let x : g.path ∷ lost_paths ks gs (serving_registrations ks gs rs) ≡ [] = rw (a, a, b) at h in cc)
      ]
      | inr a ↦ rw a (serving_held ks gs rs (rw a at h))
    ]

unwatched_owners : (p : Path) (u : Option NotifyFault) (s : RecursorState) → (unwatched p u s).owners ≡ s.owners
unwatched_owners p None s = refl
unwatched_owners p (Some f) s = refl

each_owners : (gs : List Known) (us : List (Option NotifyFault)) (s : RecursorState) → (unwatch_each gs us s).owners ≡ s.owners
each_owners [] us s = refl
each_owners (g ∷ gs) [] s = refl
each_owners (g ∷ gs) (u ∷ us) s = each_owners gs us (unwatched g.path (refusal u) s) ∙ unwatched_owners g.path (refusal u) s

pub released_rests : (us : List (Option NotifyFault)) (s t : RecursorState) → t ≡ released us s → t.waiting ≡ [] → t.lost ≡ [] → IsAtRest t
released_rests us s t e waits lost =
    let ks : List Known = still_known s.owners s.known in
    let v : RecursorState = unwatch_each (idle_registrations ks s.guards s.registrations) us s in
    let none : (released us s).lost ≡ [] = ap (λ (x : RecursorState). x.lost) (sym e) ∙ lost in
    let owners : all_owned v.owners ks ≡ true = subst (λ os. all_owned os ks ≡ true) (sym (each_owners (idle_registrations ks s.guards s.registrations) us s)) (kept_owned s.owners s.known) in
    subst (λ x. IsAtRest x) (sym e) (is_at_rest (released us s) (owners, serving_held ks v.guards v.registrations none, ap (λ (x : RecursorState). x.waiting) (sym e) ∙ waits, none))

-- who owns and knows more

own_old : (r : Root) (p q : Path) (os : List Owner) → has_owner q os ≡ true → has_owner q (own r p os) ≡ true
own_old r p q [] h = cc
own_old r p q (o ∷ os) h =
    elim (cases_Bool (is_owner r p o)) [
      | inl a ↦ elim (or_cases (same o.path q) (has_owner q os) h) [
        | inl b ↦
            let e : p ≡ o.path = same-true p o.path (and_parts (same_root r o.root) (same p o.path) a).1 in
            rw a (or_left (same p q) (has_owner q os) (subst (λ x. same x q ≡ true) (sym e) b))
        | inr b ↦ rw a (or_right (same p q) (has_owner q os) b)
      ]
      | inr a ↦ elim (or_cases (same o.path q) (has_owner q os) h) [
        | inl b ↦ rw a (or_left (same o.path q) (has_owner q (own r p os)) b)
        | inr b ↦ rw a (or_right (same o.path q) (has_owner q (own r p os)) (own_old r p q os b))
      ]
    ]

own_new : (r : Root) (p : Path) (os : List Owner) → has_owner p (own r p os) ≡ true
own_new r p [] = or_left (same p p) false (same-refl p)
own_new r p (o ∷ os) =
    elim (cases_Bool (is_owner r p o)) [
      | inl a ↦ rw a (or_left (same p p) (has_owner p os) (same-refl p))
      | inr a ↦ rw a (or_right (same o.path p) (has_owner p (own r p os)) (own_new r p os))
    ]

owned_own : (r : Root) (p : Path) (os : List Owner) (ks : List Known) → all_owned os ks ≡ true → all_owned (own r p os) ks ≡ true
owned_own r p os [] h = refl
owned_own r p os (k ∷ ks) h =
    let a = and_parts (has_owner k.path os) (all_owned os ks) h in
    and_from (has_owner k.path (own r p os)) (all_owned (own r p os) ks) (own_old r p k.path os a.0) (owned_own r p os ks a.1)

owned_push : (os : List Owner) (ks : List Known) (k : Known) → all_owned os ks ≡ true → has_owner k.path os ≡ true → all_owned os (ks ++ k ∷ []) ≡ true
owned_push os [] k h e = and_from (has_owner k.path os) true e refl
owned_push os (x ∷ ks) k h e =
    let a = and_parts (has_owner x.path os) (all_owned os ks) h in
    and_from (has_owner x.path os) (all_owned os (ks ++ k ∷ [])) a.0 (owned_push os ks k a.1 e)

owned_know : (os : List Owner) (p : Path) (i : Identity) (ks : List Known) → all_owned os ks ≡ true → has_owner p os ≡ true → all_owned os (know p i ks) ≡ true
owned_know os p i ks h e = go (has_known p i ks)
  where
    go : (b : Bool) → all_owned os (cond b ks (ks ++ named p i ∷ [])) ≡ true
    go true = h
    go false = owned_push os ks (named p i) h e

known_left : (p : Path) (i : Identity) (ks ls : List Known) → has_known p i ks ≡ true → has_known p i (ks ++ ls) ≡ true
known_left p i [] ls h = cc
known_left p i (k ∷ ks) ls h =
    elim (or_cases (same k.path p && same_identity k.identity i) (has_known p i ks) h) [
      | inl a ↦ or_left (same k.path p && same_identity k.identity i) (has_known p i (ks ++ ls)) a
      | inr b ↦ or_right (same k.path p && same_identity k.identity i) (has_known p i (ks ++ ls)) (known_left p i ks ls b)
    ]

known_last : (p : Path) (i : Identity) (ks : List Known) → has_known p i (ks ++ named p i ∷ []) ≡ true
known_last p i [] = or_left (same p p && same_identity i i) false (and_from (same p p) (same_identity i i) (same-refl p) (identity_refl i))
known_last p i (k ∷ ks) = or_right (same k.path p && same_identity k.identity i) (has_known p i (ks ++ named p i ∷ [])) (known_last p i ks)

know_old : (q : Path) (j : Identity) (p : Path) (i : Identity) (ks : List Known) → has_known q j ks ≡ true → has_known q j (know p i ks) ≡ true
know_old q j p i ks h = go (has_known p i ks)
  where
    go : (b : Bool) → has_known q j (cond b ks (ks ++ named p i ∷ [])) ≡ true
    go true = h
    go false = known_left q j ks (named p i ∷ []) h

know_new : (p : Path) (i : Identity) (ks : List Known) → has_known p i (know p i ks) ≡ true
know_new p i ks = go (has_known p i ks) refl
  where
    go : (b : Bool) → has_known p i ks ≡ b → has_known p i (cond b ks (ks ++ named p i ∷ [])) ≡ true
    go true e = e
    go false e = known_last p i ks

same_true : (b : Bool) → b ≡ true → b ≡ true
same_true b h = h

held_know : (p : Path) (i : Identity) (ks : List Known) (gs : List GuardWatch) (g : Known) → is_held ks gs g ≡ true → is_held (know p i ks) gs g ≡ true
held_know p i ks gs g h =
    or_both (has_known g.path g.identity ks) (has_known g.path g.identity (map guard_known gs)) (has_known g.path g.identity (know p i ks)) (has_known g.path g.identity (map guard_known gs))
    (know_old g.path g.identity p i ks) (same_true (has_known g.path g.identity (map guard_known gs))) h

all_held_know : (p : Path) (i : Identity) (ks : List Known) (gs : List GuardWatch) (rs : List Known) → all_held ks gs rs ≡ true → all_held (know p i ks) gs rs ≡ true
all_held_know p i ks gs [] h = refl
all_held_know p i ks gs (g ∷ rs) h =
    let a = and_parts (is_held ks gs g) (all_held ks gs rs) h in
    and_from (is_held (know p i ks) gs g) (all_held (know p i ks) gs rs) (held_know p i ks gs g a.0) (all_held_know p i ks gs rs a.1)

all_held_push : (ks : List Known) (gs : List GuardWatch) (rs : List Known) (g : Known) → all_held ks gs rs ≡ true → is_held ks gs g ≡ true → all_held ks gs (rs ++ g ∷ []) ≡ true
all_held_push ks gs [] g h e = and_from (is_held ks gs g) true e refl
all_held_push ks gs (x ∷ rs) g h e =
    let a = and_parts (is_held ks gs x) (all_held ks gs rs) h in
    and_from (is_held ks gs x) (all_held ks gs (rs ++ g ∷ [])) a.0 (all_held_push ks gs rs g a.1 e)

held_named : (p : Path) (i : Identity) (ks : List Known) (gs : List GuardWatch) (rs : List Known) → all_held ks gs rs ≡ true → all_held (know p i ks) gs (rs ++ named p i ∷ []) ≡ true
held_named p i ks gs rs h =
    all_held_push (know p i ks) gs rs (named p i) (all_held_know p i ks gs rs h)
    (or_left (has_known p i (know p i ks)) (has_known p i (map guard_known gs)) (know_new p i ks))

-- who owns less: as many owners are the same owners

filter_shorter : {X : Type 0} (f : X → Bool) (xs : List X) → length (filter f xs) ≤ length xs
filter_shorter f [] = omega arith
filter_shorter f (x ∷ xs) =
    let a = filter_shorter f xs in
    elim (cases_Bool (f x)) [ inl e ↦ rw e (omega arith) | inr e ↦ rw e (omega arith) ]

filter_whole : {X : Type 0} (f : X → Bool) (xs : List X) → length xs ≤ length (filter f xs) → filter f xs ≡ xs
filter_whole f [] h = refl
filter_whole f (x ∷ xs) h =
    let a = filter_shorter f xs in
    elim (cases_Bool (f x)) [
      | inl e ↦ (let b : length (x ∷ xs) ≤ length (x ∷ filter f xs) = rw e at h in rw e (ap (λ ys. x ∷ ys) (filter_whole f xs (omega arith))))
      | inr e ↦ (let b : length (x ∷ xs) ≤ length (filter f xs) = rw e at h in absurd (omega arith))
    ]

fewer_rest : (f : Owner → Bool) (s : RecursorState) → Rests s → length s.owners ≤ length (filter f s.owners) → Rests (record s { owners = filter f s.owners })
fewer_rest f s k le = subst (λ os. Rests (record s { owners = os })) (sym (filter_whole f s.owners le)) k

lose_rests : (r : Root) (p : Path) (s : RecursorState) → Rests s → length s.owners ≤ length (disown r p s.owners) → Rests (record s { owners = disown r p s.owners })
lose_rests r p s k le = fewer_rest (λ o. not (same_root r o.root && holds p o.path)) s k le

rests_cond : (b : Bool) (x y : RecursorState) → Rests x → Rests y → Rests (cond b x y)
rests_cond true x y h k = h
rests_cond false x y h k = k

retry_rests : (r : Root) (p : Path) (s : RecursorState) → Rests s → Rests (keep_retry r p s)
retry_rests r p s k = rests_cond (has_retry r p s.retries) s (record s { retries = s.retries ++ record { root = r; path = p } ∷ [] }) k k

retries_rest : (p : Path) (rs : List Root) (s : RecursorState) → Rests s → Rests (retry_all p rs s)
retries_rest p [] s k = k
retries_rest p (r ∷ rs) s k = retries_rest p rs (keep_retry r p s) (retry_rests r p s k)

-- an addition

-- once the path is known too
abbrev TakesIn : Path → Identity → RecursorState → Type 0
TakesIn p i v = (all_owned v.owners v.known ≡ true) × (all_held (know p i v.known) v.guards v.registrations ≡ true) × (v.waiting ≡ []) × (v.lost ≡ [])

abbrev Fits : Path → Identity → AddResult → RecursorState → Type 0
Fits p i Stands v = TakesIn p i v
Fits p i Vanished v = Rests v
Fits p i TryAgain v = Rests v
Fits p i LeftOut v = Rests v

abbrev Adds : Path → Identity → RecursorState → AddResult → RecursorState → Type 0
Adds p i s e v = (v.owners ≡ s.owners) × Fits p i e v

refused_adds : (p : Path) (i : Identity) (f : NotifyFault) (s : RecursorState) → Rests s → Adds p i s (refused_result p f s) (refused p f s)
refused_adds p i f s k = go (is_path_gone f) (is_resource_fault f) (has_path p s.failed) s.stopped
  where
    go : (a b c d : Bool)
        → Adds p i s (cond a Vanished (cond b LeftOut (cond c LeftOut TryAgain)))
        (cond a (show (PathAdd p f) s) (cond b (cond d s (record (show (resource_error f) s) { stopped = true })) (cond c (record (show (PathAdd p f) s) { skipped = s.skipped ++ p ∷ [] }) (ask_rebuild (record (show (PathAdd p f) s) { failed = s.failed ++ p ∷ [] })))))
    go true b c d = (refl, k)
    go false true c true = (refl, k)
    go false true c false = (refl, k)
    go false false true d = (refl, k)
    go false false false d = (refl, k)

unwatched_adds : (p : Path) (i : Identity) (u : Option NotifyFault) (s v : RecursorState) → v.owners ≡ s.owners → Rests v → Adds p i s Vanished (unwatched p u v)
unwatched_adds p i None s v e k = (e, k)
unwatched_adds p i (Some f) s v e k = (e, k)

answered_adds : (p : Path) (i : Identity) (w : Watched) (u : Option NotifyFault) (s : RecursorState) → Rests s → Adds p i s (answered_result p i w s) (answered p i w u s)
answered_adds p i (Failed f) u s k = refused_adds p i f s k
answered_adds p i (Kept look) u s k = go (is_still p i look)
  where
    go : (c : Bool) → Adds p i s (cond c Stands Vanished) (cond c (registered p i s) (unwatched p (refusal u) (show (PathScan p (changed i look)) s)))
    go true = (refl, (k.0, held_named p i s.known s.guards s.registrations k.1, ap (without i) k.2, k.3))
    go false = unwatched_adds p i (refusal u) s (show (PathScan p (changed i look)) s) refl k

added_adds : (p : Path) (i : Identity) (w : Watched) (u : Option NotifyFault) (s : RecursorState) → Rests s → Adds p i s (added_result p i w s) (added p i w u s)
added_adds p i w u s k = go (is_known_otherwise p i s) (has_identity i s.registrations) (is_held_back p s)
  where
    go : (a b c : Bool) → Adds p i s (cond a LeftOut (cond b Stands (cond c LeftOut (answered_result p i w s)))) (cond a (exclude p s) (cond b s (cond c s (answered p i w u s))))
    go true b c = (refl, k)
    go false true c = (refl, (k.0, all_held_know p i s.known s.guards s.registrations k.1, k.2, k.3))
    go false false true = (refl, k)
    go false false false = answered_adds p i w u s k

taken_rests : (r : Root) (p : Path) (i : Identity) (scans : Bool) (item : Work) (e : AddResult) (s v : RecursorState) → Adds p i s e v → length s.owners ≤ length (taken r p i scans item e v).owners → Rests (taken r p i scans item e v)
taken_rests r p i scans item Stands s v a le = (owned_know (own r p v.owners) p i v.known (owned_own r p v.owners v.known a.1.0) (own_new r p v.owners), a.1.1, a.1.2, a.1.3)
taken_rests r p i scans item Vanished s v a le = lose_rests r p v a.1 (subst (λ (os : List Owner). length os ≤ length (disown r p v.owners)) (sym a.0) le)
taken_rests r p i scans item TryAgain s v a le = a.1
taken_rests r p i scans item LeftOut s v a le = a.1

owned_rests : (r : Root) (p : Path) (i : Identity) (scans : Bool) (item : Work) (w : Watched) (u : Option NotifyFault) (s : RecursorState) → Rests s → length s.owners ≤ length (owned r p i scans item w u s).owners → Rests (owned r p i scans item w u s)
owned_rests r p i scans item w u s k le = taken_rests r p i scans item (added_result p i w s) s (added p i w u s) (added_adds p i w u s k) le

-- items

scanned_rests : (r : Root) (p : Path) (f : Found) (s : RecursorState) → Rests s → length s.owners ≤ length (scanned r p f s).owners → Rests (scanned r p f s)
scanned_rests r p Missing s k le = fewer_rest (λ o. not (same_root r o.root && holds_below p o.path)) s k le
scanned_rests r p Barred s k le = k
scanned_rests r p Rejected s k le = k
scanned_rests r p (Fault q c) s k le = retry_rests r p (show (PathScan q (Io c)) s) k
scanned_rests r p (Refused c) s k le = k
scanned_rests r p (Here i) s k le = k
scanned_rests r p (Entries cs) s k le = k

tried_rests : (r : Root) (p : Path) (f : Found) (e : Evidence) (s : RecursorState) → Rests s → length s.owners ≤ length (tried r p f e s).owners → Rests (tried r p f e s)
tried_rests r p Missing e s k le = lose_rests r p s k le
tried_rests r p Barred e s k le = lose_rests r p s k le
tried_rests r p Rejected e s k le = lose_rests r p s k le
tried_rests r p (Fault q c) e s k le = retry_rests r p (show (PathScan q (Io c)) s) k
tried_rests r p (Refused c) e s k le = retry_rests r p (show (Filter c) s) k
tried_rests r p (Here i) e s k le = owned_rests r p i true (Plain (Candidate r p)) e.watched e.undone s k le
tried_rests r p (Entries cs) e s k le = k

probed_rests : (p : Path) (os : List Root) (f : Found) (s : RecursorState) → Rests s → Rests (probed p os f s)
probed_rests p os Missing s k = k
probed_rests p os Barred s k = k
probed_rests p os Rejected s k = k
probed_rests p os (Fault q c) s k = retries_rest p (seekers p os s.roots s.owners) (show (PathScan q (Io c)) s) k
probed_rests p os (Refused c) s k = k
probed_rests p os (Here i) s k = k
probed_rests p os (Entries cs) s k = k

-- the first of the queue, where it leaves the guards
first_rests : (q : List Work) (e : Evidence) (s : RecursorState) → leaves_guards q ≡ true → Rests s → length s.owners ≤ length (stepped_at q e s).owners → Rests (stepped_at q e s)
first_rests [] e s h k le = cc
first_rests (Plain (Guard r) ∷ q) e s h k le = cc
first_rests (Plain (Visit r) ∷ q) e s h k le = cc
first_rests (Plain (Scan r p) ∷ q) e s h k le = scanned_rests r p e.found (record s { queue = q }) k le
first_rests (Plain (Candidate r p) ∷ q) e s h k le = tried_rests r p e.found e (record s { queue = q }) k le
first_rests (Probe p os ∷ q) e s h k le = probed_rests p os e.found (record s { queue = q }) k

stepped_rests : (e : Evidence) (s t : RecursorState) → IsAtRest s → leaves_guards s.queue ≡ true → t ≡ stepped_at s.queue e s → length s.owners ≤ length t.owners → IsAtRest t
stepped_rests e s t h leaves is le =
    let more : length s.owners ≤ length (stepped_at s.queue e s).owners = subst (λ (x : RecursorState). length s.owners ≤ length x.owners) is le in
    subst (λ x. IsAtRest x) (sym is) (is_at_rest (stepped_at s.queue e s) (first_rests s.queue e s leaves (rests_of s h) more))

-- what is handed out
pub told_rests : (s t : RecursorState) → t ≡ told s → IsAtRest s → IsAtRest t
told_rests s t e h = subst (λ x. IsAtRest x) (sym e) (is_at_rest (told s) (rests_of s h))

-- the first of the queue, where it leaves the guards and all owners
pub first_stays : (s t : RecursorState) → IsAtRest s → leaves_guards s.queue ≡ true → Firsts s t → length s.owners ≤ length t.owners → IsAtRest t
first_stays s t h leaves (e, is) le = stepped_rests e s t h leaves is le

-- that something is so is enough

none_known : {X : Type 0} (xs : List X) → ∥ xs ≡ [] ∥₁ → xs ≡ []
none_known [] h = refl
none_known (x ∷ xs) h = absurd (∥∥₁_elim h (λ (u v : ⊥). absurd u) (λ (e : x ∷ xs ≡ []). cc))

pub rests_known : (s : RecursorState) → ∥ IsAtRest s ∥₁ → IsAtRest s
rests_known s h = record {
  known = ∥∥₁_elim h (Coded-set coded_bool _ _) (λ (k : IsAtRest s). k.known);
  registrations = ∥∥₁_elim h (Coded-set coded_bool _ _) (λ (k : IsAtRest s). k.registrations);
  waiting = none_known s.waiting (∥∥₁_map h (λ (k : IsAtRest s). k.waiting));
  lost = none_known s.lost (∥∥₁_map h (λ (k : IsAtRest s). k.lost));
}
