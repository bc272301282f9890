-- What the acts of a step make where nothing fails.
use Rattle.std.proofs.Common.{◌≡◌, ℕ, Bool, true, false, List, [], ◌∷◌, refl, ap, sym, ◌∙◌, inl, inr, subst}
use Rattle.std.specs.Prelude.{◌&&◌, Option, Some, None, if◌then◌else◌}
use Rattle.std.proofs.lemmas.Bool.{cases_Bool, and_parts}
use Rattle.std.proofs.lemmas.Option.{same_Some}
use Rattle.wx_tree.specs.Paths.{Path}
use Rattle.wx_tree.specs.Trees.{Tree, guard_of, is_chain, is_chain_above, is_directory, is_fit_node, is_safe, is_there, last_of_chain, node_at}
use Rattle.wx_tree.specs.declared.root.Root.{Root}
use Rattle.wx_tree.proofs.Reaching.{fit_from_dir, chain_dir, last_chain, guard_dir}
use Rattle.wx_scan.specs.Backings.{Backing}
use Rattle.wx_scan.specs.Looked.{Looked, OnlyLooks}
use Rattle.wx_scan.specs.Told.{AreNames}
use Rattle.wx_scan.proofs.LookLemmas.{no_link_above}
use Rattle.wx_recursor.specs.Guarding.{guard_placed, guarded, guarded_at, looked_again, unguarded}
use Rattle.wx_recursor.specs.Identities.{is_of_directory}
use Rattle.wx_recursor.specs.Owning.{added_result, owned}
use Rattle.wx_recursor.specs.Seen.{Watches, guard_found_at, identity_at, is_gap, passes, root_found, try_found, watched_at}
use Rattle.wx_recursor.specs.States.{Evidence, RecursorState}
use Rattle.wx_recursor.specs.Steps.{refound, tried, visited}
use Rattle.wx_recursor.specs.declared.answers.AddResult.{AddResult}
use Rattle.wx_recursor.specs.declared.answers.Found.{Found}
use Rattle.wx_recursor.specs.declared.answers.Found.TheVariants.{Barred, Entries, Fault, Here, Missing, Refused, Rejected}
use Rattle.wx_recursor.specs.declared.answers.GuardFound.{GuardFound}
use Rattle.wx_recursor.specs.declared.answers.GuardFound.TheVariants.{At, Faulty, Nowhere}
use Rattle.wx_recursor.specs.declared.answers.Look.TheVariants.{Absent}
use Rattle.wx_recursor.specs.declared.answers.Watched.{Watched}
use Rattle.wx_recursor.specs.declared.answers.Watched.TheVariants.{Kept}
use Rattle.wx_recursor.specs.declared.known.Identity.{Identity}
use Rattle.wx_recursor.specs.declared.known.Identity.TheVariants.{Canonical}
use Rattle.wx_recursor.specs.declared.known.Known.{Known}
use Rattle.wx_recursor.specs.declared.work.Item.TheVariants.{Visit}
use Rattle.wx_recursor.specs.declared.work.Work.TheVariants.{Plain}
use Rattle.wx_holding.specs.Calm.{AddsCalmly, GuardsCalmly, IsCalm, IsFit, IsReadable, IsStill, TriesCalmly, VisitsCalmly}
use Rattle.wx_holding.proofs.Watching.{rose_later, rose_sooner}

-- a part of a still time is still

still_sooner : (t : Tree) (a b c : Looked) → IsStill t a c → OnlyLooks b c → IsStill t a b
still_sooner t a b c h k = record { told = h.told; no_fault = λ rose. h.no_fault (rose_later a.faults b.faults c.faults rose k.faults) }

pub still_later : (t : Tree) (a b c : Looked) → IsStill t a c → OnlyLooks a b → IsStill t b c
still_later t a b c h k = record { told = k.same.tree ∙ h.told; no_fault = λ rose. h.no_fault (rose_sooner a.faults b.faults c.faults k.faults rose) }

pub calm_sooner : (t : Tree) (follow : Bool) (a b c : Looked) (gs : List Known) (x : Backing) (S : Type 0) → IsCalm t follow a c gs x S → OnlyLooks b c → IsCalm t follow a b gs x S
calm_sooner t follow a b c gs x S h k = record { links = h.links; still = still_sooner t a b c h.still k; stands = h.stands }

-- what changes no registration leaves the backend as good as it was

pub calm_same : (t : Tree) (follow : Bool) (a b : Looked) (gs hs : List Known) (x : Backing) (S : Type 0) → hs ≡ gs → IsCalm t follow a b gs x S → IsCalm t follow a b hs x S
calm_same t follow a b gs hs x S e h = subst (λ y. IsCalm t follow a b y x S) (sym e) h

-- below directories stands no link

chain_above : (t : Tree) (p : Path) → is_chain t p ≡ true → is_chain_above t p ≡ true
chain_above t [] h = refl
chain_above t (x ∷ p) h = let a = and_parts (is_directory t (x ∷ p)) (is_chain t p) h in a.1

-- a guard can be watched, as the directory that it is

last_names : (t : Tree) (q p : Path) → AreNames q → last_of_chain t q ≡ Some p → AreNames p
last_names t [] p n e =
    elim (cases_Bool (is_directory t [])) [
      | inl a ↦ subst AreNames (same_Some [] p (rw a at e)) n
      | inr a ↦ (let f : None ≡ Some p = rw a at e in cc)
    ]
last_names t (x ∷ q) p n e =
    elim (cases_Bool (is_chain t (x ∷ q))) [
      | inl a ↦ subst AreNames (same_Some (x ∷ q) p (rw a at e)) n
      | inr a ↦ last_names t q p n.1 (rw a at e)
    ]

chain_fit : (t : Tree) (p : Path) → AreNames p → is_chain t p ≡ true → IsFit t p
chain_fit t p n h = (record { spelled = refl; names = n; no_link = no_link_above t p (chain_above t p h) }, fit_from_dir (node_at t p) (chain_dir t p h))

guard_fits : (t : Tree) (q p : Path) → AreNames q → guard_of t q ≡ Some p → IsFit t p
guard_fits t [] p n e = cc
guard_fits t (x ∷ q) p n e = chain_fit t p (last_names t q p n.1 e) (last_chain t q p e)

guard_is : (p : Path) (i : Identity) (o : Option Path) → At p i ≡ guard_found_at o → (o ≡ Some p) × (i ≡ Canonical p)
guard_is p i None e = cc
guard_is p i (Some q) e = let a : p ≡ q = cc in let b : i ≡ Canonical q = cc in (ap Some (sym a), b ∙ ap Canonical (sym a))

pub fit_guard : (t : Tree) (r : Root) (p : Path) (i : Identity) → AreNames r.path → At p i ≡ guard_found_at (guard_of t r.path) → IsFit t p
fit_guard t r p i n e = let a = guard_is p i (guard_of t r.path) e in guard_fits t r.path p n a.0

pub guard_identity : (t : Tree) (r : Root) (p : Path) (i : Identity) → At p i ≡ guard_found_at (guard_of t r.path) → i ≡ identity_at t p
guard_identity t r p i e = let a = guard_is p i (guard_of t r.path) e in let d : is_directory t p ≡ true = guard_dir t r.path p a.0 in rw d a.1

-- what is seen where a guard is set

abbrev calm_guard : Tree → Root → Watched → Evidence
calm_guard t r w = record { found = Missing; guard_found = guard_found_at (guard_of t r.path); watched = w; undone = None; root_is_safe = is_safe t r.path; releases = [] }

nowhere_is : (o : Option Path) (w : Watched) (t : Tree) → Nowhere ≡ guard_found_at o → Watches t o w
nowhere_is None w t e = tt
nowhere_is (Some p) w t e = cc

pub guards_calm_nowhere : (t : Tree) (r : Root) (g : GuardFound) (s a u : RecursorState) → g ≡ Nowhere → g ≡ guard_found_at (guard_of t r.path) → a ≡ unguarded r s → u ≡ looked_again r (is_safe t r.path) a → GuardsCalmly t r s u
guards_calm_nowhere t r g s a u is e f h =
    let n : Nowhere ≡ guard_found_at (guard_of t r.path) = sym is ∙ e in
    let v : Evidence = calm_guard t r (Kept Absent) in (
      v,
      record { guard_found = refl; watched = nowhere_is (guard_of t r.path) (Kept Absent) t n; root_is_safe = refl },
      subst (λ x. u ≡ guarded_at r x v s) n (h ∙ ap (looked_again r (is_safe t r.path)) f),
    )

pub guards_calm_at : (t : Tree) (r : Root) (p : Path) (i : Identity) (s a u : RecursorState) (result end : AddResult) → At p i ≡ guard_found_at (guard_of t r.path) → AddsCalmly t p i s a result → result ≡ end → u ≡ guard_placed r p i (is_safe t r.path) end a → GuardsCalmly t r s u
guards_calm_at t r p i s a u result end e (f, g) is h =
    let v : Evidence = calm_guard t r (watched_at t p) in
    let safe : Bool = is_safe t r.path in
    let o = guard_is p i (guard_of t r.path) e in (
      v,
      record { guard_found = refl; watched = subst (λ x. Watches t x (watched_at t p)) (sym o.0) refl; root_is_safe = refl },
      subst (λ x. u ≡ guarded_at r x v s) e (h ∙ ap (λ x. guard_placed r p i safe x a) (sym is ∙ g) ∙ ap (λ x. guard_placed r p i safe (added_result p i (watched_at t p) s) x) f),
    )

pub never_faulty : (p : Path) (c : ℕ) (g : GuardFound) (o : Option Path) (X : Type 0) → g ≡ Faulty p c → g ≡ guard_found_at o → X
never_faulty p c g None X is e = (let z : Faulty p c ≡ Nowhere = sym is ∙ e in cc)
never_faulty p c g (Some q) X is e = (let z : Faulty p c ≡ At q (Canonical q) = sym is ∙ e in cc)

-- what is seen at a root

abbrev is_here : Found → Bool
is_here (Here i) = true
is_here Missing = false
is_here Barred = false
is_here Rejected = false
is_here (Fault p c) = false
is_here (Refused c) = false
is_here (Entries cs) = false

root_here : (t : Tree) (p : Path) (i : Identity) → Here i ≡ root_found t p → (is_safe t p ≡ true) × (i ≡ identity_at t p)
root_here t p i e =
    elim (cases_Bool (is_safe t p)) [
      | inl a ↦ (a, let f : Here i ≡ Here (identity_at t p) = rw a at e in cc)
      | inr a ↦ elim (cases_Bool (is_gap t p)) [
        | inl b ↦ (let f : Here i ≡ Missing = rw (a, b) at e in cc)
        | inr b ↦ (let f : Here i ≡ Barred = rw (a, b) at e in cc)
      ]
    ]

root_unsafe : (t : Tree) (p : Path) (k : Found) → is_here k ≡ false → k ≡ root_found t p → is_safe t p ≡ false
root_unsafe t p k h e =
    elim (cases_Bool (is_safe t p)) [
      | inl a ↦ (let f : k ≡ Here (identity_at t p) = rw a at e in let z : true ≡ false = sym (ap is_here f) ∙ h in cc)
      | inr a ↦ a
    ]

pub fit_root : (t : Tree) (r : Root) (f : Found) (i : Identity) → AreNames r.path → f ≡ Here i → f ≡ root_found t r.path → IsFit t r.path
fit_root t r f i n is e =
    let a = root_here t r.path i (sym is ∙ e) in
    let b = and_parts (is_chain_above t r.path) (is_fit_node (node_at t r.path)) a.0 in
    (record { spelled = refl; names = n; no_link = no_link_above t r.path b.0 }, b.1)

pub root_identity : (t : Tree) (r : Root) (f : Found) (i : Identity) → f ≡ Here i → f ≡ root_found t r.path → i ≡ identity_at t r.path
root_identity t r f i is e = let a = root_here t r.path i (sym is ∙ e) in a.1

abbrev watched_of : Tree → Option Path → Watched
watched_of t None = Kept Absent
watched_of t (Some p) = watched_at t p

watches_of : (t : Tree) (o : Option Path) → Watches t o (watched_of t o)
watches_of t None = tt
watches_of t (Some p) = refl

abbrev calm_root : Tree → Root → Watched → Evidence
calm_root t r w = record { found = root_found t r.path; guard_found = guard_found_at (guard_of t r.path); watched = w; undone = None; root_is_safe = is_safe t r.path; releases = [] }

-- what was found isn't read where a guard is set
pub found_free : (r : Root) (g : GuardFound) (f : Found) (e : Evidence) (s : RecursorState) → guarded_at r g (record e { found = f }) s ≡ guarded_at r g e s
found_free r Nowhere f e s = refl
found_free r (At p i) f e s = refl
found_free r (Faulty p c) f e s = refl

pub visits_calm_guarded : (t : Tree) (r : Root) (f k : Found) (s a u : RecursorState) → f ≡ k → is_here k ≡ false → f ≡ root_found t r.path → ((e : Evidence) → visited r k e s ≡ guarded r e a) → GuardsCalmly t r a u → VisitsCalmly t r f s u
visits_calm_guarded t r f k s a u is other e same (v, sees, h) =
    let unsafe : is_safe t r.path ≡ false = root_unsafe t r.path k other (sym is ∙ e) in
    let w : Evidence = record v { found = root_found t r.path } in (
      w,
      record { found = refl; guard_found = sees.guard_found; watched = rw unsafe sees.watched; root_is_safe = sees.root_is_safe },
      subst (λ x. u ≡ visited r x w s) (sym is) (h ∙ sym (found_free r v.guard_found (root_found t r.path) v a) ∙ sym (same w)),
    )

pub visits_calm_here : (t : Tree) (r : Root) (f : Found) (i : Identity) (s u : RecursorState) → f ≡ Here i → f ≡ root_found t r.path → u ≡ owned r r.path i (r.recursive && is_of_directory i) (Plain (Visit r)) (watched_at t r.path) None (unguarded r (refound r s)) → VisitsCalmly t r f s u
visits_calm_here t r f i s u is e h =
    let safe = root_here t r.path i (sym is ∙ e) in
    let v : Evidence = calm_root t r (watched_at t r.path) in
    (v, record { found = refl; guard_found = refl; watched = rw safe.0 refl; root_is_safe = refl }, subst (λ x. u ≡ visited r x v s) (sym is) h)

pub visits_calm_none : (t : Tree) (r : Root) (f k : Found) (s : RecursorState) → f ≡ k → ((e : Evidence) → visited r k e s ≡ s) → VisitsCalmly t r f s s
visits_calm_none t r f k s is same =
    let o : Option Path = if is_safe t r.path then Some r.path else guard_of t r.path in
    let v : Evidence = calm_root t r (watched_of t o) in
    (v, record { found = refl; guard_found = refl; watched = watches_of t o; root_is_safe = refl }, subst (λ x. s ≡ visited r x v s) (sym is) (sym (same v)))

-- what is seen at a candidate

try_here : (t : Tree) (ok : Path → Bool) (r : Root) (p : Path) (i : Identity) → Here i ≡ try_found t ok r p → (is_directory t p ≡ true) × (i ≡ identity_at t p)
try_here t ok r p i e =
    elim (cases_Bool (is_there t p)) [
      | inl a ↦ elim (cases_Bool (is_directory t p && passes ok r p)) [
        | inl b ↦ (let c = and_parts (is_directory t p) (passes ok r p) b in let f : Here i ≡ Here (identity_at t p) = rw (a, b) at e in (c.0, cc))
        | inr b ↦ (let f : Here i ≡ Rejected = rw (a, b) at e in cc)
      ]
      | inr a ↦ (let f : Here i ≡ Missing = rw a at e in cc)
    ]

pub fit_candidate : (t : Tree) (ok : Path → Bool) (r : Root) (p : Path) (f : Found) (i : Identity) → IsReadable t p → f ≡ Here i → f ≡ try_found t ok r p → IsFit t p
fit_candidate t ok r p f i n is e = let a = try_here t ok r p i (sym is ∙ e) in (n, fit_from_dir (node_at t p) a.0)

pub candidate_identity : (t : Tree) (ok : Path → Bool) (r : Root) (p : Path) (f : Found) (i : Identity) → f ≡ Here i → f ≡ try_found t ok r p → i ≡ identity_at t p
candidate_identity t ok r p f i is e = let a = try_here t ok r p i (sym is ∙ e) in a.1

abbrev pub calm_candidate : Tree → (Path → Bool) → Root → Path → Evidence
calm_candidate t ok r p = record { found = try_found t ok r p; guard_found = Nowhere; watched = watched_at t p; undone = None; root_is_safe = false; releases = [] }

pub tries_calm : (t : Tree) (ok : Path → Bool) (r : Root) (p : Path) (f k : Found) (s u : RecursorState) → f ≡ k → u ≡ tried r p k (calm_candidate t ok r p) s → TriesCalmly t ok r p f s u
tries_calm t ok r p f k s u is h =
    let v : Evidence = calm_candidate t ok r p in
    (v, record { found = refl; watched = refl }, subst (λ x. u ≡ tried r p x v s) (sym is) h)
