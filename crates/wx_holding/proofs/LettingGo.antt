-- How giving paths up changes what a backend watches.
use Rattle.std.proofs.Common.{◌≡◌, ◌≤◌, ◌<◌, ◌-◌, get_or, take, drop, ℕ, Bool, true, false, List, [], ◌∷◌, Ok, Err, inl, inr, refl, ap, sym, ◌∙◌, subst, arith}
use Rattle.std.specs.Prelude.{◌⊎◌, Option, filter, not, length, ltb}
use Rattle.std.proofs.Math.Seq.{take-length}
use Rattle.std.proofs.lemmas.Bool.{cases_Bool, not-true, or_left, or_right}
use Rattle.wx_watch.specs.declared.notify_fault.NotifyFault.{NotifyFault}
use Rattle.wx_watch.specs.declared.notify_fault.NotifyFaultKind.{NotifyFaultKind}
use Rattle.wx_watch.specs.declared.notify_fault.NotifyFaultKind.TheVariants.{Generic, InvalidConfig, Io, MaxFilesWatch, Memory, PathNotFound, WatchNotFound}
use Rattle.wx_tree.specs.Lists.{In}
use Rattle.wx_tree.specs.Paths.{Path, same_part}
use Rattle.wx_tree.specs.Places.{place, spelled}
use Rattle.wx_tree.specs.declared.root.Root.{Root}
use Rattle.wx_tree.proofs.ListLemmas.{In-filter, In-kept}
use Rattle.wx_tree.proofs.PathLemmas.{same_part-refl, same_part-true}
use Rattle.wx_recursor.specs.Holding.{deepest_first, keep_retry, put_deep, serves, still_known}
use Rattle.wx_recursor.specs.Identities.{has_identity, refusal}
use Rattle.wx_recursor.specs.Owning.{is_known_otherwise, refused, unwatched}
use Rattle.wx_recursor.specs.Sound.{AreSound, Things, things}
use Rattle.wx_recursor.specs.States.{RecursorState}
use Rattle.wx_recursor.specs.Steps.{idle_registrations, released, serving_registrations, unwatch_each}
use Rattle.wx_recursor.specs.declared.known.Identity.{Identity}
use Rattle.wx_recursor.specs.declared.known.Known.{Known}
use Rattle.wx_recursor.proofs.SoundLemmas.{has_there, suits}
use Rattle.wx_recursor.proofs.SoundSteps.{things_refused, things_retry, things_unwatched}
use Rattle.wx_scan.specs.Backings.{Backing, Changes, is_memory, is_registered, is_unwatch_fault, is_watch_fault, register, unregister}
use Rattle.wx_holding.specs.Backed.{AreWatched, IsConfirmed, KeepsWatches, LetsGo, paths_spelled}
use Rattle.wx_holding.proofs.Watching.{in_register, keeps_watch, register_from, rose_later, rose_sooner}

pub there_registered : (q : List ℕ) (qs : List (List ℕ)) → In q qs → is_registered q qs ≡ true
there_registered q [] m = absurd m
there_registered q (x ∷ qs) (inl e) = or_left (same_part x q) (is_registered q qs) (subst (λ y. same_part x y ≡ true) e (same_part-refl x))
there_registered q (x ∷ qs) (inr m) = or_right (same_part x q) (is_registered q qs) (there_registered q qs m)

differs : (p q : List ℕ) → (q ≡ p → ⊥) → not (same_part q p) ≡ true
differs p q never =
    elim (cases_Bool (same_part q p)) [
      | inl e ↦ absurd (never (same_part-true q p e))
      | inr e ↦ rw e refl
    ]

pub one_given : (p q : List ℕ) → In q (p ∷ []) → p ≡ q
one_given p q (inl e) = e
one_given p q (inr never) = absurd never

-- a path is given up
pub lets_go : (p : List ℕ) (is_one : NotifyFaultKind → Bool) (a b : Backing) → Changes (unregister p) is_one (Ok tt) a b → LetsGo (p ∷ []) a b
lets_go p is_one a b h = record {
  others = λ q m never. subst (In q) (sym h.registrations) (In-kept (λ x. not (same_part x p)) q a.registrations (differs p q (λ e. never (inl (sym e)))) m);
  gone = λ quiet q m.
      (let x = In-filter (λ x. not (same_part x p)) q a.registrations (subst (In q) h.registrations m) in
      (x.0, λ given. (let e : p ≡ q = one_given p q given in let t : same_part q p ≡ true = subst (λ y. same_part q y ≡ true) (sym e) (same_part-refl q) in let f : same_part q p ≡ false = not-true (same_part q p) x.1 in let z : true ≡ false = sym t ∙ f in cc)));
  faults = h.faults;
  brought = h.brought;
  exact = h.exact;
}

watched_fault : (kind : NotifyFaultKind) → is_memory kind ≡ false → is_unwatch_fault true kind ≡ true
watched_fault (Generic text) h = refl
watched_fault (Io code) h = refl
watched_fault PathNotFound h = refl
watched_fault WatchNotFound h = refl
watched_fault InvalidConfig h = refl
watched_fault MaxFilesWatch h = refl
watched_fault Memory h = cc

-- Giving a path up failed: nothing changed. Where that is no fault, the path wasn't watched.
pub lets_go_failed : (p : List ℕ) (f : NotifyFault) (a b : Backing) → is_memory f.kind ≡ false → Changes (unregister p) (is_unwatch_fault (is_registered p a.registrations)) (Err f) a b → LetsGo (p ∷ []) a b
lets_go_failed p f a b memory h = record {
  others = λ q m never. subst (In q) (sym h.registrations) m;
  gone = λ quiet q m. (
    subst (In q) h.registrations m,
    λ given.
        (let e : p ≡ q = one_given p q given in
        let there : is_registered p a.registrations ≡ true = there_registered p a.registrations (subst (λ x. In x a.registrations) (sym e) (subst (In q) h.registrations m)) in
        quiet (h.failed (ap (λ watched. is_unwatch_fault watched f.kind) there ∙ watched_fault f.kind memory))),
  );
  faults = h.faults;
  brought = h.brought;
  exact = h.exact;
}

pub lets_none_go : (a : Backing) → LetsGo [] a a
lets_none_go a = record { others = λ q m never. m; gone = λ quiet q m. (m, λ never. never); faults = omega arith; brought = refl; exact = refl }

-- one after the other
pub lets_more_go : (p : List ℕ) (qs : List (List ℕ)) (a b c : Backing) → LetsGo (p ∷ []) a b → LetsGo qs b c → LetsGo (p ∷ qs) a c
lets_more_go p qs a b c h k = record {
  others = λ q m never. k.others q (h.others q m (λ given. never (inl (one_given p q given)))) (λ given. never (inr given));
  gone = λ quiet q m.
      (let x = k.gone (λ rose. quiet (rose_sooner a.faults b.faults c.faults h.faults rose)) q m in
      let y = h.gone (λ rose. quiet (rose_later a.faults b.faults c.faults rose k.faults)) q x.0 in
      (y.0, λ given. elim given [ inl e ↦ y.1 (inl e) | inr n ↦ x.1 n ]));
  faults = omega (arith, h.faults, k.faults);
  brought = k.brought ∙ h.brought;
  exact = k.exact ∙ h.exact;
}

pub more_gone : (rest : List Known) (k : Known) (n : ℕ) (a b d : Backing) → 1 ≤ length rest → n ≡ length rest → get_or rest 0 k ≡ k → LetsGo (spelled k.path ∷ []) a b → LetsGo (paths_spelled (take (n - 1) (drop 1 rest))) b d → LetsGo (paths_spelled rest) a d
more_gone [] k n a b d le e f h l = absurd (omega arith)
more_gone (y ∷ ys) k n a b d le e f h l =
    let m : n - 1 ≡ length ys = omega arith in
    let all : take (n - 1) ys ≡ ys = rw (m, take-length ys) refl in
    lets_more_go (spelled y.path) (paths_spelled ys) a b d (subst (λ x. LetsGo (spelled x.path ∷ []) a b) (sym f) h) (subst (λ x. LetsGo (paths_spelled x) b d) all l)

pub none_gone : (rest : List Known) (a : Backing) → length rest < 1 → LetsGo (paths_spelled rest) a a
none_gone [] a lt = lets_none_go a
none_gone (y ∷ ys) a lt = absurd (omega arith)

pub unwatched_registrations : (p : Path) (u : Option NotifyFault) (s : RecursorState) → (unwatched p u s).registrations ≡ s.registrations
unwatched_registrations p u s = ap (λ (x : Things). x.registrations) (things_unwatched p u s)

-- a path that is to be registered is none of those that are
pub not_registered : (p : Path) (i : Identity) (s : RecursorState) → is_known_otherwise p i s ≡ false → has_identity i s.registrations ≡ false → (k : Known) → In k s.registrations → k.path ≡ p → ⊥
not_registered p i s known none k m e =
    let same : k.identity ≡ i = suits p i s known k (inr (inr (inl m))) e in
    let there : has_identity i s.registrations ≡ true = subst (λ x. has_identity x s.registrations ≡ true) same (has_there k s.registrations m) in
    let x : true ≡ false = sym there ∙ none in
    cc

-- a path was watched, and confirmed or given up
pub keeps_added : (p : Path) (bytes : List ℕ) (gs hs : List Known) (a b c : Backing) → bytes ≡ spelled p → place bytes ≡ p → ((k : Known) → In k gs → k.path ≡ p → ⊥) → Changes (register bytes) is_watch_fault (Ok tt) a b → IsConfirmed p gs hs b c → KeepsWatches gs hs a c
keeps_added p bytes gs hs a b c spells back none h (inl (k, e, f, g)) =
    subst (KeepsWatches gs hs a) (sym g) (keeps_watch k bytes is_watch_fault gs hs a b (spells ∙ ap spelled (sym e)) (back ∙ sym e) h f)
keeps_added p bytes gs hs a b c spells back none h (inr (f, l)) = record {
  watched = λ w k m.
      (let old = subst (In k) f m in
      let x = w k old in (
        l.others (spelled k.path) (subst (In (spelled k.path)) (sym h.registrations) (in_register bytes (spelled k.path) a.registrations x.0))
            (λ given. none k old (sym x.1 ∙ (sym (ap place (spells ∙ one_given (spelled p) (spelled k.path) given)) ∙ back))),
        x.1,
      ));
  registered = λ quiet r q m.
      (let x = l.gone (λ rose. quiet (rose_sooner a.faults b.faults c.faults h.faults rose)) q m in
      elim (register_from bytes q a.registrations (subst (In q) h.registrations x.0)) [
        | inl old ↦ (let y = r q old in (y.0, subst (In y.0) (sym f) y.1, y.2))
        | inr e ↦ absurd (x.1 (inl (sym spells ∙ e)))
      ]);
  faults = omega (arith, h.faults, l.faults);
  brought = l.brought ∙ h.brought;
  exact = l.exact ∙ h.exact;
}

-- ---- letting go what serves nothing

deep_there : (k x : Known) (xs : List Known) → In x (k ∷ xs) → In x (put_deep k xs)
deep_there k x [] m = m
deep_there k x (y ∷ ys) m =
    elim (cases_Bool (ltb (length y.path) (length k.path))) [
      | inl e ↦ rw e m
      | inr e ↦ rw e (elim m [
        | inl is ↦ inr (deep_there k x ys (inl is))
        | inr old ↦ elim old [ inl is ↦ inl is | inr more ↦ inr (deep_there k x ys (inr more)) ]
      ])
    ]

pub deep_from : (k x : Known) (xs : List Known) → In x (put_deep k xs) → In x (k ∷ xs)
deep_from k x [] m = m
deep_from k x (y ∷ ys) m =
    elim (cases_Bool (ltb (length y.path) (length k.path))) [
      | inl e ↦ (rw e at m)
      | inr e ↦ (let n : In x (y ∷ put_deep k ys) = rw e at m in elim n [
        | inl is ↦ inr (inl is)
        | inr more ↦ elim (deep_from k x ys more) [ inl is ↦ inl is | inr old ↦ inr (inr old) ]
      ])
    ]

pub deepest_there : (x : Known) (ks out : List Known) → In x ks ⊎ In x out → In x (deepest_first ks out)
deepest_there x [] out (inl never) = absurd never
deepest_there x [] out (inr m) = m
deepest_there x (k ∷ ks) out (inl (inl is)) = deepest_there x ks (put_deep k out) (inr (deep_there k x out (inl is)))
deepest_there x (k ∷ ks) out (inl (inr m)) = deepest_there x ks (put_deep k out) (inl m)
deepest_there x (k ∷ ks) out (inr m) = deepest_there x ks (put_deep k out) (inr (deep_there k x out (inr m)))

pub deepest_from : (x : Known) (ks out : List Known) → In x (deepest_first ks out) → In x ks ⊎ In x out
deepest_from x [] out m = inr m
deepest_from x (k ∷ ks) out m =
    elim (deepest_from x ks (put_deep k out) m) [
      | inl n ↦ inl (inr n)
      | inr n ↦ elim (deep_from k x out n) [ inl is ↦ inl (inl is) | inr old ↦ inr old ]
    ]

spelled_there : (k : Known) (ks : List Known) → In k ks → In (spelled k.path) (paths_spelled ks)
spelled_there k [] m = absurd m
spelled_there k (l ∷ ks) (inl e) = inl (ap (λ x. spelled x.path) e)
spelled_there k (l ∷ ks) (inr m) = inr (spelled_there k ks m)

pub spelled_from : (q : List ℕ) (ks : List Known) → In q (paths_spelled ks) → (k : Known) × In k ks × (spelled k.path ≡ q)
spelled_from q [] m = absurd m
spelled_from q (l ∷ ks) (inl e) = (l, inl refl, e)
spelled_from q (l ∷ ks) (inr m) = (let x = spelled_from q ks m in (x.0, inr x.1, x.2))

unwatched_guards : (p : Path) (u : Option NotifyFault) (s : RecursorState) → (unwatched p u s).guards ≡ s.guards
unwatched_guards p u s = ap (λ (x : Things). x.guards) (things_unwatched p u s)

each_registrations : (gs : List Known) (us : List (Option NotifyFault)) (s : RecursorState) → ((unwatch_each gs us s).registrations ≡ s.registrations) × ((unwatch_each gs us s).guards ≡ s.guards)
each_registrations [] us s = (refl, refl)
each_registrations (g ∷ gs) [] s = (refl, refl)
each_registrations (g ∷ gs) (u ∷ us) s =
    let x = each_registrations gs us (unwatched g.path (refusal u) s) in
    (x.0 ∙ unwatched_registrations g.path (refusal u) s, x.1 ∙ unwatched_guards g.path (refusal u) s)

pub released_registrations : (us : List (Option NotifyFault)) (s : RecursorState) → (released us s).registrations ≡ serving_registrations (still_known s.owners s.known) s.guards s.registrations
released_registrations us s =
    let ks : List Known = still_known s.owners s.known in
    let x = each_registrations (idle_registrations ks s.guards s.registrations) us s in
    let y : RecursorState = unwatch_each (idle_registrations ks s.guards s.registrations) us s in
    ap (λ gs. serving_registrations ks gs y.registrations) x.1 ∙ ap (serving_registrations ks s.guards) x.0

-- a path by which something is given up is none of those that stay
serves_idle : (s : RecursorState) (paths : List (List ℕ)) → AreSound (things s) → AreWatched s.registrations paths → (k : Known) → In k s.registrations → serves (still_known s.owners s.known) s.guards k.identity ≡ true
    → ((x : Known) × In x (idle_registrations (still_known s.owners s.known) s.guards s.registrations) × (spelled x.path ≡ spelled k.path)) → ⊥
serves_idle s paths sound w k m e (x, n, same) =
    let ks : List Known = still_known s.owners s.known in
    elim (deepest_from x (filter (λ (g : Known). not (serves ks s.guards g.identity)) s.registrations) [] n) [
      | inl old ↦
          (let o = In-filter (λ (g : Known). not (serves ks s.guards g.identity)) x s.registrations old in
          let paths_same : x.path ≡ k.path = sym (w x o.0).1 ∙ (ap place same ∙ (w k m).1) in
          let identities_same : x.identity ≡ k.identity = sound.uniform x k (inr (inr (inl o.0))) (inr (inr (inl m))) paths_same in
          let served : serves ks s.guards x.identity ≡ true = subst (λ i. serves ks s.guards i ≡ true) (sym identities_same) e in
          let idle : serves ks s.guards x.identity ≡ false = not-true (serves ks s.guards x.identity) o.1 in
          let z : true ≡ false = sym served ∙ idle in
          cc)
      | inr never ↦ absurd never
    ]

-- what serves nothing isn't registered any more, and what serves something stays watched
pub keeps_released : (s t : RecursorState) (us : List (Option NotifyFault)) (idle : List Known) (a b : Backing) → idle ≡ idle_registrations (still_known s.owners s.known) s.guards s.registrations → t ≡ released us s → LetsGo (paths_spelled idle) a b → AreSound (things s)
    → KeepsWatches s.registrations t.registrations a b
keeps_released s t us idle a b is h l sound =
    let ks : List Known = still_known s.owners s.known in
    let stays : t.registrations ≡ serving_registrations ks s.guards s.registrations = ap (λ x. x.registrations) h ∙ released_registrations us s in
    record {
      watched = λ w k m.
          (let n = In-filter (λ (g : Known). serves ks s.guards g.identity) k s.registrations (subst (In k) stays m) in
          let x = w k n.0 in
          (l.others (spelled k.path) x.0 (λ given. serves_idle s a.registrations sound w k n.0 n.1 (spelled_from (spelled k.path) (idle_registrations ks s.guards s.registrations) (subst (λ ys. In (spelled k.path) (paths_spelled ys)) is given))), x.1));
      registered = λ quiet r q m.
          (let x = l.gone quiet q m in
          let y = r q x.0 in
          elim (cases_Bool (serves ks s.guards y.0.identity)) [
            | inl e ↦ (y.0, subst (In y.0) (sym stays) (In-kept (λ (g : Known). serves ks s.guards g.identity) y.0 s.registrations e y.1), y.2)
            | inr e ↦ absurd (x.1 (subst (λ z. In z (paths_spelled idle)) (sym y.2) (spelled_there y.0 idle (subst (In y.0) (sym is) (deepest_there y.0 _ [] (inl (In-kept (λ (g : Known). not (serves ks s.guards g.identity)) y.0 s.registrations (ap not e) y.1)))))))
          ]);
      faults = l.faults;
      brought = l.brought;
      exact = l.exact;
    }

-- ---- what leaves the registrations as they are

pub refused_registrations : (p : Path) (f : NotifyFault) (s : RecursorState) → (refused p f s).registrations ≡ s.registrations
refused_registrations p f s = ap (λ (x : Things). x.registrations) (things_refused p f s)

pub retry_registrations : (r : Root) (p : Path) (s : RecursorState) → (keep_retry r p s).registrations ≡ s.registrations
retry_registrations r p s = ap (λ (x : Things). x.registrations) (things_retry r p s)
