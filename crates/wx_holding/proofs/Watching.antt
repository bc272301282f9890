-- How calls on a backend change what it watches.
use Rattle.std.proofs.Common.{◌≡◌, ◌≤◌, ℕ, Bool, true, false, List, [], ◌∷◌, ◌++◌, Ok, Err, inl, inr, refl, sym, ◌∙◌, subst, arith}
use Rattle.std.specs.Prelude.{◌⊎◌, if◌then◌else◌}
use Rattle.wx_watch.specs.declared.notify_fault.NotifyFault.{NotifyFault}
use Rattle.wx_watch.specs.declared.notify_fault.NotifyFaultKind.{NotifyFaultKind}
use Rattle.wx_tree.specs.Lists.{In}
use Rattle.wx_tree.specs.Places.{place, spelled}
use Rattle.wx_tree.proofs.ListLemmas.{In-left, In-right, In-cases}
use Rattle.wx_recursor.specs.declared.known.Known.{Known}
use Rattle.wx_scan.specs.Backings.{Backing, Changes, is_registered, register}
use Rattle.wx_scan.specs.Looked.{Rose}
use Rattle.wx_scan.proofs.LookLemmas.{registered_in}
use Rattle.wx_holding.specs.Backed.{AreRegistered, AreWatched, KeepsWatches}

-- what is registered is in the list
in_either : (b : Bool) (p q : List ℕ) (qs : List (List ℕ)) → In q qs → In q (if b then qs else qs ++ p ∷ [])
in_either true p q qs h = h
in_either false p q qs h = In-left q qs (p ∷ []) h

-- what is watched stays so where another path is watched too
pub in_register : (p q : List ℕ) (qs : List (List ℕ)) → In q qs → In q (register p qs)
in_register p q qs h = in_either (is_registered p qs) p q qs h

in_now : (b : Bool) (p : List ℕ) (qs : List (List ℕ)) → (b ≡ true → In p qs) → In p (if b then qs else qs ++ p ∷ [])
in_now true p qs h = h refl
in_now false p qs h = In-right p qs (p ∷ []) (inl refl)

register_now : (p : List ℕ) (qs : List (List ℕ)) → In p (register p qs)
register_now p qs = in_now (is_registered p qs) p qs (registered_in p qs)

from_either : (b : Bool) (p q : List ℕ) (qs : List (List ℕ)) → In q (if b then qs else qs ++ p ∷ []) → In q qs ⊎ (p ≡ q)
from_either true p q qs h = inl h
from_either false p q qs h =
    elim (In-cases q qs (p ∷ []) h) [
      | inl m ↦ inl m
      | inr m ↦ elim m [ inl e ↦ inr e | inr never ↦ absurd never ]
    ]

pub register_from : (p q : List ℕ) (qs : List (List ℕ)) → In q (register p qs) → In q qs ⊎ (p ≡ q)
register_from p q qs h = from_either (is_registered p qs) p q qs h

-- a rise stays one
pub rose_later : (a b c : ℕ) → Rose a b → b ≤ c → Rose a c
rose_later a b c h le = elim h [ inl lt ↦ inl (omega arith) | inr end ↦ inr (omega arith) ]

pub rose_sooner : (a b c : ℕ) → a ≤ b → Rose b c → Rose a c
rose_sooner a b c le h = elim h [ inl lt ↦ inl (omega arith) | inr end ↦ inr end ]

-- what changes nothing
pub keeps_same : (gs hs : List Known) (a : Backing) → hs ≡ gs → KeepsWatches gs hs a a
keeps_same gs hs a e = record {
  watched = λ h. subst (λ xs. AreWatched xs a.registrations) (sym e) h;
  registered = λ never h. subst (λ xs. AreRegistered xs a.registrations) (sym e) h;
  faults = omega arith;
  brought = refl;
  exact = refl;
}

-- one call after the other
pub keeps_more : (gs hs is : List Known) (a b c : Backing) → KeepsWatches gs hs a b → KeepsWatches hs is b c → KeepsWatches gs is a c
keeps_more gs hs is a b c h k = record {
  watched = λ w. k.watched (h.watched w);
  registered = λ never r. k.registered (λ rose. never (rose_sooner a.faults b.faults c.faults h.faults rose)) (h.registered (λ rose. never (rose_later a.faults b.faults c.faults rose k.faults)) r);
  faults = omega (arith, h.faults, k.faults);
  brought = k.brought ∙ h.brought;
  exact = k.exact ∙ h.exact;
}

-- a call that failed
pub keeps_failed : (change : List (List ℕ) → List (List ℕ)) (is_one : NotifyFaultKind → Bool) (f : NotifyFault) (gs hs : List Known) (a b : Backing) → Changes change is_one (Err f) a b → hs ≡ gs → KeepsWatches gs hs a b
keeps_failed change is_one f gs hs a b h e = record {
  watched = λ w k m. (let x = w k (subst (In k) e m) in (subst (In (spelled k.path)) (sym h.registrations) x.0, x.1));
  registered = λ never r bytes m. (let x = r bytes (subst (In bytes) h.registrations m) in (x.0, subst (In x.0) (sym e) x.1, x.2));
  faults = h.faults;
  brought = h.brought;
  exact = h.exact;
}

-- a path was watched, and is registered now
pub keeps_watch : (k : Known) (bytes : List ℕ) (is_one : NotifyFaultKind → Bool) (gs hs : List Known) (a b : Backing) → bytes ≡ spelled k.path → place bytes ≡ k.path → Changes (register bytes) is_one (Ok tt) a b → hs ≡ gs ++ k ∷ [] → KeepsWatches gs hs a b
keeps_watch k bytes is_one gs hs a b spells back h e = record {
  watched = λ w l m.
      elim (In-cases l gs (k ∷ []) (subst (In l) e m)) [
        | inl old ↦ (let x = w l old in (subst (In (spelled l.path)) (sym h.registrations) (in_register bytes (spelled l.path) a.registrations x.0), x.1))
        | inr new ↦ elim new [
          | inl is ↦ subst (λ (x : Known). In (spelled x.path) b.registrations × (place (spelled x.path) ≡ x.path)) is
              (subst (In (spelled k.path)) (sym h.registrations) (subst (λ x. In x (register bytes a.registrations)) spells (register_now bytes a.registrations)), subst (λ x. place x ≡ k.path) spells back)
          | inr never ↦ absurd never
        ]
      ];
  registered = λ never r q m.
      elim (register_from bytes q a.registrations (subst (In q) h.registrations m)) [
        | inl old ↦ (let x = r q old in (x.0, subst (In x.0) (sym e) (In-left x.0 gs (k ∷ []) x.1), x.2))
        | inr is ↦ (k, subst (In k) (sym e) (In-right k gs (k ∷ []) (inl refl)), sym is ∙ spells)
      ];
  faults = h.faults;
  brought = h.brought;
  exact = h.exact;
}
