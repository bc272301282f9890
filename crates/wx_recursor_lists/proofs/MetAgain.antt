-- A root has met an identity, asked from what is known or from what is owned.
use Rattle.std.proofs.Common.{◌≡◌, true, List, [], ◌∷◌, inl, inr}
use Rattle.std.specs.Prelude.{◌&&◌}
use Rattle.std.specs.Cmp.{both_ways}
use Rattle.std.proofs.lemmas.Bool.{and_from, and_parts, cases_Bool, or_cases, or_left, or_right}
use Rattle.wx_tree.specs.Paths.{Path, same}
use Rattle.wx_tree.specs.Roots.{same_root}
use Rattle.wx_tree.specs.declared.root.Root.{Root}
use Rattle.wx_tree.proofs.PathLemmas.{same-refl, same-true}
use Rattle.wx_recursor.specs.Holding.{has_met}
use Rattle.wx_recursor.specs.Identities.{identity_of, is_identity, same_identity}
use Rattle.wx_recursor.specs.declared.known.Identity.{Identity}
use Rattle.wx_recursor.specs.declared.known.Known.{Known}
use Rattle.wx_recursor.specs.declared.owner.Owner.{Owner}
use Rattle.wx_recursor_lists.specs.Met.{has_met_one, has_seen}

-- a path that was seen, and stands for the identity, is met
seen_met : (r : Root) (i : Identity) (all : List Known) (os : List Owner) (p : Path) → has_seen r p os ≡ true → is_identity i (identity_of p all) ≡ true → has_met r i all os ≡ true
seen_met r i all [] p s h = absurd cc
seen_met r i all (o ∷ os) p s h =
    elim (or_cases ((same_root r o.root && o.seen) && same o.path p) (has_seen r p os) s) [
      | inl a ↦ (
          let b = and_parts (same_root r o.root && o.seen) (same o.path p) a in
          let e : is_identity i (identity_of o.path all) ≡ true = rw (same-true o.path p b.1) h in
          or_left _ (has_met r i all os) (and_from (same_root r o.root && o.seen) (is_identity i (identity_of o.path all)) b.0 e))
      | inr a ↦ or_right ((same_root r o.root && o.seen) && is_identity i (identity_of o.path all)) _ (seen_met r i all os p a h)
    ]

one_met : (r : Root) (i : Identity) (all : List Known) (os : List Owner) (ks : List Known) → has_met_one r i all os ks ≡ true → has_met r i all os ≡ true
one_met r i all os [] h = absurd cc
one_met r i all os (k ∷ ks) h =
    elim (or_cases ((same_identity k.identity i && has_seen r k.path os) && is_identity i (identity_of k.path all)) (has_met_one r i all os ks) h) [
      | inl a ↦ (
          let b = and_parts (same_identity k.identity i && has_seen r k.path os) (is_identity i (identity_of k.path all)) a in
          let d = and_parts (same_identity k.identity i) (has_seen r k.path os) b.0 in
          seen_met r i all os k.path d.1 b.1)
      | inr a ↦ one_met r i all os ks a
    ]

-- what stands for the identity is known under it
found_one : (r : Root) (i : Identity) (all : List Known) (os : List Owner) (p : Path) (ks : List Known) → has_seen r p os ≡ true → is_identity i (identity_of p all) ≡ true → is_identity i (identity_of p ks) ≡ true → has_met_one r i all os ks ≡ true
found_one r i all os p [] s h f = absurd cc
found_one r i all os p (k ∷ ks) s h f =
    elim (cases_Bool (same k.path p)) [
      | inl a ↦ (
          let g : same_identity k.identity i ≡ true = (rw a at f) in
          let e = same-true k.path p a in
          let s' : has_seen r k.path os ≡ true = rw e s in
          let h' : is_identity i (identity_of k.path all) ≡ true = rw e h in
          or_left _ (has_met_one r i all os ks) (and_from (same_identity k.identity i && has_seen r k.path os) _ (and_from (same_identity k.identity i) (has_seen r k.path os) g s') h'))
      | inr a ↦ or_right ((same_identity k.identity i && has_seen r k.path os) && is_identity i (identity_of k.path all)) _ (found_one r i all os p ks s h (rw a at f))
    ]

-- where it is met, by some path
met_seen : (r : Root) (i : Identity) (all : List Known) (os : List Owner) → has_met r i all os ≡ true → (p : Path) × (has_seen r p os ≡ true) × (is_identity i (identity_of p all) ≡ true)
met_seen r i all [] h = absurd cc
met_seen r i all (o ∷ os) h =
    elim (or_cases ((same_root r o.root && o.seen) && is_identity i (identity_of o.path all)) (has_met r i all os) h) [
      | inl a ↦ (
          let b = and_parts (same_root r o.root && o.seen) (is_identity i (identity_of o.path all)) a in
          (o.path, or_left _ (has_seen r o.path os) (and_from (same_root r o.root && o.seen) (same o.path o.path) b.0 (same-refl o.path)), b.1))
      | inr a ↦ (let b = met_seen r i all os a in (b.0, or_right ((same_root r o.root && o.seen) && same o.path b.0) _ b.1, b.2))
    ]

pub met_known : (r : Root) (i : Identity) (all : List Known) (os : List Owner) → has_met_one r i all os all ≡ has_met r i all os
met_known r i all os =
    both_ways (has_met_one r i all os all) (has_met r i all os) (one_met r i all os all) (λ h. let b = met_seen r i all os h in found_one r i all os b.0 all b.1 b.2 b.2)
