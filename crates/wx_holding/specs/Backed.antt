-- What a backend watches, beside what is registered.
use Rattle.std.specs.Prelude.{◌≡◌, ◌⊎◌, ◌≤◌, ℕ, List, [], ◌∷◌, ◌++◌}
use Rattle.wx_tree.specs.Lists.{In}
use Rattle.wx_tree.specs.Paths.{Path}
use Rattle.wx_tree.specs.Places.{place, spelled}
use Rattle.wx_recursor.specs.declared.known.Known.{Known}
use Rattle.wx_scan.specs.Backings.{Backing}
use Rattle.wx_scan.specs.Looked.{Rose}

-- each registration is watched by its path, whose bytes lead back to it
abbrev pub AreWatched : List Known → List (List ℕ) → Type 0
AreWatched registrations paths = (k : Known) → In k registrations → In (spelled k.path) paths × (place (spelled k.path) ≡ k.path)

-- what is watched is the path of a registration
abbrev pub AreRegistered : List Known → List (List ℕ) → Type 0
AreRegistered registrations paths = (bytes : List ℕ) → In bytes paths → (k : Known) × In k registrations × (bytes ≡ spelled k.path)

-- What a call keeps of a backend, where these registrations stood before and those stand after it: each of them is watched, if it
-- was so before. Where no fault came nothing else is watched, if it was so before.
pub record KeepsWatches (gs hs : List Known) (a b : Backing) : Type 0 where
  pub watched : AreWatched gs a.registrations → AreWatched hs b.registrations
  pub registered : (Rose a.faults b.faults → ⊥) → AreRegistered gs a.registrations → AreRegistered hs b.registrations
  pub faults : a.faults ≤ b.faults
  pub brought : b.brought ≡ a.brought
  pub exact : b.exact ≡ a.exact

-- What giving these up leaves of a backend: all else is watched as before. Where no fault came they aren't watched any more.
pub record LetsGo (given : List (List ℕ)) (a b : Backing) : Type 0 where
  pub others : (bytes : List ℕ) → In bytes a.registrations → (In bytes given → ⊥) → In bytes b.registrations
  pub gone : (Rose a.faults b.faults → ⊥) → (bytes : List ℕ) → In bytes b.registrations → In bytes a.registrations × (In bytes given → ⊥)
  pub faults : a.faults ≤ b.faults
  pub brought : b.brought ≡ a.brought
  pub exact : b.exact ≡ a.exact

-- the paths of these, as they are spelled
abbrev pub paths_spelled : List Known → List (List ℕ)
paths_spelled [] = []
paths_spelled (k ∷ ks) = spelled k.path ∷ paths_spelled ks

-- What comes of a path that was just watched: it is registered, or given up again.
abbrev pub IsConfirmed : Path → List Known → List Known → Backing → Backing → Type 0
IsConfirmed p gs hs a b =
    ((k : Known) × (k.path ≡ p) × (hs ≡ gs ++ k ∷ []) × (b ≡ a))
    ⊎ ((hs ≡ gs) × LetsGo (spelled p ∷ []) a b)
