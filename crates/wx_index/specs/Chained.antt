-- Where the entries of a list are, by their keys: from the end of the list to the last of a key, and from each entry to the one
-- of its key before it.
use Rattle.std.specs.Prelude.{◌≡◌, ℕ, ◌-◌, ◌≤◌, ◌<◌, List, length, slice_get, suc, zero, Bool, Option, Some, None, if◌then◌else◌, [], ◌∷◌}
use Rattle.std.specs.BTreeMap.{get}
use Rattle.std.specs.Cmp.Lexicographic.{slice_cmp}
use Rattle.std.specs.Option.{unwrap_or}
use Rattle.std.specs.Ordering.{nat_cmp}
use Rattle.wx_index.specs.declared.chains.Chains.{Chains}

-- by what entries are found: bytes
abbrev pub Key : Type 0
Key = List ℕ

-- from here up to there none has the key
abbrev pub NoneOf : Key → List Key → ℕ → ℕ → Type 0
NoneOf k keys from to = (at : ℕ) → from ≤ at → at < to → slice_get keys at ≡ Some k → ⊥

-- Of those before `to`, the last of the key is right before `end`. Where none has it, `end` is 0.
abbrev pub IsEnd : Key → List Key → ℕ → ℕ → Type 0
IsEnd k keys to end = (end ≤ to) × (0 < end → slice_get keys (end - 1) ≡ Some k) × NoneOf k keys end to

-- where those of the key end
abbrev pub end_of : Chains → Key → ℕ
end_of c k = unwrap_or (get (slice_cmp nat_cmp) c.heads k) 0

-- where those end that have the key of the one that is here, and come before it
abbrev pub end_before : Chains → ℕ → ℕ
end_before c at = unwrap_or (slice_get c.before.items at) 0

-- the entries of these keys are found
abbrev pub AreFound : List Key → Chains → Type 0
AreFound keys c = (length c.before.items ≡ length keys) × ((k : Key) → IsEnd k keys (length keys) (end_of c k)) × ((at : ℕ) (k : Key) → slice_get keys at ≡ Some k → IsEnd k keys at (end_before c at))

-- the place of an entry that is met, else what was found before
abbrev pub judged : {X : Type 0} → (X → Bool) → Option X → ℕ → ℕ → ℕ
judged asks None at found = found
judged asks (Some x) at found = if asks x then at else found

-- the place of the first entry that is met, and how many there are where none is
abbrev pub first_at : {X : Type 0} → (X → Bool) → List X → ℕ
first_at asks [] = 0
first_at asks (x ∷ xs) = if asks x then 0 else suc (first_at asks xs)
