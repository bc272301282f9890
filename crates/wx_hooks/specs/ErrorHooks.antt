-- What contracts see of the hook that is lent to an error handler.
use Rattle.std.specs.Prelude.{◌≡◌, Bool, true, false, Option, None, Some, is_some}
use Rattle.wx_error.specs.declared.runtime.RuntimeError.{RuntimeError}
use Rattle.wx_journal.specs.declared.wish.Wish.{Wish}
use Rattle.wx_journal.specs.declared.wish.Wish.TheVariants.{Nothing}
use Rattle.wx_hooks.specs.declared.error_hook.Twice.{Twice}

-- the error, the wish so far, and whether the entry was moved out
pub record ShownError : Type 0 where
  pub error : RuntimeError
  pub wish : Wish
  pub told : Bool

-- nothing was wished, and the entry wasn't moved out
abbrev pub IsNewHook : ShownError → Type 0
IsNewHook h = (h.wish ≡ Nothing) × (h.told ≡ false)

-- the first wish stands
abbrev pub first_wish : Wish → Wish → Wish
first_wish Nothing wish = wish
first_wish (wish) later = wish

-- it wishes something
abbrev pub IsWish : Wish → Type 0
IsWish Nothing = ⊥
IsWish (_) = Unit {0}

-- the wish that is kept
abbrev pub wish_in : Option (Twice Wish) → Wish
wish_in None = Nothing
wish_in (Some both) = both.kept

-- the copy, where there is one
abbrev pub copy_in : {T : Type 0} → Option (Twice T) → Option T
copy_in None = None
copy_in (Some both) = both.copy

-- the same without its copy
abbrev pub without_copy : {T : Type 0} → Option (Twice T) → Option (Twice T)
without_copy None = None
without_copy (Some both) = Some (record both { copy = None })

-- a value and its copy, where there is one, are equal
abbrev pub IsCopy : {T : Type 0} → T → Option T → Type 0
IsCopy value None = Unit {0}
IsCopy value (Some copy) = copy ≡ value

-- what is wished is kept twice until the entry was moved out
abbrev pub IsKeptWish : Bool → Option (Twice Wish) → Type 0
IsKeptWish here None = Unit {0}
IsKeptWish here (Some both) = IsWish both.kept × IsCopy both.kept both.copy × (here ≡ true → is_some both.copy ≡ true)

pub record AreKept (error : Twice RuntimeError) (wish : Option (Twice Wish)) : Type 0 where
  pub same_error : IsCopy error.kept error.copy
  pub same_wish : IsKeptWish (is_some error.copy) wish
