-- A look fails only where it was ordered to.
use Rattle.std.proofs.Common.{◌≡◌, ℕ, true, false, Option, List, [], ◌∷◌, ◌++◌, refl}
use Rattle.std.specs.Prelude.{is_some}
use Rattle.wx_mem_tree.specs.declared.mem_tree.FailingLook.{FailingLook}
use Rattle.wx_mem_tree.specs.Entries.{code_of, none_fails}

pub ordered : (fs : List FailingLook) (look : ℕ) (code : Option ℕ) → code ≡ code_of fs look → is_some code ≡ true → none_fails fs ≡ false
ordered [] look code e h = absurd cc
ordered (f ∷ fs) look code e h = refl

pub one_fails : (fs : List FailingLook) (f : FailingLook) → none_fails (fs ++ f ∷ []) ≡ false
one_fails [] f = refl
one_fails (g ∷ fs) f = refl
