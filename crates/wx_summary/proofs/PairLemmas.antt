-- What may be absent, before a list.
use Rattle.std.proofs.Common.{◌≡◌, List, [], ◌++◌, refl, Option, Some, None}
use Rattle.std.specs.List.{cons_option}

pub cons_option_append : {X : Type 0} (x : Option X) (ys : List X) → cons_option x [] ++ ys ≡ cons_option x ys
cons_option_append None ys = refl
cons_option_append (Some x) ys = refl
