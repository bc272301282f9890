-- Facts of results.
use Rattle.std.proofs.Common.{Result, Ok, Err}
use Rattle.std.specs.Prelude.{OnOk}

pub ok_always : {A E : Type 0} (r : Result A E) (P : Type 0) → P → OnOk r P
ok_always (Ok a) P h = h
ok_always (Err e) P h = tt
