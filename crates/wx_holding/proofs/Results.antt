-- What follows where a call went well.
use Rattle.std.proofs.Common.{Result, Ok, Err}
use Rattle.std.specs.Prelude.{IfOk, OnOk}

pub ok_map : {A E : Type 0} (r : Result A E) (P Q : Type 0) → (P → Q) → OnOk r P → OnOk r Q
ok_map (Ok a) P Q f h = f h
ok_map (Err e) P Q f h = h

pub if_both : {A E : Type 0} (r : Result A E) (P : Type 0) (Q R : A → Type 0) → ((a : A) → P → Q a → R a) → OnOk r P → IfOk r Q → IfOk r R
if_both (Ok a) P Q R f h k = f a h k
if_both (Err e) P Q R f h k = h
