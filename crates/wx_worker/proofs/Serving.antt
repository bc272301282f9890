-- What calls serve, one after another.
use Rattle.std.proofs.Common.{◌≡◌, ◌≤◌, ℕ, Option, List, arith, refl}
use Rattle.wx_journal.specs.declared.entry.Entry.{Entry}
use Rattle.wx_journal.specs.Written.{Written}
use Rattle.wx_machine.specs.Seen.{Seen, Hooked}
use Rattle.wx_machine.specs.Kept.{OnlyHooksRoom, Same, KeepsOn, Still, Past, Roomy, Promised}
use Rattle.wx_machine.proofs.KeptLemmas.{KeepsOther, promised}
use Rattle.wx_machine.specs.Steady.{OnlyRoom}
use Rattle.wx_machine.proofs.SteadyLemmas.{steady_none, steady_then}
use Rattle.wx_machine.specs.Start.{Start}
use Rattle.wx_worker.specs.declared.worker_state.Worker.{Worker}
use Rattle.wx_worker.specs.Serves.{AddsAlone, AddsHand, Serves, Grows, GrowsHand, GrowsWithin, Continues}
use Rattle.wx_worker.specs.Stands.{Stands, end_room}

-- only room was taken
pub serves_room : {Fixed : Type 0} (s : Start) (p p' : List Entry) (a b : Seen Fixed) (hooks hooks' : Option (List Entry)) → OnlyRoom a b → p' ≡ p → hooks' ≡ hooks → Serves s p a hooks p' b hooks'
serves_room s p p' a b hooks hooks' only past told = record {
  follows = rw (past, told, only.shown) (λ p₀ world₀ hooks₀ l. l);
  turns = rw past (λ p₀ t. t);
  counts = rw (past, only.shown) (λ p₀ n₀ c. c);
  steady = only.steady;
}

pub serves_adds : {Fixed : Type 0} (s : Start) (p p' : List Entry) (a : Seen Fixed) (hooks : Option (List Entry)) → AddsAlone s p p' → Serves s p a hooks p' a hooks
serves_adds s p p' a hooks h = record { follows = h.follows a.shown.told hooks; turns = h.turns; counts = h.counts a.shown.faults; steady = steady_none }

pub serves_hand : {Fixed : Type 0} (s : Start) (p p' : List Entry) (a : Seen Fixed) (hooks hooks' : Option (List Entry)) → AddsHand s p hooks p' hooks' → Serves s p a hooks p' a hooks'
serves_hand s p p' a hooks hooks' h = record { follows = h.follows a.shown.told; turns = h.turns; counts = h.counts a.shown.faults; steady = steady_none }

pub serves_then : {Fixed : Type 0} (s : Start) (p q r : List Entry) (a b c : Seen Fixed) (hooks hooks' hooks'' : Option (List Entry)) → Serves s q b hooks' r c hooks'' → Serves s p a hooks q b hooks' → Serves s p a hooks r c hooks''
serves_then s p q r a b c hooks hooks' hooks'' h g = record {
  follows = λ p₀ world₀ hooks₀ l. h.follows p₀ world₀ hooks₀ (g.follows p₀ world₀ hooks₀ l);
  turns = λ p₀ t. h.turns p₀ (g.turns p₀ t);
  counts = λ p₀ n₀ c. h.counts p₀ n₀ (g.counts p₀ n₀ c);
  steady = steady_then g.steady h.steady;
}

-- entries are added, and room is taken
pub serves_both : {Fixed : Type 0} (s : Start) (p q r : List Entry) (a b : Seen Fixed) (hooks hooks' : Option (List Entry)) → AddsHand s p hooks q hooks' → AddsAlone s q r → OnlyRoom a b → Serves s p a hooks r b hooks'
serves_both s p q r a b hooks hooks' h adds only = serves_then s p q r a b b hooks hooks' hooks' (serves_adds s q r b hooks' adds) (serves_then s p p q a b b hooks hooks hooks' (serves_hand s p q b hooks hooks' h) (serves_room s p p a b hooks hooks only refl refl))

-- what hooks keep, where entries are added that are no calls on them
pub keeps_adds : {K Fixed : Type 0} (seen : K → Hooked Fixed) (rule : Fixed → List Entry → Entry → Type 0) (stands : K → List Entry → Type 0) (x : K) (s : Start) (p p' : List Entry) → AddsAlone s p p' → KeepsOn seen rule stands x p x p'
keeps_adds seen rule stands x s p p' adds = λ x₀ p₀ k. Past x p p' k (adds.quiet p Same)

-- what grows where neither is called continues where both may be
pub continues_grows : {K Fixed Plan : Type 0} (seen : K → Hooked Fixed) (rule : Fixed → List Entry → Entry → Type 0) (holds : K → List Entry → Type 0) (s : Start) (w : Worker) (j : Written) (a : Seen Plan) (x : K) (w' : Worker) (j' : Written) → Grows s w j w' j' → Continues seen rule holds s w j a x w' j' a x
continues_grows seen rule holds s w j a x w' j' g = record {
  stands = g.stands;
  serves = serves_adds s j.past j'.past a (seen x).told g.adds;
  keeps = keeps_adds seen rule holds x s j.past j'.past g.adds;
  room = λ r. record { in_journal = g.room r.in_journal; in_host = omega (arith, g.end_kept, r.in_host) };
}

-- only room was taken
pub hooks_none : {K Fixed : Type 0} (seen : K → Hooked Fixed) (holds : K → List Entry → Type 0) (x : K) → OnlyHooksRoom seen holds x x
hooks_none seen holds x = record { plan_kept = refl; told_kept = refl; short_kept = refl; place_kept = refl; spare_kept = omega arith; stands_kept = λ p h. h }

pub continues_room : {K Fixed Plan : Type 0} (seen : K → Hooked Fixed) (rule : Fixed → List Entry → Entry → Type 0) (holds : K → List Entry → Type 0) (s : Start) (w : Worker) (j j' : Written) (a b : Seen Plan) (x x' : K) → Stands s w j.past → j'.past ≡ j.past → j.spare ≤ j'.spare → OnlyRoom a b → OnlyHooksRoom seen holds x x' → Continues seen rule holds s w j a x w j' b x'
continues_room seen rule holds s w j j' a b x x' stands same kept only hooks_only = record {
  stands = rw same stands;
  serves = serves_room s j.past j'.past a b (seen x).told (seen x').told only same hooks_only.told_kept;
  keeps = λ x₀ p₀ k. rw same (Roomy x x' j.past k hooks_only);
  room = λ r. record { in_journal = omega (arith, r.in_journal, kept); in_host = omega (arith, r.in_host, only.kept) };
}

-- it continues, once room was taken
pub continues_after : {K Fixed Plan : Type 0} (seen : K → Hooked Fixed) (rule : Fixed → List Entry → Entry → Type 0) (holds : K → List Entry → Type 0) (s : Start) (v w : Worker) (j k l : Written) (a b c : Seen Plan) (x y z : K) → k.past ≡ j.past → j.spare ≤ k.spare → OnlyRoom a b → OnlyHooksRoom seen holds x y → Continues seen rule holds s v k b y w l c z → Continues seen rule holds s v j a x w l c z
continues_after seen rule holds s v w j k l a b c x y z same kept only hooks_only h = record {
  stands = h.stands;
  serves = serves_then s j.past k.past l.past a b c (seen x).told (seen y).told (seen z).told h.serves (serves_room s j.past k.past a b (seen x).told (seen y).told only same hooks_only.told_kept);
  keeps = λ x₀ p₀ before. h.keeps x₀ p₀ (rw same (Roomy x y j.past before hooks_only));
  room = λ r. h.room (record { in_journal = omega (arith, r.in_journal, kept); in_host = omega (arith, r.in_host, only.kept) });
}

-- it continues, once an end was kept with a job
pub continues_from : {K Fixed Plan : Type 0} (seen : K → Hooked Fixed) (rule : Fixed → List Entry → Entry → Type 0) (holds : K → List Entry → Type 0) (s : Start) (u v w : Worker) (j k : Written) (a b : Seen Plan) (x y : K) → end_room v ≡ end_room u → Continues seen rule holds s v j a x w k b y → Continues seen rule holds s u j a x w k b y
continues_from seen rule holds s u v w j k a b x y same h = record {
  stands = h.stands;
  serves = h.serves;
  keeps = h.keeps;
  room = λ r. h.room (record { in_journal = omega (arith, same, r.in_journal); in_host = omega (arith, same, r.in_host) });
}

-- more room may have been used
pub within_more : {K Fixed : Type 0} (seen : K → Hooked Fixed) (rule : Fixed → List Entry → Entry → Type 0) (holds : K → List Entry → Type 0) (s : Start) (n m n' m' : ℕ) (v w : Worker) (j k : Written) (x y : K) → n ≤ n' → m ≤ m' → GrowsWithin seen rule holds s n m v j x w k y → GrowsWithin seen rule holds s n' m' v j x w k y
within_more seen rule holds s n m n' m' v w j k x y more more_hooks g = record { grows = g.grows; end_kept = g.end_kept; in_journal = omega (arith, g.in_journal, more); in_hooks = omega (arith, g.in_hooks, more_hooks) }

-- it continues where only hooks were called
pub continues_grown : {K Fixed Plan : Type 0} (seen : K → Hooked Fixed) (rule : Fixed → List Entry → Entry → Type 0) (holds : K → List Entry → Type 0) (s : Start) (n m : ℕ) (v w : Worker) (j k : Written) (a : Seen Plan) (x y : K) → GrowsWithin seen rule holds s n m v j x w k y → (end_room v ≤ j.spare → end_room w ≤ k.spare) → Continues seen rule holds s v j a x w k a y
continues_grown seen rule holds s n m v w j k a x y g room = record {
  stands = g.grows.stands;
  serves = serves_hand s j.past k.past a (seen x).told (seen y).told g.grows.adds;
  keeps = g.grows.keeps;
  room = λ r. record { in_journal = room r.in_journal; in_host = omega (arith, g.end_kept, r.in_host) };
}

-- and once hooks may have been called
pub continues_hand : {K Fixed Plan : Type 0} (seen : K → Hooked Fixed) (rule : Fixed → List Entry → Entry → Type 0) (holds : K → List Entry → Type 0) (s : Start) (n m : ℕ) (u v w : Worker) (j k l : Written) (a b : Seen Plan) (x y z : K) → GrowsWithin seen rule holds s n m u j x v k y → (end_room u ≤ j.spare → end_room v ≤ k.spare) → Continues seen rule holds s v k a y w l b z → Continues seen rule holds s u j a x w l b z
continues_hand seen rule holds s n m u v w j k l a b x y z g room h =
    let before = continues_grown seen rule holds s n m u v j k a x y g room in
    record {
      stands = h.stands;
      serves = serves_then s j.past k.past l.past a a b (seen x).told (seen y).told (seen z).told h.serves before.serves;
      keeps = λ x₀ p₀ b₀. h.keeps x₀ p₀ (before.keeps x₀ p₀ b₀);
      room = λ r. h.room (before.room r);
    }

-- and then neither was called
pub continues_then : {K Fixed Plan : Type 0} (seen : K → Hooked Fixed) (rule : Fixed → List Entry → Entry → Type 0) (holds : K → List Entry → Type 0) (s : Start) (u v w : Worker) (j k l : Written) (a b : Seen Plan) (x y : K) → Continues seen rule holds s u j a x v k b y → Grows s v k w l → Continues seen rule holds s u j a x w l b y
continues_then seen rule holds s u v w j k l a b x y h g =
    let behind = continues_grows seen rule holds s v k b y w l g in
    record {
      stands = g.stands;
      serves = serves_then s j.past k.past l.past a b b (seen x).told (seen y).told (seen y).told behind.serves h.serves;
      keeps = λ x₀ p₀ before. behind.keeps x₀ p₀ (h.keeps x₀ p₀ before);
      room = λ r. behind.room (h.room r);
    }

-- ---- where the world isn't called

-- what is added where neither is called grows where hooks may be
pub hand_adds : {K Fixed : Type 0} (seen : K → Hooked Fixed) (rule : Fixed → List Entry → Entry → Type 0) (holds : K → List Entry → Type 0) (s : Start) (p : List Entry) (x : K) (w' : Worker) (p' : List Entry) → Stands s w' p' → AddsAlone s p p' → GrowsHand seen rule holds s p x w' p' x
hand_adds seen rule holds s p x w' p' stands adds = record {
  stands = stands;
  adds = record { follows = λ world. adds.follows world (seen x).told; turns = adds.turns; counts = adds.counts };
  keeps = keeps_adds seen rule holds x s p p' adds;
}

-- only room was taken in the hooks
pub hand_room : {K Fixed : Type 0} (seen : K → Hooked Fixed) (rule : Fixed → List Entry → Entry → Type 0) (holds : K → List Entry → Type 0) (s : Start) (p p' : List Entry) (x x' : K) (w : Worker) → Stands s w p → p' ≡ p → OnlyHooksRoom seen holds x x' → GrowsHand seen rule holds s p x w p' x'
hand_room seen rule holds s p p' x x' w stands same only = record {
  stands = rw same stands;
  adds = record { follows = rw (same, only.told_kept) (λ world p₀ world₀ hooks₀ l. l); turns = rw same (λ p₀ t. t); counts = rw same (λ n p₀ n₀ c. c) };
  keeps = λ x₀ p₀ k. rw same (Roomy x x' p k only);
}

-- it grows, once it did
pub hand_then : {K Fixed : Type 0} (seen : K → Hooked Fixed) (rule : Fixed → List Entry → Entry → Type 0) (holds : K → List Entry → Type 0) (s : Start) (p q r : List Entry) (x y z : K) (v w : Worker) → GrowsHand seen rule holds s p x v q y → GrowsHand seen rule holds s q y w r z → GrowsHand seen rule holds s p x w r z
hand_then seen rule holds s p q r x y z v w g h = record {
  stands = h.stands;
  adds = record {
    follows = λ world p₀ world₀ hooks₀ l. h.adds.follows world p₀ world₀ hooks₀ (g.adds.follows world p₀ world₀ hooks₀ l);
    turns = λ p₀ t. h.adds.turns p₀ (g.adds.turns p₀ t);
    counts = λ n p₀ n₀ c. h.adds.counts n p₀ n₀ (g.adds.counts n p₀ n₀ c);
  };
  keeps = λ x₀ p₀ k. h.keeps x₀ p₀ (g.keeps x₀ p₀ k);
}

-- ---- what hooks promise

-- where the worker stands for the longer journal, which names its own then, what was kept is promised
pub promised_grown : {K Fixed : Type 0} (seen : K → Hooked Fixed) (rule : Fixed → List Entry → Entry → Type 0) (holds : K → List Entry → Type 0) (s : Start) (w' : Worker) (p p' : List Entry) (x x' : K) → ((y : K) → KeepsOther (holds y)) → Stands s w' p' → KeepsOn seen rule holds x p x' p' → Promised seen rule holds x p x' p'
promised_grown seen rule holds s w' p p' x x' other stands keeps = promised seen rule holds x p x' p' other stands.own (keeps x p Still)
