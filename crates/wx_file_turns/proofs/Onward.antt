-- What calls of a turn about what is watched leave, one after another.
use Rattle.std.proofs.Common.{◌≡◌, ◌≤◌, ℕ, List, arith, refl, ap, sym, ◌∙◌}
use Rattle.std.specs.Prelude.{Option}
use Rattle.wx_scan.specs.Looked.{Looked, OnlyLooks}
use Rattle.wx_journal.specs.declared.entry.Entry.{Entry}
use Rattle.wx_journal.specs.Written.{Written}
use Rattle.wx_machine.specs.Start.{Start}
use Rattle.wx_machine.specs.Progress.{Progress}
use Rattle.wx_machine.specs.Seen.{Seen, Hooked, Shown}
use Rattle.wx_machine.specs.Kept.{OnlyHooksRoom, Same, Past}
use Rattle.wx_machine.specs.Settings.{settings}
use Rattle.wx_machine.specs.Files.{Source}
use Rattle.wx_machine.specs.Due.{is_quitting}
use Rattle.wx_machine.specs.Steady.{OnlyRoom, StaysLooked}
use Rattle.wx_machine.proofs.SteadyLemmas.{looked_none, looked_then}
use Rattle.wx_worker.specs.declared.worker_state.Worker.{Worker}
use Rattle.wx_worker.specs.Serves.{AddsAlone, AddsHand, Grows}
use Rattle.wx_worker.specs.Stands.{Stands}
use Rattle.wx_worker.proofs.Serving.{hand_then, hand_room, keeps_adds}
use Rattle.wx_file_turns.specs.Serves.{unmade_count, CountsUnmade, LeavesWatch, OnlyWatched, ServesWatch, Attends, AttendsAlone, AttendsHand, GrowsAlone, CountsOnward}
use Rattle.wx_file_turns.specs.Judged.{StepsHand}
use Rattle.wx_file_turns.specs.Stepping.{StaysBrought, StepsOn}

-- ---- what was seen

pub looked_on : (a b : Looked) → OnlyLooks a b → StaysLooked a b
looked_on a b h = record {
  looks_kept = h.looks;
  faults_kept = h.faults;
  exact_kept = λ e. h.same.exact ∙ e;
  shape_kept = λ t e. h.same.shape ∙ e;
  tree_kept = λ t e. h.same.tree;
}

pub watched_none : {Plan : Type 0} {a : Seen Plan} → OnlyWatched a a
watched_none = record { plan_kept = refl; progress_kept = refl; host_faults = refl; place_kept = refl; looked_kept = looked_none }

pub watched_then : {Plan : Type 0} {a b c : Seen Plan} → OnlyWatched a b → OnlyWatched b c → OnlyWatched a c
watched_then {Plan} {a} {b} {c} h g = record {
  plan_kept = g.plan_kept ∙ h.plan_kept;
  progress_kept = g.progress_kept ∙ ap (λ (x : Progress). record x { maker_faults = c.progress.maker_faults }) h.progress_kept;
  host_faults = g.host_faults ∙ h.host_faults;
  place_kept = g.place_kept ∙ h.place_kept;
  looked_kept = looked_then h.looked_kept g.looked_kept;
}

-- only room was taken
pub watched_room : {Plan : Type 0} {a b : Seen Plan} → OnlyRoom a b → OnlyWatched a b
watched_room {Plan} {a} {b} only = record {
  plan_kept = only.steady.plan_kept;
  progress_kept = only.steady.progress_kept ∙ sym (ap (λ (x : Progress). record a.progress { maker_faults = x.maker_faults }) only.steady.progress_kept);
  host_faults = ap (λ (x : Shown). x.faults) only.shown;
  place_kept = only.steady.place_kept;
  looked_kept = only.steady.looked_kept;
}

-- ---- how many backends couldn't be made

pub unmade_none : (p : List Entry) (n : ℕ) → CountsUnmade p n p n
unmade_none p n = record { more = omega arith; later = omega arith; rose = omega arith }

pub unmade_then : (p q r : List Entry) (n m l : ℕ) → CountsUnmade p n q m → CountsUnmade q m r l → CountsUnmade p n r l
unmade_then p q r n m l h g = record { more = omega (arith, h.more, g.more); later = omega (arith, h.later, g.later); rose = omega (arith, h.more, g.more, h.later, g.later, h.rose, g.rose) }

pub unmade_same : (p p' : List Entry) (n n' : ℕ) → unmade_count p' ≡ unmade_count p → n' ≡ n → CountsUnmade p n p' n'
unmade_same p p' n n' same kept = record { more = omega (arith, same); later = omega (arith, kept); rose = omega (arith, same, kept) }

-- ---- what was served

pub serves_then : {Plan : Type 0} (s : Start) (p q r : List Entry) (a b c : Seen Plan) (hooks hooks' hooks'' : Option (List Entry)) → ServesWatch s p a hooks q b hooks' → ServesWatch s q b hooks' r c hooks'' → ServesWatch s p a hooks r c hooks''
serves_then s p q r a b c hooks hooks' hooks'' g h = record {
  follows = λ p₀ world₀ hooks₀ l. h.follows p₀ world₀ hooks₀ (g.follows p₀ world₀ hooks₀ l);
  turns = λ p₀ t. h.turns p₀ (g.turns p₀ t);
  counts = λ p₀ n₀ c. h.counts p₀ n₀ (g.counts p₀ n₀ c);
  unmade = unmade_then p q r a.progress.maker_faults b.progress.maker_faults c.progress.maker_faults g.unmade h.unmade;
  steady = watched_then g.steady h.steady;
  settings_kept = h.settings_kept ∙ g.settings_kept;
  quits_kept = h.quits_kept ∙ g.quits_kept;
}

-- only room was taken
pub serves_room : {Plan : Type 0} (s : Start) (p p' : List Entry) (a b : Seen Plan) (hooks hooks' : Option (List Entry)) → OnlyRoom a b → p' ≡ p → hooks' ≡ hooks → ServesWatch s p a hooks p' b hooks'
serves_room s p p' a b hooks hooks' only past told = record {
  follows = rw (past, told, only.shown) (λ p₀ world₀ hooks₀ l. l);
  turns = rw past (λ p₀ t. t);
  counts = rw (past, only.shown) (λ p₀ n₀ c. c);
  unmade = unmade_same p p' a.progress.maker_faults b.progress.maker_faults (ap unmade_count past) (ap (λ (x : Progress). x.maker_faults) only.steady.progress_kept);
  steady = watched_room only;
  settings_kept = ap (settings s) past;
  quits_kept = ap is_quitting past;
}

-- hooks alone were called
pub serves_hand : {Plan : Type 0} (s : Start) (p p' : List Entry) (a : Seen Plan) (hooks hooks' : Option (List Entry)) → AddsHand s p hooks p' hooks' → LeavesWatch s p p' → ServesWatch s p a hooks p' a hooks'
serves_hand s p p' a hooks hooks' h leaves = record {
  follows = h.follows a.shown.told;
  turns = h.turns;
  counts = h.counts a.shown.faults;
  unmade = unmade_same p p' a.progress.maker_faults a.progress.maker_faults leaves.unmade_kept refl;
  steady = watched_none;
  settings_kept = leaves.settings_kept;
  quits_kept = leaves.quits_kept;
}

-- neither was called
pub serves_adds : {Plan : Type 0} (s : Start) (p p' : List Entry) (a : Seen Plan) (hooks : Option (List Entry)) → AddsAlone s p p' → settings s p' ≡ settings s p → is_quitting p' ≡ is_quitting p → unmade_count p' ≡ unmade_count p → ServesWatch s p a hooks p' a hooks
serves_adds s p p' a hooks h settled quits same = record {
  follows = h.follows a.shown.told hooks;
  turns = h.turns;
  counts = h.counts a.shown.faults;
  unmade = unmade_same p p' a.progress.maker_faults a.progress.maker_faults same refl;
  steady = watched_none;
  settings_kept = settled;
  quits_kept = quits;
}

-- it was looked at alone
pub serves_looked : {Plan : Type 0} (s : Start) (p : List Entry) (a b : Seen Plan) (looked : Looked) (hooks : Option (List Entry)) → b ≡ record a { looked = looked } → OnlyLooks a.looked looked → ServesWatch s p a hooks p b hooks
serves_looked s p a b looked hooks same only = rw same (record {
  follows = λ p₀ world₀ hooks₀ l. l;
  turns = λ p₀ t. t;
  counts = λ p₀ n₀ c. c;
  unmade = unmade_none p a.progress.maker_faults;
  steady = record { plan_kept = refl; progress_kept = refl; host_faults = refl; place_kept = refl; looked_kept = looked_on a.looked looked only };
  settings_kept = refl;
  quits_kept = refl;
})

-- ---- what a step leaves

pub leaves_none : (s : Start) (p : List Entry) → LeavesWatch s p p
leaves_none s p = record { settings_kept = refl; source_kept = refl; quits_kept = refl; steps_kept = refl; work_kept = refl; unmade_kept = refl; items_kept = refl }

pub leaves_then : (s : Start) (p q r : List Entry) → LeavesWatch s p q → LeavesWatch s q r → LeavesWatch s p r
leaves_then s p q r h g = record {
  settings_kept = g.settings_kept ∙ h.settings_kept;
  source_kept = g.source_kept ∙ h.source_kept;
  quits_kept = g.quits_kept ∙ h.quits_kept;
  steps_kept = g.steps_kept ∙ h.steps_kept;
  work_kept = g.work_kept ∙ h.work_kept;
  unmade_kept = g.unmade_kept ∙ h.unmade_kept;
  items_kept = g.items_kept ∙ h.items_kept;
}

pub leaves_same : (s : Start) (p p' : List Entry) → p' ≡ p → LeavesWatch s p p'
leaves_same s p p' same = rw same (leaves_none s p)

pub onward_none : {Plan : Type 0} (p : List Entry) (a : Seen Plan) → CountsOnward p a p a
onward_none p a = record { steps_kept = refl; work_more = omega arith; looks_more = omega arith }

pub onward_then : {Plan : Type 0} (p q r : List Entry) (a b c : Seen Plan) → CountsOnward p a q b → CountsOnward q b r c → CountsOnward p a r c
onward_then p q r a b c h g = record { steps_kept = g.steps_kept ∙ h.steps_kept; work_more = omega (arith, h.work_more, g.work_more); looks_more = omega (arith, h.looks_more, g.looks_more) }

pub onward_leaves : {Plan : Type 0} (s : Start) (p p' : List Entry) (a : Seen Plan) → LeavesWatch s p p' → CountsOnward p a p' a
onward_leaves s p p' a h = record { steps_kept = h.steps_kept; work_more = omega (arith, h.work_kept); looks_more = omega arith }

-- ---- what waits

pub brought_none : (s : Start) (p : List Entry) → StaysBrought s p p
brought_none s p = record { lane_kept = refl; asks_kept = refl; since_kept = refl; fence_kept = refl; fenced_kept = refl; items_kept = refl }

pub brought_same : (s : Start) (p p' : List Entry) → p' ≡ p → StaysBrought s p p'
brought_same s p p' same = rw same (brought_none s p)

pub brought_then : (s : Start) (p q r : List Entry) → StaysBrought s p q → StaysBrought s q r → StaysBrought s p r
brought_then s p q r h g = record {
  lane_kept = g.lane_kept ∙ h.lane_kept;
  asks_kept = g.asks_kept ∙ h.asks_kept;
  since_kept = g.since_kept ∙ h.since_kept;
  fence_kept = g.fence_kept ∙ h.fence_kept;
  fenced_kept = g.fenced_kept ∙ h.fenced_kept;
  items_kept = g.items_kept ∙ h.items_kept;
}

pub brought_leaves : (s : Start) (p p' : List Entry) → LeavesWatch s p p' → StaysBrought s p p'
brought_leaves s p p' h = record {
  lane_kept = ap (λ (x : Source). x.lane) h.source_kept;
  asks_kept = ap (λ (x : Source). x.asks) h.source_kept;
  since_kept = ap (λ (x : Source). x.since) h.source_kept;
  fence_kept = ap (λ (x : Source). x.fence) h.source_kept;
  fenced_kept = ap (λ (x : Source). x.fenced) h.source_kept;
  items_kept = h.items_kept;
}

-- ---- with worker and hooks

module _ {K Fixed : Type 0} (seen : K → Hooked Fixed) (rule : Fixed → List Entry → Entry → Type 0) (holds : K → List Entry → Type 0) (s : Start) where
  pub attends_then : {Plan : Type 0} (u v w : Worker) (j k l : Written) (a b c : Seen Plan) (x y z : K) → Attends seen rule holds s u j a x v k b y → Attends seen rule holds s v k b y w l c z → Attends seen rule holds s u j a x w l c z
  attends_then u v w j k l a b c x y z g h = record {
    stands = h.stands;
    serves = serves_then s j.past k.past l.past a b c (seen x).told (seen y).told (seen z).told g.serves h.serves;
    keeps = λ x₀ p₀ kept. h.keeps x₀ p₀ (g.keeps x₀ p₀ kept);
    room = λ r. h.room (g.room r);
  }

  pub attends_none : {Plan : Type 0} (w : Worker) (j : Written) (a : Seen Plan) (x : K) → Stands s w j.past → Attends seen rule holds s w j a x w j a x
  attends_none w j a x stands = record {
    stands = stands;
    serves = serves_hand s j.past j.past a (seen x).told (seen x).told (record { follows = λ world p₀ world₀ hooks₀ l. l; turns = λ p₀ t. t; counts = λ n p₀ n₀ c. c }) (leaves_none s j.past);
    keeps = λ x₀ p₀ k. k;
    room = λ r. r;
  }

  pub attends_hand : {Plan : Type 0} (w : Worker) (j : Written) (a : Seen Plan) (x : K) (w' : Worker) (j' : Written) (x' : K) → StepsHand seen rule holds s w j x w' j' x' → Attends seen rule holds s w j a x w' j' a x'
  attends_hand w j a x w' j' x' h = record {
    stands = h.grows.stands;
    serves = serves_hand s j.past j'.past a (seen x).told (seen x').told h.grows.adds h.leaves;
    keeps = h.grows.keeps;
    room = λ r. record { in_journal = h.room r.in_journal; in_host = omega (arith, h.end_kept, r.in_host) };
  }

  pub attends_alone : {Plan : Type 0} (w : Worker) (j : Written) (a : Seen Plan) (x : K) (j' : Written) (b : Seen Plan) → AttendsAlone s w j a j' b → Attends seen rule holds s w j a x w j' b x
  attends_alone w j a x j' b h = record {
    stands = h.stands;
    serves = h.serves (seen x).told;
    keeps = λ x₀ p₀ k. Past x j.past j'.past k (h.quiet j.past Same);
    room = h.room;
  }

  pub attends_grown : {Plan : Type 0} (w : Worker) (j : Written) (a : Seen Plan) (x : K) (j' : Written) → GrowsAlone s w j j' → Attends seen rule holds s w j a x w j' a x
  attends_grown w j a x j' h = record {
    stands = h.grows.stands;
    serves = serves_adds s j.past j'.past a (seen x).told h.grows.adds h.settings_kept h.quits_kept h.unmade_kept;
    keeps = keeps_adds seen rule holds x s j.past j'.past h.grows.adds;
    room = λ r. record { in_journal = h.grows.room r.in_journal; in_host = r.in_host };
  }

  -- the worker may have changed, and hooks may have been called
  pub attends_heard : {Plan : Type 0} (w : Worker) (j : Written) (a : Seen Plan) (x : K) (w' : Worker) (j' : Written) (x' : K) → AttendsHand seen rule holds s w j x w' j' x' → Attends seen rule holds s w j a x w' j' a x'
  attends_heard w j a x w' j' x' h = record {
    stands = h.grows.stands;
    serves = record {
      follows = h.grows.adds.follows a.shown.told;
      turns = h.grows.adds.turns;
      counts = h.grows.adds.counts a.shown.faults;
      unmade = unmade_same j.past j'.past a.progress.maker_faults a.progress.maker_faults h.unmade_kept refl;
      steady = watched_none;
      settings_kept = h.settings_kept;
      quits_kept = h.quits_kept;
    };
    keeps = h.grows.keeps;
    room = λ r. record { in_journal = h.room r.in_journal; in_host = omega (arith, h.end_kept, r.in_host) };
  }

  -- the worker may have changed
  pub attends_adds : {Plan : Type 0} (w : Worker) (j : Written) (a : Seen Plan) (x : K) (w' : Worker) (j' : Written) → Grows s w j w' j' → settings s j'.past ≡ settings s j.past → is_quitting j'.past ≡ is_quitting j.past → unmade_count j'.past ≡ unmade_count j.past → Attends seen rule holds s w j a x w' j' a x
  attends_adds w j a x w' j' h settled quits same = record {
    stands = h.stands;
    serves = serves_adds s j.past j'.past a (seen x).told h.adds settled quits same;
    keeps = keeps_adds seen rule holds x s j.past j'.past h.adds;
    room = λ r. record { in_journal = h.room r.in_journal; in_host = omega (arith, h.end_kept, r.in_host) };
  }

  -- it was looked at
  pub attends_looked : {Plan : Type 0} (w : Worker) (j : Written) (a b : Seen Plan) (x : K) (looked : Looked) → Stands s w j.past → b ≡ record a { looked = looked } → OnlyLooks a.looked looked → Attends seen rule holds s w j a x w j b x
  attends_looked w j a b x looked stands same only = record {
    stands = stands;
    serves = serves_looked s j.past a b looked (seen x).told same only;
    keeps = λ x₀ p₀ k. k;
    room = λ r. record { in_journal = r.in_journal; in_host = rw same r.in_host };
  }

  -- ---- of a step

  pub hand_none : (w : Worker) (j : Written) (x : K) → Stands s w j.past → StepsHand seen rule holds s w j x w j x
  hand_none w j x stands = record {
    grows = record { stands = stands; adds = record { follows = λ world p₀ world₀ hooks₀ l. l; turns = λ p₀ t. t; counts = λ n p₀ n₀ c. c }; keeps = λ x₀ p₀ k. k };
    leaves = leaves_none s j.past;
    end_kept = refl;
    room = λ r. r;
  }

  pub steps_hand_then : (u v w : Worker) (j k l : Written) (x y z : K) → StepsHand seen rule holds s u j x v k y → StepsHand seen rule holds s v k y w l z → StepsHand seen rule holds s u j x w l z
  steps_hand_then u v w j k l x y z g h = record {
    grows = hand_then seen rule holds s j.past k.past l.past x y z v w g.grows h.grows;
    leaves = leaves_then s j.past k.past l.past g.leaves h.leaves;
    end_kept = h.end_kept ∙ g.end_kept;
    room = λ r. h.room (g.room r);
  }

  -- only room was taken
  pub steps_hand_room : (w : Worker) (j k : Written) (x y : K) → Stands s w j.past → k.past ≡ j.past → j.spare ≤ k.spare → OnlyHooksRoom seen holds x y → StepsHand seen rule holds s w j x w k y
  steps_hand_room w j k x y stands same kept only = record {
    grows = hand_room seen rule holds s j.past k.past x y w stands same only;
    leaves = leaves_same s j.past k.past same;
    end_kept = refl;
    room = λ r. omega (arith, r, kept);
  }

  pub steps_then : {Plan : Type 0} (u v w : Worker) (j k l : Written) (a b c : Seen Plan) (x y z : K) → StepsOn seen rule holds s u j a x v k b y → StepsOn seen rule holds s v k b y w l c z → StepsOn seen rule holds s u j a x w l c z
  steps_then u v w j k l a b c x y z g h = record {
    attends = attends_then u v w j k l a b c x y z g.attends h.attends;
    onward = onward_then j.past k.past l.past a b c g.onward h.onward;
    brought = brought_then s j.past k.past l.past g.brought h.brought;
  }

  pub steps_none : {Plan : Type 0} (w : Worker) (j : Written) (a : Seen Plan) (x : K) → Stands s w j.past → StepsOn seen rule holds s w j a x w j a x
  steps_none w j a x stands = record { attends = attends_none w j a x stands; onward = onward_none j.past a; brought = brought_none s j.past }

  pub steps_by_hand : {Plan : Type 0} (w : Worker) (j : Written) (a : Seen Plan) (x : K) (w' : Worker) (j' : Written) (x' : K) → StepsHand seen rule holds s w j x w' j' x' → StepsOn seen rule holds s w j a x w' j' a x'
  steps_by_hand w j a x w' j' x' h = record { attends = attends_hand w j a x w' j' x' h; onward = onward_leaves s j.past j'.past a h.leaves; brought = brought_leaves s j.past j'.past h.leaves }

  pub steps_alone : {Plan : Type 0} (w : Worker) (j : Written) (a : Seen Plan) (x : K) (j' : Written) (b : Seen Plan) → AttendsAlone s w j a j' b → CountsOnward j.past a j'.past b → StaysBrought s j.past j'.past → StepsOn seen rule holds s w j a x w j' b x
  steps_alone w j a x j' b h onward brought = record { attends = attends_alone w j a x j' b h; onward = onward; brought = brought }

  pub steps_looked : {Plan : Type 0} (w : Worker) (j : Written) (a b : Seen Plan) (x : K) (looked : Looked) → Stands s w j.past → b ≡ record a { looked = looked } → OnlyLooks a.looked looked → StepsOn seen rule holds s w j a x w j b x
  steps_looked w j a b x looked stands same only = record {
    attends = attends_looked w j a b x looked stands same only;
    onward = rw same (record { steps_kept = refl; work_more = omega arith; looks_more = only.looks });
    brought = brought_none s j.past;
  }

-- ---- where hooks aren't called

pub alone_then : {Plan : Type 0} (s : Start) (w : Worker) (j k l : Written) (a b c : Seen Plan) → AttendsAlone s w j a k b → AttendsAlone s w k b l c → AttendsAlone s w j a l c
alone_then s w j k l a b c g h = record {
  stands = h.stands;
  serves = λ hooks. serves_then s j.past k.past l.past a b c hooks hooks hooks (g.serves hooks) (h.serves hooks);
  quiet = λ p₀ q. h.quiet p₀ (g.quiet p₀ q);
  room = λ r. h.room (g.room r);
}

pub alone_none : {Plan : Type 0} (s : Start) (w : Worker) (j : Written) (a : Seen Plan) → Stands s w j.past → AttendsAlone s w j a j a
alone_none s w j a stands = record {
  stands = stands;
  serves = λ hooks. serves_hand s j.past j.past a hooks hooks (record { follows = λ world p₀ world₀ hooks₀ l. l; turns = λ p₀ t. t; counts = λ n p₀ n₀ c. c }) (leaves_none s j.past);
  quiet = λ p₀ q. q;
  room = λ r. r;
}

-- only room was taken
pub alone_room : {Plan : Type 0} (s : Start) (w : Worker) (j k : Written) (a b : Seen Plan) → Stands s w j.past → k.past ≡ j.past → j.spare ≤ k.spare → OnlyRoom a b → AttendsAlone s w j a k b
alone_room s w j k a b stands same kept only = record {
  stands = rw same stands;
  serves = λ hooks. serves_room s j.past k.past a b hooks hooks only same refl;
  quiet = rw same (λ p₀ q. q);
  room = λ r. record { in_journal = omega (arith, r.in_journal, kept); in_host = omega (arith, r.in_host, only.kept) };
}
