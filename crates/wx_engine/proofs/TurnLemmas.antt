-- A turn is drawn and served.
use Rattle.std.proofs.Common.{◌≡◌, ℕ, ◌+◌, ◌≤◌, ◌<◌, Bool, true, false, cond, Option, List, ◌∷◌, refl, arith, ap, sym, subst, ◌∙◌}
use Rattle.std.specs.Prelude.{not}
use Rattle.wx_journal.specs.declared.entry.Entry.{Entry}
use Rattle.wx_journal.specs.declared.entry.Entry.TheVariants.{Turn as Turned, TurnFault}
use Rattle.wx_journal.specs.declared.entry.Turn.{Turn}
use Rattle.wx_journal.specs.Written.{Written}
use Rattle.wx_journal.specs.Names.{moment}
use Rattle.wx_journal.specs.Told.{tell, tell_if, tells, is_world, is_hooks, is_turn, anywhere}
use Rattle.wx_machine.specs.Case.{is_fault}
use Rattle.wx_worker.specs.declared.worker_state.Worker.{Worker}
use Rattle.wx_machine.specs.Start.{Start}
use Rattle.wx_machine.specs.Journal.{turn_count, early_count, turn_fault}
use Rattle.wx_machine.specs.Due.{agenda, Open, Due}
use Rattle.wx_machine.specs.Progress.{Progress}
use Rattle.wx_machine.specs.Steady.{IsSteady}
use Rattle.wx_machine.specs.RunLaws.{MomentsRise}
use Rattle.wx_machine.specs.Faults.{CountsOn}
use Rattle.wx_machine.proofs.FaultLaws.{counts_entry}
use Rattle.wx_machine.specs.Kept.{Past, Quiet, Same, More}
use Rattle.wx_machine.specs.Leads.{Leads, Follows, Then}
use Rattle.wx_worker.specs.Stands.{Stands}
use Rattle.wx_machine.specs.Turns.{SameTurns}
use Rattle.wx_machine.specs.Seen.{Seen, Hooked}
use Rattle.wx_worker.specs.Serves.{Continues}
use Rattle.wx_file_turns.specs.Serves.{Attends, AttendsAlone}
use Rattle.wx_machine.proofs.AllJobs.{same_turns}
use Rattle.wx_engine.specs.Run.{StaysInPlace, ServesTurn, ServesTurns}
use Rattle.wx_machine.specs.Told.{is_last, TellsNoEnd}
use Rattle.wx_worker.proofs.TurnLaws.{with_turn, at_any_turn, next_turn}
use Rattle.wx_worker.proofs.StandsLemmas.{stands_behind}

-- ---- a turn that was drawn, or the fault of one

-- it was due, is a call on the world alone, and no call on a child that failed
pub record Drawn (s : Start) (p : List Entry) (e : Entry) (p' : List Entry) : Type 0 where
  pub due : Due s p e
  pub world : is_world p e ≡ true
  pub hooks : is_hooks e ≡ false
  pub calm : is_fault e ≡ false
  pub grown : p' ≡ e ∷ p

pub turn_drawn : (s : Start) (t : Turn) (p p' : List Entry) → agenda s p ≡ Open → p' ≡ Turned t ∷ p → Drawn s p (Turned t) p'
turn_drawn s t p p' open_is grown = record { due = rw open_is tt; world = refl; hooks = refl; calm = refl; grown = grown }

pub fault_drawn : (s : Start) (code : ℕ) (p p' : List Entry) → agenda s p ≡ Open → p' ≡ TurnFault code ∷ p → Drawn s p (TurnFault code) p'
fault_drawn s code p p' open_is grown = record { due = rw open_is tt; world = refl; hooks = refl; calm = refl; grown = grown }

pub drawn_follows : (s : Start) (p₀ : List Entry) (w₀ h₀ : Option (List Entry)) (e : Entry) (p p' : List Entry) (w w' h : Option (List Entry)) → Drawn s p e p' → Follows s p₀ w₀ h₀ p w h → w' ≡ tell e w → Follows s p₀ w₀ h₀ p' w' h
drawn_follows s p₀ w₀ h₀ e p p' w w' h d so_far told = λ q wq hq l.
    let on : Leads s q wq hq (e ∷ p) (tell_if (is_world p e) e w) (tell_if (is_hooks e) e h) = Then e p w h (so_far q wq hq l) d.due in
    rw (d.grown, told) (rw (d.world, d.hooks) at on)

pub drawn_quiet : (s : Start) (e : Entry) (p p' : List Entry) → Drawn s p e p' → Quiet p p'
drawn_quiet s e p p' d = rw d.grown (More e p Same d.hooks)

pub drawn_counts : (s : Start) (e : Entry) (p₀ p p' : List Entry) (n₀ n n' : ℕ) → Drawn s p e p' → CountsOn p₀ n₀ p n → n ≤ n' → CountsOn p₀ n₀ p' n'
drawn_counts s e p₀ p p' n₀ n n' d so_far later = λ q m before. rw d.grown (counts_entry e p n n' d.calm later q m (so_far q m before))

-- what a journal says of its turns after one more, and what was served in it
pub record Served (t : Turn) (p p' : List Entry) : Type 0 where
  pub count : turn_count p' ≡ turn_count p + 1
  pub early : early_count p' ≤ early_count p + 1
  pub fault : turn_fault p' ≡ turn_fault p
  pub now : moment p' ≡ t.at
  pub rise : moment p ≤ t.at → MomentsRise p → MomentsRise p'
  pub told : (before : Option (List Entry)) → tells (anywhere is_turn) p' before ≡ tell (Turned t) (tells (anywhere is_turn) p before)

early_one : (t : Turn) (p : List Entry) → early_count (Turned t ∷ p) ≤ early_count p + 1
early_one t p = by_kind (is_last t.kind)
  where
    by_kind : (last : Bool) → cond (not last) (early_count p + 1) (early_count p) ≤ early_count p + 1
    by_kind true = omega arith
    by_kind false = omega arith

-- but for a last turn one turn less is left
pub early_drawn : (t : Turn) (p : List Entry) (left left' n : ℕ) → (is_last t.kind ≡ false → left' < left) → early_count p + left ≤ n → early_count (Turned t ∷ p) ≤ n
early_drawn t p left left' n falls few = by_kind (is_last t.kind) falls
  where
    by_kind : (last : Bool) → (last ≡ false → left' < left) → cond (not last) (early_count p + 1) (early_count p) ≤ n
    by_kind true falls = omega (arith, few)
    by_kind false falls = let less = falls refl in omega (arith, less, few)

pub served : (t : Turn) (p mid p' : List Entry) → mid ≡ Turned t ∷ p → SameTurns mid p' → Served t p p'
served t p mid p' grown stays =
    let same : SameTurns (Turned t ∷ p) p' = subst (λ (q : List Entry). SameTurns q p') grown stays in record {
      count = same.count;
      early = let one = early_one t p in omega (arith, one, same.early);
      fault = same.fault;
      now = same.now;
      rise = λ later so_far. same.rise (later, so_far);
      told = λ before. same.told before;
    }

-- A worker that stood for the journal before a turn stands for it with that turn, where this tells no end of a child and the worker
-- keeps what it says of the end of the input.
pub turn_stands : (s : Start) (w w' : Worker) (t : Turn) (p p' : List Entry) → Stands s w p → agenda s p ≡ Open → p' ≡ Turned t ∷ p → TellsNoEnd t.kind → w' ≡ with_turn t.kind w → Stands s w' p'
turn_stands s w w' t p p' stands open_is grown none kept = rw kept (at_any_turn s w t.at t.kind p' none (next_turn s w p p' t.at t.kind stands open_is grown)).stands

-- and with the fault of one
pub fault_stands : (s : Start) (w : Worker) (code : ℕ) (p p' : List Entry) → Stands s w p → p' ≡ TurnFault code ∷ p → Stands s w p'
fault_stands s w code p p' stands grown = rw grown (stands_behind s w (TurnFault code) p refl tt stands)

-- ---- what serving a turn leaves

steady_in_place : {Plan : Type 0} (a b : Seen Plan) → IsSteady a b → StaysInPlace a b
steady_in_place a b h = record {
  plan_kept = h.plan_kept;
  progress_kept = h.progress_kept ∙ ap (λ (k : Progress). record a.progress { maker_faults = k.maker_faults }) (sym h.progress_kept);
  place_kept = h.place_kept;
  looked_kept = h.looked_kept;
}

-- a turn of any other kind
pub serves_other : {K Fixed Plan : Type 0} (seen : K → Hooked Fixed) (rule : Fixed → List Entry → Entry → Type 0) (holds : K → List Entry → Type 0) (s : Start) (w : Worker) (j : Written) (a : Seen Plan) (x : K) (w' : Worker) (j' : Written) (b : Seen Plan) (x' : K) → Continues seen rule holds s w j a x w' j' b x' → ServesTurn seen rule holds s w j a x w' j' b x'
serves_other seen rule holds s w j a x w' j' b x' h = record {
  stands = h.stands;
  follows = h.serves.follows;
  turns = h.serves.turns;
  counts = h.serves.counts;
  steady = steady_in_place a b h.serves.steady;
  keeps = h.keeps;
  room = h.room;
}

-- a turn about what is watched
pub serves_files : {K Fixed Plan : Type 0} (seen : K → Hooked Fixed) (rule : Fixed → List Entry → Entry → Type 0) (holds : K → List Entry → Type 0) (s : Start) (w : Worker) (j : Written) (a : Seen Plan) (x : K) (w' : Worker) (j' : Written) (b : Seen Plan) (x' : K) → Attends seen rule holds s w j a x w' j' b x' → ServesTurn seen rule holds s w j a x w' j' b x'
serves_files seen rule holds s w j a x w' j' b x' h = record {
  stands = h.stands;
  follows = h.serves.follows;
  turns = h.serves.turns;
  counts = h.serves.counts;
  steady = record { plan_kept = h.serves.steady.plan_kept; progress_kept = h.serves.steady.progress_kept; place_kept = h.serves.steady.place_kept; looked_kept = h.serves.steady.looked_kept };
  keeps = h.keeps;
  room = h.room;
}

-- one in which hooks aren't called
pub serves_alone : {K Fixed Plan : Type 0} (seen : K → Hooked Fixed) (rule : Fixed → List Entry → Entry → Type 0) (holds : K → List Entry → Type 0) (s : Start) (w : Worker) (j : Written) (a : Seen Plan) (x : K) (j' : Written) (b : Seen Plan) → AttendsAlone s w j a j' b → ServesTurn seen rule holds s w j a x w j' b x
serves_alone seen rule holds s w j a x j' b h =
    let served = h.serves (seen x).told in record {
      stands = h.stands;
      follows = served.follows;
      turns = served.turns;
      counts = served.counts;
      steady = record { plan_kept = served.steady.plan_kept; progress_kept = served.steady.progress_kept; place_kept = served.steady.place_kept; looked_kept = served.steady.looked_kept };
      keeps = λ x₀ p₀ k. Past x j.past j'.past k (h.quiet j.past Same);
      room = h.room;
    }

-- ---- turns were served, and then one more

pub turns_then : {K Fixed Plan : Type 0} (seen : K → Hooked Fixed) (rule : Fixed → List Entry → Entry → Type 0) (holds : K → List Entry → Type 0) (s : Start) (p : List Entry) (a : Seen Plan) (hooks : Option (List Entry)) (w : Worker) (j : Written) (b : Seen Plan) (x : K) (w' : Worker) (j' : Written) (c : Seen Plan) (x' : K) → ServesTurns s p a hooks j.past b (seen x).told → ServesTurn seen rule holds s w j b x w' j' c x' → ServesTurns s p a hooks j'.past c (seen x').told
turns_then seen rule holds s p a hooks w j b x w' j' c x' g h =
    let same = h.turns j.past (same_turns j.past) in record {
      follows = λ p₀ world₀ hooks₀ l. h.follows p₀ world₀ hooks₀ (g.follows p₀ world₀ hooks₀ l);
      turns = λ before e. ap (λ k. k.turns) h.steady.progress_kept ∙ g.turns before e ∙ sym (same.told before);
      counts = λ p₀ n₀ k. h.counts p₀ n₀ (g.counts p₀ n₀ k);
      count = omega (arith, same.count, g.count);
      early = omega (arith, same.early, g.early);
      plan_kept = h.steady.plan_kept ∙ g.plan_kept;
      place_kept = h.steady.place_kept ∙ g.place_kept;
    }
