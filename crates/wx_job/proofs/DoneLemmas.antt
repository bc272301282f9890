-- How a case that may spawn was done, by how its parts were.
use Rattle.std.proofs.Common.{◌≡◌, ℕ, Bool, true, false, cond, List, ◌∷◌, Option, Some, Result, Ok, Err, refl}
use Rattle.std.specs.Prelude.{is_err, OnOk, OnErr, option_map}
use Rattle.std.specs.Result.{IsErr}
use Rattle.std.proofs.lemmas.Bool.{not-true}
use Rattle.wx_command.specs.declared.command.Command.{Command}
use Rattle.wx_control.specs.declared.control.Control.{Control}
use Rattle.wx_control.specs.declared.control.Control.TheVariants.{NextEnding}
use Rattle.wx_journal.specs.declared.child.SpawnTag.{SpawnTag}
use Rattle.wx_machine.specs.declared.state.CommandState.{CommandState}
use Rattle.wx_machine.specs.declared.state.CommandState.TheVariants.{Pending}
use Rattle.wx_machine.specs.States.{is_finished}
use Rattle.wx_job.specs.Prepared.{fresh_or}
use Rattle.wx_text.specs.declared.list.Memory.{Memory}
use Rattle.wx_control.specs.declared.id.Id.{Id}
use Rattle.wx_journal.specs.declared.entry.Entry.{Entry}
use Rattle.wx_journal.specs.declared.entry.Entry.TheVariants.{Pick, GraceOver}
use Rattle.wx_machine.specs.Seen.{Seen}
use Rattle.wx_machine.specs.Table.{Plan, Done, Adds, Kit, adds, raises, reap, waiters, fresh_by, fresh, row, kit_after, is_parking, fresh_over, over}
use Rattle.wx_machine.specs.declared.grace.Grace.{Grace}
use Rattle.wx_machine.specs.Case.{PlanRan, PlanFollows, PlanGivesUp, HookedOnly}
use Rattle.wx_machine.proofs.CaseLemmas.{ran-says, brings-adds, gives-up}
use Rattle.wx_job.specs.declared.grace.Standing.{Standing}
use Rattle.wx_job.specs.declared.task.JobTask.{JobTask}
use Rattle.wx_job.specs.Calls.{HasDone}

picks : {Fixed : Type 0} (id : Id) (t : ℕ) (plan : Plan) (p : List Entry) (b : Seen Fixed) (hooks : Option (List Entry)) (k₀ : Plan) (p₀ : List Entry) (a₀ : Seen Fixed) (hooks₀ : Option (List Entry)) → PlanRan k₀ p₀ a₀ hooks₀ (adds (Pick id t) plan) p b hooks → PlanRan k₀ p₀ a₀ hooks₀ plan (Pick id t ∷ p) b hooks
picks id t plan p b hooks k₀ p₀ a₀ hooks₀ r = ran-says k₀ p₀ a₀ hooks₀ (Pick id t) (Adds (Pick id t)) plan Done p b hooks refl refl refl refl r (brings-adds p (Pick id t))

-- a control was picked, and then its case was done
pub done_picked : {Fixed A : Type 0} (r : Result A Memory) (k : JobTask) (spawning : Bool) (id : Id) (t : ℕ) (plan : Plan) (p : List Entry) (a : Seen Fixed) (hooks : Option (List Entry)) (p' : List Entry) (b : Seen Fixed) (hooks' : Option (List Entry)) → HasDone r k spawning plan (Pick id t ∷ p) a hooks p' b hooks' → HasDone r k spawning (adds (Pick id t) plan) p a hooks p' b hooks'
done_picked (Ok u) k spawning id t plan p a hooks p' b hooks' d = record { ok = λ k₀ p₀ a₀ hooks₀ r. d.ok k₀ p₀ a₀ hooks₀ (picks id t plan p a hooks k₀ p₀ a₀ hooks₀ r); err = tt; memory = tt; pending = tt }
done_picked (Err e) k spawning id t plan p a hooks p' b hooks' d = record { ok = tt; err = λ k₀ p₀ a₀ hooks₀ r. d.err k₀ p₀ a₀ hooks₀ (picks id t plan p a hooks k₀ p₀ a₀ hooks₀ r); memory = d.memory; pending = d.pending }

-- a control was picked whose ticket is parked, and nothing more is owed
pub parked_row : (id : Id) (by : Kit) (t : ℕ) (control : Control) (running : Option ℕ) (now : CommandState) → is_parking control now ≡ true → by.finished ≡ is_finished now → row id (kit_after control by) t control running ≡ Done
parked_row id by t NextEnding running now is same = rw (same, not-true (is_finished now) is) refl
parked_row id by t (_) running now is same = absurd cc

pub done_parked : {Fixed : Type 0} (k : JobTask) (spawning : Bool) (id : Id) (t : ℕ) (plan : Plan) (p p' : List Entry) (a : Seen Fixed) (hooks : Option (List Entry)) → plan ≡ Done → p' ≡ Pick id t ∷ p → HasDone {A = Unit {0}} (Ok (tt {0})) k spawning (adds (Pick id t) plan) p a hooks p' a hooks
done_parked k spawning id t plan p p' a hooks none last = record { ok = λ k₀ p₀ a₀ hooks₀ r. rw last (picks id t Done p a hooks k₀ p₀ a₀ hooks₀ (rw none at r)); err = tt; memory = tt; pending = tt }

-- a case was given up behind the call of a hook
pub fresh_gave : {Fixed A E : Type 0} (r : Result A E) (id : Id) (command : Command) (handler : Option ℕ) (tag : SpawnTag) (hook : Option ℕ) (n : ℕ) (p p' : List Entry) (a : Seen Fixed) (hooks hooks' : Option (List Entry)) → hook ≡ Some n → HookedOnly id n p hooks p' hooks' → OnErr r ((k : Plan) → PlanGivesUp (fresh_by id command handler tag hook k) p a hooks p' a hooks')
fresh_gave (Ok u) id command handler tag hook n p p' a hooks hooks' is only = tt
fresh_gave (Err e) id command handler tag hook n p p' a hooks hooks' is only = λ k k₀ p₀ a₀ hooks₀ r. gives-up k₀ p₀ a₀ hooks₀ id n handler tag k p p' a hooks hooks' only (rw is at r)

pub done_gave : {Fixed A : Type 0} (r : Result A Memory) (k : JobTask) (spawning : Bool) (plan : Plan) (p : List Entry) (a : Seen Fixed) (hooks : Option (List Entry)) (p' : List Entry) (b : Seen Fixed) (hooks' : Option (List Entry)) → IsErr r → PlanGivesUp plan p a hooks p' b hooks' → spawning ≡ true → k.state ≡ Pending → HasDone r k spawning plan p a hooks p' b hooks'
done_gave (Ok u) k spawning plan p a hooks p' b hooks' bad gives spawns pending = absurd cc
done_gave (Err e) k spawning plan p a hooks p' b hooks' bad gives spawns pending = record { ok = tt; err = gives; memory = spawns; pending = pending }

-- what led to a plan, which was done
pub done_behind : {Fixed A : Type 0} (r : Result A Memory) (k : JobTask) (spawning : Bool) (plan plan' : Plan) (p : List Entry) (a : Seen Fixed) (hooks : Option (List Entry)) (p' : List Entry) (b : Seen Fixed) (hooks' : Option (List Entry)) (p'' : List Entry) (d : Seen Fixed) (hooks'' : Option (List Entry)) → PlanFollows plan p a hooks plan' p' b hooks' → HasDone r k spawning plan' p' b hooks' p'' d hooks'' → HasDone r k spawning plan p a hooks p'' d hooks''
done_behind (Ok u) k spawning plan plan' p a hooks p' b hooks' p'' d hooks'' led done = record { ok = λ k₀ p₀ a₀ hooks₀ r. done.ok k₀ p₀ a₀ hooks₀ (led k₀ p₀ a₀ hooks₀ r); err = tt; memory = tt; pending = tt }
done_behind (Err e) k spawning plan plan' p a hooks p' b hooks' p'' d hooks'' led done = record { ok = tt; err = λ k₀ p₀ a₀ hooks₀ r. done.err k₀ p₀ a₀ hooks₀ (led k₀ p₀ a₀ hooks₀ r); memory = done.memory; pending = done.pending }

pub err_of : {A E P : Type 0} (r : Result A E) → IsErr r → P → OnErr r P
err_of (Ok a) bad p = tt
err_of (Err e) bad p = p

pub ok_of : {A E P : Type 0} (r : Result A E) → is_err r ≡ false → OnOk r P → P
ok_of (Ok a) is h = h
ok_of (Err e) is h = absurd cc

-- what a fresh child is spawned by
pub fresh_same : (b : Bool) (id : Id) (by by' : Kit) (t : ℕ) → by.command ≡ by'.command → by.handler ≡ by'.handler → by.tag ≡ by'.tag → by.hook ≡ by'.hook → fresh_or b id by t ≡ fresh_or b id by' t
fresh_same true id by by' t command handler tag hook = rw (command, handler, tag, hook) refl
fresh_same false id by by' t command handler tag hook = refl

-- the end of a grace was told, and then its child was reaped
over_is : (b : Bool) (id : Id) (by : Kit) (t : ℕ) → fresh_or b id by t ≡ cond b (fresh id by (raises t)) (raises t)
over_is true id by t = refl
over_is false id by t = refl

pub done_over : {Fixed A : Type 0} (r : Result A Memory) (k : JobTask) (spawning : Bool) (id : Id) (by by' : Kit) (c : ℕ) (g : Grace) (p p' : List Entry) (a : Seen Fixed) (hooks : Option (List Entry)) (p'' : List Entry) (d : Seen Fixed) (hooks'' : Option (List Entry)) → spawning ≡ g.restarts
    → by'.command ≡ by.command → by'.handler ≡ by.handler → by'.tag ≡ by.tag → by'.hook ≡ by.hook → by'.parked ≡ by.parked → p' ≡ GraceOver id ∷ p
    → HasDone r k spawning (reap id by'.handler c g.ticket (waiters by'.parked (fresh_or spawning id by' g.ticket))) p' a hooks p'' d hooks'' → HasDone r k g.restarts (over id by c g) p a hooks p'' d hooks''
done_over r k spawning id by by' c g p p' a hooks p'' d hooks'' spawns command handler tag hook parked last done =
    done_behind r k g.restarts (over id by c g) (reap id by.handler c g.ticket (waiters by.parked (fresh_over id by g))) p a hooks (GraceOver id ∷ p) a hooks p'' d hooks''
    (λ k₀ p₀ a₀ hooks₀ ran. ran-says k₀ p₀ a₀ hooks₀ (GraceOver id) (Adds (GraceOver id)) (reap id by.handler c g.ticket (waiters by.parked (fresh_over id by g))) Done p a hooks refl refl refl refl ran (brings-adds p (GraceOver id)))
    (rw (spawns, last, fresh_same g.restarts id by' by g.ticket command handler tag hook, over_is g.restarts id by g.ticket, handler, parked) at done)

-- the grace that was taken is the one that stood
pub took_same : (o : Option Standing) (x : Standing) (g : Grace) → o ≡ Some x → option_map (λ (s : Standing). s.grace) o ≡ Some g → x.grace ≡ g
took_same o x g is stood = let its : Some x.grace ≡ Some g = rw is at stood in cc
