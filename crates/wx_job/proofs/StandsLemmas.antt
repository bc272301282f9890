-- A task stands for the journal with one entry more.
use Rattle.std.proofs.Common.{◌≡◌, ℕ, ◌+◌, ◌≤◌, ◌<◌, Bool, true, false, List, [], ◌∷◌, ◌++◌, length, Option, Some, None, Result, Ok, Err, refl, arith, ap, sym, ◌∙◌, eq-eqb, ne_eqb}
use Rattle.std.specs.Prelude.{◌==◌, ℤ, not, option_map, is_some}
use Rattle.std.proofs.lemmas.Bool.{eqb-true}
use Rattle.wx_text.specs.declared.list.Memory.{Memory}
use Rattle.wx_events.specs.declared.process.ProcessEnd.{ProcessEnd}
use Rattle.wx_command.specs.declared.command.Command.{Command}
use Rattle.wx_command.specs.declared.spawnable.Spawnable.{Spawnable}
use Rattle.wx_control.specs.declared.id.Id.{Id}
use Rattle.wx_control.specs.declared.control.Control.{Control}
use Rattle.wx_control.specs.declared.control.Control.TheVariants.{AsyncFunc}
use Rattle.wx_control.specs.declared.control.Control.TheVariants as asked
use Rattle.wx_control.specs.declared.level.Level.{Level}
use Rattle.wx_control.specs.declared.level.Level.TheVariants.{Normal, High, Urgent}
use Rattle.wx_control.specs.declared.three_lists.Picked.{Picked}
use Rattle.wx_control.specs.Flags.{Flag}
use Rattle.wx_control.specs.Waits.{Waits, IsEmpty, picked, joined, headed, level_of, first_of, first_level, waiting_count}
use Rattle.wx_journal.specs.declared.child.SpawnTag.{SpawnTag}
use Rattle.wx_journal.specs.declared.child.SpawnTag.TheVariants as spawning
use Rattle.wx_journal.specs.declared.child.HostFault.{HostFault}
use Rattle.wx_journal.specs.declared.entry.Entry.{Entry}
use Rattle.wx_journal.specs.declared.entry.Entry.TheVariants.{Made, Asked, Pick, GraceOver, Spawn, Signal, Wait, Dropped, Raise, Gone, Begun as WasBegun, Poll, Hook}
use Rattle.wx_journal.specs.Names.{moment, ticket_count}
use Rattle.wx_machine.specs.declared.state.CommandState.{CommandState}
use Rattle.wx_machine.specs.declared.state.CommandState.TheVariants.{Pending, Running, Finished}
use Rattle.wx_job.specs.declared.task.JobTask.{JobTask}
use Rattle.wx_machine.specs.History.{lives, waits, child, state, previous, begun, parked, is_child, grace, without_ticket, parks, picked_last, begins_by, finish, RunsOnly, before_spawn, picked_control, set_hook, set_handler, set_tag, JobHistory, history}
use Rattle.wx_machine.specs.Leaves.{SameHistory}
use Rattle.wx_job.specs.declared.function.Begun.{Begun}
use Rattle.wx_machine.specs.declared.function.Function.{Function}
use Rattle.wx_job.specs.declared.grace.Standing.{Standing}
use Rattle.wx_job.specs.Parkings.{Tickets}
use Rattle.wx_machine.specs.Table.{Kit, leave, end_plan, is_parking, row, kit_after, spawns}
use Rattle.wx_job.specs.Prepared.{twice, prepared, fresh_in}
use Rattle.wx_job.specs.Stands.{TaskKeeps, TaskStands, IsEnding, id_of, kit_of, running_of, grace_of, begun_of, parked_of, holds}
use Rattle.wx_machine.specs.Held.{once, times, times_waits, times_grace, times_begun}
use Rattle.wx_machine.specs.States.{child_of}
use Rattle.wx_machine.proofs.Owners.{self, either}
use Rattle.wx_machine.proofs.Frame.{is_silent, frame_silent}
use Rattle.wx_machine.proofs.Times.{joined_times, times_append, unheld_without, parks-not, parks-one}

-- what each keeps of the history changed in the same way
changed : (change : JobHistory → JobHistory) (a b c d : JobHistory) → a ≡ b → c ≡ change a → d ≡ change b → c ≡ d
changed change a b c d is mine its = mine ∙ ap change is ∙ sym its

-- what leaves the history of its job leaves a task
keeps_history : (k : JobTask) (p p' : List Entry) → SameHistory (id_of k) p p' → TaskKeeps k p → TaskKeeps k p'
keeps_history k p p' h s = record {
  history_kept = s.history_kept ∙ sym h.history_same;
  tickets_held = record { room = s.tickets_held.room; once = s.tickets_held.once; named = λ t le. s.tickets_held.named t (let later = h.tickets_later in omega (arith, later, le)) };
  runs_kept = λ created is. s.runs_kept created (sym h.command_same ∙ is);
}

pub stands_history : (k : JobTask) (p p' : List Entry) → SameHistory (id_of k) p p' → TaskStands k p → TaskStands k p'
stands_history k p p' h s = record { keeps = keeps_history k p p' h s.keeps; placed = h.placed_still s.placed }

-- a task as it was made, behind the entry that made its job
pub stands-made : (id : Id) (command : Command) (flag : Flag) (waiting : Waits) (mirror : Unit {0}) (parking : Tickets) (p : List Entry) → IsEmpty waiting → parking.tickets ≡ [] → RunsOnly id command p → TaskKeeps (record { id = id; command = command; flag = flag; waiting = waiting; state = Pending; previous = None; kept = false; gone = false; hook = None; handler = None; tag = spawning.Default; grace = None; begun = None; closed = false; mirror = mirror; parked = parking }) (Made id ∷ p)
stands-made id command flag waiting mirror parking p empty none runs = record {
  history_kept = rw (self id, empty.urgent, empty.high, empty.normal, none) refl;
  tickets_held = record { room = rw (empty.urgent, empty.high, empty.normal) (omega arith); once = λ t. rw (empty.urgent, empty.high, empty.normal, none) (omega arith); named = λ t le. rw (empty.urgent, empty.high, empty.normal, none) refl };
  runs_kept = runs;
}

-- entries that say nothing of a job
pub stands-silent : (k : JobTask) (p : List Entry) (e : Entry) → is_silent e ≡ true → TaskKeeps k p → TaskKeeps k (e ∷ p)
stands-silent k p e silent s = keeps_history k p _ (frame_silent (id_of k) e p silent) s

-- what a task keeps, by the journal
pub lives_is : (k : JobTask) (p : List Entry) → TaskKeeps k p → not k.gone ≡ lives k.id p
lives_is k p s = ap (λ (h : JobHistory). h.lives) s.history_kept

pub running_is : (k : JobTask) (p : List Entry) → TaskKeeps k p → running_of k ≡ child k.id p
running_is k p s = ap (λ (h : JobHistory). h.child) s.history_kept

pub state-kept : (k : JobTask) (p : List Entry) → TaskKeeps k p → k.state ≡ state k.id p
state-kept k p s = ap (λ (h : JobHistory). h.state) s.history_kept

pub previous-kept : (k : JobTask) (p : List Entry) → TaskKeeps k p → k.previous ≡ previous k.id p
previous-kept k p s = ap (λ (h : JobHistory). h.previous) s.history_kept

pub grace-kept : (k : JobTask) (p : List Entry) → TaskKeeps k p → grace_of k ≡ grace k.id p
grace-kept k p s = ap (λ (h : JobHistory). h.grace) s.history_kept

pub begun-kept : (k : JobTask) (p : List Entry) → TaskKeeps k p → begun_of k ≡ begun k.id p
begun-kept k p s = ap (λ (h : JobHistory). h.begun) s.history_kept

pub parked-kept : (k : JobTask) (p : List Entry) → TaskKeeps k p → parked_of k ≡ parked k.id p
parked-kept k p s = ap (λ (h : JobHistory). h.parked) s.history_kept

child-is : (k : JobTask) (p : List Entry) (c : ℕ) → TaskKeeps k p → k.gone ≡ false → child_of k.state ≡ Some c → child k.id p ≡ Some c
child-is k p c s here runs = sym (running_is k p s) ∙ rw here runs

none-is : (k : JobTask) (p : List Entry) → TaskKeeps k p → k.gone ≡ false → child_of k.state ≡ None → child k.id p ≡ None
none-is k p s here none = sym (running_is k p s) ∙ rw here none

finish-child : (c : ℕ) (status : ProcessEnd) (at : ℕ) (s : CommandState) → child_of s ≡ Some c → child_of (finish c status at s) ≡ None
finish-child c status at Pending e = cc
finish-child c status at (Running d started) e = let is : d ≡ c = cc in rw (eq-eqb d c is) refl
finish-child c status at (Finished before started finished) e = cc

pub stands-wait-ok : (k : JobTask) (p : List Entry) (c : ℕ) (status : ProcessEnd) → TaskKeeps k p → k.gone ≡ false → child_of k.state ≡ Some c → TaskKeeps (record k { state = finish c status (moment p) k.state; kept = false; grace = None }) (Wait c (Ok status) ∷ p)
stands-wait-ok k p c status s here runs =
    let is : child k.id p ≡ Some c = child-is k p c s here runs in record {
      history_kept = changed (λ h. record h { child = None; kept = false; state = finish c status (moment p) h.state; grace = None }) _ _ _ _ s.history_kept (rw (here, finish-child c status (moment p) k.state runs) refl) (rw (is, eq-eqb c c refl) refl);
      tickets_held = record { room = s.tickets_held.room; once = λ t. (let h = s.tickets_held.once t in omega (arith, h)); named = λ t le. (let h = s.tickets_held.named t le in omega (arith, h)) };
      runs_kept = s.runs_kept;
    }

pub stands-wait-err : (k : JobTask) (p : List Entry) (c : ℕ) (fault : HostFault) → TaskKeeps k p → k.gone ≡ false → child_of k.state ≡ Some c → TaskKeeps (record k { kept = false }) (Wait c (Err fault) ∷ p)
stands-wait-err k p c fault s here runs =
    let is : child k.id p ≡ Some c = child-is k p c s here runs in record {
      history_kept = changed (λ h. record h { kept = false }) _ _ _ _ s.history_kept refl (rw (is, eq-eqb c c refl) refl);
      tickets_held = s.tickets_held;
      runs_kept = s.runs_kept;
    }

pub stands-spawn-ok : (k : JobTask) (p : List Entry) (c : ℕ) (tag : SpawnTag) (what : Spawnable) (a : Unit {0}) (before : CommandState) → TaskKeeps k p → k.gone ≡ false → before ≡ before_spawn k.id p → TaskKeeps (record k { state = Running c (moment p); previous = Some before; kept = false }) (Spawn c k.id tag what (Ok a) ∷ p)
stands-spawn-ok k p c tag what a before s here is = record {
  history_kept = changed (λ h. record h { child = Some c; kept = false; state = Running c (moment p); previous = Some before }) _ _ _ _ s.history_kept (rw here refl) (rw (self k.id, is) refl);
  tickets_held = s.tickets_held;
  runs_kept = s.runs_kept;
}

pub stands-spawn-err : (k : JobTask) (p : List Entry) (c : ℕ) (tag : SpawnTag) (what : Spawnable) (fault : HostFault) (before : CommandState) → TaskKeeps k p → k.gone ≡ false → child_of k.state ≡ None → before ≡ before_spawn k.id p → TaskKeeps (record k { state = Pending; previous = Some before }) (Spawn c k.id tag what (Err fault) ∷ p)
stands-spawn-err k p c tag what fault before s here none is = record {
  history_kept = changed (λ h. record h { child = None; state = Pending; previous = Some before }) _ _ _ _ s.history_kept (rw here refl) (rw (self k.id, is, none-is k p s here none) refl);
  tickets_held = s.tickets_held;
  runs_kept = s.runs_kept;
}

pub stands-hook : (k : JobTask) (p : List Entry) (n : ℕ) (a : Result Spawnable Memory) → TaskKeeps k p → k.gone ≡ false → child_of k.state ≡ None → TaskKeeps (record k { state = Pending; previous = Some k.state }) (Hook k.id n a ∷ p)
stands-hook k p n a s here none = record {
  history_kept = changed (λ h. record h { child = None; state = Pending; previous = Some h.state }) _ _ _ _ s.history_kept (rw here refl) (rw (self k.id, none-is k p s here none) refl);
  tickets_held = s.tickets_held;
  runs_kept = s.runs_kept;
}

-- the child that runs is let go, where one does, and then the job is gone
pub stands-dropped : (k : JobTask) (p : List Entry) (waiting : Waits) (parking : Tickets) (mirror : Unit {0}) (c : ℕ) → TaskKeeps k p → k.gone ≡ false → child_of k.state ≡ Some c → IsEmpty waiting → parking.tickets ≡ [] → TaskKeeps (record k { waiting = waiting; kept = false; gone = true; grace = None; begun = None; mirror = mirror; parked = parking }) (Gone k.id ∷ Dropped c ∷ p)
stands-dropped k p waiting parking mirror c s here runs empty none =
    let is : child k.id p ≡ Some c = child-is k p c s here runs in record {
      history_kept = changed (λ h. record h { lives = false; urgent = []; high = []; normal = []; child = None; kept = false; begun = None; grace = None; parked = [] }) _ _ _ _ s.history_kept (rw (empty.urgent, empty.high, empty.normal, none) refl) (rw (self k.id, is, eq-eqb c c refl) refl);
      tickets_held = record { room = rw (empty.urgent, empty.high, empty.normal) (omega arith); once = λ t. rw (empty.urgent, empty.high, empty.normal, none) (omega arith); named = λ t le. rw (empty.urgent, empty.high, empty.normal, none) refl };
      runs_kept = s.runs_kept;
    }

pub stands-gone : (k : JobTask) (p : List Entry) (waiting : Waits) (parking : Tickets) (mirror : Unit {0}) → TaskKeeps k p → k.gone ≡ false → child_of k.state ≡ None → IsEmpty waiting → parking.tickets ≡ [] → TaskKeeps (record k { waiting = waiting; kept = false; gone = true; grace = None; begun = None; mirror = mirror; parked = parking }) (Gone k.id ∷ p)
stands-gone k p waiting parking mirror s here none_runs empty none = record {
  history_kept = changed (λ h. record h { lives = false; urgent = []; high = []; normal = []; child = None; kept = false; begun = None; grace = None; parked = [] }) _ _ _ _ s.history_kept (rw (empty.urgent, empty.high, empty.normal, none) refl) (rw (self k.id, none-is k p s here none_runs) refl);
  tickets_held = record { room = rw (empty.urgent, empty.high, empty.normal) (omega arith); once = λ t. rw (empty.urgent, empty.high, empty.normal, none) (omega arith); named = λ t le. rw (empty.urgent, empty.high, empty.normal, none) refl };
  runs_kept = s.runs_kept;
}

-- these hold what waits at each level
abbrev pub AreWaiting : Waits → Id → List Entry → Type 0
AreWaiting w id p = (w.urgent ≡ waits id Urgent p) × (w.high ≡ waits id High p) × (w.normal ≡ waits id Normal p)

-- what waits, at each level
same_waits : (h : JobHistory) (a b c a' b' c' : List (ℕ × Control)) → a ≡ a' → b ≡ b' → c ≡ c' → record h { urgent = a; high = b; normal = c } ≡ record h { urgent = a'; high = b'; normal = c' }
same_waits h a b c a' b' c' urgent high normal = rw (urgent, high, normal) refl

pub are_waiting : (k : JobTask) (p : List Entry) → TaskKeeps k p → AreWaiting k.waiting k.id p
are_waiting k p s = (ap (λ (h : JobHistory). h.urgent) s.history_kept, ap (λ (h : JobHistory). h.high) s.history_kept, ap (λ (h : JobHistory). h.normal) s.history_kept)

-- a control is asked
joined_waits : (w : Waits) (id : Id) (p : List Entry) (t : ℕ) (level : Level) (control : Control) → lives id p ≡ true → AreWaiting w id p → AreWaiting (joined level (t, control) w) id (Asked t id level control ∷ p)
joined_waits w id p t Urgent control alive h = (rw (self id, alive) (ap (λ xs. xs ++ (t, control) ∷ []) h.0), rw (self id) h.1, rw (self id) h.2)
joined_waits w id p t High control alive h = (rw (self id) h.0, rw (self id, alive) (ap (λ xs. xs ++ (t, control) ∷ []) h.1), rw (self id) h.2)
joined_waits w id p t Normal control alive h = (rw (self id) h.0, rw (self id) h.1, rw (self id, alive) (ap (λ xs. xs ++ (t, control) ∷ []) h.2))

joined_length : (x : ℕ × Control) (xs : List (ℕ × Control)) → length (xs ++ x ∷ []) ≡ length xs + 1
joined_length x [] = refl
joined_length x (y ∷ ys) = let h = joined_length x ys in omega (arith, h)

joined_held : (w : Waits) (t u : ℕ) (level : Level) (control : Control) → times_waits u (joined level (t, control) w) ≡ times_waits u w + once (t == u)
joined_held w t u Urgent control = let h = joined_times t u control w.urgent in omega (arith, h)
joined_held w t u High control = let h = joined_times t u control w.high in omega (arith, h)
joined_held w t u Normal control = let h = joined_times t u control w.normal in omega (arith, h)

pub joined_count : (w : Waits) (t : ℕ) (level : Level) (control : Control) → waiting_count (joined level (t, control) w) ≡ waiting_count w + 1
joined_count w t Urgent control = let h = joined_length (t, control) w.urgent in omega (arith, h)
joined_count w t High control = let h = joined_length (t, control) w.high in omega (arith, h)
joined_count w t Normal control = let h = joined_length (t, control) w.normal in omega (arith, h)

-- a ticket that is new isn't held, and no other is held more often
new_once : (t u before after : ℕ) (b : Bool) → (t == u) ≡ b → (t ≡ u → before ≡ 0) → before ≤ 1 → after ≡ before + once b → after ≤ 1
new_once t u before after true is none le e = let zero_before = none (eqb-true _ _ is) in omega (arith, zero_before, e)
new_once t u before after false is none le e = omega (arith, le, e)

new_none : (t u before after : ℕ) → t < u → before ≡ 0 → after ≡ before + once (t == u) → after ≡ 0
new_none t u before after lt none e = let other : (t == u) ≡ false = ne_eqb t u (λ is. omega (arith, lt, is)) in (let e' : after ≡ before + once false = (rw other at e) in omega (arith, none, e'))

pub stands-asked : (k k' : JobTask) (p : List Entry) (t : ℕ) (level : Level) (control : Control) → TaskKeeps k p → k.gone ≡ false → t ≡ ticket_count p → waiting_count k.waiting + 1 ≤ k.parked.spare → k'.waiting ≡ record (joined level (t, control) k.waiting) { spare = k'.waiting.spare } → k' ≡ record k { waiting = k'.waiting } → TaskKeeps k' (Asked t k.id level control ∷ p)
stands-asked k k' p t level control s here named room joins fields =
    let alive : lives k.id p ≡ true = sym (lives_is k p s) ∙ rw here refl in
    let ws = joined_waits k.waiting k.id p t level control alive (are_waiting k p s) in
    let more : (u : ℕ) → times_waits u k'.waiting ≡ times_waits u k.waiting + once (t == u) = λ u. rw joins (joined_held k.waiting t u level control) in
    let count : waiting_count k'.waiting ≡ waiting_count k.waiting + 1 = rw joins (joined_count k.waiting t level control) in
    let stood : TaskKeeps (record k { waiting = k'.waiting }) (Asked t k.id level control ∷ p) = record {
      history_kept = changed (λ h. record h { urgent = k'.waiting.urgent; high = k'.waiting.high; normal = k'.waiting.normal }) _ _ _ _ s.history_kept refl (sym (same_waits (history k.id p) _ _ _ _ _ _ (rw joins ws.0) (rw joins ws.1) (rw joins ws.2)));
      tickets_held = record {
        room = omega (arith, count, room);
        once = λ u. new_once t u (holds u k) _ (t == u) refl (λ is. s.tickets_held.named u (omega (arith, named, is))) (s.tickets_held.once u) (let m = more u in omega (arith, m));
        named = λ u le. new_none t u (holds u k) _ (omega (arith, named, le)) (s.tickets_held.named u (omega (arith, le))) (let m = more u in omega (arith, m));
      };
      runs_kept = s.runs_kept;
    } in
    rw fields stood

-- a control is picked, at the most pressing level at which one waits
no_urgent : (urgent high normal : List (ℕ × Control)) → level_of urgent high normal ≡ Some High → urgent ≡ []
no_urgent [] high normal e = refl
no_urgent (x ∷ urgent) high normal e = cc

none_above : (urgent high normal : List (ℕ × Control)) → level_of urgent high normal ≡ Some Normal → (urgent ≡ []) × (high ≡ [])
none_above [] [] normal e = (refl, refl)
none_above [] (x ∷ high) normal e = cc
none_above (x ∷ urgent) high normal e = cc

headed_waits : (b : Bool) (w w' : Waits) (id : Id) (p : List Entry) (t : ℕ) (level : Level) (control : Control) → w ≡ record (headed level (t, control) w') { spare = w.spare } → first_level b w ≡ Some level → AreWaiting w id p → AreWaiting w' id (Pick id t ∷ p)
headed_waits b w w' id p t Urgent control is level h =
    let found : (t == t) ≡ true = eq-eqb t t refl in
    let urgent : waits id Urgent p ≡ (t, control) ∷ w'.urgent = sym h.0 ∙ ap (λ (v : Waits). v.urgent) is in
    let high : w'.high ≡ waits id High p = sym (ap (λ (v : Waits). v.high) is) ∙ h.1 in
    let normal : w'.normal ≡ waits id Normal p = sym (ap (λ (v : Waits). v.normal) is) ∙ h.2 in
    (rw (self id, urgent, found) refl, rw (self id, urgent, found) high, rw (self id, urgent, found) normal)
headed_waits b w w' id p t High control is level h =
    let found : (t == t) ≡ true = eq-eqb t t refl in
    let none : w.urgent ≡ [] = no_urgent w.urgent w.high _ level in
    let urgent : waits id Urgent p ≡ [] = sym h.0 ∙ none in
    let high : waits id High p ≡ (t, control) ∷ w'.high = sym h.1 ∙ ap (λ (v : Waits). v.high) is in
    let normal : w'.normal ≡ waits id Normal p = sym (ap (λ (v : Waits). v.normal) is) ∙ h.2 in
    (rw (self id, urgent) (sym (ap (λ (v : Waits). v.urgent) is) ∙ none), rw (self id, urgent, high, found) refl, rw (self id, urgent, high, found) normal)
headed_waits b w w' id p t Normal control is level h =
    let found : (t == t) ≡ true = eq-eqb t t refl in
    let none = none_above w.urgent w.high _ level in
    let urgent : waits id Urgent p ≡ [] = sym h.0 ∙ none.0 in
    let high : waits id High p ≡ [] = sym h.1 ∙ none.1 in
    let normal : waits id Normal p ≡ (t, control) ∷ w'.normal = sym h.2 ∙ ap (λ (v : Waits). v.normal) is in
    (rw (self id, urgent) (sym (ap (λ (v : Waits). v.urgent) is) ∙ none.0), rw (self id, urgent, high) (sym (ap (λ (v : Waits). v.high) is) ∙ none.1), rw (self id, urgent, high, normal, found) refl)

-- the control that is picked
headed_picked : (b : Bool) (w w' : Waits) (id : Id) (p : List Entry) (t : ℕ) (level : Level) (control : Control) → w ≡ record (headed level (t, control) w') { spare = w.spare } → first_level b w ≡ Some level → AreWaiting w id p → picked_control id t p ≡ Some control
headed_picked b w w' id p t Urgent control is level h =
    let found : (t == t) ≡ true = eq-eqb t t refl in
    let urgent : waits id Urgent p ≡ (t, control) ∷ w'.urgent = sym h.0 ∙ ap (λ (v : Waits). v.urgent) is in
    rw (urgent, found) refl
headed_picked b w w' id p t High control is level h =
    let found : (t == t) ≡ true = eq-eqb t t refl in
    let none : w.urgent ≡ [] = no_urgent w.urgent w.high _ level in
    let urgent : waits id Urgent p ≡ [] = sym h.0 ∙ none in
    let high : waits id High p ≡ (t, control) ∷ w'.high = sym h.1 ∙ ap (λ (v : Waits). v.high) is in
    rw (urgent, high, found) refl
headed_picked b w w' id p t Normal control is level h =
    let found : (t == t) ≡ true = eq-eqb t t refl in
    let none = none_above w.urgent w.high _ level in
    let urgent : waits id Urgent p ≡ [] = sym h.0 ∙ none.0 in
    let high : waits id High p ≡ [] = sym h.1 ∙ none.1 in
    let normal : waits id Normal p ≡ (t, control) ∷ w'.normal = sym h.2 ∙ ap (λ (v : Waits). v.normal) is in
    rw (urgent, high, normal, found) refl

-- how often the lists hold a ticket once one is picked, and how many wait then
headed_held : (w w' : Waits) (t u : ℕ) (level : Level) (control : Control) → w ≡ record (headed level (t, control) w') { spare = w.spare } → times_waits u w ≡ times_waits u w' + once (t == u)
headed_held w w' t u Urgent control is = rw is (omega arith)
headed_held w w' t u High control is = rw is (omega arith)
headed_held w w' t u Normal control is = rw is (omega arith)

headed_count : (w w' : Waits) (t : ℕ) (level : Level) (control : Control) → w ≡ record (headed level (t, control) w') { spare = w.spare } → waiting_count w ≡ waiting_count w' + 1
headed_count w w' t Urgent control is = rw is (omega arith)
headed_count w w' t High control is = rw is (omega arith)
headed_count w w' t Normal control is = rw is (omega arith)

-- a control is picked: its ticket is in hand, or parked
picked_stands : (b : Bool) (k : JobTask) (waiting : Waits) (parking : Tickets) (p : List Entry) (x : Picked) → TaskKeeps k p → k.waiting ≡ record (headed x.level (picked x) waiting) { spare = k.waiting.spare } → first_level b k.waiting ≡ Some x.level → parking.tickets ≡ parks (Some x.control) x.ticket k.state k.parked.tickets → waiting_count waiting ≤ parking.spare → ((u : ℕ) → times u parking.tickets ≤ times u k.parked.tickets + once (x.ticket == u)) → TaskKeeps (record k { waiting = waiting; parked = parking; hook = set_hook (Some x.control) k.hook; handler = set_handler (Some x.control) k.handler; tag = set_tag (Some x.control) k.tag }) (Pick k.id x.ticket ∷ p)
picked_stands b k waiting parking p x s heads level parks_it room held =
    let were = are_waiting k p s in
    let ws = headed_waits b k.waiting waiting k.id p x.ticket x.level x.control heads level were in
    let control = headed_picked b k.waiting waiting k.id p x.ticket x.level x.control heads level were in
    let q : List Entry = Pick k.id x.ticket ∷ p in
    let sets : JobHistory → JobHistory = λ h. record h { hook = set_hook (Some x.control) h.hook; handler = set_handler (Some x.control) h.handler; tag = set_tag (Some x.control) h.tag; parked = parks (Some x.control) x.ticket h.state h.parked } in
    let its : history k.id q ≡ record (sets (history k.id p)) { urgent = waits k.id Urgent q; high = waits k.id High q; normal = waits k.id Normal q } = rw (self k.id, control) refl in
    record {
      history_kept = changed (λ h. record (sets h) { urgent = waiting.urgent; high = waiting.high; normal = waiting.normal }) _ _ _ _ s.history_kept (rw parks_it refl) (its ∙ sym (same_waits (sets (history k.id p)) _ _ _ _ _ _ ws.0 ws.1 ws.2));
      tickets_held = record {
        room = room;
        once = λ u. (let h = s.tickets_held.once u in let a = headed_held k.waiting waiting x.ticket u x.level x.control heads in let c = held u in omega (arith, h, a, c));
        named = λ u le. (let h = s.tickets_held.named u le in let a = headed_held k.waiting waiting x.ticket u x.level x.control heads in let c = held u in omega (arith, h, a, c));
      };
      runs_kept = s.runs_kept;
    }

pub stands-picked : (b : Bool) (k k' : JobTask) (p : List Entry) (x : Picked) → TaskKeeps k p → k.waiting ≡ record (headed x.level (picked x) k'.waiting) { spare = k.waiting.spare } → first_level b k.waiting ≡ Some x.level → is_parking x.control k.state ≡ false → k' ≡ record k { waiting = k'.waiting; hook = set_hook (Some x.control) k.hook; handler = set_handler (Some x.control) k.handler; tag = set_tag (Some x.control) k.tag } → TaskKeeps k' (Pick k.id x.ticket ∷ p)
stands-picked b k k' p x s heads level in_hand fields =
    let count = headed_count k.waiting k'.waiting x.ticket x.level x.control heads in
    let room = s.tickets_held.room in
    let stood = picked_stands b k k'.waiting k.parked p x s heads level (sym (parks-not x.control x.ticket k.state k.parked.tickets in_hand)) (omega (arith, count, room)) (λ u. omega arith) in
    rw fields stood

pub stands-parked : (b : Bool) (k k' : JobTask) (p : List Entry) (x : Picked) → TaskKeeps k p → k.waiting ≡ record (headed x.level (picked x) k'.waiting) { spare = k.waiting.spare } → first_level b k.waiting ≡ Some x.level → is_parking x.control k.state ≡ true → k'.parked.tickets ≡ k.parked.tickets ++ x.ticket ∷ [] → k.parked.spare ≤ k'.parked.spare + 1 → k' ≡ record k { waiting = k'.waiting; parked = k'.parked; hook = set_hook (Some x.control) k.hook; handler = set_handler (Some x.control) k.handler; tag = set_tag (Some x.control) k.tag } → TaskKeeps k' (Pick k.id x.ticket ∷ p)
stands-parked b k k' p x s heads level parking joins spare fields =
    let count = headed_count k.waiting k'.waiting x.ticket x.level x.control heads in
    let room = s.tickets_held.room in
    let stood = picked_stands b k k'.waiting k'.parked p x s heads level (joins ∙ sym (parks-one x.control x.ticket k.state k.parked.tickets parking)) (omega (arith, count, room, spare)) (λ u. (let h : times u k'.parked.tickets ≡ times u k.parked.tickets + once (x.ticket == u) = rw joins (times_append x.ticket u k.parked.tickets) in omega (arith, h))) in
    rw fields stood

-- the control that is picked is the one that was chosen
grace_there : (o : Option Standing) → is_some (option_map (λ (s : Standing). s.grace) o) ≡ is_some o
grace_there None = refl
grace_there (Some s) = refl

pub same_pick : (k : JobTask) (x : Picked) (b : Bool) (t : ℕ) (control : Control) → b ≡ is_some k.grace → Some (picked x) ≡ first_of b k.waiting → first_of (is_some (grace_of k)) k.waiting ≡ Some (t, control) → picked x ≡ (t, control)
same_pick k x b t control is found chosen = let both : Some (picked x) ≡ Some (t, control) = (rw (is, ← grace_there k.grace) at found) ∙ chosen in cc

pub same_control : (k : JobTask) (x : Picked) (b : Bool) (t : ℕ) (control : Control) → b ≡ is_some k.grace → Some (picked x) ≡ first_of b k.waiting → first_of (is_some (grace_of k)) k.waiting ≡ Some (t, control) → x.control ≡ control
same_control k x b t control is found chosen = ap (λ (y : ℕ × Control). y.1) (same_pick k x b t control is found chosen)

-- the ticket that was picked isn't held any more, where it isn't parked
pub picked-unheld : (k k' : JobTask) (p : List Entry) (x : Picked) → TaskKeeps k p → k.waiting ≡ record (headed x.level (picked x) k'.waiting) { spare = k.waiting.spare } → k'.parked.tickets ≡ k.parked.tickets → grace_of k' ≡ grace_of k → begun_of k' ≡ begun_of k → holds x.ticket k' ≡ 0
picked-unheld k k' p x s heads parked_is grace_is begun_is =
    let h = s.tickets_held.once x.ticket in
    let a : times_waits x.ticket k.waiting ≡ times_waits x.ticket k'.waiting + 1 = headed_held k.waiting k'.waiting x.ticket x.ticket x.level x.control heads ∙ rw (eq-eqb x.ticket x.ticket refl) refl in
    let total : holds x.ticket k ≡ holds x.ticket k' + 1 = rw (parked_is, grace_is, begun_is) (omega (arith, a)) in
    omega (arith, h, total)

-- the case of the control that was picked, by what the task keeps then
pub row-is : (k k' : JobTask) (x : Picked) (t : ℕ) (control : Control) → k' ≡ record k { waiting = k'.waiting; parked = k'.parked; hook = set_hook (Some control) k.hook; handler = set_handler (Some control) k.handler; tag = set_tag (Some control) k.tag } → k'.parked ≡ k.parked → picked x ≡ (t, control) → row k'.id (kit_of k') x.ticket control (child_of k'.state) ≡ row k.id (kit_after control (kit_of k)) t control (child_of k.state)
row-is k k' x t control fields parked_is found =
    let ticket : x.ticket ≡ t = ap (λ (y : ℕ × Control). y.0) found in
    let by : kit_of k' ≡ kit_after control (kit_of k) = rw fields (rw parked_is refl) in
    let id : k'.id ≡ k.id = rw fields refl in
    let running : child_of k'.state ≡ child_of k.state = rw fields refl in
    rw (by, id, running, ticket) refl

-- ---- tickets that are raised

pub stands-raise : (k : JobTask) (p : List Entry) (t : ℕ) → TaskKeeps k p → holds t k ≡ 0 → TaskKeeps k (Raise t ∷ p)
stands-raise k p t s none =
    let gone : times t k.parked.tickets ≡ 0 = omega (arith, none) in record {
      history_kept = changed (λ h. record h { parked = without_ticket t h.parked }) _ _ _ _ s.history_kept (rw (unheld_without t k.parked.tickets gone) refl) refl;
      tickets_held = s.tickets_held;
      runs_kept = s.runs_kept;
    }

pub stands-raised : (k k' : JobTask) (p : List Entry) (t : ℕ) → TaskKeeps k p → k.parked.tickets ≡ t ∷ k'.parked.tickets → k.parked.spare ≤ k'.parked.spare → k' ≡ record k { parked = k'.parked } → TaskKeeps k' (Raise t ∷ p)
stands-raised k k' p t s taken spare fields =
    let room = s.tickets_held.room in
    let held : (u : ℕ) → times u k.parked.tickets ≡ once (t == u) + times u k'.parked.tickets = λ u. rw taken refl in
    let stood : TaskKeeps (record k { parked = k'.parked }) (Raise t ∷ p) = record {
      history_kept = changed (λ h. record h { parked = without_ticket t h.parked }) _ _ _ _ s.history_kept (rw (taken, eq-eqb t t refl) refl) refl;
      tickets_held = record { room = omega (arith, room, spare); once = λ u. (let h = s.tickets_held.once u in let m = held u in omega (arith, h, m)); named = λ u le. (let h = s.tickets_held.named u le in let m = held u in omega (arith, h, m)) };
      runs_kept = s.runs_kept;
    } in
    rw fields stood

-- ---- graces and functions

-- a ticket that nothing held is held once
begun_once : (t u before after : ℕ) (b : Bool) → (t == u) ≡ b → (t ≡ u → before ≡ 0) → before ≤ 1 → after ≤ before + once b → after ≤ 1
begun_once t u before after true is none le e = let zero_before = none (eqb-true _ _ is) in omega (arith, zero_before, e)
begun_once t u before after false is none le e = omega (arith, le, e)

-- a signal was sent: where the picked control begins no grace the one that stands stays
pub stands-signal : (k : JobTask) (p : List Entry) (c : ℕ) (number : ℤ) (a : Result (Unit {0}) HostFault) → TaskKeeps k p → begins_by (picked_last k.id p) (moment p) (grace_of k) ≡ grace_of k → TaskKeeps k (Signal c number a ∷ p)
stands-signal k p c number (Ok a) s is =
    let stays : begins_by (picked_last k.id p) (moment p) (grace k.id p) ≡ grace k.id p = rw (← grace-kept k p s) is in
    let same_grace : history k.id (Signal c number (Ok a) ∷ p) ≡ history k.id p = either (λ o. record (history k.id p) { grace = o } ≡ history k.id p) (is_child c (child k.id p)) _ _ (rw stays refl) refl in
    record { history_kept = s.history_kept ∙ sym same_grace; tickets_held = s.tickets_held; runs_kept = s.runs_kept }
stands-signal k p c number (Err a) s is = record { history_kept = s.history_kept; tickets_held = s.tickets_held; runs_kept = s.runs_kept }

-- a signal was sent, and the grace that the picked control begins stands
pub stands-grace : (k : JobTask) (p : List Entry) (c : ℕ) (number : ℤ) (a : Unit {0}) (standing : Standing) → TaskKeeps k p → k.gone ≡ false → child_of k.state ≡ Some c → begins_by (picked_last k.id p) (moment p) (grace_of k) ≡ Some standing.grace → holds standing.grace.ticket k ≡ 0 → standing.grace.ticket < ticket_count p → TaskKeeps (record k { grace = Some standing }) (Signal c number (Ok a) ∷ p)
stands-grace k p c number a standing s here runs begins unheld named =
    let is : child k.id p ≡ Some c = child-is k p c s here runs in
    let its : begins_by (picked_last k.id p) (moment p) (grace k.id p) ≡ Some standing.grace = rw (← grace-kept k p s) begins in
    record {
      history_kept = changed (λ h. record h { grace = Some standing.grace }) _ _ _ _ s.history_kept refl (rw (is, eq-eqb c c refl, its) refl);
      tickets_held = record {
        room = s.tickets_held.room;
        once = λ u. begun_once standing.grace.ticket u (holds u k) _ (standing.grace.ticket == u) refl (λ same. rw (← same) unheld) (s.tickets_held.once u) (omega arith);
        named = λ u le. new_none standing.grace.ticket u (times_waits u k.waiting + times u k.parked.tickets + times_begun u (begun_of k)) _ (omega (arith, named, le)) (let h = s.tickets_held.named u le in omega (arith, h)) (omega arith);
      };
      runs_kept = s.runs_kept;
    }

pub stands-over : (k : JobTask) (p : List Entry) → TaskKeeps k p → TaskKeeps (record k { grace = None }) (GraceOver k.id ∷ p)
stands-over k p s = record {
  history_kept = changed (λ h. record h { grace = None }) _ _ _ _ s.history_kept refl (rw (self k.id) refl);
  tickets_held = record { room = s.tickets_held.room; once = λ u. (let h = s.tickets_held.once u in omega (arith, h)); named = λ u le. (let h = s.tickets_held.named u le in omega (arith, h)) };
  runs_kept = s.runs_kept;
}

-- a function was begun, which holds the ticket of the control that was picked last
pub stands-function : (k : JobTask) (p : List Entry) (b : Begun) → TaskKeeps k p → picked_last k.id p ≡ Some (b.function.ticket, AsyncFunc b.function.n) → begun_of k ≡ None → holds b.function.ticket k ≡ 0 → b.function.ticket < ticket_count p → TaskKeeps (record k { begun = Some b }) (WasBegun k.id b.function.n ∷ p)
stands-function k p b s last none unheld named = record {
  history_kept = changed (λ h. record h { begun = Some b.function }) _ _ _ _ s.history_kept refl (rw (self k.id, last) refl);
  tickets_held = record {
    room = s.tickets_held.room;
    once = λ u. begun_once b.function.ticket u (holds u k) _ (b.function.ticket == u) refl (λ same. rw (← same) unheld) (s.tickets_held.once u) (omega arith);
    named = λ u le. new_none b.function.ticket u (times_waits u k.waiting + times u k.parked.tickets + times_grace u (grace_of k)) _ (omega (arith, named, le)) (let h = s.tickets_held.named u le in omega (arith, h)) (omega arith);
  };
  runs_kept = s.runs_kept;
}

-- a begun function was polled, and is ready
pub stands-ready : (k : JobTask) (p : List Entry) (n : ℕ) (ready : Bool) → ready ≡ true → TaskKeeps k p → TaskKeeps (record k { begun = None }) (Poll k.id n ready ∷ p)
stands-ready k p n true is s = record {
  history_kept = changed (λ h. record h { begun = None }) _ _ _ _ s.history_kept refl (rw (self k.id) refl);
  tickets_held = record { room = s.tickets_held.room; once = λ u. (let h = s.tickets_held.once u in omega (arith, h)); named = λ u le. (let h = s.tickets_held.named u le in omega (arith, h)) };
  runs_kept = s.runs_kept;
}
stands-ready k p n false is s = absurd cc

-- it isn't ready
pub stands-later : (k : JobTask) (p : List Entry) (n : ℕ) (ready : Bool) → ready ≡ false → TaskKeeps k p → TaskKeeps k (Poll k.id n ready ∷ p)
stands-later k p n true is s = absurd cc
stands-later k p n false is s = record { history_kept = s.history_kept; tickets_held = s.tickets_held; runs_kept = s.runs_kept }

-- the ticket of a function that is ready isn't held any more
pub ready-unheld : (k : JobTask) (p : List Entry) (f : Function) → TaskKeeps k p → begun_of k ≡ Some f → holds f.ticket (record k { begun = None }) ≡ 0
ready-unheld k p f s is =
    let most = s.tickets_held.once f.ticket in
    let one : times_begun f.ticket (begun_of k) ≡ 1 = rw (is, eq-eqb f.ticket f.ticket refl) refl in
    omega (arith, most, one)

-- that there are no more handles stands in no journal
pub stands-closed : (k : JobTask) (p : List Entry) → TaskStands k p → TaskStands (record k { closed = true }) p
stands-closed k p s = record { keeps = record { history_kept = s.keeps.history_kept; tickets_held = s.keeps.tickets_held; runs_kept = s.keeps.runs_kept }; placed = s.placed }

-- behind the turn that told the end of its child it keeps this
pub stands-ending : (k : JobTask) (c at : ℕ) (p : List Entry) → IsEnding k c at p → running_of k ≡ Some c → TaskStands (record k { kept = true }) p
stands-ending k c at p e runs =
    let s = e.stands in
    let is : child k.id e.before ≡ Some c = sym (running_is k e.before s.keeps) ∙ runs in
    rw e.last (record {
      keeps = record {
        history_kept = changed (λ h. record h { kept = true }) _ _ _ _ s.keeps.history_kept refl (rw (is, eq-eqb c c refl) refl);
        tickets_held = s.keeps.tickets_held;
        runs_kept = s.keeps.runs_kept;
      };
      placed = record { one = s.placed.one; unnamed = s.placed.unnamed; graces = s.placed.graces; functions = s.placed.functions; apart = s.placed.apart };
    })

-- what the end of a job owes, by what the task keeps
pub end-is : (k : JobTask) (p : List Entry) (c : Option ℕ) → TaskKeeps k p → k.gone ≡ false → c ≡ child_of k.state → end_plan k.id p ≡ leave k.id c
end-is k p c s here is = let alive : lives k.id p ≡ true = sym (lives_is k p s) ∙ rw here refl in let runs : child k.id p ≡ child_of k.state = sym (running_is k p s) ∙ rw here refl in rw (alive, runs, is) refl

-- ---- a task that stands for its job keeps what the journal says of it

pub stands-keeps : (k : JobTask) (p : List Entry) → TaskStands k p → TaskKeeps k p
stands-keeps k p s = s.keeps

pub lives-kept : (k : JobTask) (p : List Entry) → TaskStands k p → not k.gone ≡ lives k.id p
lives-kept k p s = lives_is k p s.keeps

pub child-kept : (k : JobTask) (p : List Entry) → TaskStands k p → running_of k ≡ child k.id p
child-kept k p s = running_is k p s.keeps

-- what a control spawns, where it spawns
pub is_some_twice : (command : Command) (spawning : Bool) → is_some (twice command spawning) ≡ spawning
is_some_twice command true = refl
is_some_twice command false = refl

pub ready-spawns : (what : Option (Spawnable × Spawnable)) (command : Command) (control : Control) (running : Option ℕ) → what ≡ prepared command control running → is_some what ≡ spawns control running
ready-spawns what command control running is = rw is (is_some_twice command (spawns control running))

-- the case of a control that spawns: a child that runs is reaped, and a fresh one is spawned
pub spawning-row : (id : Id) (by : Kit) (ticket : ℕ) (control : Control) (running : Option ℕ) → spawns control running ≡ true → row id by ticket control running ≡ fresh_in id by ticket true running
spawning-row id by ticket asked.Start None is = refl
spawning-row id by ticket asked.Start (Some c) is = absurd cc
spawning-row id by ticket asked.Stop running is = absurd cc
spawning-row id by ticket (asked.GracefulStop signal grace) running is = absurd cc
spawning-row id by ticket asked.TryRestart None is = absurd cc
spawning-row id by ticket asked.TryRestart (Some c) is = refl
spawning-row id by ticket (asked.TryGracefulRestart signal grace) running is = absurd cc
spawning-row id by ticket asked.ContinueTryGracefulRestart None is = refl
spawning-row id by ticket asked.ContinueTryGracefulRestart (Some c) is = refl
spawning-row id by ticket (asked.Signal signal) running is = absurd cc
spawning-row id by ticket asked.Delete running is = absurd cc
spawning-row id by ticket asked.NextEnding running is = absurd cc
spawning-row id by ticket (asked.SyncFunc n) running is = absurd cc
spawning-row id by ticket (asked.AsyncFunc n) running is = absurd cc
spawning-row id by ticket (asked.SetSyncSpawnHook n) running is = absurd cc
spawning-row id by ticket asked.UnsetSpawnHook running is = absurd cc
spawning-row id by ticket (asked.SetSyncErrorHandler n) running is = absurd cc
spawning-row id by ticket asked.UnsetErrorHandler running is = absurd cc
spawning-row id by ticket (asked.SetSpawnFn n) running is = absurd cc
spawning-row id by ticket (asked.SetSpawnChildFn n) running is = absurd cc
spawning-row id by ticket asked.ClearSpawnFn running is = absurd cc

pub ruleset stands = (ready-spawns, stands-asked, stands-picked, stands-parked, picked-unheld, stands-raise, stands-raised, stands-signal, stands-grace, stands-over, stands-function, stands-ready, stands-later, ready-unheld, stands-closed, stands-silent, stands-wait-ok, stands-wait-err, stands-spawn-ok, stands-spawn-err, stands-hook, stands-dropped, stands-gone, state-kept, previous-kept, grace-kept, parked-kept)
