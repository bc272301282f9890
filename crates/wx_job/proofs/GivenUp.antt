-- Where a case is given up its ticket is in hand.
use Rattle.std.proofs.Common.{◌≡◌, ℕ, ◌+◌, ◌≤◌, Bool, false, cond, List, ◌∷◌, Option, Some, None, refl, arith}
use Rattle.wx_command.specs.declared.command.Command.{Command}
use Rattle.wx_control.specs.declared.control.Control.{Control}
use Rattle.wx_control.specs.declared.level.Level.TheVariants.{Normal, High, Urgent}
use Rattle.wx_control.specs.Waits.{first}
use Rattle.wx_journal.specs.declared.entry.Entry.{Entry}
use Rattle.wx_journal.specs.declared.entry.Entry.TheVariants.{Pick}
use Rattle.wx_journal.specs.Names.{moment}
use Rattle.wx_machine.specs.declared.choice.Choice.{Choice}
use Rattle.wx_machine.specs.declared.choice.Choice.TheVariants.{Poll as Polled, Over, End, Next, Leave, Nothing}
use Rattle.wx_machine.specs.declared.grace.Grace.{Grace}
use Rattle.wx_job.specs.declared.task.JobTask.{JobTask}
use Rattle.wx_machine.specs.History.{lives, waits, child, kept, state, begun, grace, parked, in_hand}
use Rattle.wx_machine.specs.Table.{Done, Kit, kit, kit_after, adds, row, over, ended_in, ended, is_parking, unless_grace, pick_by, case, step_by}
use Rattle.wx_machine.specs.Seen.{Seen}
use Rattle.wx_machine.specs.Case.{GaveUp}
use Rattle.wx_job.specs.Stands.{TaskStands}
use Rattle.wx_machine.specs.Held.{times, times_waiting, IsInHand, HasInHand}
use Rattle.wx_machine.proofs.Owners.{self}
use Rattle.wx_machine.proofs.Times.{is_first, takes_it}
use Rattle.wx_machine.proofs.PlacedPlans.{MayPick, due}
use Rattle.wx_machine.proofs.CutLaws.{Holds, holds_done, holds_adds, holds_wait, holds_row, holds_over, holds_ended_in, held_behind, holds_if}

-- the ticket of a grace isn't parked, nor is one that waits
grace_unparked : (k : JobTask) (p : List Entry) (g : Grace) → TaskStands k p → grace k.id p ≡ Some g → times g.ticket (parked k.id p) ≡ 0
grace_unparked k p g s is = let held = s.placed.graces g is in let one = s.placed.one g.ticket in omega (arith, held, one)

waits_unparked : (k : JobTask) (p : List Entry) (t : ℕ) → TaskStands k p → 1 ≤ times_waiting t (waits k.id Urgent p) + times_waiting t (waits k.id High p) + times_waiting t (waits k.id Normal p) → times t (parked k.id p) ≡ 0
waits_unparked k p t s waiting = let one = s.placed.one t in omega (arith, waiting, one)

-- the case of a control that is picked
holds_next : (k : JobTask) (by : Kit) (t : ℕ) (control : Control) (running : Option ℕ) (p : List Entry) → TaskStands k p → by.parked ≡ parked k.id p → first (waits k.id Urgent p) (waits k.id High p) (unless_grace (grace k.id p) (waits k.id Normal p)) ≡ Some (t, control) → Holds k.id t p (adds (Pick k.id t) (row k.id (kit_after control by) t control running))
holds_next k by t control running p s parked_is is =
    let id = k.id in
    let f = is_first t control (waits id Urgent p) (waits id High p) (waits id Normal p) (grace id p) is in
    let none : times t by.parked ≡ 0 = rw parked_is (waits_unparked k p t s f.some) in
    let held : is_parking control (state id p) ≡ false → IsInHand id t (Pick id t ∷ p) = λ other. rw (self id, f.found) (takes_it control t (state id p) (in_hand id p) other) in
    holds_adds id t (Pick id t) (row id (kit_after control by) t control running) p (holds_row id t (kit_after control by) control running (Pick id t ∷ p) none (state id p) held)

-- the case of the child's end, while this grace stands
holds_ended : (k : JobTask) (by : Kit) (c : ℕ) (g : Grace) (p : List Entry) → TaskStands k p → by.parked ≡ parked k.id p → by.grace ≡ Some g → grace k.id p ≡ Some g → IsInHand k.id g.ticket p → Holds k.id g.ticket p (ended k.id by c)
holds_ended k by c g p s parked_is grace_is is held =
    let none : times g.ticket by.parked ≡ 0 = rw parked_is (grace_unparked k p g s is) in
    rw grace_is (holds_wait k.id g.ticket by.handler c (ended_in k.id by g) Done (holds_ended_in k.id by g none) (λ q. holds_done k.id g.ticket q) p held)

-- what is picked in a step that was given up
gave_case : {Fixed : Type 0} (k : JobTask) (command : Command) (p : List Entry) (a : Seen Fixed) (hooks : Option (List Entry)) (p' : List Entry) (b : Seen Fixed) (hooks' : Option (List Entry)) (standing : Option Grace) (choice : Choice) → TaskStands k p → grace k.id p ≡ standing
    → MayPick k.id p choice
    → GaveUp (cond (lives k.id p) (case k.id (kit k.id command p) (child k.id p) choice) Done) p a hooks p' b hooks' → HasInHand k.id standing choice p'
gave_case k command p a hooks p' b hooks' standing (Polled f) s is picked gave = tt
gave_case k command p a hooks p' b hooks' standing (Over c g) s is picked gave =
    held_behind k.id g.ticket _ p a hooks p' b hooks' (holds_if k.id g.ticket (lives k.id p) (over k.id (kit k.id command p) c g) p (holds_over k.id (kit k.id command p) c g p (grace_unparked k p g s picked.2) (s.placed.graces g picked.2))) gave
gave_case k command p a hooks p' b hooks' None (End c) s is picked gave = tt
gave_case k command p a hooks p' b hooks' (Some g) (End c) s is picked gave =
    held_behind k.id g.ticket _ p a hooks p' b hooks' (holds_if k.id g.ticket (lives k.id p) (ended k.id (kit k.id command p) c) p (holds_ended k (kit k.id command p) c g p s refl is is (s.placed.graces g is))) gave
gave_case k command p a hooks p' b hooks' standing (Next t control) s is picked gave =
    held_behind k.id t _ p a hooks p' b hooks' (holds_if k.id t (lives k.id p) _ p (holds_next k (kit k.id command p) t control (child k.id p) p s refl picked.1)) gave
gave_case k command p a hooks p' b hooks' standing Leave s is picked gave = tt
gave_case k command p a hooks p' b hooks' standing Nothing s is picked gave = tt

pub gave_in_hand : {Fixed : Type 0} (closed : Bool) (k : JobTask) (command : Command) (p : List Entry) (a : Seen Fixed) (hooks : Option (List Entry)) (p' : List Entry) (b : Seen Fixed) (hooks' : Option (List Entry)) → TaskStands k p → GaveUp (step_by closed k.id command p) p a hooks p' b hooks' → HasInHand k.id (grace k.id p) (pick_by closed k.id p) p'
gave_in_hand closed k command p a hooks p' b hooks' s gave = gave_case k command p a hooks p' b hooks' (grace k.id p) (pick_by closed k.id p) s refl (due closed (begun k.id p) (child k.id p) (grace k.id p) (moment p) (kept k.id p) _) gave
