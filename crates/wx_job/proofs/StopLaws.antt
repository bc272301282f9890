-- What a step leaves, whatever it answers, and that the faults of what it did were counted.
use Rattle.std.proofs.Common.{Bool, Option, Result, Ok, Err, List}
use Rattle.std.specs.Prelude.{OnOk, OnErr}
use Rattle.wx_command.specs.declared.command.Command.{Command}
use Rattle.wx_control.specs.declared.id.Id.{Id}
use Rattle.wx_journal.specs.declared.entry.Entry.{Entry}
use Rattle.wx_journal.specs.Written.{Written}
use Rattle.wx_machine.specs.Seen.{Seen}
use Rattle.wx_machine.specs.History.{grace}
use Rattle.wx_machine.specs.Table.{Plan, Done, pick_by, step_by}
use Rattle.wx_machine.specs.Case.{GaveUp, PlanFollows, PlanGivesUp}
use Rattle.wx_machine.specs.Held.{HasInHand}
use Rattle.wx_machine.proofs.CaseLemmas.{ran-none}
use Rattle.wx_machine.proofs.StepLaws.{IsPlanOf, Stepped, step_of, left_same, counted_none, stepped_ran, stepped_gave}
use Rattle.wx_job.specs.declared.task.JobTask.{JobTask}
use Rattle.wx_job.specs.Stands.{TaskStands, StepFails, AllAsBefore, BehindHook}
use Rattle.wx_job.proofs.GivenUp.{gave_in_hand}

-- what stopped from any way here stopped on the way from here
stops : {H K Fixed : Type 0} (k : Plan) (p : List Entry) (a : Seen Fixed) (hooks : Option (List Entry)) (p' : List Entry) (b : Seen Fixed) (hooks' : Option (List Entry)) (t t' : JobTask) (j j' : Written) (h h' : H) (x x' : K) → StepFails t j h x t' j' h' x' (PlanGivesUp k p a hooks p' b hooks') → StepFails t j h x t' j' h' x' (GaveUp k p a hooks p' b hooks')
stops k p a hooks p' b hooks' t t' j j' h h' x x' (AllAsBefore undone same) = AllAsBefore undone same
stops k p a hooks p' b hooks' t t' j j' h h' x x' (BehindHook pending gives) = BehindHook pending (gives k p a hooks (ran-none k p a hooks))

stepped_stop : {H K Fixed : Type 0} (seen : H → Seen Fixed) (heard : K → Option (List Entry)) (id : Id) (k : Plan) (t t' : JobTask) (j j' : Written) (h h' : H) (x x' : K) → IsPlanOf id j.past k → StepFails t j h x t' j' h' x' (GaveUp k j.past (seen h) (heard x) j'.past (seen h') (heard x')) → Stepped id j.past (seen h).shown.faults j'.past (seen h').shown.faults
stepped_stop seen heard id k t t' j j' h h' x x' of (AllAsBefore undone hooks) = rw (undone.journal, undone.host) (record { left = left_same id j.past; counted = counted_none j.past (seen h).shown.faults })
stepped_stop seen heard id k t t' j j' h h' x x' of (BehindHook pending gave) = stepped_gave id k j.past (seen h) (heard x) j'.past (seen h') (heard x') of gave

pub stepped : {A E H K Fixed : Type 0} (seen : H → Seen Fixed) (heard : K → Option (List Entry)) (r : Result A E) (closed : Bool) (id : Id) (command : Command) (k k' : JobTask) (j j' : Written) (h h' : H) (x x' : K) → OnOk r (PlanFollows (step_by closed id command j.past) j.past (seen h) (heard x) Done j'.past (seen h') (heard x')) → OnErr r (StepFails k j h x k' j' h' x' (PlanGivesUp (step_by closed id command j.past) j.past (seen h) (heard x) j'.past (seen h') (heard x'))) → Stepped id j.past (seen h).shown.faults j'.past (seen h').shown.faults
stepped seen heard (Ok a) closed id command k k' j j' h h' x x' ok err = stepped_ran id (step_by closed id command j.past) j.past (seen h) (heard x) j'.past (seen h') (heard x') (step_of closed id command j.past) (ok _ _ _ _ (ran-none (step_by closed id command j.past) j.past (seen h) (heard x)))
stepped seen heard (Err e) closed id command k k' j j' h h' x x' ok err = stepped_stop seen heard id (step_by closed id command j.past) k k' j j' h h' x x' (step_of closed id command j.past) (stops _ _ _ _ _ _ _ k k' j j' h h' x x' err)

-- what stopped from any way here stopped on the way from here, with its ticket in hand
stops_holding : {H K Fixed : Type 0} (closed : Bool) (command : Command) (a : Seen Fixed) (hooks : Option (List Entry)) (b : Seen Fixed) (hooks' : Option (List Entry)) (k k' : JobTask) (j j' : Written) (h h' : H) (x x' : K) → TaskStands k j.past → StepFails k j h x k' j' h' x' (GaveUp (step_by closed k.id command j.past) j.past a hooks j'.past b hooks') → StepFails k j h x k' j' h' x' (GaveUp (step_by closed k.id command j.past) j.past a hooks j'.past b hooks' × HasInHand k.id (grace k.id j.past) (pick_by closed k.id j.past) j'.past)
stops_holding closed command a hooks b hooks' k k' j j' h h' x x' stands (AllAsBefore undone same) = AllAsBefore undone same
stops_holding closed command a hooks b hooks' k k' j j' h h' x x' stands (BehindHook pending gave) = BehindHook pending (gave, gave_in_hand closed k command j.past a hooks j'.past b hooks' stands gave)

pub on_stops : {A E H K Fixed : Type 0} (r : Result A E) (closed : Bool) (command : Command) (a : Seen Fixed) (hooks : Option (List Entry)) (b : Seen Fixed) (hooks' : Option (List Entry)) (k k' : JobTask) (j j' : Written) (h h' : H) (x x' : K) → TaskStands k j.past → OnErr r (StepFails k j h x k' j' h' x' (PlanGivesUp (step_by closed k.id command j.past) j.past a hooks j'.past b hooks')) → OnErr r (StepFails k j h x k' j' h' x' (GaveUp (step_by closed k.id command j.past) j.past a hooks j'.past b hooks' × HasInHand k.id (grace k.id j.past) (pick_by closed k.id j.past) j'.past))
on_stops (Ok u) closed command a hooks b hooks' k k' j j' h h' x x' stands s = tt
on_stops (Err e) closed command a hooks b hooks' k k' j j' h h' x x' stands s = stops_holding closed command a hooks b hooks' k k' j j' h h' x x' stands (stops _ _ _ _ _ _ _ k k' j j' h h' x x' s)
