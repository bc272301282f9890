-- A task stands for the journal with a turn on top.
use Rattle.std.proofs.Common.{◌≡◌, ℕ, Some, List, [], ◌∷◌, refl}
use Rattle.wx_command.specs.declared.command.Command.{Command}
use Rattle.wx_control.specs.declared.id.Id.{Id}
use Rattle.wx_journal.specs.declared.entry.Entry.{Entry}
use Rattle.wx_journal.specs.declared.entry.Entry.TheVariants.{Turn as Turned, Hand}
use Rattle.wx_journal.specs.Acts.{JournalAct as Act}
use Rattle.wx_journal.specs.declared.entry.Act.TheVariants.{Create}
use Rattle.wx_journal.specs.declared.entry.TurnKind.TheVariants as turn
use Rattle.wx_job.specs.declared.task.JobTask.{JobTask}
use Rattle.wx_machine.specs.History.{RunsOnly}
use Rattle.wx_job.specs.Stands.{TaskStands, IsEnding, id_of}
use Rattle.wx_machine.proofs.Owners.{self}
use Rattle.wx_machine.proofs.Frame.{frame_turn}
use Rattle.wx_job.proofs.StandsLemmas.{stands_history}

-- the turn of a job says nothing of any
pub stands_turn : (k : JobTask) (p : List Entry) (at : ℕ) (id : Id) → TaskStands k p → TaskStands k (Turned (record { at = at; kind = turn.Job id }) ∷ p)
stands_turn k p at id s = stands_history k p _ (frame_turn (id_of k) at id p) s

-- the turn that tells the end of a child
pub is_ending : (k : JobTask) (p : List Entry) (c at : ℕ) → TaskStands k p → IsEnding k c at (Turned (record { at = at; kind = turn.Ended c }) ∷ p)
is_ending k p c at s = record { before = p; last = refl; stands = s }

-- where it was created
pub created_runs : (id : Id) (what : Command) (n : ℕ) (names : List ℕ) (acts : List Act) (p q : List Entry) → acts ≡ Create id what ∷ [] → q ≡ Hand n names acts ∷ p → RunsOnly id what q
created_runs id what n names acts p q one last = rw (last, one) (λ created is. let here : Some what ≡ Some created = rw (self id) at is in cc)
