-- What entries leave of what boxed filters answered.
use Rattle.std.proofs.Common.{◌≡◌, ℕ, false, Result, List, ◌∷◌}
use Rattle.wx_events.specs.declared.event.Event.{Event}
use Rattle.wx_events.specs.declared.priority.Priority.{Priority}
use Rattle.wx_text.specs.declared.list.Memory.{Memory}
use Rattle.wx_command.specs.declared.command.Command.{Command}
use Rattle.wx_command.specs.declared.spawnable.Spawnable.{Spawnable}
use Rattle.wx_command.specs.Spawnables.{spawnable_of}
use Rattle.wx_control.specs.declared.id.Id.{Id}
use Rattle.wx_machine.specs.History.{RunsOnly}
use Rattle.wx_journal.specs.declared.entry.Entry.{Entry}
use Rattle.wx_journal.specs.declared.entry.Entry.TheVariants.{Filter, Hook, Dir}
use Rattle.wx_journal.specs.Told.{is_hooks}
use Rattle.wx_machine.specs.Journal.{Verdict}
use Rattle.wx_boxed.specs.Boxed.{Held, LeavesUsual, IsUsual, AreJudged}

-- a spawn hook that was given what its job was created to run, and left just that where none is held, did as usual
pub leaves_usual : (held : Held) (p : List Entry) (job : Id) (n : ℕ) (left : Result Spawnable Memory) (what : Command) → RunsOnly job what p → LeavesUsual held (spawnable_of what) (Hook job n left) → IsUsual held p (Hook job n left)
leaves_usual held p job n left what runs usual = λ created so. rw (runs created so) usual

-- an entry that is no call on hooks is none of a filter
pub judged_over : {A : Type 0} (judges : A → Event → Priority → Verdict → Type 0) (excludes : A → List ℕ → Verdict → Type 0) (filters : List A) (p : List Entry) (e : Entry) → is_hooks e ≡ false → AreJudged judges excludes filters p → AreJudged judges excludes filters (e ∷ p)
judged_over judges excludes filters p (Filter n name answer) other are = absurd cc
judged_over judges excludes filters p (Dir n path answer) other are = absurd cc
judged_over judges excludes filters p (_) other are = (tt, are)
