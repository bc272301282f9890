use Rattle.std.proofs.Common.{◌≡◌, true, sym, ◌∙◌}
use Rattle.std.specs.Prelude.{is_some}
use Rattle.wx_machine.specs.States.{child_of}
use Rattle.wx_machine.specs.Table.{spawns}
use Rattle.wx_job.proofs.StandsLemmas.{ready-spawns, spawning-row}
use Rattle.wx_job.proofs.task.JobTask.control.Goals as goal

pub returns-then-is_some-clause-done : goal.returns-then-is_some-clause-done
returns-then-is_some-clause-done g c =
    let some : is_some c.args.what ≡ true = sym c.is_some.ensures ∙ c.if-is_some.true in
    let is : spawns c.args.control (child_of c.args.self.now.state) ≡ true = sym (ready-spawns c.args.what _ c.args.control _ c.requires.what) ∙ some in
    rw (is, spawning-row c.args.self.now.id _ c.args.picked.ticket c.args.control (child_of c.args.self.now.state) is) (rw some at c.start_afresh.ensures.done)
