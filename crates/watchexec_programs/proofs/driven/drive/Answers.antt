use Rattle.std.proofs.Common.{◌≡◌, ◌∙◌, [], None, Some, Option}
use Rattle.wx_command.specs.declared.command.Command.{Command}
use Rattle.watchexec_programs.proofs.driven.drive.Goals as goal

-- the journal was empty, so it doesn't list that the job was created to run another command
pub invariant_of-driven : goal.invariant_of-driven
invariant_of-driven g c =
    let empty = c.in_ok-reserve.ensures.same ∙ c.in_ok-journal.ensures in
    let stands = c.in_ok-job.ensures.stands [] (λ created is. let none : ◌≡◌ {A = Option Command} None (Some created) = is in absurd cc) in
    record { stands = rw (c.push.ensures.past, empty) stands }
