use Rattle.std.proofs.Common.{◌≡◌, ◌∷◌, [], ◌∙◌}
use Rattle.wx_journal.specs.declared.entry.Act.TheVariants.{Create}
use Rattle.wx_job_tests.proofs.Turns.{created_runs}
use Rattle.wx_job_tests.proofs.test_world.make_job.Goals as goal

pub returns : goal.returns
returns c =
    let items = c.from_vec.ensures ∙ c.in_ok-acts.ensures.items in
    let same = c.in_ok-copy.ensures in
    let one : c.from_vec.result ≡ Create c.args.id c.in_ok-command.command ∷ [] = cc in
    record { stands = rw c.push-2.ensures.past (c.in_ok-handle.ensures.stands _ (created_runs _ _ 0 _ _ _ _ one c.push.ensures.past)) }
