use Rattle.wx_action.proofs.PlanLemmas.{jobs_stand}
use Rattle.wx_action.proofs.job_turns.end_jobs.Goals as goal

pub end_all-requires : goal.end_all-requires
end_all-requires g c = λ κs lives. (lives, (jobs_stand g.start c.args.worker.now c.args.journal.now.past c.requires.1.stands, (c.requires.1.stands.own, (c.requires.1.room.in_journal, c.requires.1.room.in_host))))
