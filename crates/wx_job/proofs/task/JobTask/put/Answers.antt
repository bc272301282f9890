use Rattle.wx_job.proofs.task.JobTask.put.Goals as goal

pub ask-requires-in-Some-second-2-clause-room : goal.ask-requires-in-Some-second-2-clause-room
ask-requires-in-Some-second-2-clause-room c = c.ask-in-Some-second.ensures.room 1 c.in_ok-make_room.ensures.room
