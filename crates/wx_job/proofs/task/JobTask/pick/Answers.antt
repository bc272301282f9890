use Rattle.std.proofs.Common.{◌≡◌, refl, sym, ◌∙◌}
use Rattle.wx_job.proofs.StandsLemmas.{same_control, same_pick, stands-picked, stands-parked}
use Rattle.wx_job.proofs.task.JobTask.pick.Goals as goal

pub returns-then-is_parking-clause-stands : goal.returns-then-is_parking-clause-stands
returns-then-is_parking-clause-stands c =
    rw c.push.ensures.past (stands-parked _ c.args.self.now _ c.args.journal.now.past c.in-Some.picked c.requires.stands c.in-Some.ensures.taken (sym c.in-Some.ensures.level) (sym c.is_parking.ensures ∙ c.if-is_parking.true) c.park.ensures.joins c.park.ensures.room
    (rw (c.hook_after-self.ensures, c.handler_after-self.ensures, c.tag_after-self.ensures) refl))

pub returns-clause-stands : goal.returns-clause-stands
returns-clause-stands c =
    rw c.push.ensures.past (stands-picked _ c.args.self.now _ c.args.journal.now.past c.in-Some.picked c.requires.stands c.in-Some.ensures.taken (sym c.in-Some.ensures.level) (sym c.is_parking.ensures ∙ c.if-is_parking.false)
    (rw (c.hook_after-self.ensures, c.handler_after-self.ensures, c.tag_after-self.ensures) refl))

pub returns-clause-fields : goal.returns-clause-fields
returns-clause-fields c =
    let same = same_control c.args.self.now c.in-Some.picked c.is_some.result c.args.ticket c.args.control c.is_some.ensures c.in-Some.ensures.picked c.requires.chosen in
    rw (c.hook_after-self.ensures, c.handler_after-self.ensures, c.tag_after-self.ensures, same) refl

pub returns-clause-picked : goal.returns-clause-picked
returns-clause-picked c =
    let x = c.in-Some.picked in
    let one = same_pick c.args.self.now x c.is_some.result c.args.ticket c.args.control c.is_some.ensures c.in-Some.ensures.picked c.requires.chosen in
    let same : x.control ≡ c.args.control = same_control c.args.self.now x c.is_some.result c.args.ticket c.args.control c.is_some.ensures c.in-Some.ensures.picked c.requires.chosen in
    (one, rw (← same) (sym c.is_parking.ensures ∙ c.if-is_parking.false))
