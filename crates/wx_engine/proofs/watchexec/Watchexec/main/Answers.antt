use Rattle.wx_machine.proofs.ReapLaws.{ran_reaps}
use Rattle.wx_engine.proofs.MainLaws.{answered_ran, ran_shows, ran_shows_open, completed, ran_makes_by_rule, ran_is_served, ran_is_revised, ran_is_placed, ran_is_watched, ran_is_from_files, ran_ends_unmade, ran_waits, graces_have_children}
use Rattle.wx_engine.proofs.OfferLaws.{ran_offers}
use Rattle.wx_engine.proofs.WishLaws.{answered_granted}
use Rattle.wx_engine.proofs.watchexec.Watchexec.main.Goals as goal

pub returns-clause-ran : goal.returns-clause-ran
returns-clause-ran g c = answered_ran c.args.self _ c.run.result c.run.ensures.answers

pub returns-clause-children : goal.returns-clause-children
returns-clause-children g c = (ran_reaps c.args.self _ c.run.result c.run.ensures.answers).reaped

pub returns-clause-none_runs : goal.returns-clause-none_runs
returns-clause-none_runs g c = (ran_reaps c.args.self _ c.run.result c.run.ensures.answers).none

pub returns-clause-after_faults : goal.returns-clause-after_faults
returns-clause-after_faults g c = (ran_reaps c.args.self _ c.run.result c.run.ensures.answers).failed

pub returns-clause-afterwards : goal.returns-clause-afterwards
returns-clause-afterwards g c = (ran_reaps c.args.self _ c.run.result c.run.ensures.answers).afterwards

pub returns-clause-shown : goal.returns-clause-shown
returns-clause-shown g c = ran_shows c.args.self _ (answered_ran c.args.self _ c.run.result c.run.ensures.answers)

pub returns-clause-ids : goal.returns-clause-ids
returns-clause-ids g c = ran_makes_by_rule c.args.self _ (answered_ran c.args.self _ c.run.result c.run.ensures.answers)

pub returns-clause-served : goal.returns-clause-served
returns-clause-served g c = ran_is_served c.args.self _ (answered_ran c.args.self _ c.run.result c.run.ensures.answers)

pub returns-clause-revisions : goal.returns-clause-revisions
returns-clause-revisions g c = ran_is_revised c.args.self _ (answered_ran c.args.self _ c.run.result c.run.ensures.answers)

pub returns-clause-shown_open : goal.returns-clause-shown_open
returns-clause-shown_open g c = ran_shows_open c.args.self _ (answered_ran c.args.self _ c.run.result c.run.ensures.answers)

pub returns-clause-completes : goal.returns-clause-completes
returns-clause-completes g c = completed c.args.self _ c.run.result _ _ c.run.ensures.answers c.run.ensures.cause

pub returns-clause-granted : goal.returns-clause-granted
returns-clause-granted g c = answered_granted c.args.self _ c.run.result c.run.ensures.answers

pub returns-clause-offers : goal.returns-clause-offers
returns-clause-offers g c = ran_offers c.args.self _ (answered_ran c.args.self _ c.run.result c.run.ensures.answers)

pub returns-clause-tickets : goal.returns-clause-tickets
returns-clause-tickets g c = (ran_is_placed c.args.self _ (answered_ran c.args.self _ c.run.result c.run.ensures.answers)).one

pub returns-clause-raised_last : goal.returns-clause-raised_last
returns-clause-raised_last g c = (ran_is_placed c.args.self _ (answered_ran c.args.self _ c.run.result c.run.ensures.answers)).last

pub returns-clause-graces : goal.returns-clause-graces
returns-clause-graces g c = graces_have_children _

pub returns-clause-pressing : goal.returns-clause-pressing
returns-clause-pressing g c = (ran_is_placed c.args.self _ (answered_ran c.args.self _ c.run.result c.run.ensures.answers)).pressing

pub returns-clause-functions : goal.returns-clause-functions
returns-clause-functions g c = ran_waits c.args.self _ (answered_ran c.args.self _ c.run.result c.run.ensures.answers)

pub returns-clause-watched : goal.returns-clause-watched
returns-clause-watched g c = ran_is_watched c.args.self _ (answered_ran c.args.self _ c.run.result c.run.ensures.answers)

pub returns-clause-from_files : goal.returns-clause-from_files
returns-clause-from_files g c = ran_is_from_files c.args.self _ (answered_ran c.args.self _ c.run.result c.run.ensures.answers)

pub returns-clause-ends_unmade : goal.returns-clause-ends_unmade
returns-clause-ends_unmade g c = ran_ends_unmade c.args.self _ (answered_ran c.args.self _ c.run.result c.run.ensures.answers)
