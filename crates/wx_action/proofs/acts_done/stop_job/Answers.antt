use Rattle.std.proofs.Common.{◌∷◌, rules}
use Rattle.wx_control.specs.declared.ask.Ask.TheVariants.{Delete}
use Rattle.wx_journal.specs.declared.entry.Act.TheVariants.{Ask}
use Rattle.wx_machine.specs.Quits.{stop_asks}
use Rattle.wx_worker.proofs.ArriveLemmas.{on_err, grows_then}
use Rattle.wx_action.proofs.HandLemmas.{plan_to_go}
use Rattle.wx_action.proofs.StopLemmas.{job_stopped, ask_cut}
use Rattle.wx_action.proofs.acts_done.stop_job.Goals as goal

pub ask_or_ignore-requires-2 : goal.ask_or_ignore-requires-2
ask_or_ignore-requires-2 g c =
    let o = c.requires.0 in
    let asked = c.in_ok-ask_or_ignore.ensures.does.done in
    ((stop_asks c.args.signal c.args.grace o.0, asked.owes (Ask c.args.id Delete ∷ stop_asks c.args.signal c.args.grace o.0) o.1), c.ask_or_ignore.ensures.grows.stands)

pub returns-in_err-ask_or_ignore : goal.returns-in_err-ask_or_ignore
returns-in_err-ask_or_ignore g c =
    let o = c.requires.0 in
    record {
      grows = c.ask_or_ignore.ensures.grows;
      done = search rules;
      cut = on_err c.from_residual.result (rw c.in_err-ask_or_ignore.ensures.does.err (plan_to_go g.start c.args.journal.now.past (stop_asks c.args.signal c.args.grace (c.args.id ∷ o.0)) o.1));
    }

pub returns : goal.returns
returns g c =
    let o = c.requires.0 in
    let stops = c.in_ok-ask_or_ignore.ensures.does.done in
    record {
      grows = grows_then g.start _ _ _ _ _ _ c.ask_or_ignore.ensures.grows c.ask_or_ignore-2.ensures.grows;
      done = job_stopped _ g.start _ _ _ c.args.id c.args.signal c.args.grace stops c.ask_or_ignore-2.ensures.does;
      cut = ask_cut _ g.start _ _ c.args.id (stop_asks c.args.signal c.args.grace o.0) (stops.owes (Ask c.args.id Delete ∷ stop_asks c.args.signal c.args.grace o.0) o.1) c.ask_or_ignore-2.ensures.does;
    }
