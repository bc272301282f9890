use Rattle.std.proofs.Common.{refl, subst}
use Rattle.std.proofs.lemmas.Result.{IfOk-weaker}
use Rattle.wx_journal.specs.Lines.{Answer}
use Rattle.wx_script.specs.declared.script.Script.{Script}
use Rattle.wx_replay.specs.Runs.{IsRunOf}
use Rattle.wx_replay.specs.declared.status.Status.TheVariants.{Done}
use Rattle.wx_flood.specs.Floods.{flood_script}
use Rattle.wx_top.specs.Floods.{IsFlood}
use Rattle.wx_top.proofs.FloodLaws.{flood_ends}
use Rattle.wx_top.proofs.flooding.summary.Goals as goal

pub summary_of_run-text-requires : goal.summary_of_run-text-requires
summary_of_run-text-requires c = flood_ends c.args.steps c.args.seed _ _ _ c.in_ok-script.ensures.exact c.in_ok-ran.ensures

pub returns : goal.returns
returns c = IfOk-weaker c.summary_of_run-text.result _ (λ text. IsFlood c.args.steps c.args.seed text Done) (λ text both.
    let run = subst (λ (s : Script). IsRunOf s c.in_ok-ran.ran.journal.past c.in_ok-ran.ran.answer) c.in_ok-script.ensures.exact c.in_ok-ran.ensures in
    record {
      journal = c.in_ok-ran.ran.journal.past;
      run = subst (λ (a : Answer). IsRunOf (flood_script c.args.steps c.args.seed) c.in_ok-ran.ran.journal.past a) both.0 run;
      text_is = both.1;
      status_is = refl;
    }) c.summary_of_run-text.ensures
