use Rattle.std.proofs.Common.{◌∙◌, sym}
use Rattle.std.proofs.lemmas.Result.{IfOk-weaker}
use Rattle.wx_print.proofs.OneSpelling.{one_spelling}
use Rattle.wx_replay.specs.Replays.{IsReplay}
use Rattle.wx_replay.specs.Writes.{IsWritten}
use Rattle.wx_replay.proofs.replaying.play.Goals as goal

pub returns-clause-text : goal.returns-clause-text
returns-clause-text c = IfOk-weaker c.shown-out.result _ (λ r. IsReplay c.args.script r.0 r.1) (λ r shown. record {
  journal = c.in_ok-ran.ran.journal.past;
  answer = c.in_ok-ran.ran.answer;
  run = c.in_ok-ran.ensures;
  fits = shown.fits;
  text_is = shown.text_is;
  only = λ other said f g e. one_spelling other _ said _ f shown.fits.0 g shown.fits.1 (sym e ∙ shown.text_is);
  status_is = shown.status_is;
}) c.shown-out.ensures

pub returns-clause-status : goal.returns-clause-status
returns-clause-status c = IfOk-weaker c.shown-out.result _ (λ r. IsWritten r.1) (λ r shown. shown.written) c.shown-out.ensures
