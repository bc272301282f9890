use Rattle.std.proofs.Common.{ℕ, Ok, length, get_or, refl, sym, ap, ◌∙◌, arith}
use Rattle.std.specs.Prelude.{not}
use Rattle.std.proofs.lemmas.Bool.{or_parts}
use Rattle.wx_machine.specs.Journal.{Verdict}
use Rattle.wx_patterns.specs.Ignoring.{ignored}
use Rattle.wx_script.specs.Answered.{answers_of}
use Rattle.wx_script.specs.Acted.{dirs}
use Rattle.wx_follow.specs.Filtering.{ignores_by}
use Rattle.wx_follow.proofs.GivenLaws.{next_line}
use Rattle.wx_follow.proofs.script_hooks.ScriptHooksHooks.check_dir.Goals as goal

pub returns-clause-keeps : goal.returns-clause-keeps
returns-clause-keeps c p = record {
  plan_kept = refl;
  place_kept = refl;
  short_falls = λ e. (or_parts c.args.self.now.is_short c.verdict_on_dir-answer.result.2 (sym c.either-self.ensures ∙ e)).0;
  passes = λ e own stands.
      let clear = (or_parts c.args.self.now.is_short c.verdict_on_dir-answer.result.2 (sym c.either-self.ensures ∙ e)).1 in
      let usual : Verdict = Ok (not (ignored c.args.self.now.patterns.base c.args.self.now.patterns.patterns c.args.path)) in
      let due = c.verdict_on_dir-answer.ensures.answer clear ∙ ap (λ (k : ℕ). get_or c.args.self.now.dirs k usual) stands.2 ∙ next_line c.args.self.now.dirs (length (answers_of (dirs (ignores_by c.args.self.now.patterns)) p)) usual in
      (record { acts = tt; verdict = tt; judgement = due; wish = tt; ready = tt; words = tt }, (stands.0, stands.1, omega (arith, c.passed-self.ensures, stands.2), stands.3, stands.4, stands.5));
}
