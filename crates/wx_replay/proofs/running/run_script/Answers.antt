use Rattle.std.proofs.lemmas.Result.{IfOk-weaker}
use Rattle.std.proofs.Common.{◌∙◌, sym, ap, subst, true, Some, List}
use Rattle.wx_journal.specs.declared.entry.Entry.{Entry}
use Rattle.wx_journal.specs.Told.{tells, is_turn, is_world, anywhere}
use Rattle.wx_patterns.specs.Lines.{patterns_of}
use Rattle.wx_machine.specs.Answer.{Answers}
use Rattle.wx_machine.specs.Start.{Start}
use Rattle.wx_script.specs.FollowLaws.{follows_turns, follows_answers, wished_follows}
use Rattle.wx_file_turns.specs.FewSteps.{FewSteps}
use Rattle.wx_machine.specs.Journal.{Verdict}
use Rattle.wx_script.specs.Acted.{dirs}
use Rattle.wx_script.specs.Answered.{AreAnswered}
use Rattle.wx_script.specs.Follows.{ignores_of}
use Rattle.wx_script.specs.Turns.{Given, turns_of}
use Rattle.wx_replay.specs.Runs.{IsRunOf}
use Rattle.wx_replay.specs.declared.running.Ran.{Ran}
use Rattle.wx_replay.specs.Still.{first_tree}
use Rattle.wx_replay.proofs.LinkLaws.{ask_none, starts_calm}
use Rattle.wx_replay.proofs.StillLaws.{first_named, foreseen, none_rises}
use Rattle.wx_replay.proofs.running.run_script.Goals as goal

pub returns : goal.returns
returns c = IfOk-weaker c.unless_short.result _ (λ r. IsRunOf c.args.script r.journal.past r.answer) (λ r whole.
    let j : List Entry = c.main-answer.new.journal.past in
    let kept = wished_follows c.args.script _ j c.in_ok-hooks.ensures.plan (c.main-answer.ensures.rule (sym c.short-short_hooks.ensures ∙ whole.1) c.in_ok-hooks.ensures.stands) in
    let turns = follows_turns c.args.script _ c.main-answer.new.world.told.past j
    (c.main-answer.ensures.world_plan ∙ c.in_ok-world.ensures.plan)
    c.main-answer.new.world.follows
    (c.main-answer.ensures.turns ∙ ap (λ (before : List Entry). tells (anywhere is_turn) j (Some (turns_of before))) c.in_ok-world.ensures.told) in
    subst (λ (x : Ran). IsRunOf c.args.script x.journal.past x.answer) (sym whole.2) (record {
      ready = _;
      answers = subst (λ (s : Start). Answers s j c.main-answer.result) c.in_ok-engine.ensures c.main-answer.ensures.answer;
      follows = record {
        turns = turns;
        acts = kept.0;
        filtered = kept.1;
        judged = kept.2;
        wished = kept.3;
        polled = kept.4;
        hooked = kept.5;
        answers = follows_answers c.args.script _ c.main-answer.new.world.told.past j
            (c.main-answer.ensures.world_plan ∙ c.in_ok-world.ensures.plan)
            (λ k. (c.main-answer.new.world.answered (sym c.short-short_world.ensures ∙ whole.0) k).0)
            (c.main-answer.ensures.world ∙ ap (λ (before : List Entry). tells is_world j (Some before)) c.in_ok-world.ensures.told);
      };
      few = λ still.
          let start = c.in_ok-engine.ensures in
          let asks = ask_none c.args.script.turns c.args.script.last c.args.script.actions j still.turns still.acts turns kept.0 in
          let calm = starts_calm (ignores_of c.args.script) start j (ap patterns_of still.ignores) still.follow asks (subst (λ (lines : List Verdict). AreAnswered (dirs (ignores_of c.args.script)) lines j) still.dirs kept.2) in
          let plan = c.in_ok-world.ensures.plan in
          let end_plan = c.main-answer.ensures.world_plan ∙ plan in
          subst (λ (s : Start). FewSteps s (first_tree c.args.script) j) start (c.main-answer.ensures.settles (first_tree c.args.script) (λ n q. true) (record {
            named = first_named c.args.script c.requires.placed;
            foresees = foreseen c.args.script _ _ _ _ _ _ _ c.in_ok-world.ensures.told (ap (λ (g : Given). g.edits) plan) c.in_ok-world.world.first (c.in_ok-world.ensures.watches ∙ still.watches) still.stamps;
            no_fault = none_rises _ _ _ c.args.script.failing_looks c.main-answer.new.world.tree.calm (ap (λ (g : Given). g.fails) end_plan) still.looks;
            calm = calm;
          }));
    })
    ) c.unless_short.ensures
