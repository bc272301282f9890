use Rattle.std.proofs.Common.{ap, ◌∙◌}
use Rattle.wx_holding.specs.Holding.{state_of}
use Rattle.wx_file_turns.specs.Hearing.{told_all}
use Rattle.wx_file_turns.proofs.Telling.{stays_then, told_last, told_next}
use Rattle.wx_file_turns.proofs.Settled.{none_empty}
use Rattle.wx_file_turns.proofs.hearing.tell_all.Goals as goal

pub loop-message-preserved : goal.loop-message-preserved
loop-message-preserved g c = record {
  stays = stays_then _ _ _ c.loop-message.invariant.stays c.in_ok-tell.ensures.stays;
  named = c.loop-message.invariant.named;
  all = c.loop-message.invariant.all;
  told = told_next _ _ _ c.loop-message.message-index _ _ _ _ c.loop-message-test.true c.message-item.is c.loop-message.invariant.stays.folder_kept c.in_ok-tell.ensures.told c.loop-message.invariant.told;
}

-- there is nothing to tell
pub returns-in_err-tell-clause-silent : goal.returns-in_err-tell-clause-silent
returns-in_err-tell-clause-silent g c = λ none. absurd (none_empty _ _ none c.if-is_empty.false c.is_empty.ensures)

pub returns-clause-silent : goal.returns-clause-silent
returns-clause-silent g c = λ none. absurd (none_empty _ _ none c.if-is_empty.false c.is_empty.ensures)

-- all was told
pub returns-clause-told : goal.returns-clause-told
returns-clause-told g c = told_last _ _ _ _ _ c.loop-message-test.false c.loop-message.invariant.told ∙ ap (λ ms. told_all c.args.watching.now.recursor.cwd ms (state_of c.args.watching.now.recursor.held)) c.loop-message.invariant.all
