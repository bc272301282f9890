use Rattle.std.proofs.Common.{rules}
use Rattle.wx_machine.specs.Added.{Same}
use Rattle.wx_file_turns.proofs.Onward.{hand_none, steps_hand_then}
use Rattle.wx_file_turns.proofs.Shown.{shows_first, shows_none}
use Rattle.wx_file_turns.proofs.Walks.{first_of, rest_of, shows_more}
use Rattle.wx_file_turns.proofs.showing.show_errors.Goals as goal

pub loop-error-init : goal.loop-error-init
loop-error-init g c = record { hand = hand_none _ _ _ g.start _ _ _ c.requires.1.0; stepping = c.requires.1.1; left = λ error m. m; shows = Same; all = λ r h. h }

pub loop-error-preserved : goal.loop-error-preserved
loop-error-preserved g c = record {
  hand = steps_hand_then _ _ _ g.start _ _ _ _ _ _ _ _ _ c.loop-error.invariant.hand c.show_error.ensures.hand;
  stepping = c.in_ok-show_error.ensures.stepping;
  left = λ error m. c.loop-error.invariant.left error (rest_of _ _ _ error c.in-Some.ensures.some m);
  shows = shows_more c.args.errors _ _ _ _ (c.loop-error.invariant.left _ (first_of _ _ _ c.in-Some.ensures.some)) c.loop-error.invariant.shows c.in_ok-show_error.ensures.shows;
  all = λ r h. c.loop-error.invariant.all r (shows_first g.start _ _ _ _ _ r c.in-Some.ensures.some c.in_ok-show_error.ensures.shown h);
}

pub returns-in_err-show_error-clause-hand : goal.returns-in_err-show_error-clause-hand
returns-in_err-show_error-clause-hand g c = steps_hand_then _ _ _ g.start _ _ _ _ _ _ _ _ _ c.loop-error.invariant.hand c.show_error.ensures.hand

pub returns-clause-all : goal.returns-clause-all
returns-clause-all g c = c.loop-error.invariant.all c.loop-error.journal.past (shows_none g.start c.loop-error.left c.loop-error.journal.past (search rules))
