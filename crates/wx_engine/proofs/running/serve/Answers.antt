use Rattle.std.proofs.Common.{sym, ◌∙◌}
use Rattle.wx_tree.proofs.ResultLemmas.{ok_always}
use Rattle.wx_file_turns.specs.Standing.{owing}
use Rattle.wx_file_turns.proofs.Journals.{follows_adds}
use Rattle.wx_file_turns.proofs.Settled.{ok_never, settling_beside}
use Rattle.wx_file_turns.proofs.Standing.{files_still}
use Rattle.wx_engine.proofs.SettleLemmas.{aside_beside}
use Rattle.wx_engine.proofs.TurnLemmas.{serves_other}
use Rattle.wx_engine.proofs.WatchLemmas.{Aside, about_files, aside, aside_source, aside_pays, aside_makes_none}
use Rattle.wx_engine.proofs.running.serve.Goals.{After-serve_other}
use Rattle.wx_engine.proofs.running.serve.Goals as goal

-- ---- a turn about what is watched

pub returns-then-is_file_turn-clause-last : goal.returns-then-is_file_turn-clause-last
returns-then-is_file_turn-clause-last g c = λ on. about_files c.args.kind (sym c.is_file_turn.ensures ∙ c.if-is_file_turn.true)

-- ---- a turn that isn't about what is watched

other : (g : _) (c : After-serve_other g) → Aside g.start c.args.journal.now.past c.serve_other.new.journal.past
other g c = aside g.start c.args.state.now c.args.at c.args.kind c.args.journal.now.past c.serve_other.new.journal.past _ _ _ _ c.requires.1.1.1.0 (sym c.is_file_turn.ensures ∙ c.if-is_file_turn.false) c.requires.1.1.1.1.0 c.serve_other.ensures.continues.serves.follows c.serve_other.ensures.continues.serves.turns

pub returns-clause-serves : goal.returns-clause-serves
returns-clause-serves g c = serves_other _ _ _ g.start _ _ _ _ _ _ _ _ c.serve_other.ensures.continues

pub returns-clause-files : goal.returns-clause-files
returns-clause-files g c = ok_always c.serve_other.result _ (files_still g.start c.args.files.now c.args.journal.now.past c.serve_other.new.journal.past (aside_source g.start _ _ (other g (goal.at.returns-clause-files g c).After-serve_other)) c.requires.1.1.1.1.1)

pub returns-clause-paid : goal.returns-clause-paid
returns-clause-paid g c = aside_pays g.start c.args.journal.now.past c.serve_other.new.journal.past (g.W.Outside.seen c.args.world.now) (g.W.Outside.seen c.serve_other.new.world) (owing c.args.files.now) (other g (goal.at.returns-clause-paid g c).After-serve_other) c.serve_other.ensures.continues.serves.steady.looked_kept.looks_kept

pub returns-clause-maker : goal.returns-clause-maker
returns-clause-maker g c = aside_makes_none g.start _ _ _ _ (other g (goal.at.returns-clause-maker g c).After-serve_other) c.serve_other.ensures.continues.serves.steady.progress_kept

-- ---- where nothing fails

pub returns-in_err-serve_files-clause-settles : goal.returns-in_err-serve_files-clause-settles
returns-in_err-serve_files-clause-settles g c = λ t ok calm h. ((c.serve_files.ensures.settles t ok calm h).0, ok_never c.from_residual.result _ _ c.from_residual.ensures.1)

pub returns-then-is_file_turn-clause-settles : goal.returns-then-is_file_turn-clause-settles
returns-then-is_file_turn-clause-settles g c = c.in_ok-serve_files.ensures.settles

pub returns-clause-settles : goal.returns-clause-settles
returns-clause-settles g c = settling_beside _ _ g.start c.serve_other.result c.args.files.now c.args.journal.now.past c.serve_other.new.journal.past _ _ (aside_beside g.start _ _ (other g (goal.at.returns-clause-settles g c).After-serve_other) (follows_adds g.start _ _ _ _ _ _ c.serve_other.ensures.continues.serves.follows))
