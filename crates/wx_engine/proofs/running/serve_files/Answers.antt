use Rattle.std.proofs.Common.{None}
use Rattle.wx_engine.proofs.TurnLemmas.{serves_alone}
use Rattle.wx_file_turns.proofs.Settled.{ok_never}
use Rattle.wx_engine.proofs.running.serve_files.Goals as goal

pub returns-in_err-listen_turn-in-Listen-clause-serves : goal.returns-in_err-listen_turn-in-Listen-clause-serves
returns-in_err-listen_turn-in-Listen-clause-serves g c = serves_alone _ _ _ g.start _ _ _ _ _ _ c.listen_turn.ensures.alone

pub returns-in_ok-listen_turn-in-Listen-clause-serves : goal.returns-in_ok-listen_turn-in-Listen-clause-serves
returns-in_ok-listen_turn-in-Listen-clause-serves g c = serves_alone _ _ _ g.start _ _ _ _ _ _ c.listen_turn.ensures.alone

-- no backend was to be made
pub returns-in_err-listen_turn-in-Listen-clause-maker : goal.returns-in_err-listen_turn-in-Listen-clause-maker
returns-in_err-listen_turn-in-Listen-clause-maker g c = rw c.listen_turn.ensures.none_unmade (record { later = (c.listen_turn.ensures.alone.serves None).unmade.later; rose = λ is. absurd cc })

pub returns-in_ok-listen_turn-in-Listen-clause-maker : goal.returns-in_ok-listen_turn-in-Listen-clause-maker
returns-in_ok-listen_turn-in-Listen-clause-maker g c = rw c.listen_turn.ensures.none_unmade (record { later = (c.listen_turn.ensures.alone.serves None).unmade.later; rose = λ is. absurd cc })

-- ---- where nothing fails

pub returns-in_err-listen_turn-in-Listen-clause-settles : goal.returns-in_err-listen_turn-in-Listen-clause-settles
returns-in_err-listen_turn-in-Listen-clause-settles g c = λ t ok calm h. ((c.listen_turn.ensures.settles t ok calm h).0, ok_never c.from_residual.result _ _ c.from_residual.ensures.1)

pub returns-in_ok-listen_turn-in-Listen-clause-settles : goal.returns-in_ok-listen_turn-in-Listen-clause-settles
returns-in_ok-listen_turn-in-Listen-clause-settles g c = c.in_ok-listen_turn-in-Listen.ensures.settles
