use Rattle.std.proofs.Common.{List, None, inr, refl, subst}
use Rattle.wx_tree.proofs.ResultLemmas.{ok_always}
use Rattle.wx_journal.specs.declared.entry.Entry.{Entry}
use Rattle.wx_action.specs.Stands.{MayShow}
use Rattle.wx_file_turns.proofs.Journals.{adds_then, beside_of, follows_adds}
use Rattle.wx_file_turns.proofs.Hearings.{called_heard, called_room, called_steps, called_then, fault_wants, heard_intake, heard_owes, heard_watched, heard_worked, heard_works, kind_applied, rests_wants}
use Rattle.wx_file_turns.proofs.Onward.{leaves_none}
use Rattle.wx_file_turns.proofs.Settled.{beside_none, beside_one}
use Rattle.wx_file_turns.proofs.hearing.hear.Goals as goal

-- there was no room for it
pub returns-in_err-reserve-clause-hand : goal.returns-in_err-reserve-clause-hand
returns-in_err-reserve-clause-hand g c = called_room _ _ _ g.start c.args.worker.now c.args.journal.now c.reserve.new.journal c.args.hooks.now c.requires.1.1.0.stands c.reserve.ensures.same c.reserve.ensures.kept

pub returns-in_err-reserve-clause-idle : goal.returns-in_err-reserve-clause-idle
returns-in_err-reserve-clause-idle g c = inr refl

pub returns-in_err-reserve-clause-breaks : goal.returns-in_err-reserve-clause-breaks
returns-in_err-reserve-clause-breaks g c = rests_wants g.start c.args.worker.now c.args.journal.now.past c.reserve.new.journal.past c.from_residual.result c.reserve.ensures.same c.requires.1.1.0 c.from_residual.ensures.1

-- it was heard
pub returns-in_err-tell_all-clause-hand : goal.returns-in_err-tell_all-clause-hand
returns-in_err-tell_all-clause-hand g c = called_heard _ _ _ g.start c.args.worker.now c.args.hearing c.args.journal.now c.reserve.new.journal c.push.new.self c.args.hooks.now c.requires.1.1.0 c.requires.1.1.1.0 c.reserve.ensures.same c.in_ok-reserve.ensures.room c.push.ensures.past c.push.ensures.room

pub returns-in_err-tell_all-clause-idle : goal.returns-in_err-tell_all-clause-idle
returns-in_err-tell_all-clause-idle g c = heard_worked g.start c.args.journal.now.past c.push.new.self.past c.push.new.self.past c.args.hearing.name _ (rw c.reserve.ensures.same at c.push.ensures.past) (leaves_none g.start c.push.new.self.past)

pub returns-in_err-tell_all-clause-breaks : goal.returns-in_err-tell_all-clause-breaks
returns-in_err-tell_all-clause-breaks g c = fault_wants g.start c.args.worker.now c.push.new.self.past _ _ _ c.from_residual-in_err-tell_all.result (heard_owes g.start c.args.worker.now c.args.hearing c.args.watching.now.recursor.kind c.args.journal.now.past c.push.new.self.past c.requires.1.1.0 c.requires.1.1.1.0 c.requires.1.1.1.1.1.1 (kind_applied g.start c.args.watching.now c.args.journal.now.past c.requires.1.1.1.1.0) (rw c.reserve.ensures.same at c.push.ensures.past)) c.from_residual-in_err-tell_all.ensures.1

-- its fault is owed
pub show_fault-requires : goal.show_fault-requires
show_fault-requires g c = λ κs lives. (
  lives,
  (
    heard_owes g.start c.args.worker.now c.args.hearing c.args.watching.now.recursor.kind c.args.journal.now.past c.push.new.self.past c.requires.1.1.0 c.requires.1.1.1.0 c.requires.1.1.1.1.1.1 (kind_applied g.start c.args.watching.now c.args.journal.now.past c.requires.1.1.1.1.0) (rw c.reserve.ensures.same at c.push.ensures.past),
    rw (c.push.ensures.past, c.reserve.ensures.same) c.requires.1.1.1.1.1.1,
  ),
)

-- and was shown
pub returns-clause-hand : goal.returns-clause-hand
returns-clause-hand g c =
    called_then _ _ _ g.start c.args.worker.now c.args.worker.now _ c.args.journal.now c.push.new.self _ c.args.hooks.now c.args.hooks.now _
    (called_heard _ _ _ g.start c.args.worker.now c.args.hearing c.args.journal.now c.reserve.new.journal c.push.new.self c.args.hooks.now c.requires.1.1.0 c.requires.1.1.1.0 c.reserve.ensures.same c.in_ok-reserve.ensures.room c.push.ensures.past c.push.ensures.room)
    (called_steps _ _ _ g.start _ _ _ _ _ _ c.show_fault.ensures.hand)

pub returns-clause-adds : goal.returns-clause-adds
returns-clause-adds g c = ok_always c.show_fault.result _ (subst (λ (p : List Entry). MayShow p c.show_fault.new.journal.past) (rw c.reserve.ensures.same at c.push.ensures.past) c.show_fault.ensures.adds)

pub returns-clause-told : goal.returns-clause-told
returns-clause-told g c = ok_always c.show_fault.result _ c.in_ok-tell_all.ensures.told

pub returns-clause-watching : goal.returns-clause-watching
returns-clause-watching g c = heard_watched g.start c.args.watching.now c.tell_all.new.watching c.args.journal.now.past c.push.new.self.past c.show_fault.new.journal.past c.args.hearing.name c.show_fault.result c.requires.1.1.1.1.0 (rw c.reserve.ensures.same at c.push.ensures.past) c.tell_all.ensures.named c.in_ok-tell_all.ensures.stays c.show_fault.ensures.hand.leaves

pub returns-clause-intake : goal.returns-clause-intake
returns-clause-intake g c = heard_intake g.start c.args.intake.now c.hear.new.self c.args.journal.now.past c.push.new.self.past c.show_fault.new.journal.past c.args.hearing.name c.show_fault.result c.requires.1.1.1.1.1.0 c.hear.ensures (rw c.reserve.ensures.same at c.push.ensures.past) c.show_fault.ensures.hand.leaves

pub returns-clause-work : goal.returns-clause-work
returns-clause-work g c = heard_works g.start c.args.journal.now.past c.push.new.self.past c.show_fault.new.journal.past c.args.hearing.name c.show_fault.result (rw c.reserve.ensures.same at c.push.ensures.past) c.show_fault.ensures.hand.leaves

pub returns-clause-idle : goal.returns-clause-idle
returns-clause-idle g c = heard_worked g.start c.args.journal.now.past c.push.new.self.past c.show_fault.new.journal.past c.args.hearing.name _ (rw c.reserve.ensures.same at c.push.ensures.past) c.show_fault.ensures.hand.leaves

-- ---- where nothing fails

pub returns-in_err-reserve-clause-beside : goal.returns-in_err-reserve-clause-beside
returns-in_err-reserve-clause-beside g c = beside_none _ _ c.reserve.ensures.same

pub returns-in_err-tell_all-clause-beside : goal.returns-in_err-tell_all-clause-beside
returns-in_err-tell_all-clause-beside g c = beside_one _ _ _ (record { none_applied = refl; none_done = refl }) (rw c.reserve.ensures.same at c.push.ensures.past)

pub returns-clause-beside : goal.returns-clause-beside
returns-clause-beside g c =
    let shown = c.show_fault.ensures.hand in
    let heard = beside_one _ c.args.journal.now.past c.push.new.self.past (record { none_applied = refl; none_done = refl }) (rw c.reserve.ensures.same at c.push.ensures.past) in
    adds_then _ _ _ heard (beside_of _ _ (follows_adds g.start _ _ _ _ _ _ (shown.grows.adds.follows None)) shown.leaves.steps_kept shown.leaves.work_kept)
