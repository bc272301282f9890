use Rattle.std.proofs.Common.{◌≡◌, ◌∷◌, refl, ap, ◌∙◌}
use Rattle.std.specs.Prelude.{true, false, None}
use Rattle.wx_config.specs.declared.config.Config.{Config}
use Rattle.wx_journal.specs.declared.entry.Entry.TheVariants.{Applied}
use Rattle.wx_machine.specs.Due.{Applies, Comes, Open, agenda}
use Rattle.wx_machine.specs.Files.{source, watches_same}
use Rattle.wx_machine.proofs.SteadyLemmas.{only_none}
use Rattle.wx_action.specs.Stands.{Stands}
use Rattle.wx_file_turns.specs.Serves.{AttendsAlone}
use Rattle.wx_file_turns.specs.Standing.{IntakeStands}
use Rattle.wx_file_turns.proofs.Journals.{follows_adds}
use Rattle.wx_file_turns.proofs.Applied.{empty_known, intake_begun, is_behind, none_owed, none_watched}
use Rattle.wx_file_turns.proofs.Entries.{applied_alone, applied_stands}
use Rattle.wx_file_turns.proofs.Onward.{alone_room, alone_then}
use Rattle.wx_file_turns.proofs.SameRoots.{keeps_known}
use Rattle.wx_file_turns.proofs.Steps.{applied_now_due}
use Rattle.wx_file_turns.specs.declared.intake.Intake.{Intake}
use Rattle.wx_file_turns.proofs.applying.apply.Goals.{After-push, After-begin}
use Rattle.wx_file_turns.proofs.Settled.{applied_none, applied_settles, same_lane, unapplied_settles}
use Rattle.wx_file_turns.proofs.applying.apply.Goals as goal

-- settings were said to be applied, in room that was taken
alone : (g : _) (c : After-push g) → AttendsAlone g.start c.args.worker.now c.args.journal.now (g.W.Outside.seen c.args.world.now) c.push.new.self (g.W.Outside.seen c.args.world.now)
alone g c =
    let w = c.args.worker.now in
    let j = c.args.journal.now in
    let k = c.reserve.new.journal in
    let a = g.W.Outside.seen c.args.world.now in
    let stands : Stands g.start w k.past = rw c.reserve.ensures.same c.requires.1.1.0.stands in
    let owes : agenda g.start k.past ≡ Comes Applies Open = rw c.reserve.ensures.same c.requires.1.1.0.due in
    alone_then g.start w j k c.push.new.self a a a (alone_room g.start w j k a a c.requires.1.1.0.stands c.reserve.ensures.same c.reserve.ensures.kept only_none)
    (applied_alone g.start w k c.push.new.self a w.config.change_signal stands (applied_now_due g.start w k.past stands owes) c.push.ensures.past c.in_ok-reserve.ensures.room c.push.ensures.room)

-- what waits stands for them
waits : (g : _) (c : After-begin g) → IntakeStands g.start c.begin.new.self c.push.new.self.past
waits g c =
    let files = c.requires.1.1.1.1 in
    let p = c.args.journal.now.past in
    let grown : c.push.new.self.past ≡ Applied c.args.worker.now.config.change_signal ∷ p = rw c.reserve.ensures.same at c.push.ensures.past in
    let alike = keeps_known g.start.folder c.args.worker.now.config (source g.start p).applied (source g.start p).current c.args.files.now.source files.source_kept in
    intake_begun g.start c.args.files.now.intake c.begin.new.self p c.push.new.self.past c.args.worker.now.config _ files.intake_kept c.requires.1.1.0.stands.config_kept
    (c.in_ok-same.ensures ∙ alike ∙ ap (λ (d : Config). watches_same g.start.folder d (source g.start p).applied) c.requires.1.1.0.stands.config_kept) grown (rw (c.backs-backs.ensures, c.items-items.ensures, c.reserve.ensures.same) at c.begin.ensures)

pub returns-then-is_empty-clause-served : goal.returns-then-is_empty-clause-served
returns-then-is_empty-clause-served g c =
    let grown : c.push.new.self.past ≡ Applied c.args.worker.now.config.change_signal ∷ c.args.journal.now.past = rw c.reserve.ensures.same at c.push.ensures.past in
    none_owed g.start c.args.journal.now.past _ c.args.worker.now.config c.requires.1.1.0.due c.requires.1.1.1.0 c.requires.1.1.0.stands.config_kept grown (empty_known c.args.worker.now.config.pathset c.get.result.now c.is_empty.result true c.get.ensures c.is_empty.ensures c.if-is_empty.true)

pub returns-then-is_empty-clause-alone : goal.returns-then-is_empty-clause-alone
returns-then-is_empty-clause-alone g c = alone g (goal.at.returns-then-is_empty-clause-alone g c).After-push

pub returns-then-is_empty-clause-files : goal.returns-then-is_empty-clause-files
returns-then-is_empty-clause-files g c =
    let grown : c.push.new.self.past ≡ Applied c.args.worker.now.config.change_signal ∷ c.args.journal.now.past = rw c.reserve.ensures.same at c.push.ensures.past in
    none_watched g.start c.args.files.now _ c.args.journal.now.past _ c.args.worker.now.config c.requires.1.1.1.1 c.requires.1.1.0.stands.config_kept grown refl refl refl (waits g (goal.at.returns-then-is_empty-clause-files g c).After-begin) (empty_known c.args.worker.now.config.pathset c.get.result.now c.is_empty.result true c.get.ensures c.is_empty.ensures c.if-is_empty.true)

pub returns-clause-alone : goal.returns-clause-alone
returns-clause-alone g c = alone_then g.start c.args.worker.now c.args.journal.now c.push.new.self _ _ _ _ (alone g (goal.at.returns-clause-alone g c).After-push) c.watch.ensures.alone

pub watch-requires : goal.watch-requires
watch-requires g c = λ κs lives.
    let grown : c.push.new.self.past ≡ Applied c.args.worker.now.config.change_signal ∷ c.args.journal.now.past = rw c.reserve.ensures.same at c.push.ensures.past in
    let stands : Stands g.start c.args.worker.now c.args.journal.now.past = c.requires.1.1.0.stands in (
      lives.0,
      (
        lives.1,
        (
          rw grown (applied_stands g.start c.args.worker.now c.args.journal.now.past c.args.worker.now.config.change_signal stands),
          (
            rw grown c.requires.1.1.1.0,
            is_behind g.start c.args.files.now _ c.args.journal.now.past _ c.args.worker.now.config c.requires.1.1.1.1 c.requires.1.1.0.due c.requires.1.1.1.0 stands.config_kept grown refl refl refl (waits g (goal.at.watch-requires g c).After-begin) (empty_known c.args.worker.now.config.pathset c.get.result.now c.is_empty.result false c.get.ensures c.is_empty.ensures c.if-is_empty.false),
          ),
        ),
      ),
    )

-- ---- where nothing fails

pub returns-then-is_empty-clause-settles : goal.returns-then-is_empty-clause-settles
returns-then-is_empty-clause-settles g c =
    let grown : c.push.new.self.past ≡ Applied c.args.worker.now.config.change_signal ∷ c.args.journal.now.past = rw c.reserve.ensures.same at c.push.ensures.past in
    applied_none _ _ g.start c.args.files.now _ c.args.journal.now.past c.push.new.self.past c.args.worker.now.config _ _ c.requires.1.1.0.stands.config_kept grown (same_lane c.args.files.now.intake c.begin.new.self (ap (λ (x : Intake). x.lane) c.begin.ensures)) refl

pub returns-clause-settles : goal.returns-clause-settles
returns-clause-settles g c =
    let grown : c.push.new.self.past ≡ Applied c.args.worker.now.config.change_signal ∷ c.args.journal.now.past = rw c.reserve.ensures.same at c.push.ensures.past in
    applied_settles _ _ g.start c.watch.result c.args.files.now c.watch.new.files c.args.journal.now.past c.push.new.self.past c.watch.new.journal.past c.args.worker.now.config _ _ c.requires.1.1.0.stands.config_kept grown (follows_adds g.start _ _ _ _ _ _ (c.watch.ensures.alone.serves None).follows) c.watch.ensures.onward.steps_kept (λ h. rw c.watch.ensures.intake (same_lane c.args.files.now.intake c.begin.new.self (ap (λ (x : Intake). x.lane) c.begin.ensures) h)) c.watch.ensures.walks

pub returns-in_err-reserve-clause-settles : goal.returns-in_err-reserve-clause-settles
returns-in_err-reserve-clause-settles g c = unapplied_settles _ _ g.start c.from_residual.result _ c.args.files.now c.args.files.now _ _ _ _ c.from_residual.ensures.1 c.reserve.ensures.same

pub returns-in_err-same-clause-settles : goal.returns-in_err-same-clause-settles
returns-in_err-same-clause-settles g c = unapplied_settles _ _ g.start c.from_residual-in_err-same.result _ c.args.files.now c.args.files.now _ _ _ _ c.from_residual-in_err-same.ensures.1 c.reserve.ensures.same
