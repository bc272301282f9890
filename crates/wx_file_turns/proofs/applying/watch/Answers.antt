use Rattle.wx_file_turns.proofs.Walks.{any_refreshed}
use Rattle.std.proofs.Common.{ap, refl, sym, ◌∙◌, ◌≡◌}
use Rattle.std.specs.Prelude.{None, Some}
use Rattle.wx_config.specs.declared.config.Config.{Config}
use Rattle.wx_machine.specs.Settings.{settings}
use Rattle.wx_file_turns.proofs.Standing.{intake_on, watch_files}
use Rattle.wx_file_turns.proofs.Settled.{ok_never}
use Rattle.wx_file_turns.proofs.applying.watch.Goals as goal

-- ---- where nothing fails

pub returns-then-serves-clause-walks : goal.returns-then-serves-clause-walks
returns-then-serves-clause-walks g c = λ t ok named foresees just before. rw c.in_ok-refresh.was at (any_refreshed _ _ t ok g.start c.refresh.result _ c.args.worker.now.config _ _ just before c.refresh.ensures.refreshed)

pub returns-in_err-refresh-clause-walks : goal.returns-in_err-refresh-clause-walks
returns-in_err-refresh-clause-walks g c = λ t ok named foresees just before. ok_never c.from_residual.result _ _ c.from_residual.ensures.1

pub returns-in_err-watching-clause-walks : goal.returns-in_err-watching-clause-walks
returns-in_err-watching-clause-walks g c = λ t ok named foresees just before. ok_never c.from_residual-in_err-watching.result _ _ c.from_residual-in_err-watching.ensures.1

pub returns-clause-walks : goal.returns-clause-walks
returns-clause-walks g c = λ t ok named foresees just before. c.in_ok-watching.ensures.walks t ok named foresees just

same_revision : (c d : Config) → d ≡ c → Some c.change_signal ≡ Some d.change_signal
same_revision c d same = sym (ap (λ (x : Config). Some x.change_signal) same)

pub returns-clause-files : goal.returns-clause-files
returns-clause-files g c =
    let behind = c.requires.1.1.1.1 in
    let before : Config = settings g.start c.args.journal.now.past in
    let after : Config = settings g.start c.begin.new.journal.past in
    let same : after ≡ before = (c.begin.ensures.alone.serves None).settings_kept in
    watch_files g.start _ _ c.begin.new.journal.past c.in_ok-watching.ensures.watching refl (behind.revision_kept ∙ same_revision before after same) behind.folder_kept behind.absolute (intake_on g.start c.args.files.now.intake c.args.journal.now.past _ c.begin.ensures.brought behind.intake_kept)
