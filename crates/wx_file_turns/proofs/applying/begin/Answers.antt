use Rattle.std.proofs.Common.{ap, ◌∙◌}
use Rattle.wx_config.specs.declared.config.Config.{Config}
use Rattle.wx_file_turns.proofs.Steps.{make_due}
use Rattle.wx_file_turns.proofs.Walks.{begun_walks}
use Rattle.wx_file_turns.proofs.applying.begin.Goals as goal

pub make_backend-requires : goal.make_backend-requires
make_backend-requires g c = λ κs lives.
    let owes = c.requires.1.1.0 in (
      lives.0,
      (
        lives.1,
        (
          owes.stands,
          make_due g.start _ _ c.args.journal.now.past owes.due c.requires.1.1.1.1.0 (c.get-kind.ensures ∙ ap (λ (d : Config). d.file_watcher) owes.stands.config_kept) (c.get-follow.ensures ∙ ap (λ (d : Config). d.follow_symlinks) owes.stands.config_kept),
        ),
      ),
    )

-- ---- where nothing fails

pub returns-clause-walks : goal.returns-clause-walks
returns-clause-walks g c = λ t ok named foresees just.
    let links = c.get-follow.ensures ∙ just.links in
    let made = c.in_ok-back.ensures.exact foresees.exact links in
    let given = c.in_ok-recursor.ensures.given in
    let folder = given.2 ∙ c.in_ok-cwd.ensures ∙ c.requires.1.1.1.1.1.0 in
    begun_walks _ _ t ok g.start c.args.journal.now.past c.make_backend.new.journal.past c.args.worker.now.config _ _ _ _ c.in_ok-recursor.recursor _ just c.in_ok-back.ensures.made (record { links = given.1 ∙ links; folder = folder; stands = c.in_ok-recursor.ensures.stands t made.0 (made.1 t named) }) (c.in_ok-recursor.ensures.reached t) (rw c.get.ensures at c.in_ok-reconcile.ensures.state) c.reconcile.ensures.others.0 c.reconcile.ensures.others.2 c.reconcile.ensures.others.3
