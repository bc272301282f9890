use Rattle.std.proofs.Common.{rules, refl}
use Rattle.wx_file_turns.proofs.DirLemmas.{kept_room, kept_more}
use Rattle.wx_file_turns.proofs.judging.DirCallsDirCheck.check_dir.Goals as goal

-- ---- the filter wasn't asked

pub returns-in_err-reserve-2-clause-kept : goal.returns-in_err-reserve-2-clause-kept
returns-in_err-reserve-2-clause-kept g c b h = kept_room g.H.JobHooks.seen g.H.JobHooks.rule g.H.JobHooks.stands b _ _ _ _ _ _ h c.reserve.ensures.same c.reserve.ensures.kept c.reserve-2.ensures.rest

pub returns-in_err-asked-clause-kept : goal.returns-in_err-asked-clause-kept
returns-in_err-asked-clause-kept g c b h = kept_room g.H.JobHooks.seen g.H.JobHooks.rule g.H.JobHooks.stands b _ _ _ _ _ _ h c.reserve.ensures.same c.reserve.ensures.kept c.reserve-2.ensures.rest

pub returns-in_default-clause-kept : goal.returns-in_default-clause-kept
returns-in_default-clause-kept g c b h = kept_room g.H.JobHooks.seen g.H.JobHooks.rule g.H.JobHooks.stands b _ _ _ _ _ _ h c.reserve.ensures.same c.reserve.ensures.kept c.reserve-2.ensures.rest

-- ---- it was

pub returns-in_err-given-clause-kept : goal.returns-in_err-given-clause-kept
returns-in_err-given-clause-kept g c b h = kept_more g.H.JobHooks.seen g.H.JobHooks.rule g.H.JobHooks.stands b _ c.args.self.now.worker.now _ c.args.self.now.journal.now c.reserve.new.journal _ c.args.self.now.hooks.now c.reserve-2.new.self _ _ c.args.path.now c.check_dir-answer.result _ h c.reserve.ensures.same c.reserve.ensures.kept c.in_ok-reserve.ensures.room c.reserve-2.ensures.rest
    (search rules) (search rules) refl c.requires (search rules) (search rules) (search rules) refl (search rules) (search rules)

pub returns-clause-kept : goal.returns-clause-kept
returns-clause-kept g c b h = kept_more g.H.JobHooks.seen g.H.JobHooks.rule g.H.JobHooks.stands b _ c.args.self.now.worker.now _ c.args.self.now.journal.now c.reserve.new.journal _ c.args.self.now.hooks.now c.reserve-2.new.self _ _ c.args.path.now c.check_dir-answer.result _ h c.reserve.ensures.same c.reserve.ensures.kept c.in_ok-reserve.ensures.room c.reserve-2.ensures.rest
    (search rules) (search rules) refl c.requires (search rules) (search rules) (search rules) refl (search rules) (search rules)
