use Rattle.std.proofs.Common.{sym, ◌∙◌}
use Rattle.wx_hooks.proofs.ByIdLemmas.{alive_any}
use Rattle.wx_hooks.proofs.job_list.JobList.any_lives.Goals as goal

pub returns-then-lives : goal.returns-then-lives
returns-then-lives c = sym (alive_any _ c.args.self.now (sym c.lives.ensures ∙ c.if-lives.true))
