use Rattle.wx_recursor.proofs.Coverage.{reconcile_covers, step_covers, created_covers, removed_covers, renamed_covers, unsure_covers, prepared_covers, replayed_covers}
use Rattle.wx_recursor.proofs.laws.covers.Goals as goal

pub returns-clause-reconcile : goal.returns-clause-reconcile
returns-clause-reconcile c = λ rs n s k. reconcile_covers rs n s k

pub returns-clause-step : goal.returns-clause-step
returns-clause-step c = λ e s k. step_covers e s k

pub returns-clause-create : goal.returns-clause-create
returns-clause-create c = λ p s k. created_covers p s k

pub returns-clause-remove : goal.returns-clause-remove
returns-clause-remove c = λ p s k. removed_covers p s k

pub returns-clause-rename : goal.returns-clause-rename
returns-clause-rename c = λ p q s k. renamed_covers p q s k

pub returns-clause-ambiguous : goal.returns-clause-ambiguous
returns-clause-ambiguous c = λ p s k. unsure_covers p s k

pub returns-clause-fresh : goal.returns-clause-fresh
returns-clause-fresh c = record { owners = λ o m. absurd m; queue = λ w m. absurd m; retries = λ x m. absurd m }

pub returns-clause-rescan : goal.returns-clause-rescan
returns-clause-rescan c = λ s k. reconcile_covers s.roots s.filter s k

pub returns-clause-prepare : goal.returns-clause-prepare
returns-clause-prepare c = λ s k. prepared_covers s k

pub returns-clause-replay : goal.returns-clause-replay
returns-clause-replay c = λ ws s k. replayed_covers ws s k

pub returns-clause-others : goal.returns-clause-others
returns-clause-others c = λ s k. (k, k, k)
