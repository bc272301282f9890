use Rattle.wx_step.proofs.Abouts.{asks_where_allowed, created_about, prepared_about, reconcile_about, removed_about, renamed_about, replayed_about, rescan_about, step_about, unsure_about}
use Rattle.wx_step.proofs.laws.roots_are_current.Goals as goal

pub returns-clause-fresh : goal.returns-clause-fresh
returns-clause-fresh c = record { roots = λ r m. m; stand = λ r m. m; guards = λ g m. absurd m; queue = λ w m. absurd m }

pub returns-clause-reconcile : goal.returns-clause-reconcile
returns-clause-reconcile c = λ rs n s. reconcile_about rs n s

pub returns-clause-rescan : goal.returns-clause-rescan
returns-clause-rescan c = λ v s k. rescan_about v s k

pub returns-clause-step : goal.returns-clause-step
returns-clause-step c = λ e v s k. step_about v e s k

pub returns-clause-create : goal.returns-clause-create
returns-clause-create c = λ p v s k. created_about v p s k

pub returns-clause-remove : goal.returns-clause-remove
returns-clause-remove c = λ p v s k. removed_about v p s k

pub returns-clause-rename : goal.returns-clause-rename
returns-clause-rename c = λ p q v s k. renamed_about v p q s k

pub returns-clause-ambiguous : goal.returns-clause-ambiguous
returns-clause-ambiguous c = λ p v s k. unsure_about v p s k

pub returns-clause-prepare : goal.returns-clause-prepare
returns-clause-prepare c = λ v s k. prepared_about v s k

pub returns-clause-replay : goal.returns-clause-replay
returns-clause-replay c = λ ws v s k. replayed_about v ws s k

pub returns-clause-others : goal.returns-clause-others
returns-clause-others c = λ v s k. (k, k, k)

pub returns-clause-asks : goal.returns-clause-asks
returns-clause-asks c = λ under v s h k f. asks_where_allowed under v s h k f
