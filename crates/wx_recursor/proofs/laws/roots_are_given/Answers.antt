use Rattle.wx_recursor.proofs.GivenRoots.{reconcile_given, rescan_given, step_given, created_given, removed_given, renamed_given, unsure_given, prepared_given, replayed_given}
use Rattle.wx_recursor.proofs.laws.roots_are_given.Goals as goal

pub returns-clause-fresh : goal.returns-clause-fresh
returns-clause-fresh c = record { roots = λ r m. m; owners = λ o m. absurd m; guards = λ g m. absurd m; queue = λ w m. absurd m; retries = λ x m. absurd m }

pub returns-clause-reconcile : goal.returns-clause-reconcile
returns-clause-reconcile c = λ rs n v s k. reconcile_given rs n v s k

pub returns-clause-step : goal.returns-clause-step
returns-clause-step c = λ e v s k. step_given v e s k

pub returns-clause-create : goal.returns-clause-create
returns-clause-create c = λ p v s k. created_given v p s k

pub returns-clause-remove : goal.returns-clause-remove
returns-clause-remove c = λ p v s k. removed_given v p s k

pub returns-clause-rename : goal.returns-clause-rename
returns-clause-rename c = λ p q v s k. renamed_given v p q s k

pub returns-clause-ambiguous : goal.returns-clause-ambiguous
returns-clause-ambiguous c = λ p v s k. unsure_given v p s k

pub returns-clause-prepare : goal.returns-clause-prepare
returns-clause-prepare c = λ v s k. prepared_given v s k

pub returns-clause-replay : goal.returns-clause-replay
returns-clause-replay c = λ ws v s k. replayed_given v ws s k

pub returns-clause-others : goal.returns-clause-others
returns-clause-others c = λ v s k. (k, k, k)

pub returns-clause-rescan : goal.returns-clause-rescan
returns-clause-rescan c = λ v s k. rescan_given v s k
