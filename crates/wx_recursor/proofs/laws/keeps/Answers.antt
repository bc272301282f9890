use Rattle.wx_recursor.proofs.SoundSteps.{fresh_sound, reconcile_sound, step_sound, created_sound, removed_sound, renamed_sound, unsure_sound, sweep_rests}
use Rattle.wx_recursor.proofs.SoundRebuild.{prepared_sound, replayed_sound}
use Rattle.wx_recursor.proofs.laws.keeps.Goals as goal

pub returns-clause-fresh : goal.returns-clause-fresh
returns-clause-fresh c = fresh_sound

pub returns-clause-reconcile : goal.returns-clause-reconcile
returns-clause-reconcile c = λ rs n s k. reconcile_sound rs n s k

pub returns-clause-step : goal.returns-clause-step
returns-clause-step c = λ e s k. step_sound e s k

pub returns-clause-create : goal.returns-clause-create
returns-clause-create c = λ p s k. created_sound p s k

pub returns-clause-remove : goal.returns-clause-remove
returns-clause-remove c = λ p s k. removed_sound p s k

pub returns-clause-rename : goal.returns-clause-rename
returns-clause-rename c = λ p q s k. renamed_sound p q s k

pub returns-clause-ambiguous : goal.returns-clause-ambiguous
returns-clause-ambiguous c = λ p s k. unsure_sound p s k

pub returns-clause-prepare : goal.returns-clause-prepare
returns-clause-prepare c = λ s k. prepared_sound s k

pub returns-clause-replay : goal.returns-clause-replay
returns-clause-replay c = λ ws s k. replayed_sound ws s k

pub returns-clause-swept : goal.returns-clause-swept
returns-clause-swept c = λ e s h. sweep_rests e s h

pub returns-clause-rescan : goal.returns-clause-rescan
returns-clause-rescan c = λ s k. reconcile_sound s.roots s.filter s k

pub returns-clause-others : goal.returns-clause-others
returns-clause-others c = λ s k. (k, k, k)
