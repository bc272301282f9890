use Rattle.wx_walk.proofs.WatchedLemmas.{reached_watched, wanted-safe, reached_guards_once, reached_settles}
use Rattle.wx_walk.proofs.laws.watched.Goals as goal

pub returns-clause-wanted : goal.returns-clause-wanted
returns-clause-wanted c = λ t cs s r p h. reached_watched t cs s r p h

pub returns-clause-plain : goal.returns-clause-plain
returns-clause-plain c = λ t cs s r p h. wanted-safe t cs p (reached_watched t cs s r p h)

pub returns-clause-guards : goal.returns-clause-guards
returns-clause-guards c = λ t cs s r. reached_guards_once t cs s r

pub returns-clause-few : goal.returns-clause-few
returns-clause-few c = λ t k ks o s r. reached_settles t k ks o s r
