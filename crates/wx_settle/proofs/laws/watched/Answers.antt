use Rattle.std.specs.Prelude.{◌∷◌}
use Rattle.wx_walk.proofs.WatchedLemmas.{reached_watched, wanted-safe, reached_guards_once, reached_settles}
use Rattle.wx_settle.specs.Plain.{plain}
use Rattle.wx_recursor.specs.Identities.{known_path}
use Rattle.wx_settle.proofs.Reach.{full_reached, in_map}
use Rattle.wx_settle.proofs.Calm.{full_more, step_calm}
use Rattle.wx_settle.proofs.laws.watched.Goals as goal

pub returns-clause-wanted : goal.returns-clause-wanted
returns-clause-wanted c = λ t cs u r k h. let a = full_reached t cs u r in reached_watched t cs (plain u) a.1 k.path (in_map known_path k u.registrations h)

pub returns-clause-plain : goal.returns-clause-plain
returns-clause-plain c = λ t cs u r k h.
    let a = full_reached t cs u r in
    let s = a.0 in
    (wanted-safe t cs k.path (reached_watched t cs (plain u) a.1 k.path (in_map known_path k u.registrations h)), s.right.registrations k h)

pub returns-clause-guards : goal.returns-clause-guards
returns-clause-guards c = λ t cs u r. let a = full_reached t cs u r in reached_guards_once t cs (plain u) a.1

pub returns-clause-few : goal.returns-clause-few
returns-clause-few c = λ t k ks o u r. let a = full_reached t (k ∷ ks) u r in reached_settles t k ks o (plain u) a.1

pub returns-clause-more : goal.returns-clause-more
returns-clause-more c = λ t k ks u e r work sees freed.
    let a = step_calm t k ks u e r work sees freed in
    (full_more t k ks u e r work sees freed, a.0, λ x h. let d = a.1 x h in (d.0, d.1, d.2.unsafe, d.2.gap, d.3))
