use Rattle.wx_settle.proofs.Reach.{full_few, full_walk, full_guards, full_regs, full_calm, full_reached}
use Rattle.wx_settle.proofs.Shows.{call_shows}
use Rattle.wx_settle.proofs.laws.settles.Goals as goal

pub returns-clause-few : goal.returns-clause-few
returns-clause-few c = λ t k ks o n b s r h. full_few t k ks o n b s r h

pub returns-clause-walk : goal.returns-clause-walk
returns-clause-walk c = λ t k ks s r e. full_walk t k ks s r e

pub returns-clause-guards : goal.returns-clause-guards
returns-clause-guards c = λ t k ks s r e. full_guards t k ks s r e

pub returns-clause-registered : goal.returns-clause-registered
returns-clause-registered c = λ t k ks s r e. full_regs t k ks s r e

pub returns-clause-calm : goal.returns-clause-calm
returns-clause-calm c = λ t ks s r. full_calm t ks s r

pub returns-clause-shown : goal.returns-clause-shown
returns-clause-shown c = λ t k ks n b s es asks r h x i.
    let a = call_shows t k ks n b s es asks r h in
    let d = a.1 x i in
    (d.0, d.1, d.2.unsafe, d.2.gap, d.3)

pub returns-clause-absent : goal.returns-clause-absent
returns-clause-absent c = λ t k ks n b s es asks r h rest root is_root u g.
    let a = call_shows t k ks n b s es asks r h in
    a.2 rest root is_root (record { unsafe = u; gap = g })

pub returns-clause-rebuild : goal.returns-clause-rebuild
returns-clause-rebuild c = λ t k ks n b s es asks r h. let a = call_shows t k ks n b s es asks r h in a.0

pub returns-clause-tombstones : goal.returns-clause-tombstones
returns-clause-tombstones c = λ t ks s r. let a = full_reached t ks s r in let k = a.0 in k.quiet.tombstones
