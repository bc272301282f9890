use Rattle.std.proofs.Common.{◌≡◌}
use Rattle.wx_holding.specs.Holding.{state_of}
use Rattle.wx_recursor.specs.Calls.{reconciled}
use Rattle.wx_fs.specs.Kept.{kept_roots}
use Rattle.wx_fs.proofs.Epochs.{begins}
use Rattle.wx_fs.proofs.Keeping.{either_keeps, reconciled_kept, restless, unspent_keeps}
use Rattle.wx_fs.proofs.RootNames.{AreNamedRoots, kept_as, kept_named}
use Rattle.wx_fs.proofs.recursor.Recursor.reconcile.Goals as goal

pub invariant_of-self : goal.invariant_of-self
invariant_of-self g c =
    let s = state_of c.args.self.now.held in
    let t = state_of c.reconcile.new.self in
    let roots = c.in_ok-kept.kept.items in
    let named : AreNamedRoots roots = kept_named c.args.self.now.cwd c.as_slice.result.now roots c.in_ok-kept.ensures in
    record { keeps = unspent_keeps s t c.args.self.now.spent c.args.self.now.spent c.if-self.false c.args.self.now.keeps (either_keeps c.reconcile.result s t (reconciled roots c.args.filter s) c.reconcile.ensures.state c.reconcile.ensures.unchanged (reconciled_kept roots c.args.filter s t named)); rests = restless t c.args.self.now.spent }

pub returns-clause-begins : goal.returns-clause-begins
returns-clause-begins g c =
    let given = c.in_ok-kept.kept.items in
    let roots = kept_roots c.args.self.now.cwd c.args.roots.now in
    let same : given ≡ roots = kept_as c.args.self.now.cwd given c.as_slice.result.now c.args.roots.now c.in_ok-kept.ensures c.as_slice.ensures in
    begins c.reconcile.result roots given c.args.filter (state_of c.args.self.now.held) (state_of c.reconcile.new.self) same c.reconcile.ensures.state
