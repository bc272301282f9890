use Rattle.std.proofs.Common.{◌*◌, List, ◌∷◌, arith, refl, ap}
use Rattle.wx_hooks.specs.declared.handler.Todo.{Todo}
use Rattle.wx_hooks.specs.declared.handler.Todo.TheVariants as todo
use Rattle.std.specs.Prelude.{Option}
use Rattle.wx_control.specs.declared.id.Id.{Id}
use Rattle.wx_machine.specs.declared.quit.QuitManner.{QuitManner}
use Rattle.wx_action.specs.Perform.{OwesActs}
use Rattle.wx_worker.proofs.ServesLaws.{adds_none, adds}
use Rattle.wx_action.proofs.PerformLemmas.{OneDone, made, fresh}
use Rattle.wx_action.proofs.acts_done.make.Goals as goal

done : (g : _) (c : goal.After-push g) (rest : List Todo) (quit : Option QuitManner) (ids : List Id) → OwesActs g.start c.args.journal.now.past (todo.Create c.args.held ∷ rest) quit ids → OneDone g.start (record c.args.worker.now { jobs = c.add.new.self }) rest quit ids c.args.journal.now.past c.push.new.self.past
done g c rest quit ids owes =
    made g.start c.args.worker.now _ c.args.held rest quit ids c.args.journal.now.past c.push.new.self.past owes c.requires.1.1.stands refl c.in_ok-add.ensures.added
    (rw (c.id-id.ensures, c.reserve_job.ensures.same) at c.push.ensures.past)

pub add-requires : goal.add-requires
add-requires g c =
    let o = c.requires.1.0 in
    record { new = fresh g.start c.args.worker.now c.args.held o.0 o.1 o.2 c.args.journal.now.past o.3 c.requires.1.1.stands }

pub returns-in_default-clause-performs : goal.returns-in_default-clause-performs
returns-in_default-clause-performs g c = record {
  ready = record { stands = rw c.reserve_job.ensures.same c.requires.1.1.stands; room = record { in_journal = omega (arith, c.requires.1.1.room.in_journal, c.reserve_job.ensures.kept); in_host = omega (arith, c.requires.1.1.room.in_host, c.reserve_job.ensures.rest.kept) } };
  adds = rw c.reserve_job.ensures.same (adds_none _ _);
  rest = c.reserve_job.ensures.rest;
}

pub returns-in_err-add-clause-performs : goal.returns-in_err-add-clause-performs
returns-in_err-add-clause-performs g c = rw c.in_err-add.ensures.err (record {
  ready = record { stands = rw c.reserve_job.ensures.same c.requires.1.1.stands; room = record { in_journal = omega (arith, c.requires.1.1.room.in_journal, c.reserve_job.ensures.kept); in_host = omega (arith, c.requires.1.1.room.in_host, c.reserve_job.ensures.rest.kept) } };
  adds = rw c.reserve_job.ensures.same (adds_none _ _);
  rest = c.reserve_job.ensures.rest;
})

pub returns-clause-performs : goal.returns-clause-performs
returns-clause-performs g c =
    let o = c.requires.1.0 in
    let d = done g c o.0 o.1 o.2 o.3 in
    let count = c.in_ok-add.ensures.len in
    record { ready = record { stands = d.stands; room = record { in_journal = omega (arith, ap (λ n. 2 * n) count, c.in-Ok.ensures.room, c.push.ensures.room); in_host = omega (arith, ap (λ n. 2 * n) count, c.in-Ok.ensures.host_room) } }; adds = adds _ _ _ d.follows d.quiet d.turns; rest = c.reserve_job.ensures.rest }

pub returns-clause-does : goal.returns-clause-does
returns-clause-does g c = record { done = λ rest quit ids owes. (done g c rest quit ids owes).owes; err = tt }
