use Rattle.std.proofs.Common.{List, ◌∷◌, arith, refl, ap}
use Rattle.wx_hooks.specs.declared.handler.Todo.{Todo}
use Rattle.wx_hooks.specs.declared.handler.Todo.TheVariants as todo
use Rattle.std.specs.Prelude.{Option}
use Rattle.wx_control.specs.declared.id.Id.{Id}
use Rattle.wx_machine.specs.declared.quit.QuitManner.{QuitManner}
use Rattle.wx_action.specs.Perform.{OwesActs}
use Rattle.wx_worker.specs.Stands.{end_room}
use Rattle.wx_worker.proofs.ServesLaws.{adds}
use Rattle.wx_worker.proofs.ArriveLemmas.{grows_none}
use Rattle.wx_action.proofs.PerformLemmas.{OneDone, change_fits, changed_one}
use Rattle.wx_action.proofs.acts_done.change.Goals as goal

pub change-requires-clause-fits : goal.change-requires-clause-fits
change-requires-clause-fits g c = let o = c.requires.0 in rw (ap (λ k. k.change_signal) c.requires.1.config_kept) (change_fits g.start c.args.journal.now.past c.args.change o.0 o.1 o.2 o.3)

done : (g : _) (c : goal.After-change g) (rest : List Todo) (quit : Option QuitManner) (ids : List Id) → OwesActs g.start c.args.journal.now.past (todo.Change c.args.change ∷ rest) quit ids → OneDone g.start c.change.new.self rest quit ids c.args.journal.now.past c.change.new.journal.past
done g c rest quit ids owes =
    changed_one g.start c.args.worker.now c.change.new.self c.args.change rest quit ids c.args.journal.now.past c.change.new.journal.past owes c.requires.1 c.change.ensures.same c.change.ensures.ended c.change.ensures.changed (rw c.in-Ok.ensures.same at c.change.ensures.past)

pub returns-in_default-clause-grows : goal.returns-in_default-clause-grows
returns-in_default-clause-grows g c = grows_none _ _ _ _ _ (rw c.reserve.ensures.same c.requires.1) c.reserve.ensures.same refl (λ room. omega (arith, room, c.reserve.ensures.kept))

pub returns-clause-grows : goal.returns-clause-grows
returns-clause-grows g c = let o = c.requires.0 in let d = done g c o.0 o.1 o.2 o.3 in record {
  stands = d.stands;
  adds = adds _ _ _ d.follows d.quiet d.turns;
  end_kept = ap end_room c.change.ensures.same;
  room = λ room. omega (arith, ap end_room c.change.ensures.same, c.in-Ok.ensures.room, c.change.ensures.room);
}

pub returns-clause-does : goal.returns-clause-does
returns-clause-does g c = record { done = λ rest quit ids owes. (done g c rest quit ids owes).owes; err = tt }
