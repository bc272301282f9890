use Rattle.std.proofs.Common.{sym, ap, ◌∙◌}
use Rattle.wx_handles.specs.Threaded.{Based}
use Rattle.wx_live_run.proofs.Runs.{live_left}
use Rattle.wx_live_run.proofs.live_run.run_world.Goals as goal

pub take_in-requires-clause-one : goal.take_in-requires-clause-one
take_in-requires-clause-one g c = (
  c.into_parts-live.ensures.made ∙ ap (λ (p : Based). p.made) c.both_sides-read.ensures.plan ∙ c.in_ok-world.ensures.begins.made,
  c.both_sides-read.ensures.read.number_kept ∙ c.in_ok-world.ensures.pass.0,
  c.both_sides-read.ensures.read.queue_kept ∙ c.in_ok-world.ensures.pass.2 ∙ sym (c.into_parts-live.ensures.queue ∙ ap (λ (p : Based). p.queue) c.both_sides-read.ensures.plan),
)

pub returns-clause-place : goal.returns-clause-place
returns-clause-place g c = c.into_parts-live.ensures.place ∙ c.both_sides-read.ensures.place ∙ c.in_ok-world.ensures.begins.place ∙ c.in_ok-folder.ensures.rest.place_kept

pub returns-clause-ran : goal.returns-clause-ran
returns-clause-ran g c = live_left c.args.turns c.args.ignores.now c.args.command.now c.in_ok-folder.folder g.S.Source.left g.S.Source.faults _ _ c.in_ok-world.pass _ _ _ _ _ _ _ _ _ _ _ c.both_sides-read.new.journal c.both_sides-read.result.0 c.both_sides-read.result.1 c.unless_failed.result
    c.in_ok-folder.ensures.told c.in_ok-folder.ensures.rest c.in_ok-folder.ensures.drawn c.in_ok-world.ensures.begins c.both_sides-read.ensures.plan c.both_sides-read.ensures.ran c.into_parts-live.ensures
    c.in_ok-world.ensures.pass.0 c.in_ok-world.ensures.pass.1 c.both_sides-read.ensures.read c.take_in.ensures c.unless_failed.ensures
