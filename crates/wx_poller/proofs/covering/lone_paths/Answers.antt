use Rattle.std.proofs.Common.{arith, sym, ◌∙◌}
use Rattle.std.proofs.lemmas.Grind.{common_steps}
use Rattle.wx_scan.specs.Backings.{unregister}
use Rattle.wx_poller.specs.Covering.{is_lone}
use Rattle.wx_poller.proofs.Coverings.{lone_end, lone_more}
use Rattle.wx_poller.proofs.covering.lone_paths.Goals as goal

pub loop-path-preserved-in_ok-push : goal.loop-path-preserved-in_ok-push
loop-path-preserved-in_ok-push c = λ p.
    let e = lone_more (is_lone c.args.listing.now.entries c.args.one.now (unregister c.args.one.now c.args.registered.now)) (c.in-Some.path.now, c.in-Some.field-0-1.now) c.next.new.self c.loop-path.paths.items p (sym c.in_ok-is_lone.ensures ∙ c.if-branch.true) in
    grind (arith, common_steps, e, c.loop-path.invariant p)

pub returns : goal.returns
returns c = λ p. grind (arith, common_steps, lone_end, c.loop-path.invariant p)
