use Rattle.std.proofs.Common.{◌++◌, ap, arith, ◌∙◌}
use Rattle.std.proofs.lemmas.Grind.{common_steps}
use Rattle.wx_holding.proofs.Results.{ok_map}
use Rattle.wx_topology.proofs.Standing.{all_entries, have_parts}
use Rattle.wx_topology.proofs.aliases.put_entries_at.Goals as goal

pub put_entries_in_each-requires-clause-parts : goal.put_entries_in_each-requires-clause-parts
put_entries_in_each-requires-clause-parts c = have_parts c.args.path.now c.in_ok-path.field-0 c.in_ok-path.ensures.back

pub returns : goal.returns
returns c =
    ok_map c.put_entries_in_each.result _ _
    (λ h. h ∙ ap (λ z. c.args.out.now.items ++ z) (all_entries c.args.path.now c.in_ok-parent.parent c.as_slice.result.now (c.args.known.now ++ c.args.guards.now) (grind (arith, common_steps)) c.in_ok-parent.ensures (c.as_slice.ensures.value ∙ c.in_ok-identities.ensures)))
    c.put_entries_in_each.ensures
