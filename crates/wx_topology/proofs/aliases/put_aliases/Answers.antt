use Rattle.std.proofs.Common.{◌++◌, ap, ◌∙◌}
use Rattle.wx_recursor.specs.Calls.{paths_of}
use Rattle.wx_recursor.specs.declared.known.Identity.TheVariants.{Canonical}
use Rattle.wx_holding.proofs.Results.{ok_map}
use Rattle.wx_topology.proofs.Standing.{all_aliases, appends_two}
use Rattle.wx_topology.proofs.aliases.put_aliases.Goals as goal

pub returns : goal.returns
returns c =
    ok_map c.put_entries_at.result _ _
    (λ h. appends_two _ _ _ _ _ _ (c.in_ok-put_standing.ensures ∙ ap (λ p. c.args.out.now.items ++ paths_of (Canonical p) (c.args.known.now ++ c.args.guards.now)) c.in_ok-copy.ensures) h (all_aliases c.args.path.now (c.args.known.now ++ c.args.guards.now)))
    c.put_entries_at.ensures
