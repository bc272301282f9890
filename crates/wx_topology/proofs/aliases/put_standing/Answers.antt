use Rattle.wx_holding.proofs.Results.{ok_map}
use Rattle.wx_topology.proofs.Standing.{appends_two, paths_both}
use Rattle.wx_topology.proofs.aliases.put_standing.Goals as goal

pub returns : goal.returns
returns c =
    ok_map c.put_paths_of-2.result _ _ (λ h. appends_two _ _ _ _ _ _ c.in_ok-put_paths_of.ensures h (paths_both c.args.identity.now c.args.known.now c.args.guards.now)) c.put_paths_of-2.ensures
