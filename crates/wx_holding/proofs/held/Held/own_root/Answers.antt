use Rattle.wx_holding.proofs.Results.{ok_map}
use Rattle.wx_holding.proofs.Acts.{owns_root}
use Rattle.std.proofs.Common.{ap}
use Rattle.wx_holding.proofs.Watching.{keeps_more, keeps_same}
use Rattle.wx_holding.proofs.held.Held.own_root.Goals as goal

pub returns-clause-state : goal.returns-clause-state
returns-clause-state g c = ok_map c.own.result _ _ (λ h. owns_root c.args.root.now c.args.root.now.path c.args.identity.now _ _ _ _ _ _ _ c.is_scanned-scans.ensures c.in_ok-item.ensures c.find_again.ensures h) c.own.ensures.state

pub returns-clause-watches : goal.returns-clause-watches
returns-clause-watches g c = ok_map c.own.result _ _ (λ h. keeps_more _ _ _ _ _ _ (keeps_same _ _ _ (ap (λ x. x.registrations) c.find_again.ensures)) h) c.own.ensures.watches
