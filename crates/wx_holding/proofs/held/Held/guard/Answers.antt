use Rattle.std.proofs.Common.{length}
use Rattle.wx_holding.specs.Holding.{state_of}
use Rattle.wx_holding.proofs.Results.{ok_map}
use Rattle.wx_holding.proofs.Acts.{guards_found}
use Rattle.wx_holding.proofs.Looks.{raised_by_guard}
use Rattle.wx_holding.proofs.Watching.{rose_later, rose_sooner}
use Rattle.wx_holding.proofs.held.Held.guard.Goals as goal

pub returns-clause-state : goal.returns-clause-state
returns-clause-state g c = ok_map c.guard_at.result _ _ (λ h. guards_found c.args.root.now _ (state_of c.args.self.now) (state_of c.guard_at.new.self) h) c.guard_at.ensures.state

pub returns-clause-raised : goal.returns-clause-raised
returns-clause-raised g c =
    ok_map c.guard_at.result _ _
    (λ h. raised_by_guard (length c.args.root.now.path) c.in_ok-found.found _
    (λ some. rose_later _ _ _ (c.in_ok-found.ensures.raised some) c.guard_at.ensures.looked.looks)
    c.in_ok-found.ensures.top
    (λ none. rose_sooner _ _ _ c.in_ok-found.ensures.looked.looks (h none)))
    c.guard_at.ensures.raised
