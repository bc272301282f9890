-- What a call did to a journal, and what it told.
use Rattle.std.specs.Prelude.{Option, List, ◌∷◌}
use Rattle.wx_journal.specs.declared.entry.Entry.{Entry}
use Rattle.wx_journal.specs.Told.{tell_if, is_world, is_hooks}
use Rattle.wx_machine.specs.Start.{Start}
use Rattle.wx_machine.specs.Due.{Due}

-- From one journal to a longer one, with what world and hooks were told: each entry on top was due at those before it,
-- and was told by just the one that it is a call on.
pub data Leads (s : Start) (p : List Entry) (world hooks : Option (List Entry)) : List Entry → Option (List Entry) → Option (List Entry) → Type 0 where
  Here : Leads s p world hooks p world hooks
  Then : (e : Entry) (p' : List Entry) (world' hooks' : Option (List Entry)) → Leads s p world hooks p' world' hooks' → Due s p' e → Leads s p world hooks (e ∷ p') (tell_if (is_world p' e) e world') (tell_if (is_hooks e) e hooks')

-- whatever led to the one leads on to the other
abbrev pub Follows : Start → List Entry → Option (List Entry) → Option (List Entry) → List Entry → Option (List Entry) → Option (List Entry) → Type 0
Follows s p world hooks p' world' hooks' = (p₀ : List Entry) (world₀ hooks₀ : Option (List Entry)) → Leads s p₀ world₀ hooks₀ p world hooks → Leads s p₀ world₀ hooks₀ p' world' hooks'

-- the same where the world isn't called
abbrev pub FollowsHooks : Start → List Entry → Option (List Entry) → List Entry → Option (List Entry) → Type 0
FollowsHooks s p hooks p' hooks' = (world : Option (List Entry)) → Follows s p world hooks p' world hooks'

-- the same where neither the world nor the hooks are called
abbrev pub FollowsAlone : Start → List Entry → List Entry → Type 0
FollowsAlone s p p' = (world hooks : Option (List Entry)) → Follows s p world hooks p' world hooks
