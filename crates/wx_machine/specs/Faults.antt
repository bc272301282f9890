-- Each fault of a call on a child raised the count of these.
use Rattle.std.specs.Prelude.{ℕ, ◌≤◌, ◌+◌, ◌-◌, ◌^◌, min, List}
use Rattle.wx_journal.specs.declared.entry.Entry.{Entry}
use Rattle.wx_journal.specs.Names.{count}
use Rattle.wx_machine.specs.Case.{is_fault}

-- how many calls on children failed
abbrev pub fault_count : List Entry → ℕ
fault_count p = count is_fault p

-- From one journal and count to another: the count never fell, and it rose by as much as calls failed, or stands at the
-- end of its range.
pub record Counted (p : List Entry) (n : ℕ) (p' : List Entry) (n' : ℕ) : Type 0 where
  pub later : n ≤ n'
  pub rose : min (n + (fault_count p' - fault_count p)) (2 ^ 64 - 1) ≤ n'

-- whatever counted up to the one counts up to the other
abbrev pub CountsOn : List Entry → ℕ → List Entry → ℕ → Type 0
CountsOn p n p' n' = (p₀ : List Entry) (n₀ : ℕ) → Counted p₀ n₀ p n → Counted p₀ n₀ p' n'
