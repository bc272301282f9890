-- The tickets that are parked until a child ends.
use Rattle.std.specs.Prelude.{ℕ, List}

-- what contracts see of them: the tickets, in the order in which they were picked, and how many more there is room for
pub record Tickets : Type 0 where
  pub tickets : List ℕ
  pub spare : ℕ
