-- Numbers that are drawn one after another, each by the state that the one before it left.
use Rattle.std.specs.Prelude.{ℕ, ◌+◌, ◌*◌, ◌/◌, ◌%◌, ◌^◌}

-- the state behind one draw more
abbrev pub next : ℕ → ℕ
next state = (state * 6364136223846793005 + 1442695040888963407) % 2 ^ 64

-- the number below a limit that is drawn where this is the state behind
abbrev pub number : ℕ → ℕ → ℕ
number limit state = (state / 2 ^ 33) % limit
