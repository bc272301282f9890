-- Flags, and looks at them.
use Rattle.std.specs.Prelude.{◌≡◌, ℕ, Bool, true, false}
use Rattle.futures.specs.declared.task.Poll.{Poll}
use Rattle.futures.specs.declared.task.Poll.TheVariants.{Ready, Pending}

-- what contracts see of a flag: the name of the lock that all its copies look at, and whether this one saw it raised
pub record Flag : Type 0 where
  pub lock : ℕ
  pub seen : Bool

-- a look leaves the flag as it was, but that it may have been seen raised: what was seen before stays seen
pub record Looks (before after : Flag) : Type 0 where
  pub lock : after.lock ≡ before.lock
  pub seen : before.seen ≡ true → after.seen ≡ true

-- what a poll answers that saw this
abbrev pub poll_of : Bool → Poll (Unit {0})
poll_of true = Ready tt
poll_of false = Pending
