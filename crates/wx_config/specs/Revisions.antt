-- What those who watch the settings are told of the revision.
use Rattle.std.specs.Prelude.{ℕ, ◌==◌, if◌then◌else◌, Option, None, Some}

-- the revision, where none was told before, or another one
abbrev pub news : Option ℕ → ℕ → Option ℕ
news None revision = Some revision
news (Some told) revision = if told == revision then None else Some revision
