-- Which paths are ignored, and which events pass.
use Rattle.std.specs.Prelude.{◌≡◌, ℕ, Bool, true, false, not, ◌||◌, if◌then◌else◌, Option, None, Some, List, [], ◌∷◌, length, drop, Result, Ok, Err}
use Rattle.std.specs.List.{list_any}
use Rattle.std.specs.Option.{option_or}
use Rattle.wx_error.specs.declared.runtime.RuntimeError.{RuntimeError}
use Rattle.wx_error.specs.declared.runtime.RuntimeError.TheVariants.{Memory}
use Rattle.wx_events.specs.declared.event.Event.{Event}
use Rattle.wx_events.specs.declared.priority.Priority.{Priority}
use Rattle.wx_keys.specs.Tags.{paths}
use Rattle.wx_paths.specs.Paths.{begins_with, components}
use Rattle.wx_patterns.specs.declared.pattern.Pattern.{Pattern}
use Rattle.wx_patterns.specs.Lists.{is_empty, some_front}
use Rattle.wx_patterns.specs.Matching.{matches}

-- the last of these patterns that matches these names
abbrev pub last_match : List Pattern → List (List ℕ) → Option Pattern
last_match [] names = None
last_match (pattern ∷ patterns) names = option_or (last_match patterns names) (if matches pattern.parts names then Some pattern else None)

-- what matches such a pattern is hidden: it has no `!`
abbrev pub hides : Option Pattern → Bool
hides None = false
hides (Some pattern) = not pattern.negated

abbrev pub hidden_by : List Pattern → List (List ℕ) → Bool
hidden_by patterns names = hides (last_match patterns names)

-- what is behind the base of a path that lies there, by the components of both
abbrev pub below : List (List ℕ) → List (List ℕ) → List (List ℕ)
below base path = if begins_with path base then drop (length base) path else []

-- A path is ignored where it, or what it lies in below the base, is hidden.
abbrev pub ignored : List (List ℕ) → List Pattern → List ℕ → Bool
ignored base patterns path = some_front (hidden_by patterns) (below base (components path))

-- an event passes that has no path, or one that isn't ignored
abbrev pub passes : List (List ℕ) → List Pattern → Event → Bool
passes base patterns event = is_empty (paths event.tags) || list_any (λ path. not (ignored base patterns path.0)) (paths event.tags)

-- so does one that may be listed, where it isn't
abbrev pub lets_listed : List (List ℕ) → List Pattern → Option (Event × Priority) → Bool
lets_listed base patterns None = true
lets_listed base patterns (Some x) = passes base patterns x.0

-- this is the answer, or there was no memory
abbrev pub Answers : Bool → Result Bool RuntimeError → Type 0
Answers answer (Ok given) = given ≡ answer
Answers answer (Err e) = e ≡ Memory
