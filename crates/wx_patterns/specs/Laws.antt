-- Laws of what is ignored.
use Rattle.std.specs.Prelude.{◌≡◌, ℕ, true, false, List, []}
use Rattle.std.specs.List.{All}
use Rattle.wx_events.specs.declared.event.Event.{Event}
use Rattle.wx_keys.specs.Tags.{paths}
use Rattle.wx_paths.specs.Paths.{starts_with}
use Rattle.wx_patterns.specs.declared.pattern.Pattern.{Pattern}
use Rattle.wx_patterns.specs.Lists.{is_empty}
use Rattle.wx_patterns.specs.Ignoring.{ignored, passes}

-- what is at or below an ignored folder is ignored
abbrev pub AllBelowIsIgnored : Type 0
AllBelowIsIgnored = (base : List (List ℕ)) (patterns : List Pattern) (folder path : List ℕ) → ignored base patterns folder ≡ true → starts_with path folder ≡ true → ignored base patterns path ≡ true

-- an event that has paths, all at or below an ignored folder, doesn't pass
abbrev pub NoEventPassesBelow : Type 0
NoEventPassesBelow = (base : List (List ℕ)) (patterns : List Pattern) (folder : List ℕ) (event : Event) → ignored base patterns folder ≡ true → is_empty (paths event.tags) ≡ false → All (λ path. starts_with path.0 folder ≡ true) (paths event.tags) → passes base patterns event ≡ false

-- no patterns ignore nothing
abbrev pub NoneIgnoreNothing : Type 0
NoneIgnoreNothing = (base : List (List ℕ)) (path : List ℕ) → ignored base [] path ≡ false

-- so by no patterns each event passes
abbrev pub NoneLetEventsPass : Type 0
NoneLetEventsPass = (base : List (List ℕ)) (event : Event) → passes base [] event ≡ true
