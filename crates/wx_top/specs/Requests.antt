-- What the words of a call ask for.
use Rattle.std.specs.Prelude.{ℕ, ◌+◌, ◌-◌, ◌≤◌, ◌<◌, ⊤, Bool, ◌&&◌, nat_lt, if◌then◌else◌, Option, None, Some, List, [], ◌∷◌, codes}
use Rattle.std.specs.Str.{bytes_eq}
use Rattle.wx_words.specs.Line.{◌>>=◌}
use Rattle.wx_words.specs.Numbers.{number_in}
use Rattle.wx_patterns.specs.Lines.{is_pattern}
use Rattle.wx_top.specs.declared.request.Request.{Request}
use Rattle.wx_top.specs.declared.request.Request.TheVariants.{Replay, Flood, Live}

-- its numbers are within their limits
abbrev pub IsWithin : Request → Type 0
IsWithin Replay = ⊤
IsWithin (Flood steps seed) = steps ≤ 100000
IsWithin (Live turns from before) = turns ≤ 4194304

-- among so many words there are some behind those before the command, and fewer stand before the patterns
abbrev pub IsPlaced : ℕ → Request → Type 0
IsPlaced count (Live turns from before) = (from < before) × (before < count)
IsPlaced count (_) = ⊤

-- ---- by the words behind the first one

abbrev pub replay_of : List (List ℕ) → Option Request
replay_of [] = Some Replay
replay_of (_) = None

-- a flood has 100,000 steps at most
abbrev pub flood_within : ℕ → ℕ → Option Request
flood_within steps seed = if nat_lt 100000 steps then None else Some (Flood steps seed)

abbrev pub flood_of : List (List ℕ) → Option Request
flood_of (steps ∷ seed ∷ []) = number_in steps >>= (λ n. number_in seed >>= flood_within n)
flood_of (_) = None

-- a command runs for 4,194,304 turns at most
abbrev pub live_within : ℕ → ℕ → ℕ → Option Request
live_within turns from before = if nat_lt 4194304 turns then None else Some (Live turns from before)

-- this word and the next one say what is ignored, where so many may still do
abbrev pub is_ignore : ℕ → List ℕ → List ℕ → Bool
is_ignore room word next = bytes_eq word (codes "--ignore") && (nat_lt 0 room && is_pattern next)

-- Behind what is ignored stand two dashes, and behind these a program and its arguments. So many words would stand before the program
-- if the dashes came first.
abbrev pub live_behind : ℕ → List (List ℕ) → ℕ → ℕ → ℕ → Option Request
live_behind room [] turns from before = None
live_behind room (word ∷ []) turns from before = None
live_behind room (word ∷ next ∷ words) turns from before =
    if bytes_eq word (codes "--") then live_within turns from before
    else (if is_ignore room word next then live_behind (room - 1) words turns from (before + 2) else None)

-- what is ignored is said 64 times at most
abbrev pub live_from : List (List ℕ) → ℕ → ℕ → Option Request
live_from words turns from = live_behind 64 words turns from (from + 1)

abbrev pub live_counted : List (List ℕ) → Option Request
live_counted [] = None
live_counted (turns ∷ behind) = number_in turns >>= (λ n. live_from behind n 3)

-- it runs for a million turns, where no other number is said
abbrev pub live_of : List (List ℕ) → Option Request
live_of [] = None
live_of (word ∷ behind) = if bytes_eq word (codes "--turns") then live_counted behind else live_from (word ∷ behind) 1000000 1

-- the lines that these words, up to the dashes, say are ignored
abbrev pub ignores_in : List (List ℕ) → List (List ℕ)
ignores_in [] = []
ignores_in (word ∷ []) = []
ignores_in (word ∷ next ∷ words) = if bytes_eq word (codes "--ignore") then next ∷ ignores_in words else []

-- ---- the table

-- a first word, and what is asked for by the words behind it
abbrev pub Row : Type 0
Row = List ℕ × (List (List ℕ) → Option Request)

abbrev pub rows : List Row
rows = (codes "replay", replay_of) ∷ (codes "flood", flood_of) ∷ (codes "live", live_of) ∷ []

abbrev pub found : List Row → List ℕ → List (List ℕ) → Option Request
found [] word behind = None
found (row ∷ rows) word behind = if bytes_eq word row.0 then row.1 behind else found rows word behind

-- what these words ask for
abbrev pub asked : List (List ℕ) → Option Request
asked [] = None
asked (word ∷ behind) = found rows word behind
