-- What a replay did: there are answers of its calls by which the state changed so.
use Rattle.std.specs.Prelude.{◌≡◌, List, length}
use Rattle.wx_recursor.specs.Rebuilds.{replayed, replayed_all, replayed_one}
use Rattle.wx_recursor.specs.States.{RecursorState}
use Rattle.wx_recursor.specs.declared.answers.Watched.{Watched}
use Rattle.wx_recursor.specs.declared.known.Known.{Known}

-- one registration was watched again
abbrev pub ReplaysOne : Known → RecursorState → RecursorState → Type 0
ReplaysOne g s t = (w : Watched) × (t ≡ replayed_one g w s)

-- These were watched again, in order, until the replay was over. There is an answer for each, so none is passed over.
abbrev pub ReplaysAll : List Known → RecursorState → RecursorState → Type 0
ReplaysAll gs s t = (ws : List Watched) × (length ws ≡ length gs) × (t ≡ replayed_all gs ws s)

-- what waited was watched again
abbrev pub Replays : RecursorState → RecursorState → Type 0
Replays s t = (ws : List Watched) × (length ws ≡ length s.waiting) × (t ≡ replayed ws s)
