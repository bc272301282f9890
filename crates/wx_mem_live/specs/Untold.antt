-- What an outside that tells nothing is seen as.
use Rattle.std.specs.Prelude.{None}
use Rattle.wx_machine.specs.Seen.{Seen}
use Rattle.wx_live.specs.Drawn.{Drawn}

-- what is seen, but for its plan and what it was told
abbrev pub untold : {Fixed : Type 0} → Seen Fixed → Seen (Unit {0})
untold s = record {
  plan = tt;
  shown = record { told = None; faults = s.shown.faults };
  spare = s.spare;
  progress = s.progress;
  place = s.place;
  looked = s.looked;
}

-- nothing is told of what was drawn
abbrev pub undrawn : Drawn
undrawn = record { left = None; answers = None; moments = None; folder = None }
