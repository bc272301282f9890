-- What a live outside in memory drew.
use Rattle.std.specs.Prelude.{None, Some, [], codes}
use Rattle.wx_live.specs.Drawn.{Drawn, with_answer, with_moment}
use Rattle.wx_mem_live.specs.declared.call.Call.{Call}
use Rattle.wx_mem_live.specs.declared.call.Call.TheVariants.{Moment, NoEnd}

abbrev pub nothing : Drawn
nothing = record { left = Some []; answers = Some []; moments = Some []; folder = Some (codes "/") }

abbrev pub drawn_after : Call → Drawn → Drawn
drawn_after (Moment at) d = with_moment at d
drawn_after NoEnd d = with_answer None d

-- no end comes by itself, and the folder is `/`
abbrev pub quiet : Drawn → Drawn
quiet d = record d { left = Some []; folder = Some (codes "/") }
