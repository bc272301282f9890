-- The round of a world with handles.
use Rattle.std.specs.Prelude.{ℕ, ◌+◌, ◌==◌, ◌&&◌, Bool, true, false, nat_le, if◌then◌else◌, List, [], ◌∷◌}
use Rattle.wx_journal.specs.declared.entry.Entry.{Entry}
use Rattle.wx_journal.specs.declared.entry.Entry.TheVariants.{Turn as Turned}
use Rattle.wx_journal.specs.declared.entry.TurnKind.{TurnKind}
use Rattle.wx_journal.specs.declared.entry.TurnKind.TheVariants.{Work, Job, Listen, File}

-- a turn of the round
abbrev pub is_round : TurnKind → Bool
is_round Work = true
is_round (Job id) = true
is_round Listen = true
is_round File = true
is_round (_) = false

-- a turn that is of the round stands at this place of it: `Work` at 0, the jobs behind it by their ids, `Listen`, and `File`
abbrev pub is_at : ℕ → TurnKind → ℕ → Bool
is_at jobs Work place = place == 0
is_at jobs (Job id) place = (id.0 + 1 == place) && nat_le place jobs
is_at jobs Listen place = place == jobs + 1
is_at jobs File place = place == jobs + 2
is_at jobs (_) place = true

abbrev pub next_place : ℕ → ℕ → ℕ
next_place jobs place = if place == jobs + 2 then 0 else place + 1

abbrev pub place_behind : ℕ → TurnKind → ℕ → ℕ
place_behind jobs kind place = if is_round kind then next_place jobs place else place

abbrev pub place_after : ℕ → Entry → ℕ → ℕ
place_after jobs (Turned t) place = place_behind jobs t.kind place
place_after jobs (_) place = place

-- the place of the next turn of the round, behind these, the newest first
abbrev pub place_in : ℕ → List Entry → ℕ
place_in jobs [] = 0
place_in jobs (e ∷ es) = place_after jobs e (place_in jobs es)

abbrev pub fits_round : ℕ → Entry → ℕ → Bool
fits_round jobs (Turned t) place = is_at jobs t.kind place
fits_round jobs (_) place = true

-- those of these turns that are of the round are rounds, one behind the other
abbrev pub are_rounds : ℕ → List Entry → Bool
are_rounds jobs [] = true
are_rounds jobs (e ∷ es) = fits_round jobs e (place_in jobs es) && are_rounds jobs es
