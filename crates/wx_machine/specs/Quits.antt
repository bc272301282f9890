-- Acts and their quits.
use Rattle.std.specs.Prelude.{ℕ, Bool, true, false, ◌||◌, Option, None, Some, List, [], ◌∷◌, ◌++◌}
use Rattle.wx_events.specs.declared.process.Signal.{Signal}
use Rattle.wx_control.specs.declared.id.Id.{Id}
use Rattle.wx_control.specs.declared.ask.Ask.TheVariants.{One, Delete}
use Rattle.wx_control.specs.declared.control.Control.TheVariants.{GracefulStop}
use Rattle.wx_journal.specs.Acts.{JournalAct as Act}
use Rattle.wx_journal.specs.declared.entry.Act.TheVariants.{Create, Ask as Asks, Change as Changes, Quit, QuitGracefully}
use Rattle.wx_journal.specs.declared.entry.Entry.{Entry}
use Rattle.wx_journal.specs.declared.entry.Entry.TheVariants.{Turn as Turned, Hand}
use Rattle.wx_machine.specs.declared.quit.QuitManner.{QuitManner}
use Rattle.wx_machine.specs.declared.quit.QuitManner.TheVariants.{Abort, Graceful}
use Rattle.wx_machine.specs.Last.{last_is, without_last}

-- this act asks for the end
abbrev pub is_quit : Act → Bool
is_quit (Create id command) = false
is_quit (Asks id ask) = false
is_quit (Changes change) = false
is_quit Quit = true
is_quit (QuitGracefully signal grace) = true

-- whether the last of these acts is a quit
abbrev pub ends_with_quit : List Act → Bool
ends_with_quit acts = last_is is_quit acts

-- the acts with this act behind them, a quit, which takes the place of one that stands last
abbrev pub with_this_quit : Act → List Act → List Act
with_this_quit act acts = without_last is_quit acts ++ act ∷ []

abbrev pub with_quit : List Act → List Act
with_quit acts = with_this_quit Quit acts

abbrev pub with_graceful_quit : Signal → ℕ → List Act → List Act
with_graceful_quit signal grace acts = with_this_quit (QuitGracefully signal grace) acts

-- How the end was asked for, behind an act: as it says, and as before where it is no quit.
abbrev pub quit_behind : Option QuitManner → Act → Option QuitManner
quit_behind before (Create id command) = before
quit_behind before (Asks id ask) = before
quit_behind before (Changes change) = before
quit_behind before Quit = Some Abort
quit_behind before (QuitGracefully signal grace) = Some (Graceful signal grace)

-- how the end was asked for, behind these acts: the last quit among them stands
abbrev pub quit_after : Option QuitManner → List Act → Option QuitManner
quit_after before [] = before
quit_after before (act ∷ acts) = quit_after (quit_behind before act) acts

-- how these acts ask for the end, where they do
abbrev pub quit_of : List Act → Option QuitManner
quit_of acts = quit_after None acts

abbrev pub is_abort : Option QuitManner → Bool
is_abort (Some Abort) = true
is_abort (_) = false

abbrev pub is_graceful : Option QuitManner → Bool
is_graceful (Some (Graceful signal grace)) = true
is_graceful (_) = false

-- what a graceful quit asks of these jobs, one by one: that it stops, in a grace, and then that it is deleted
abbrev pub stop_asks : Signal → ℕ → List Id → List Act
stop_asks signal grace [] = []
stop_asks signal grace (id ∷ ids) = Asks id (One (GracefulStop signal grace)) ∷ Asks id Delete ∷ stop_asks signal grace ids

abbrev pub quit_asks : Option QuitManner → List Id → List Act
quit_asks (Some (Graceful signal grace)) ids = stop_asks signal grace ids
quit_asks (_) ids = []

-- the acts of this turn's batch ask for the end at once
abbrev pub is_aborting : List Entry → Bool
is_aborting [] = false
is_aborting (Turned t ∷ p) = false
is_aborting (Hand n names acts ∷ p) = is_abort (quit_of acts)
is_aborting (_ ∷ p) = is_aborting p

-- the acts of a batch asked for a graceful end
abbrev pub graceful : List Entry → Bool
graceful [] = false
graceful (Hand n names acts ∷ p) = is_graceful (quit_of acts) || graceful p
graceful (_ ∷ p) = graceful p
