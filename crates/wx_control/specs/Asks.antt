-- The table of asks, and their words.
use Rattle.std.proofs.Common.{◌≡◌, refl}
use Rattle.std.specs.Prelude.{ℕ, None, Some, Result, Ok, Err, List, [], ◌∷◌, codes}
use Rattle.wx_words.specs.Spellings.{Spelling}
use Rattle.wx_words.specs.Choices.{Row, row, Behind, fields}
use Rattle.wx_words.specs.ChoiceLaws.{MadeAgain, SpeltSo, choice}
use Rattle.wx_words.specs.Results.{AreApart, result_of}
use Rattle.wx_words.specs.Parts.{line, nothing, both, as_line, number, renamed}
use Rattle.wx_events.specs.Ends.{signal}
use Rattle.wx_events.specs.declared.process.Signal.{Signal}
use Rattle.wx_control.specs.declared.control.Control.{Control}
use Rattle.wx_control.specs.declared.control.Control.TheVariants.{Start, Stop, GracefulStop, Delete as Deletion, NextEnding}
use Rattle.wx_control.specs.declared.level.Level.TheVariants.{Normal, High, Urgent}
use Rattle.wx_control.specs.declared.ask.Ask.{Ask}
use Rattle.wx_control.specs.declared.ask.Ask.TheVariants.{One, Restart, RestartWithSignal, Delete, DeleteNow, ToWait}
use Rattle.wx_control.specs.declared.ask.Sends.{Sends}
use Rattle.wx_control.specs.Controls.{control}

-- the controls of each ask, and their level
abbrev pub sends_of : Ask → Sends
sends_of (One c) = record { first = c; second = None; level = Normal }
sends_of Restart = record { first = Stop; second = Some Start; level = Normal }
sends_of (RestartWithSignal s grace) = record { first = GracefulStop s grace; second = Some Start; level = Normal }
sends_of Delete = record { first = Stop; second = Some Deletion; level = Normal }
sends_of DeleteNow = record { first = Stop; second = Some Deletion; level = Urgent }
sends_of ToWait = record { first = NextEnding; second = None; level = High }

-- the asks that have a name of their own
pub data Named : Type 0 where
  Restarts : Named
  RestartsWith : Signal → ℕ → Named
  Deletes : Named
  DeletesNow : Named
  Awaits : Named

-- each first word of these, and what stands behind it
abbrev pub named_rows : List (Row line Named)
named_rows =
    row (codes "restart") nothing (λ u. Restarts)
    ∷ row (codes "restartsignal") (both signal (as_line number)) (λ p. RestartsWith p.0 p.1)
    ∷ row (codes "stopdelete") nothing (λ u. Deletes)
    ∷ row (codes "deletenow") nothing (λ u. DeletesNow)
    ∷ row (codes "towait") nothing (λ u. Awaits)
    ∷ []

abbrev pub named_word : Named → List ℕ
named_word Restarts = codes "restart"
named_word (RestartsWith _ _) = codes "restartsignal"
named_word Deletes = codes "stopdelete"
named_word DeletesNow = codes "deletenow"
named_word Awaits = codes "towait"

abbrev pub named_behind : Named → Behind line
named_behind (RestartsWith s grace) = fields (both signal (as_line number)) (s, grace)
named_behind _ = fields nothing tt

pub named_again : MadeAgain named_rows named_word named_behind
named_again Restarts = (_, refl, refl)
named_again x = (_, refl, refl)

pub named_so : SpeltSo named_rows named_word named_behind
named_so = search

abbrev pub named : Spelling line Named
named = choice named_rows named_word named_behind named_again named_so refl

-- no control begins with such a name
pub named_apart : AreApart control named
unfolding control
named_apart Restarts rest = refl
named_apart x rest = refl

-- an ask is a control, or has such a name
abbrev pub ask_by : Result Control Named → Ask
ask_by (Ok c) = One c
ask_by (Err Restarts) = Restart
ask_by (Err (RestartsWith s grace)) = RestartWithSignal s grace
ask_by (Err Deletes) = Delete
ask_by (Err DeletesNow) = DeleteNow
ask_by (Err Awaits) = ToWait

abbrev pub by_ask : Ask → Result Control Named
by_ask (One c) = Ok c
by_ask Restart = Err Restarts
by_ask (RestartWithSignal s grace) = Err (RestartsWith s grace)
by_ask Delete = Err Deletes
by_ask DeleteNow = Err DeletesNow
by_ask ToWait = Err Awaits

pub same_ask : (x : Ask) → ask_by (by_ask x) ≡ x
same_ask Restart = refl
same_ask x = refl

pub same_named : (x : Result Control Named) → by_ask (ask_by x) ≡ x
same_named (Ok c) = refl
same_named (Err Restarts) = refl
same_named (Err x) = refl

unfoldable pub ask : Spelling line Ask
ask = renamed (result_of control named named_apart) ask_by by_ask same_ask same_named
