-- Signals and the ends of processes as words, which are parts with dots between them.
use Rattle.std.proofs.Common.{refl}
use Rattle.std.specs.Prelude.{ℕ, List, [], ◌∷◌, codes}
use Rattle.wx_words.specs.Spellings.{Spelling}
use Rattle.wx_words.specs.Choices.{Row, row, Behind, fields}
use Rattle.wx_words.specs.ChoiceLaws.{MadeAgain, SpeltSo, choice, some_words}
use Rattle.wx_words.specs.Parts.{line, part, one_word, nothing, i32, non_zero_i32, non_zero_i64}
use Rattle.wx_events.specs.declared.process.Signal.{Signal}
use Rattle.wx_events.specs.declared.process.Signal.TheVariants.{Hangup, ForceStop, Interrupt, Quit, Terminate, User1, User2, Continue, TerminalSuspend, Custom}
use Rattle.wx_events.specs.declared.process.ProcessEnd.{ProcessEnd}
use Rattle.wx_events.specs.declared.process.ProcessEnd.TheVariants.{Success, ExitError, ExitSignal, ExitStop, Exception, Continued}

-- each first part of a signal, and what stands behind it
abbrev pub signal_rows : List (Row part Signal)
signal_rows =
    row (codes "hangup") nothing (λ u. Hangup)
    ∷ row (codes "forcestop") nothing (λ u. ForceStop)
    ∷ row (codes "interrupt") nothing (λ u. Interrupt)
    ∷ row (codes "quit") nothing (λ u. Quit)
    ∷ row (codes "terminate") nothing (λ u. Terminate)
    ∷ row (codes "user1") nothing (λ u. User1)
    ∷ row (codes "user2") nothing (λ u. User2)
    ∷ row (codes "continue") nothing (λ u. Continue)
    ∷ row (codes "suspend") nothing (λ u. TerminalSuspend)
    ∷ row (codes "custom") i32 Custom
    ∷ []

abbrev pub signal_word : Signal → List ℕ
signal_word Hangup = codes "hangup"
signal_word ForceStop = codes "forcestop"
signal_word Interrupt = codes "interrupt"
signal_word Quit = codes "quit"
signal_word Terminate = codes "terminate"
signal_word User1 = codes "user1"
signal_word User2 = codes "user2"
signal_word Continue = codes "continue"
signal_word TerminalSuspend = codes "suspend"
signal_word (Custom _) = codes "custom"

abbrev pub signal_behind : Signal → Behind part
signal_behind (Custom n) = fields i32 n
signal_behind _ = fields nothing tt

pub signal_again : MadeAgain signal_rows signal_word signal_behind
signal_again Hangup = (_, refl, refl)
signal_again x = (_, refl, refl)

pub signal_so : SpeltSo signal_rows signal_word signal_behind
signal_so = search

abbrev pub signal_parts : Spelling part Signal
signal_parts = choice signal_rows signal_word signal_behind signal_again signal_so refl

unfoldable pub signal : Spelling line Signal
signal = one_word signal_parts (λ x. some_words _ _)

-- each first part of an end, and what stands behind it
abbrev pub end_rows : List (Row part ProcessEnd)
end_rows =
    row (codes "success") nothing (λ u. Success)
    ∷ row (codes "error") non_zero_i64 ExitError
    ∷ row (codes "signal") signal_parts ExitSignal
    ∷ row (codes "stop") non_zero_i32 ExitStop
    ∷ row (codes "exception") non_zero_i32 Exception
    ∷ row (codes "continued") nothing (λ u. Continued)
    ∷ []

abbrev pub end_word : ProcessEnd → List ℕ
end_word Success = codes "success"
end_word (ExitError _) = codes "error"
end_word (ExitSignal _) = codes "signal"
end_word (ExitStop _) = codes "stop"
end_word (Exception _) = codes "exception"
end_word Continued = codes "continued"

abbrev pub end_behind : ProcessEnd → Behind part
end_behind (ExitError n) = fields non_zero_i64 n
end_behind (ExitSignal s) = fields signal_parts s
end_behind (ExitStop n) = fields non_zero_i32 n
end_behind (Exception n) = fields non_zero_i32 n
end_behind _ = fields nothing tt

pub end_again : MadeAgain end_rows end_word end_behind
end_again Success = (_, refl, refl)
end_again x = (_, refl, refl)

pub end_so : SpeltSo end_rows end_word end_behind
end_so = search

abbrev pub end_parts : Spelling part ProcessEnd
end_parts = choice end_rows end_word end_behind end_again end_so refl

unfoldable pub end : Spelling line ProcessEnd
end = one_word end_parts (λ x. some_words _ _)
