-- The errors that end a run, as words.
use Rattle.std.proofs.Common.{refl}
use Rattle.std.specs.Prelude.{ℕ, Option, None, Some, List, [], ◌∷◌, codes}
use Rattle.wx_words.specs.Spellings.{Spelling}
use Rattle.wx_words.specs.Choices.{Row, row, Behind, fields}
use Rattle.wx_words.specs.ChoiceLaws.{MadeAgain, SpeltSo, choice}
use Rattle.wx_words.specs.Parts.{line, nothing, both, text, u32}
use Rattle.wx_events.specs.Events.{ranked}
use Rattle.wx_error.specs.Runtime.{runtime}
use Rattle.wx_watch.specs.SourceErrors.{fs_error}
use Rattle.wx_watch.specs.Watched.{watcher}
use Rattle.wx_error.specs.declared.runtime.RuntimeError.{RuntimeError}
use Rattle.wx_error.specs.declared.error.CriticalError.{CriticalError}
use Rattle.wx_error.specs.declared.error.CriticalError.TheVariants.{Exit, External, Elevated, IoError, EventChannelSend, FsWatcherInit, Memory}

-- a word to the user, which may be absent
abbrev pub help_rows : List (Row line (Option (List ℕ)))
help_rows = row (codes "none") nothing (λ u. None) ∷ row (codes "some") text Some ∷ []

abbrev pub help_word : Option (List ℕ) → List ℕ
help_word None = codes "none"
help_word (Some _) = codes "some"

abbrev pub help_behind : Option (List ℕ) → Behind line
help_behind None = fields nothing tt
help_behind (Some t) = fields text t

pub help_again : MadeAgain help_rows help_word help_behind
help_again None = (_, refl, refl)
help_again (Some t) = (_, refl, refl)

pub help_so : SpeltSo help_rows help_word help_behind
help_so = search

abbrev pub help : Spelling line (Option (List ℕ))
help = choice help_rows help_word help_behind help_again help_so refl

abbrev pub elevated : Spelling line (RuntimeError × Option (List ℕ))
elevated = both runtime help

abbrev pub make_elevated : RuntimeError × Option (List ℕ) → CriticalError
make_elevated p = Elevated p.0 p.1

-- each first word of an error, and what stands behind it
abbrev pub critical_rows : List (Row line CriticalError)
critical_rows =
    row (codes "exit") nothing (λ u. Exit)
    ∷ row (codes "external") text External
    ∷ row (codes "elevated") elevated make_elevated
    ∷ row (codes "io") (both text u32) (λ p. IoError p.0 p.1)
    ∷ row (codes "send") ranked (λ p. EventChannelSend p.1 p.0)
    ∷ row (codes "init") (both watcher fs_error) (λ p. FsWatcherInit p.0 p.1)
    ∷ row (codes "memory") nothing (λ u. Memory)
    ∷ []

abbrev pub critical_word : CriticalError → List ℕ
critical_word Exit = codes "exit"
critical_word (External _) = codes "external"
critical_word (Elevated _ _) = codes "elevated"
critical_word (IoError _ _) = codes "io"
critical_word (EventChannelSend _ _) = codes "send"
critical_word (FsWatcherInit _ _) = codes "init"
critical_word Memory = codes "memory"

abbrev pub critical_behind : CriticalError → Behind line
critical_behind Exit = fields nothing tt
critical_behind (External t) = fields text t
critical_behind (Elevated err h) = fields elevated (err, h)
critical_behind (IoError about err) = fields (both text u32) (about, err)
critical_behind (EventChannelSend e p) = fields ranked (p, e)
critical_behind (FsWatcherInit kind err) = fields (both watcher fs_error) (kind, err)
critical_behind Memory = fields nothing tt

pub critical_again : MadeAgain critical_rows critical_word critical_behind
critical_again Memory = (_, refl, refl)
critical_again x = (_, refl, refl)

pub critical_so : SpeltSo critical_rows critical_word critical_behind
critical_so = search

unfoldable pub critical : Spelling line CriticalError
critical = choice critical_rows critical_word critical_behind critical_again critical_so refl
